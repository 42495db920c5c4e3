-- Definitions that only private clauses cite: how the board is stored, what workers have, alone and together, and the places of answers.
pub mod Takers
pub mod Workers
pub mod Places
pub mod Teams
