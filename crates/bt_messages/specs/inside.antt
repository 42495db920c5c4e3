-- Definitions that only private clauses cite: the views of the code's values, and the steps of its loops.
pub mod Brackets
pub mod Merges
pub mod Places
pub mod Rooms
pub mod Runs
pub mod Sums
