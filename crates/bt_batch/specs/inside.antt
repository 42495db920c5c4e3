-- Definitions that only private clauses cite: pieces of a batch, and the result of reading each.
pub mod Pieces
pub mod Ranges
