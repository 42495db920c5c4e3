-- Definitions that only private clauses cite: the steps of the code's loops, and the parts of a table.
pub mod IndexTrees
pub mod Loads
pub mod Parts
