-- Definitions that only private clauses cite: the steps of the code.
pub mod Marks
pub mod Sorts
pub mod Typed
