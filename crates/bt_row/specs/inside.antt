-- Definitions that only private clauses cite: how the code's values are seen, and the steps of its loops.
pub mod Arguments
pub mod Changes
pub mod GrowingBytes
pub mod Numbers
pub mod Packing
pub mod Sources
