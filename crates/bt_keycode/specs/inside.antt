-- Definitions that only private clauses cite: how the code's values are seen, and the steps of its loops.
pub mod CodeBeginnings
pub mod Readings
