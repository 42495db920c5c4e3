-- Definitions that only private clauses cite: the views of the code's values, and the steps of its loops.
pub mod Bounds
pub mod Limits
pub mod Lookups
pub mod Openings
pub mod Together
pub mod ValuesSoFar
