-- Definitions that only private clauses cite: the views of the code's values, and the steps of its loops.
pub mod KeyedLeaves
