-- Definitions that only private clauses cite: lines of nodes, and entries and groups in the order of a walk of a tree; and the laws of walks in two parts.
pub mod Drawings
pub mod Entries
pub mod EntryParts
pub mod Fronts
pub mod GroupParts
pub mod Neighbours
