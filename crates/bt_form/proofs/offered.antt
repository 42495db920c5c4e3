-- Lemmas on the form of nodes, by subject, which the crates of reads and of flushes cite.
pub mod code
pub mod deals
pub mod flushes
pub mod keys
pub mod lookups
pub mod plans
pub mod rows
