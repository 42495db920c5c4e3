-- Lemmas by subject.
pub mod code
pub mod lookups
