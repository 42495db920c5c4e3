-- Lemmas by subject.
pub mod crowns
pub mod flushes
