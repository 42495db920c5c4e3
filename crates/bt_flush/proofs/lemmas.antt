-- Lemmas by subject.
pub mod code
pub mod deals
pub mod plans
