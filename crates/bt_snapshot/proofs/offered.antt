-- The lemmas of this crate that crates above cite.
pub mod Lines
