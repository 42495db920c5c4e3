-- The lemmas of this crate that crates above cite.
pub mod Arrivals
pub mod Moved
pub mod Ranges
