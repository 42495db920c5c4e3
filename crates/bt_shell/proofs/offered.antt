-- What the crates above cite of the proofs of this one.
pub mod Joins
pub mod Unchanged
