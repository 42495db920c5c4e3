-- The lemmas of this crate that crates above cite.
pub mod Codes
pub mod Decoded
pub mod EightBytes
pub mod NextKeys
pub mod Occurrences
pub mod Order
pub mod Ranges
pub mod Truths
