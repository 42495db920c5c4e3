-- The lemmas of this crate that crates above cite.
pub mod Exits
pub mod IntRanges
pub mod Kinds
pub mod OnLiterals
pub mod PlainFields
pub mod Readings
pub mod Results
pub mod SameValues
pub mod Tests
pub mod Texts
