-- The lemmas of this crate that crates above cite.
pub mod OfSchema
pub mod RecordsAsValues
