pub mod inside
pub mod Batches
pub mod Changes
