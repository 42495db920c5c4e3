-- Dealing items into parts.
pub mod PartSizes
pub mod Parts
pub mod SizeAtPlace
