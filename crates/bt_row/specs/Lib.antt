pub mod Arithmetic
pub mod Fits
pub mod Ops
pub mod RecordTexts
pub mod Schemas
pub mod Views
pub mod inside
