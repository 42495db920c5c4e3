pub mod Columnwise
pub mod Groups
pub mod PlainRows
pub mod TwoRefusals
