pub mod inside
pub mod Bins
pub mod Parts
pub mod Shares
