pub mod inside
pub mod Groups
pub mod Images
pub mod RangeSums
pub mod Ranges
pub mod Usage
