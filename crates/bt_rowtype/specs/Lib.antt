pub mod Loads
pub mod inside
