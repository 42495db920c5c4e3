pub mod Loads
pub mod Maps
pub mod Steps
pub mod inside
