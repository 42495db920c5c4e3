pub mod inside
pub mod Drains
pub mod Laws
pub mod Steps
