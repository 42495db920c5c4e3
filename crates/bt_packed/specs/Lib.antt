pub mod Layout
pub mod Changes
pub mod Pieces
pub mod Calls
pub mod Questions
