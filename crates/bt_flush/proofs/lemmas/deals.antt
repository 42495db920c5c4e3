-- Dealing items into parts.
pub mod Division
