pub mod Compacting
pub mod Sameness
