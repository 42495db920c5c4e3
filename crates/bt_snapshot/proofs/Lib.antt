mod Sameness
mod Snapshots
pub mod offered
