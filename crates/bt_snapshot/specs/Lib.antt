pub mod Snapshots
pub mod inside
