pub mod Damage
pub mod Disks
pub mod Files
pub mod Frames
pub mod Heads
pub mod Journals
pub mod Stores
