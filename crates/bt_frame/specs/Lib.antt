pub mod Frames
pub mod Receipts
pub mod Services
