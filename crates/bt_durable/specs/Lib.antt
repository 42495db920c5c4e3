pub mod Payloads
pub mod Inputs
pub mod Keeping
pub mod Compacting
pub mod Once
pub mod Repeated
pub mod Joined
