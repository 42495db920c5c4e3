pub mod inside
pub mod Arrivals
pub mod Effects
pub mod Meanings
pub mod Messages
pub mod Payloads
pub mod Terms
pub mod Weights
