-- What the crates above cite of the proofs of this one.
pub mod Builds
pub mod Covers
pub mod Definitions
pub mod Mapped
pub mod Packets
pub mod Standing
pub mod Suiting
pub mod Turns
