-- What other crates may cite: nodes after a packet and after a drain, their sizes, and the levels of a crown.
pub mod Drains
pub mod EmptyPackets
pub mod Laws
pub mod Levels
pub mod NodeSizes
pub mod Recursion
