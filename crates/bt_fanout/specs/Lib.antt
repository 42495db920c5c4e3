pub mod Covers
pub mod Definitions
pub mod Effects
pub mod Entries
pub mod Promises
pub mod Selections
pub mod Targets
pub mod inside
