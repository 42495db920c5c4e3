-- What the crates above may cite: statements over the definitions of this crate alone.
pub mod Kinds
pub mod KeyOrder
pub mod SoundTables
pub mod Steps
