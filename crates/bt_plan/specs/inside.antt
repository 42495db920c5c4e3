pub mod CutNodes
pub mod Cutting
pub mod Falls
pub mod Stored
