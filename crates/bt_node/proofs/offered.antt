-- What other crates may cite: statements that use only the definitions of this crate.
pub mod FlushSteps
pub mod PackedTrees
pub mod SampleTrees
pub mod ShapedTrees
