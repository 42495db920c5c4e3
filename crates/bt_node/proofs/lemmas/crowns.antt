-- One node above siblings.
pub mod CrownedRows
pub mod ShapedTrees
