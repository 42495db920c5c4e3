-- The code computes what the definitions say: one file for the steps of one loop or type.
pub mod ChildBounds
pub mod FirstChild
pub mod LeafPass
pub mod LentMessages
pub mod LookupPath
pub mod PivotSearch
pub mod PortionSteps
pub mod RowsLimited
pub mod RowsShown
pub mod Together
