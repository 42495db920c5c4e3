-- The code computes what the definitions say: one file for the steps of one loop or type.
pub mod ChildLists
pub mod DealLoop
pub mod RowPass
pub mod RowSearch
pub mod SiblingParts
