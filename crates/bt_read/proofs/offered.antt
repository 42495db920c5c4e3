-- What other crates may cite: statements that use only the definitions of this crate.
pub mod Portions
pub mod RowsOfChildren
