-- What other crates cite of the proofs of this one.
pub mod Fronts
pub mod Loads
pub mod Parts
pub mod Placed
pub mod Pieces
pub mod Rows
pub mod Shares
pub mod Stable
pub mod Totals
