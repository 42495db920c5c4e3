-- A node after a packet: order, sizes, height and rows.
pub mod Children
pub mod Divisions
pub mod Groups
pub mod Passes
pub mod RowsKept
pub mod Shares
pub mod ValuesKept
pub mod Widest
