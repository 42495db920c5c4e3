pub mod Lefts
pub mod Maps
mod Moved
pub mod offered
pub mod Orders
pub mod Typed
pub mod Encoded
pub mod Firsts
pub mod Pieces
pub mod Places
pub mod Repeats
pub mod Rows
pub mod RowsLeft
pub mod Stands
pub mod WorkedRows
