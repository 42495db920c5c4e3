pub mod WorkedRows
pub mod offered
