pub mod lemmas
pub mod offered
pub mod WorkedRows
