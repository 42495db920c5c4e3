-- Rows and messages: values at keys, and rows after messages.
pub mod Between
pub mod Buffers
pub mod RowsAfter
pub mod Values
