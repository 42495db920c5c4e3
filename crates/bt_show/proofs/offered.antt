-- What other crates may cite: rows that an index selects, the last group of sums, and lists read column by column.
pub mod Columnwise
pub mod LastGroup
pub mod SelectedRows
