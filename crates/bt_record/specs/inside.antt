-- Definitions that only private clauses cite: how the code's values are seen, and the steps of its loops.
pub mod CsvReads
pub mod CsvStates
pub mod Pieces
pub mod RecordParts
