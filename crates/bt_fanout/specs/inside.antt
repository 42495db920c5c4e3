-- Definitions that only private clauses cite: the steps of the code.
pub mod EffectJobs
pub mod Groups
pub mod PacketGroups
pub mod Portions
pub mod Readings
pub mod RowEntries
