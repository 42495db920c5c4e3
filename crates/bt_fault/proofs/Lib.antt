pub mod Explained
pub mod ExplainedBounds
pub mod ExplainedCalls
pub mod ExplainedCommands
pub mod ExplainedUpserts
pub mod Groups
pub mod Placewise
