pub mod Batches
pub mod Calls
pub mod Commands
pub mod Problems
pub mod Reasons
