pub mod Eithers
pub mod Fillings
pub mod Marks
pub mod NewLeaves
pub mod RoundJobs
pub mod RoundTrees
pub mod Slots
pub mod Views
