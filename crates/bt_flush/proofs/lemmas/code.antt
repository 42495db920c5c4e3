-- The code computes what the definitions say: one file for the steps of one loop or type.
pub mod ChoiceLoop
pub mod CrownLoop
pub mod FlushLoop
pub mod GroupLoops
pub mod LoadLoop
pub mod OpeningStep
pub mod Results
pub mod SourceLeaves
