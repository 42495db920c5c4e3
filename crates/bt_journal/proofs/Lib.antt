mod ChangedBytes
mod CutFiles
mod FrameLists
mod FrameSearch
mod FrontFrames
mod HeadFrames
mod KeptStates
mod OpenFiles
mod ReadFiles
mod SettledJournals
mod Sums
mod TornFiles
mod Zeros
pub mod offered
