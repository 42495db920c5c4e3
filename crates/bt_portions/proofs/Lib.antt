pub mod ForkedParts
pub mod KeyShares
pub mod offered
