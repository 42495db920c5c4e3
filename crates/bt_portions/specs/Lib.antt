pub mod KeyShares
pub mod inside
