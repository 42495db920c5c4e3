pub mod Cuts
pub mod DepthBounds
pub mod Laws
pub mod Pieces
pub mod Views
pub mod inside
