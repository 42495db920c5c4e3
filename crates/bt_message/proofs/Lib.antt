pub mod NoKeys
pub mod offered
