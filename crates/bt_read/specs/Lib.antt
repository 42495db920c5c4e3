pub mod inside
pub mod Folds
