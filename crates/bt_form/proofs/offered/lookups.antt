-- The value at a key.
pub mod Outside
