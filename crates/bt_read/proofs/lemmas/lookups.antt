-- The value at a key.
pub mod BinOfKey
pub mod HeldValues
