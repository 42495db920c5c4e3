pub mod OwnedKeys
