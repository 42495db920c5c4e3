-- What other crates may cite: statements that use only the definitions of this crate and of those that it uses.
pub mod RisingKeys
