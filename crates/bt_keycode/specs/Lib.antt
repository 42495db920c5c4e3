pub mod inside
pub mod Codes
pub mod Decodings
pub mod Keys
pub mod Lengths
pub mod Occurrences
pub mod Prefixes
pub mod Standing
