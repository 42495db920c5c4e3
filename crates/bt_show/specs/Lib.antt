pub mod inside
pub mod Groups
pub mod Images
pub mod Lists
pub mod Ranges
pub mod RecordTexts
pub mod Usage
