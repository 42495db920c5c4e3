pub mod Owned
pub mod Reasons
pub mod Replies
pub mod Sessions
pub mod Kept
