pub mod inside
pub mod Calls
pub mod Indexes
pub mod Standing
pub mod Tables
