pub mod Commands
pub mod Lines
pub mod Options
pub mod Streams
pub mod inside
