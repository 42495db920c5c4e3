pub mod Requests
pub mod Payloads
pub mod Exchanges
pub mod Unchanged
pub mod Options
pub mod Runs
