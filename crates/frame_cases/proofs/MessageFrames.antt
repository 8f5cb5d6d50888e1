pub mod Alone
pub mod Received
pub mod Report
