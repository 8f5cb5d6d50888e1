pub mod Passed
pub mod Received
pub mod Served
