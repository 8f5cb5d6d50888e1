pub mod Received
pub mod Lines
