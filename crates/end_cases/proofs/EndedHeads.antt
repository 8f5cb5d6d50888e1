pub mod Along
pub mod Lines
pub mod Parts
pub mod Responses
pub mod Steps
