pub mod Errors
pub mod Histories
pub mod Running
pub mod Turns
