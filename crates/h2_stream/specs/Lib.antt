pub mod Stream
pub mod State
pub mod Steps
pub mod Runs
