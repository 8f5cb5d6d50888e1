pub mod Acts
pub mod Noting
pub mod Ran
pub mod Sessions
pub mod Stops
