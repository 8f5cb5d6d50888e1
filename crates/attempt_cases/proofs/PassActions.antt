pub mod Passed
pub mod Queue
pub mod Stops
