pub mod Playing
pub mod Session
pub mod Steps
pub mod Stopping
pub mod Sums
