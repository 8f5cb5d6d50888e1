pub mod Asks
pub mod Begins
pub mod Decides
pub mod Reached
pub mod Streams
pub mod Counts
pub mod Tallies
pub mod Walk
