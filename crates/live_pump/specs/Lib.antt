pub mod Calls
pub mod Dials
pub mod Prefixes
pub mod Kinds
pub mod Pumps
pub mod Runs
pub mod Ticks
pub mod Workers
