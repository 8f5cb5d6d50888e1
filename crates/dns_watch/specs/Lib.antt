pub mod Lookups
pub mod Memory
pub mod Schedule
pub mod Turns
