pub mod Throttling
