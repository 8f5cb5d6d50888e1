pub mod Heads
pub mod Pairs
pub mod Timeouts
pub mod Incoming
