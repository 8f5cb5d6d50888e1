pub mod Arrivals
pub mod Counts
pub mod Events
pub mod Losses
pub mod Settled
pub mod Whole
