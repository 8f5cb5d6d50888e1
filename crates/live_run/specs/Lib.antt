pub mod ByWorker
pub mod Outcomes
pub mod Sides
pub mod Tendings
