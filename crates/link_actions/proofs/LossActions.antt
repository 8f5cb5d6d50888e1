pub mod Calls
pub mod Over
pub mod Losses
pub mod Stays
