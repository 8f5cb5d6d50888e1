pub mod Kept
pub mod Over
pub mod Settled
pub mod Stamped
