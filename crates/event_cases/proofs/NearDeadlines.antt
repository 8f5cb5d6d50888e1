pub mod Near
pub mod Timed
pub mod Timeouts
