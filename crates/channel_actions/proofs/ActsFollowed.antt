pub mod Acts
pub mod Ended
