pub mod Handles
pub mod Held
pub mod Keeping
pub mod Reported
pub mod Sharing
pub mod Report
