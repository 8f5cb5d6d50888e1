pub mod Deaf
pub mod Received
pub mod Starts
pub mod Unheeded
pub mod Waits
pub mod Walk
