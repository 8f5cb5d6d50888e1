pub mod Ends
pub mod Falls
pub mod Loads
pub mod Strict
