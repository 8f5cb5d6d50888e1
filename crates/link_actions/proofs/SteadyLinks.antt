pub mod Steps
pub mod Left
pub mod Calls
pub mod Placing
pub mod Feeding
