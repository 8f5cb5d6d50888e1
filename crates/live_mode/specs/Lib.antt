pub mod Handles
pub mod Live
pub mod Made
pub mod Sides
