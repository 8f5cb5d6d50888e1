pub mod Chosen
pub mod Headless
pub mod Stepping
pub mod Leading
