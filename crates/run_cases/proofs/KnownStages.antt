pub mod Deadlines
pub mod Picks
pub mod Shutdowns
pub mod Steps
