pub mod Posted
pub mod Rooms
pub mod Runs
