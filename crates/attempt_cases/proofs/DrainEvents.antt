pub mod Links
pub mod Rooms
pub mod Rows
pub mod Drains
