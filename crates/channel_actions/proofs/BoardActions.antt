pub mod Boards
pub mod Quiescent
