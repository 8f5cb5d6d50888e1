pub mod Answered
pub mod Given
pub mod LeftNets
pub mod Mid
pub mod Stepped
pub mod Unread
