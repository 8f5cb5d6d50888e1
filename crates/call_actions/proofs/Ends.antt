pub mod Committed
pub mod Frames
pub mod Rows
pub mod Tokens
