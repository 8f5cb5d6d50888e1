pub mod Along
pub mod Frames
pub mod Others
pub mod Parts
pub mod Steps
