pub mod Frames
pub mod Prefaced
pub mod Own
pub mod Settings
pub mod Theirs
