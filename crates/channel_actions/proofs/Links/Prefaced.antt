pub mod Acts
pub mod Along
pub mod Fits
pub mod Lines
pub mod Parts
pub mod Picks
pub mod Steps
