pub mod Along
pub mod Fits
pub mod Fresh
pub mod Lines
pub mod Parts
pub mod Steps
