pub mod Opened
pub mod Own
