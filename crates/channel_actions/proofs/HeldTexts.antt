pub mod Carried
pub mod Fits
pub mod Messages
pub mod Sends
pub mod Steps
pub mod Trims
