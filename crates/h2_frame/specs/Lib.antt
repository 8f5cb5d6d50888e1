pub mod Frames
pub mod Numbers
pub mod Payloads
pub mod Readings
pub mod Sent
pub mod Steps
