pub mod Streams
pub mod Codes
pub mod Apart
pub mod Cuts
pub mod Stays
pub mod Steps
pub mod Follow
