pub mod Begun
pub mod Cuts
pub mod Follow
pub mod Newest
pub mod Stays
pub mod Steps
