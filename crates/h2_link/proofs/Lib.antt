pub mod Lists
pub mod Windows
pub mod Prefixes
pub mod Receiving
pub mod Resets
pub mod Sending
pub mod Cuts
pub mod Keeps
