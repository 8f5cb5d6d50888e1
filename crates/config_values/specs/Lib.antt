pub mod Values
pub mod Codes
pub mod Places
pub mod Policies
