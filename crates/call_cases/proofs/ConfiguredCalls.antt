pub mod Configured
pub mod Lists
