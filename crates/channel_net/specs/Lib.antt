pub mod Askers
pub mod Laws
pub mod Lists
pub mod Runs
pub mod Stamps
pub mod Steps
