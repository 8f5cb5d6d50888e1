pub mod Carried
pub mod Keeping
pub mod Spends
pub mod Steps
pub mod Tables
