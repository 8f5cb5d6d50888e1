pub mod Kinds
pub mod Reported
