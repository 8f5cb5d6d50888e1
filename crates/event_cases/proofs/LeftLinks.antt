pub mod Nets
pub mod Stamped
