pub mod Calls
pub mod Nets
pub mod Settlings
