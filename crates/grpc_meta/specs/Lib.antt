pub mod Base64
pub mod RequestFields
pub mod ResponseFields
pub mod Timeouts
