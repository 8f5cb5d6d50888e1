pub mod Acts
pub mod Along
pub mod Lines
