pub mod Drains
pub mod Fed
pub mod Held
pub mod Lines
