pub mod Alike
pub mod Clocks
pub mod Passing
pub mod Stepped
pub mod Subbed
