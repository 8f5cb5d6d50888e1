pub mod Hedged
pub mod Held
pub mod Whole
