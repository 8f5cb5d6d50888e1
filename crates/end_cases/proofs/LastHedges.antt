pub mod Agree
pub mod Channel
pub mod Lines
pub mod Step
pub mod Whole
