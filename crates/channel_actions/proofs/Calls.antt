pub mod Few
pub mod Going
pub mod Kept
pub mod Reset
pub mod Sound
