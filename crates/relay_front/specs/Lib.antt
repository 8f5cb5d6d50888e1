pub mod Cores
pub mod Turns
pub mod Rounds
