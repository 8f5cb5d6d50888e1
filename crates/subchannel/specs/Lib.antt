pub mod Boards
pub mod Insides
pub mod Phases
pub mod Records
pub mod Runs
