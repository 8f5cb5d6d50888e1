pub mod Sessions
pub mod Writing
