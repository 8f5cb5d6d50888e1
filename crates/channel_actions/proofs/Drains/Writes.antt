pub mod Fresh
pub mod Forms
pub mod Counts
pub mod Given
pub mod Runs
