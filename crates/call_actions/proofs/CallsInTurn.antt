pub mod Changes
pub mod Starts
pub mod Posts
pub mod Columns
pub mod Rows
pub mod Makes
pub mod Retries
