pub mod Rows
pub mod Dues
pub mod Lines
pub mod Responses
pub mod Streams
pub mod Links
pub mod Attempts
pub mod Written
