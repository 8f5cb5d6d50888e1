pub mod Ends
pub mod Links
pub mod Readers
pub mod Response
