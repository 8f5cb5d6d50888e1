pub mod Codes
pub mod Cutting
pub mod After
pub mod Resets
pub mod Ends
