pub mod Steadily
pub mod Kept
