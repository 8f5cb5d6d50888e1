pub mod Answers
pub mod Causes
pub mod Events
pub mod Fields
pub mod Lines
pub mod Reader
pub mod Spelling
