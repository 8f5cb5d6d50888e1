pub mod Choice
pub mod Entries
pub mod Keys
pub mod Reading
pub mod Text
