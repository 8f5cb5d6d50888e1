mod Choices
pub mod Accounts
pub mod Endings
