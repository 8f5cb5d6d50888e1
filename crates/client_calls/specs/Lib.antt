pub mod Answers
pub mod Entries
pub mod Exchanges
pub mod Unary
