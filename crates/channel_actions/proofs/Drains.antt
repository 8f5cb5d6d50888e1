pub mod Books
pub mod Calls
pub mod Lends
pub mod Writes
