pub mod Refed
pub mod Lends
