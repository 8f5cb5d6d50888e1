pub mod Readers
pub mod Gained
pub mod Laws
