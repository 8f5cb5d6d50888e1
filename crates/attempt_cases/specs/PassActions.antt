pub mod Laws
pub mod Serves
