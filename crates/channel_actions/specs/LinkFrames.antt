pub mod Alike
pub mod Bears
pub mod Laws
