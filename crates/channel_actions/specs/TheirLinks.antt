pub mod Laws
pub mod Theirs
