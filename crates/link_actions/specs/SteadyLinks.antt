pub mod Same
pub mod Fed
pub mod Laws
