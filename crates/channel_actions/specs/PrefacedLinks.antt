pub mod Prefaced
pub mod Joined
pub mod Laws
