pub mod Laws
pub mod Throttled
