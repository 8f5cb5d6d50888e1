pub mod Growth
pub mod LaterLaws
mod Places
