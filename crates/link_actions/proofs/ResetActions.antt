pub mod Places
pub mod Cuts
pub mod Waits
pub mod Goaways
pub mod Owing
