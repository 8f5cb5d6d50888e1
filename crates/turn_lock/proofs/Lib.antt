pub mod Places
pub mod Totals
pub mod Steps
pub mod Winning
