pub mod Agreeing
pub mod Noted
pub mod Same
