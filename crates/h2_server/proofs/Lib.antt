pub mod Windows
pub mod Shares
pub mod Agreeing
pub mod Prefixes
pub mod Receiving
pub mod Cuts
