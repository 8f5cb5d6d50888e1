pub mod Laws
pub mod NetFrames
pub mod Runs
pub mod Sees
