pub mod Ahead
pub mod Ends
pub mod Laws
pub mod Left
pub mod Runs
