pub mod Attempts
pub mod Calls
pub mod Deadlines
pub mod Policies
pub mod Chains
