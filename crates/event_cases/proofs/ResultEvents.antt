pub mod BadConfigs
pub mod Shutdowns
