pub mod Script
pub mod Blocks
pub mod Server
pub mod Steps
pub mod Drains
pub mod Outcomes
pub mod Laws
