pub mod Commits
pub mod Laws
