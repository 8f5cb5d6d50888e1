pub mod Commits
pub mod Journals
pub mod Shut
pub mod Takes
