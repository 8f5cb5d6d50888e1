pub mod AppendLaws
pub mod ReadLaws
pub mod WordLaws
pub mod WorldLaws
