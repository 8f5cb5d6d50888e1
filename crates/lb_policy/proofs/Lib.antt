pub mod FailedLaws
pub mod NoteLaws
mod TableLaws
pub mod TierLaws
