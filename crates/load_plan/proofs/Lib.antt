pub mod BatchLaws
pub mod MomentLaws
pub mod Runs
pub mod Scripts
