pub mod NumberLaws
pub mod KeepLaws
pub mod StepLaws
pub mod RunLaws
pub mod OnceLaws
