pub mod FrameLaws
pub mod OrderLaws
pub mod RunLaws
