pub mod ClientLaws
pub mod SessionLaws
