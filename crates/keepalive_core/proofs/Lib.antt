pub mod KeepLaws
pub mod NextLaws
pub mod TableLaws
