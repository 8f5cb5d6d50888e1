pub mod NameLaws
pub mod SideLaws
