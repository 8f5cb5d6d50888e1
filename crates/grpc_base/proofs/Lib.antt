pub mod HostLaws
pub mod ListLaws
pub mod MetaLaws
pub mod NumberLaws
pub mod PathLaws
pub mod PieceLaws
pub mod ScriptLaws
