mod AnyTargetLaws
mod AuthorityLaws
mod HostLaws
pub mod KeptLaws
mod PieceLaws
pub mod TargetLaws
