pub mod BinaryLaws
mod CopyLemmas
pub mod RequestLaws
pub mod ResponseLaws
