pub mod CutLaws
pub mod LinkLaws
pub mod ResponseLaws
pub mod TagLaws
