pub mod BufferLaws
pub mod LeftLaws
pub mod SpotLaws
