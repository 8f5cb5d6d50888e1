pub mod KindLaws
mod LiveKinds
mod NoteLaws
mod PlaceLaws
mod RunLaws
