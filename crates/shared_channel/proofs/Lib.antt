pub mod AwaitLaws
pub mod FullLaws
pub mod JoinLaws
pub mod OriginLaws
pub mod PostLaws
pub mod RunningLaws
pub mod StateLaws
pub mod WaitLaws
