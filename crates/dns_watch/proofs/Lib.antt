pub mod ListLaws
pub mod TurnLaws
pub mod WaitLaws
