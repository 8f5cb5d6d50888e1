pub mod LiveLaws
pub mod TableLaws
pub mod ViewLaws
