pub mod FaultLaws
pub mod LowestLaws
pub mod RowLaws
