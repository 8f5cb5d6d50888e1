pub mod RunLaws
pub mod ReportLaws
pub mod GiveLaws
pub mod TurnLaws
pub mod LinkLaws
pub mod ReadLaws
