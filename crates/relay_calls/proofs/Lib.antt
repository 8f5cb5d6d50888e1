pub mod PostLaws
pub mod ReportLaws
