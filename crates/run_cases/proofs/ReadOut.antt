pub mod Arrivals
pub mod Out
pub mod Shown
pub mod ReportsThat
