pub mod EventLaws
pub mod GivenLaws
pub mod HeldLaws
pub mod KeepLaws
pub mod OwnLaws
pub mod ReportLaws
pub mod SeatLaws
pub mod ShareLaws
