pub mod Alone
pub mod Come
pub mod First
pub mod Received
pub mod Late
pub mod Lists
pub mod Report
