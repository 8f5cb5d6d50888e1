pub mod Answered
pub mod Loop
pub mod Over
pub mod Retired
pub mod Shut
pub mod Stamped
