pub mod Answered
pub mod Failing
pub mod Joining
pub mod Nets
pub mod Taking
pub mod Words
