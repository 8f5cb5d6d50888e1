pub mod Received
pub mod Lines
pub mod Read
pub mod ReadStill
pub mod Responses
