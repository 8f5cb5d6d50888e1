pub mod Answers
pub mod Batches
pub mod Lines
pub mod Plan
