pub mod Durations
pub mod Letters
