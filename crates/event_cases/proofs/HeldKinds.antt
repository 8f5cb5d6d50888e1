pub mod Along
pub mod Events
pub mod Plans
pub mod Reads
