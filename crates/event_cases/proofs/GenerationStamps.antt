pub mod Along
pub mod Kinds
pub mod Over
pub mod Results
pub mod Written
