pub mod Grows
pub mod Along
pub mod Buckets
pub mod Rows
pub mod Slots
pub mod Sets
