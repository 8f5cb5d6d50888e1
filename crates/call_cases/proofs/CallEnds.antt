pub mod Alone
pub mod Cancels
pub mod Late
pub mod Linked
pub mod On
pub mod Sets
