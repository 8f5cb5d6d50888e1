pub mod Agreeing
pub mod Answered
pub mod Links
pub mod New
pub mod Sets
pub mod Slot
pub mod Table
