pub mod Links
pub mod Memory
pub mod MemoryLinks
pub mod Outside
pub mod Words
pub mod Waits
