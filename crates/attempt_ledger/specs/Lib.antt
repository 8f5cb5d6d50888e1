pub mod Ends
pub mod Faults
pub mod Hedging
pub mod Journals
pub mod Numbering
pub mod Retries
pub mod Throttling
pub mod TransparentRows
