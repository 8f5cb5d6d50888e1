pub mod Books
pub mod Final
pub mod First
pub mod Late
pub mod Sealed
pub mod Walk
pub mod Whole
