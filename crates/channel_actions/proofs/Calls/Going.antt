pub mod Arms
pub mod Carried
pub mod Slots
