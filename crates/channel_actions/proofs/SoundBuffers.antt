pub mod Arms
pub mod Buffers
pub mod Carried
pub mod Holds
pub mod Slots
pub mod Sound
pub mod Streamed
