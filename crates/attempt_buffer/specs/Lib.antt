pub mod Buffers
pub mod Cursors
pub mod Spots
