pub mod Places
pub mod Pieces
pub mod Going
pub mod Weights
pub mod Taking
pub mod Rising
pub mod Asks
pub mod Apart
