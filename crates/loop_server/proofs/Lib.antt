pub mod Weights
pub mod Pieces
pub mod Turns
pub mod Going
pub mod Sizes
pub mod Moves
pub mod Answering
pub mod Heads
