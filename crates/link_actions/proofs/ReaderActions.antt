pub mod Put
pub mod Placed
pub mod Written
pub mod Openings
pub mod Ended
pub mod Alike
pub mod Goaways
