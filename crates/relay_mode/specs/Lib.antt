pub mod RelaySides
pub mod Links
pub mod Relayed
pub mod Sides
