pub mod Streams
pub mod Relay
pub mod Arriving
pub mod Draining
pub mod Outcomes
pub mod Laws
