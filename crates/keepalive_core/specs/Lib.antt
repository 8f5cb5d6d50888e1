pub mod Keepalive
pub mod Table
pub mod TableSeen
