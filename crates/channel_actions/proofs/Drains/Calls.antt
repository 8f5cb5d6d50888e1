pub mod Feeds
pub mod Holds
pub mod Streamed
