pub mod After
pub mod Buckets
pub mod Read
pub mod Still
pub mod Stirred
