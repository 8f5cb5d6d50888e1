pub mod Holds
pub mod Listening
pub mod Serves
pub mod Serving
