pub mod Alike
pub mod Calls
pub mod Came
pub mod Frame
pub mod Links
