pub mod Apart
pub mod Foremost
pub mod Loop
pub mod Next
