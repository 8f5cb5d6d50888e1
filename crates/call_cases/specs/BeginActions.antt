pub mod Begin
pub mod Laws
