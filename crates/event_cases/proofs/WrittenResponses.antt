pub mod Along
pub mod Items
pub mod One
pub mod Silent
