pub mod CarriedLaws
pub mod EventLaws
pub mod GroupLaws
pub mod LiveLaws
pub mod SideLaws
