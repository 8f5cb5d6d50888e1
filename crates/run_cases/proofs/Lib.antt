pub mod KnownNets
pub mod KnownStages
pub mod ReadOut
pub mod SettlingParts
pub mod WholeRuns
