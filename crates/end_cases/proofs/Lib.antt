pub mod AttemptEnds
pub mod CutEnds
pub mod EndCases
pub mod EndRetries
pub mod EndedHeads
pub mod LastHedges
pub mod OwedResets
