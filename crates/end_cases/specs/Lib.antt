pub mod AttemptEnds
