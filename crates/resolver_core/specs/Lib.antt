pub mod AnyTargets
pub mod Targets
