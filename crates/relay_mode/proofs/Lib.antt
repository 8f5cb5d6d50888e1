pub mod RelaySideLaws
pub mod PostLaws
pub mod RelayLaws
