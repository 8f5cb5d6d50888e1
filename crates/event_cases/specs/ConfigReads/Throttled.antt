-- A config has a run of throttle settings exactly where it has such settings (gRFC A6, "Throttling Retry Attempts and Hedged RPCs").
-- Example: configs 1 and 3 have throttle settings, config 2 has none. Configs 1 and 3 are of runs, and config 2 of none.
use Rattle.std.specs.Prelude.{Some, is_some, ℕ, ◌≡◌}
use Rattle.session_actions.specs.Words.{numbered}
use Rattle.session_actions.specs.declared.config.HeldConfig.{HeldConfig}
use Rattle.session_actions.specs.declared.seen.Seen.{Seen}

abbrev pub BucketsFollowConfigs : Seen → Type 0
BucketsFollowConfigs s = (k : ℕ) (h : HeldConfig) → numbered s.configs k ≡ Some h → is_some h.run ≡ is_some h.config.throttle
