-- What the channel was made with and what the resolver gave: the authority, the config that is held, and the buckets of tokens.
-- Example: configs 1 and 2 have equal throttle settings, config 3 has none, and config 4 has those of config 1. In the session there are the runs 1 and
-- 2; the configs are of the runs 1, 1, none and 2. The channel has four buckets: one for calls without a config, and then those of run 1, of no
-- run, and of run 2. A call with config 2 has the second bucket, and one with config 4 the fourth.
use Rattle.std.specs.Option.{option_and_then, option_map, option_map_or}
use Rattle.std.specs.Prelude.{Bool, List, None, Option, Some, [], false, if◌then◌else◌, is_some, length, map, take, true, ℕ, ◌==◌, ◌∷◌, ◌≡◌}
use Rattle.a6_numbers.specs.Throttling.{Bucket}
use Rattle.call_actions.specs.Sees.{bucket_of}
use Rattle.channel_core.specs.States.{StateSeen}
use Rattle.channel_core.specs.Tables.{BucketsSeen}
use Rattle.session_actions.specs.Configs.{held_config}
use Rattle.session_actions.specs.Policies.{current_policy}
use Rattle.session_actions.specs.Words.{numbered}
use Rattle.session_actions.specs.declared.call.Call.{Call}
use Rattle.session_actions.specs.declared.config.HeldConfig.{HeldConfig}
use Rattle.session_actions.specs.declared.seen.Seen.{Seen}

-- what decides refusals by Shut, the configs of calls, and the channel's state where no policy is current. (The channel leaves its mark that it has no
-- config standing where one comes later, and does not look at it then.)
pub record SeesConfigs (x : StateSeen) (s : Seen) : Type 0 where
  pub authority : s.setup.authority ≡ x.book.authority
  pub shut : s.shut ≡ x.shut
  pub held : option_map (λ h. h.config) (held_config s) ≡ x.held
  pub unconfigured : x.held ≡ None → s.answered ≡ x.unconfigured
  -- a valid config came with its addresses, which a policy of its kind got
  pub policy : is_some x.held ≡ true → s.shut ≡ false → is_some (current_policy s) ≡ true

-- the runs of equal throttle settings as the configs came, that of no settings too: each config of another run than the one before begins a bucket
abbrev pub is_same_run : Option ℕ → Option ℕ → Bool
is_same_run None None = true
is_same_run (Some m) (Some n) = m == n
is_same_run _ _ = false

abbrev pub runs_after : Option ℕ → List HeldConfig → List (Option ℕ)
runs_after run [] = []
runs_after run (h ∷ configs) = if is_same_run run h.run then runs_after run configs else h.run ∷ runs_after h.run configs

abbrev pub runs_in_turn : List HeldConfig → List (Option ℕ)
runs_in_turn [] = []
runs_in_turn (h ∷ configs) = h.run ∷ runs_after h.run configs

abbrev pub bucket_in : Seen → Option ℕ → Option Bucket
bucket_in s run = option_map (bucket_of s) (option_and_then (numbered s.runs) run)

-- the tokens of all calls: each bucket holds what the ends of its run's calls left
pub record SeesBuckets (b : BucketsSeen) (s : Seen) : Type 0 where
  pub runs : None ∷ map (bucket_in s) (runs_in_turn s.configs) ≡ b.runs
  pub throttle : option_and_then (λ h. h.config.throttle) (held_config s) ≡ b.throttle

-- the place of a call's bucket among them
abbrev pub bucket_place : Seen → Call → ℕ
bucket_place s c = option_map_or (λ number. length (runs_in_turn (take number s.configs))) c.config 0
