-- The runs of equal throttle settings rise as the configs come: a config joins the run of the one before, or begins the next run (gRFC A6, "Throttling Retry
-- Attempts and Hedged RPCs"). So of the buckets of a channel each that has tokens is that of one run. It is so of each session.
-- Example: the configs are of the runs 1, 1, none and 2; in turn they are 1, none and 2.
use Rattle.std.specs.Prelude.{Bool, List, None, Option, Some, [], nat_lt, true, ℕ, ◌&&◌, ◌∷◌, ◌≡◌}
use Rattle.channel_actions.specs.Configs.{runs_in_turn}
use Rattle.call_actions.specs.CallsApart.Apart.{IsBook}
use Rattle.session_actions.specs.Actions.{after}
use Rattle.session_actions.specs.Sessions.{Does, new_session}
use Rattle.session_actions.specs.declared.action.Action.{Action}
use Rattle.session_actions.specs.declared.seen.Seen.{Seen}
use Rattle.session_actions.specs.declared.seen.Setup.{Setup}

abbrev pub rise : ℕ → List (Option ℕ) → Bool
rise last [] = true
rise last (None ∷ runs) = rise last runs
rise last (Some run ∷ runs) = nat_lt last run && rise run runs

abbrev pub RunsRise : Seen → Type 0
RunsRise s = rise 0 (runs_in_turn s.configs) ≡ true

-- every action keeps it so, and it is so of every session
abbrev pub RunsStay : Type 0
RunsStay = (s : Seen) (a : Action) → IsBook s → RunsRise s → RunsRise (after a s)

abbrev pub RunsOfSessions : Type 0
RunsOfSessions = (setup : Setup) (actions : List Action) (t : Seen) → Does actions (new_session setup) t → RunsRise t
