-- Attempts that are cut off one after the other, and the resets of their streams that follow. It is of the session alone.
-- Example: call 1 has attempt 1 on stream 3 of link 1, attempt 2 on stream 1 of link 2, and attempt 3, which waits for a stream on link 1, and it is cancelled.
-- The attempts 1, 2 and 3 end, and then stream 3 of link 1 and stream 1 of link 2 are reset.
use Rattle.std.specs.List.{list_all}
use Rattle.std.specs.Prelude.{Bool, List, None, Some, [], is_some, not, true, ◌||◌, ◌∷◌, ◌≡◌}
use Rattle.session_actions.specs.Actions.{after}
use Rattle.session_actions.specs.AttemptEnds.{attempt_ended, cut_end, end_of, next_reset}
use Rattle.session_actions.specs.Attempts.{is_outstanding}
use Rattle.session_actions.specs.Words.{numbered}
use Rattle.session_actions.specs.declared.action.Action.{Action}
use Rattle.session_actions.specs.declared.attempt.Attempt.{Attempt}
use Rattle.session_actions.specs.declared.seen.Seen.{Seen}

-- an attempt is outstanding, and is cut off
pub record IsOut (s : Seen) (a : Attempt) : Type 0 where
  pub there : numbered s.attempts a.place ≡ Some a
  pub outstanding : is_outstanding a ≡ true

abbrev pub cut_off : Attempt → Seen → Seen
cut_off a s = attempt_ended a.place (end_of a cut_end s) s

-- no stream was reset of an attempt that goes on
abbrev pub is_unreset : Attempt → Bool
is_unreset a = is_some a.row.ended || not a.reset

abbrev pub NoStreamIsToReset : Seen → Type 0
NoStreamIsToReset s = list_all is_unreset s.attempts ≡ true

-- these are cut off, one after the other
abbrev pub AttemptsAreCutOff : List Attempt → Seen → Seen → Type 0
AttemptsAreCutOff [] s t = t ≡ s
AttemptsAreCutOff (a ∷ cuts) s t = IsOut s a × AttemptsAreCutOff cuts (cut_off a s) t

-- streams are reset, each the next one, until none is left
abbrev pub StreamsAreReset : List Action → Seen → Seen → Type 0
StreamsAreReset [] s t = (next_reset s ≡ None) × (t ≡ s)
StreamsAreReset (a ∷ actions) s t = (next_reset s ≡ Some a) × StreamsAreReset actions (after a s) t
