-- What a session keeps in order of a call, whatever happens to it. It is said in the session's own words: it speaks of no channel.
-- Example: a call with the attempts 1 and 2, in rows 1 and 4, has two attempts made. Its marks Made 1, Made 4 and Ended 1 name rows of it; and no
-- attempt of it has a number above 2.
use Rattle.std.specs.List.{list_all, list_any}
use Rattle.std.specs.Option.{option_map_or}
use Rattle.std.specs.Prelude.{Bool, List, None, [], false, is_none, is_some, nat_lt, not, suc, true, ℕ, ◌&&◌, ◌==◌, ◌||◌, ◌∷◌, ◌≡◌}
use Rattle.call_core.specs.Steps.{Stepped}
use Rattle.call_actions.specs.Sees.{Sees}
use Rattle.grpc_base.specs.declared.plan.CallPlan.{CallPlan}
use Rattle.grpc_base.specs.declared.plan.CallPlan.TheVariants as plan
use Rattle.session_actions.specs.Attempts.{commitment, is_followed, is_of}
use Rattle.session_actions.specs.Configs.{plan_of}
use Rattle.session_actions.specs.DueAttempts.{attempts_made, due_state}
use Rattle.session_actions.specs.Tokens.{run_of}
use Rattle.session_actions.specs.Words.{holds, numbered}
use Rattle.session_actions.specs.declared.attempt.Attempt.{Attempt}
use Rattle.session_actions.specs.declared.call.Call.{Call}
use Rattle.session_actions.specs.declared.call.MarkKind.{MarkKind}
use Rattle.session_actions.specs.declared.call.MarkKind.TheVariants as mark
use Rattle.session_actions.specs.declared.seen.Seen.{Seen}

-- attempts are numbered by their places
abbrev pub AttemptsAreNumbered : ℕ → List Attempt → Type 0
AttemptsAreNumbered n [] = Unit {0}
AttemptsAreNumbered n (a ∷ attempts) = (a.place ≡ n) × AttemptsAreNumbered (suc n) attempts

-- a mark of a call names an attempt of it; one that ended, where it marks an end
abbrev pub is_own_mark : Seen → Call → MarkKind → Bool
is_own_mark s c (mark.Made row) = holds (is_of c) (numbered s.attempts row)
is_own_mark s c (mark.Ended row) = holds (λ a. is_of c a && is_some a.row.ended) (numbered s.attempts row)
is_own_mark s c _ = true

-- an attempt of a call with a higher number than attempts were made
abbrev pub is_beyond : Seen → Call → Attempt → Bool
is_beyond s c a = is_of c a && nat_lt (attempts_made c s) a.row.number

pub record IsInOrder (s : Seen) (c : Call) : Type 0 where
  pub places : AttemptsAreNumbered 1 s.attempts
  pub marks : list_all (λ m. is_own_mark s c m.what) c.marks ≡ true
  pub numbers : list_any (is_beyond s c) s.attempts ≡ false
  -- before the first attempt there is no newest one
  pub first : attempts_made c s ≡ 0 → (due_state c s).newest ≡ None
  -- of a call that has ended or is committed no further attempt is made
  pub stops : (is_some c.end || is_some (commitment c s)) ≡ true → (due_state c s).stopped ≡ true

-- and of their ends. An attempt that goes on is none that a transparent retry followed; a call that is retried has one attempt at a time; and what its
-- bucket counted are ends of attempts
abbrev pub goes_on_followed : Seen → Call → Attempt → Bool
goes_on_followed s c a = is_of c a && is_none a.row.ended && is_followed a s

abbrev pub is_retried : CallPlan → Bool
is_retried (plan.Retry p) = true
is_retried _ = false

abbrev pub goes_on_older : Seen → Call → Attempt → Bool
goes_on_older s c a = is_of c a && is_none a.row.ended && is_retried (plan_of c s) && not (a.row.number == attempts_made c s)

abbrev pub has_ended : Seen → ℕ → Bool
has_ended s place = holds (λ a. is_some a.row.ended) (numbered s.attempts place)

pub record IsInTurn (s : Seen) (c : Call) : Type 0 where
  pub unfollowed : list_any (goes_on_followed s c) s.attempts ≡ false
  pub latest : list_any (goes_on_older s c) s.attempts ≡ false
  -- numbers of attempts count from 1
  pub numbers : list_any (λ a. is_of c a && (a.row.number == 0)) s.attempts ≡ false
  pub counted : option_map_or (λ run. list_all (has_ended s) run.ends) (run_of c s) true ≡ true

-- after an action of a session the call of a number agrees with a call of the channel, and is in order
pub record Keeps (s : Seen) (number : ℕ) (x : Stepped) : Type 0 where
  pub call : Call
  pub number_is : call.number ≡ number
  pub sees : Sees s call x
  pub order : IsInOrder s call
