-- A call's attempts that are over are cut off, one by one: each is the next of the call that is to be cut, and after the last none is left. (No other
-- call has an attempt to cut then: what makes one over is an action of one call.)
-- Example: the attempts 1, 2 and 3 of a call are outstanding, and the head of 2 comes. CallCommitted 2, and then 1 ends, cut off, and 3.
use Rattle.std.specs.List.{list_any}
use Rattle.std.specs.Prelude.{Bool, List, None, Option, Some, [], false, filter, not, true, ℕ, ◌&&◌, ◌==◌, ◌≡◌, ◌∷◌}
use Rattle.call_actions.specs.Sees.{is_live}
use Rattle.session_actions.specs.Actions.{after}
use Rattle.session_actions.specs.AttemptEnds.{cut}
use Rattle.session_actions.specs.Attempts.{commitment, is_of, is_outstanding}
use Rattle.session_actions.specs.Words.{first_of, numbered}
use Rattle.session_actions.specs.declared.action.Action.{Action}
use Rattle.session_actions.specs.declared.attempt.Attempt.{Attempt}
use Rattle.session_actions.specs.declared.call.Call.{Call}
use Rattle.session_actions.specs.declared.seen.Seen.{Seen}

abbrev pub next_cut_of : ℕ → Seen → Option Action
next_cut_of number s = first_of (cut s) (filter (λ a. a.row.call == number) s.attempts)

abbrev pub AttemptsAreCut : ℕ → List Action → Seen → Seen → Type 0
AttemptsAreCut number [] s t = (next_cut_of number s ≡ None) × (t ≡ s)
AttemptsAreCut number (a ∷ actions) s t = (next_cut_of number s ≡ Some a) × AttemptsAreCut number actions (after a s) t

-- an attempt to which its call can be committed: it is outstanding, the call is open and not committed, and no other attempt of the call that goes on has
-- its number. (An attempt that follows another one transparently has the same number, and that one has ended)
abbrev pub is_twin : Seen → Call → Attempt → Attempt → Bool
is_twin s c k a = is_live s c a && (k.row.number == a.row.number) && not (k.place == a.place)

pub record CanCommit (s : Seen) (c : Call) (k : Attempt) : Type 0 where
  pub at : numbered s.attempts k.place ≡ Some k
  pub mine : is_of c k ≡ true
  pub outstanding : is_outstanding k ≡ true
  pub open_now : c.end ≡ None
  pub free : commitment c s ≡ None
  pub alone : list_any (is_twin s c k) s.attempts ≡ false
