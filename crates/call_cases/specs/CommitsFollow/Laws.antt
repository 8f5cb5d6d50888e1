-- What follows where a call is committed to an attempt: its other attempts are cut off, and then their streams are reset, each of these the next action; and
-- nothing else follows from it. It is of the session alone, and of any cause but that a transparent retry takes a commitment over (gRFC A6, "When Retries are
-- Valid", "Hedging Policy" and "Memory Management (Buffering)").
-- Example: the hedged attempts 1, 2 and 3 of call 1 are outstanding, and the head of 2 comes. CallCommitted 2, AttemptEnds 1, AttemptEnds 3, StreamReset 1,
-- StreamReset 3: each is the next action, and after the last of them nothing follows at once. Call 2 is as it was.
use Rattle.std.specs.List.{list_all}
use Rattle.std.specs.Prelude.{Bool, List, Some, false, filter, is_some, not, true, ℕ, ◌&&◌, ◌++◌, ◌==◌, ◌∷◌, ◌≡◌}
use Rattle.call_actions.specs.CallsApart.Apart.{IsBook}
use Rattle.call_actions.specs.Order.{IsInOrder, IsInTurn}
use Rattle.call_actions.specs.TakeActions.Cuts.{AttemptsAreCut, CanCommit}
use Rattle.call_cases.specs.EndsFollow.Cuts.{AttemptsAreCutOff, StreamsAreReset}
use Rattle.call_cases.specs.EndsFollow.Laws.{IsSameRest, is_late}
use Rattle.session_actions.specs.Actions.{following}
use Rattle.session_actions.specs.Attempts.{call_of, is_outstanding}
use Rattle.session_actions.specs.Commitments.{call_committed}
use Rattle.session_actions.specs.Sessions.{Does}
use Rattle.session_actions.specs.Words.{numbered}
use Rattle.session_actions.specs.declared.action.Action.{Action}
use Rattle.session_actions.specs.declared.action.Action.TheVariants as action
use Rattle.session_actions.specs.declared.action.CommitCause.{CommitCause}
use Rattle.session_actions.specs.declared.attempt.Attempt.{Attempt}
use Rattle.session_actions.specs.declared.call.Call.{Call}
use Rattle.session_actions.specs.declared.entry.OpenEntry.{OpenEntry}
use Rattle.session_actions.specs.declared.seen.Seen.{Seen}
use Rattle.session_order.specs.Quiescent.{IsStill}
use Rattle.session_order.specs.Lines.{is_line}
use Rattle.session_order.specs.declared.line.Line.{Line}
use Rattle.session_order.specs.declared.line.Line.TheVariants as line

-- the commitment of the call of a number is next, to an attempt that can have it; no attempt was to be cut off or to be followed. Once the call is committed,
-- nothing follows at once but that its other attempts are cut off, and what these lines give
pub record IsNextToCommit (waits : Line → Bool) (number : ℕ) (why : CommitCause) (o : OpenEntry) (s : Seen) : Type 0 where
  pub late : (l : Line) → waits l ≡ true → is_late l ≡ true
  pub current : s.current ≡ Some o
  pub call : Call
  pub there : numbered s.calls number ≡ Some call
  pub attempt : Attempt
  pub can : CanCommit s call attempt
  pub next : following s ≡ Some (action.CallCommitted attempt.place why)
  pub uncut : IsStill line.Cut o s
  pub unfollowed : IsStill line.Transparent o s
  pub still : (l : Line) → is_line l line.Cut ≡ false → waits l ≡ false → IsStill l o (call_committed attempt.place s)
  -- what the session keeps in order
  pub book : IsBook s
  pub owned : list_all (λ a. is_some (call_of a s)) s.attempts ≡ true
  pub orders : (d : Call) → numbered s.calls d.number ≡ Some d → IsInOrder s d
  pub turn : IsInTurn s call

-- the attempts that are cut off: those of the call that are outstanding and have another number than this, in their order
abbrev pub is_other_out : ℕ → ℕ → Attempt → Bool
is_other_out number own a = (a.row.call == number) && (is_outstanding a && not (own == a.row.number))

pub record OthersAreOut (number : ℕ) (k : Attempt) (s t : Seen) : Type 0 where
  pub attempts : List Attempt
  pub all : attempts ≡ filter (is_other_out number k.row.number) s.attempts
  pub off : AttemptsAreCutOff attempts (call_committed k.place s) t

abbrev pub OthersAreCutOff : Type 0
OthersAreCutOff =
    (waits : Line → Bool) (number : ℕ) (why : CommitCause) (o : OpenEntry) (s t : Seen) (cuts : List Action) → (is : IsNextToCommit waits number why o s)
    → AttemptsAreCut number cuts (call_committed is.attempt.place s) t → OthersAreOut number is.attempt s t

-- so each of these actions is next, and nothing else follows from them
pub record CommitFollowsOn (waits : Line → Bool) (place : ℕ) (why : CommitCause) (o : OpenEntry) (s : Seen) (actions : List Action) (u : Seen) : Type 0 where
  pub does : Does (action.CallCommitted place why ∷ actions) s u
  pub current : u.current ≡ Some o
  pub still : (l : Line) → waits l ≡ false → IsStill l o u
  pub rest : IsSameRest s u

abbrev pub CommitsFollow : Type 0
CommitsFollow =
    (waits : Line → Bool) (number : ℕ) (why : CommitCause) (o : OpenEntry) (s t u : Seen) (cuts resets : List Action) → (is : IsNextToCommit waits number why o s)
    → AttemptsAreCut number cuts (call_committed is.attempt.place s) t → StreamsAreReset resets t u
    → CommitFollowsOn waits is.attempt.place why o s (cuts ++ resets) u
