-- What follows where a call ends: its attempts are cut off, and then their streams are reset, each of these the next action; and nothing else follows from it. It
-- is of the session alone, and of any cause (gRPC, "Core concepts": RPC life cycle; gRFC A6, "When Retries are Valid").
-- Example: call 1 is cancelled, with the attempts 1 and 2. CallEnds 1, AttemptEnds 1, AttemptEnds 2, StreamReset 1, StreamReset 2: each is the next action, and
-- after the last of them nothing follows at once. Call 2 is as it was.
use Rattle.std.specs.List.{list_all}
use Rattle.std.specs.Prelude.{Bool, List, Some, false, filter, is_some, true, ℕ, ◌&&◌, ◌++◌, ◌==◌, ◌∷◌, ◌≡◌}
use Rattle.call_actions.specs.Order.{IsInOrder, IsInTurn}
use Rattle.call_actions.specs.CallsApart.Apart.{IsBook}
use Rattle.call_cases.specs.EndsFollow.Cuts.{AttemptsAreCutOff, StreamsAreReset}
use Rattle.grpc_base.specs.declared.event.EndCause.{EndCause}
use Rattle.session_actions.specs.Actions.{following}
use Rattle.session_actions.specs.Attempts.{call_of, is_outstanding}
use Rattle.session_actions.specs.CallEnds.{call_ended}
use Rattle.session_actions.specs.Sessions.{Does}
use Rattle.session_actions.specs.Words.{numbered}
use Rattle.session_actions.specs.declared.action.Action.{Action}
use Rattle.session_actions.specs.declared.action.Action.TheVariants as action
use Rattle.session_actions.specs.declared.attempt.Attempt.{Attempt}
use Rattle.session_actions.specs.declared.call.Call.{Call}
use Rattle.session_actions.specs.declared.entry.OpenEntry.{OpenEntry}
use Rattle.session_actions.specs.declared.seen.Seen.{Seen}
use Rattle.session_order.specs.Quiescent.{IsStill}
use Rattle.session_order.specs.Lines.{is_line, is_of_policies}
use Rattle.session_order.specs.declared.line.Line.{Line}
use Rattle.session_order.specs.declared.line.Line.TheVariants as line
use Rattle.call_actions.specs.TakeActions.Cuts.{AttemptsAreCut}

-- the lines that come after the resets: of a channel that is shut down, and of policies. Some of them may still give something
abbrev pub is_late : Line → Bool
is_late line.Shut = true
is_late l = is_of_policies l

-- the end of the call of a number is next; no attempt was to be cut off, and no stream to be reset. Once the call has ended, nothing follows at once but that
-- its attempts are cut off, and what these lines give
pub record IsNextToEnd (waits : Line → Bool) (number : ℕ) (why : EndCause) (o : OpenEntry) (s : Seen) : Type 0 where
  pub late : (l : Line) → waits l ≡ true → is_late l ≡ true
  pub current : s.current ≡ Some o
  pub call : Call
  pub there : numbered s.calls number ≡ Some call
  pub next : following s ≡ Some (action.CallEnds number why)
  pub uncut : IsStill line.Cut o s
  pub unfollowed : IsStill line.Transparent o s
  pub still : (l : Line) → is_line l line.Cut ≡ false → waits l ≡ false → IsStill l o (call_ended number why s)
  -- what the session keeps in order
  pub book : IsBook s
  pub owned : list_all (λ a. is_some (call_of a s)) s.attempts ≡ true
  pub orders : (d : Call) → numbered s.calls d.number ≡ Some d → IsInOrder s d
  pub turn : IsInTurn s call

-- the attempts that are cut off are those of the call that are outstanding, in their order
abbrev pub is_out_of : ℕ → Attempt → Bool
is_out_of number a = (a.row.call == number) && is_outstanding a

pub record AreAllOut (number : ℕ) (why : EndCause) (s t : Seen) : Type 0 where
  pub attempts : List Attempt
  pub all : attempts ≡ filter (is_out_of number) s.attempts
  pub off : AttemptsAreCutOff attempts (call_ended number why s) t

abbrev pub CutsAreOut : Type 0
CutsAreOut =
    (waits : Line → Bool) (number : ℕ) (why : EndCause) (o : OpenEntry) (s t : Seen) (cuts : List Action) → IsNextToEnd waits number why o s
    → AttemptsAreCut number cuts (call_ended number why s) t → AreAllOut number why s t

-- what is left of all but calls, attempts and links
pub record IsSameRest (s u : Seen) : Type 0 where
  pub entries : u.entries ≡ s.entries
  pub setup : u.setup ≡ s.setup
  pub asks : u.asks ≡ s.asks
  pub policies : u.policies ≡ s.policies
  pub subs : u.subs ≡ s.subs
  pub configs : u.configs ≡ s.configs
  pub runs : u.runs ≡ s.runs
  pub answered : u.answered ≡ s.answered
  pub shut : u.shut ≡ s.shut

-- so each of these actions is next, and nothing else follows from them
pub record FollowsOn (waits : Line → Bool) (number : ℕ) (why : EndCause) (o : OpenEntry) (s : Seen) (actions : List Action) (u : Seen) : Type 0 where
  pub does : Does (action.CallEnds number why ∷ actions) s u
  pub current : u.current ≡ Some o
  pub still : (l : Line) → waits l ≡ false → IsStill l o u
  pub rest : IsSameRest s u

abbrev pub EndsFollow : Type 0
EndsFollow =
    (waits : Line → Bool) (number : ℕ) (why : EndCause) (o : OpenEntry) (s t u : Seen) (cuts resets : List Action) → IsNextToEnd waits number why o s
    → AttemptsAreCut number cuts (call_ended number why s) t → StreamsAreReset resets t u → FollowsOn waits number why o s (cuts ++ resets) u
