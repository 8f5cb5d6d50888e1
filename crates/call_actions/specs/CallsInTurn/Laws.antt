-- What a session keeps of a call's attempts holds before the first of them is made, and is kept by each action of the call. So what the laws of
-- `call_actions` ask for is there along every list of actions. It is of the session alone, but for the making of an attempt, which asks the channel's call
-- that it makes one attempt at a time where it is retried (`IsGoing` of `call_core`).
-- Example: a call is retried. Attempt 1 goes on, and ends with UNAVAILABLE; attempt 2 is made. Never do two of its attempts go on at one time, and
-- the one that goes on is the newest.
use Rattle.std.specs.List.{list_all, list_any}
use Rattle.std.specs.Prelude.{None, Some, false, is_none, true, ℕ, ◌≡◌}
use Rattle.attempt_ledger.specs.declared.row.Placed.{Placed}
use Rattle.attempt_ledger.specs.declared.row.RowEnd.{RowEnd}
use Rattle.attempt_ledger.specs.declared.row.RowKind.{RowKind}
use Rattle.attempt_ledger.specs.declared.row.RowKind.TheVariants as kind
use Rattle.call_actions.specs.Order.{IsInOrder}
use Rattle.call_actions.specs.Sees.{Sees}
use Rattle.call_core.specs.Going.{IsGoing}
use Rattle.call_core.specs.Steps.{Stepped}
use Rattle.call_actions.specs.CallsApart.Apart.{IsApart, IsBook}
use Rattle.call_actions.specs.CallsInTurn.Turns.{IsSteady, StaysInOrder, StaysSteady, is_rowless}
use Rattle.grpc_base.specs.declared.event.EndCause.{EndCause}
use Rattle.grpc_base.specs.declared.event.Event.{Event}
use Rattle.grpc_base.specs.declared.event.Reply.{Reply}
use Rattle.session_actions.specs.AttemptEnds.{attempt_ended}
use Rattle.session_actions.specs.Attempts.{is_of, is_to_follow}
use Rattle.session_actions.specs.CallEnds.{call_ended}
use Rattle.session_actions.specs.Commitments.{call_committed}
use Rattle.session_actions.specs.Deliveries.{item_taken, message_accepted, request_finished}
use Rattle.session_actions.specs.Making.{attempt_made, due_action, hedge_withheld}
use Rattle.session_actions.specs.Policies.{attempt_placed}
use Rattle.session_actions.specs.Words.{numbered}
use Rattle.session_actions.specs.declared.action.Action.TheVariants as action
use Rattle.session_actions.specs.declared.attempt.Attempt.{Attempt}
use Rattle.session_actions.specs.declared.call.Call.{Call}
use Rattle.session_actions.specs.declared.seen.Seen.{Seen}

-- a call without an attempt: it began, and may have its configuration
abbrev pub CallsStart : Type 0
CallsStart =
    (s : Seen) (c : Call) → IsBook s → list_any (is_of c) s.attempts ≡ false → list_all (λ m. is_rowless m.what) c.marks ≡ true → c.end ≡ None
    → IsInOrder s c × IsSteady s c

-- an action of another call, or of none
abbrev pub OthersAreSteady : Type 0
OthersAreSteady =
    (s t : Seen) (c : Call) → IsApart s t c → IsBook t → numbered s.calls c.number ≡ Some c → IsInOrder s c → IsSteady s c → IsSteady t c

-- what its application posts; and a hedge that is withheld, and the end of the call
abbrev pub KeepsInOrder : Seen → Call → Seen → Type 0
KeepsInOrder s c t = IsBook t → numbered s.calls c.number ≡ Some c → IsInOrder s c → IsSteady s c → StaysInOrder t c.number

abbrev pub MessagesKeep : Type 0
MessagesKeep = (s : Seen) (c : Call) (e : Event) → KeepsInOrder s c (message_accepted c.number e s)

abbrev pub FinishesKeep : Type 0
FinishesKeep = (s : Seen) (c : Call) → KeepsInOrder s c (request_finished c.number s)

abbrev pub TakesKeep : Type 0
TakesKeep = (s : Seen) (c : Call) (item : Reply) → KeepsInOrder s c (item_taken c.number item s)

abbrev pub WithheldKeep : Type 0
WithheldKeep = (s : Seen) (c : Call) → KeepsInOrder s c (hedge_withheld c.number s)

abbrev pub EndsKeep : Type 0
EndsKeep = (s : Seen) (c : Call) (why : EndCause) → KeepsInOrder s c (call_ended c.number why s)

-- an attempt of it is placed, or the call is committed to it
pub record IsOwn (s : Seen) (c : Call) (place : ℕ) (a : Attempt) : Type 0 where
  pub own : numbered s.calls c.number ≡ Some c
  pub there : numbered s.attempts place ≡ Some a
  pub mine : is_of c a ≡ true

abbrev pub PlacingKeeps : Type 0
PlacingKeeps =
    (s : Seen) (c : Call) (place : ℕ) (a : Attempt) (at : Placed) → IsBook (attempt_placed place at s) → IsOwn s c place a → IsSteady s c
    → StaysSteady (attempt_placed place at s) c.number

abbrev pub CommittingKeeps : Type 0
CommittingKeeps =
    (s : Seen) (c : Call) (place : ℕ) (a : Attempt) → IsBook (call_committed place s) → IsOwn s c place a → IsSteady s c
    → StaysSteady (call_committed place s) c.number

-- an attempt of it ends, and no transparent retry is to follow: it counts, or is cut off
abbrev pub EndingKeeps : Type 0
EndingKeeps =
    (s : Seen) (c : Call) (place : ℕ) (a : Attempt) (e : RowEnd) → IsBook s → IsBook (attempt_ended place e s) → IsOwn s c place a → is_none a.row.ended ≡ true
    → is_to_follow c e.cause e.unseen s ≡ false → IsSteady s c → StaysSteady (attempt_ended place e s) c.number

-- its next attempt is made
abbrev pub MakingKeeps : Type 0
MakingKeeps =
    (s : Seen) (c : Call) (x : Stepped) (number : ℕ) (why : RowKind) (due : ℕ) → IsBook (attempt_made c.number number why due s) → Sees s c x → IsGoing x.call
    → IsInOrder s c → IsSteady s c → due_action s c ≡ Some (action.AttemptMade c.number number why due)
    → StaysSteady (attempt_made c.number number why due s) c.number

-- an attempt ends that the server did not process, or that was never sent, and a transparent retry follows it at once
abbrev pub RetryingKeeps : Type 0
RetryingKeeps =
    (s : Seen) (c : Call) (place : ℕ) (a : Attempt) (e : RowEnd) (due : ℕ) → IsBook s → IsBook (attempt_ended place e s)
    → IsBook (attempt_made c.number a.row.number kind.Transparent due (attempt_ended place e s)) → IsOwn s c place a → is_none a.row.ended ≡ true → IsSteady s c
    → StaysSteady (attempt_made c.number a.row.number kind.Transparent due (attempt_ended place e s)) c.number
