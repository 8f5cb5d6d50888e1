-- What happens to one call of a channel leaves every other one as it is, along a list of actions. When each action of a list is of one call or of no call,
-- and what the channel keeps of the others then.
-- Example: the calls 1 and 2 have attempts on one link, and a head comes on the stream of call 2: FrameRead, CallCommitted, AttemptEnds and StreamReset of
-- another attempt of call 2. Each is of call 2 or of no call, and the frame is on no stream of call 1. The slot of call 1 is as before.
use Rattle.std.specs.List.{list_all}
use Rattle.std.specs.Option.{option_map_or}
use Rattle.std.specs.Prelude.{Bool, List, Option, Some, [], false, is_some, true, ℕ, ◌==◌, ◌∷◌, ◌≡◌}
use Rattle.call_actions.specs.CallsApart.Apart.{IsBook, acts_on}
use Rattle.channel_actions.specs.Columns.{SeesColumns}
use Rattle.channel_actions.specs.Configs.{SeesBuckets}
use Rattle.channel_core.specs.Books.{slot_at}
use Rattle.channel_core.specs.States.{StateSeen}
use Rattle.session_actions.specs.Actions.{after}
use Rattle.session_actions.specs.Attempts.{call_of}
use Rattle.session_actions.specs.Entries.{entry}
use Rattle.session_actions.specs.Links.{read_bytes}
use Rattle.session_actions.specs.Responses.{is_read_by}
use Rattle.session_actions.specs.Sessions.{Does}
use Rattle.session_actions.specs.Words.{holds, numbered}
use Rattle.session_actions.specs.declared.action.Action.{Action}
use Rattle.session_actions.specs.declared.attempt.Attempt.{Attempt}
use Rattle.session_actions.specs.declared.call.Call.{Call}
use Rattle.session_actions.specs.declared.seen.Seen.{Seen}
use Rattle.call_actions.specs.TakesApart.Received.{passes_on}

-- an action is of the call of a number or of no call, and so is what it passes on a link. The number may be that of a call which begins by it; no call has
-- the number 0
pub record IsOfCall (number : ℕ) (a : Action) (s : Seen) : Type 0 where
  pub acts : option_map_or (λ k. k == number) (acts_on a s) true ≡ true
  pub passes : (c : Call) → numbered s.calls c.number ≡ Some c → (c.number == number) ≡ false → passes_on a s c ≡ false

abbrev pub ActionsAreOfCall : ℕ → List Action → Seen → Type 0
ActionsAreOfCall number [] s = Unit {0}
ActionsAreOfCall number (a ∷ actions) s = IsOfCall number a s × ActionsAreOfCall number actions (after a s)

-- what is asked of a session, before and after (`IsKept` has all of it): its books are in order, each attempt is of a call, and no frame was read after the
-- bytes that were read
pub record IsBooked (s : Seen) : Type 0 where
  pub book : IsBook s
  pub owned : list_all (λ a. is_some (call_of a s)) s.attempts ≡ true
  pub reads : list_all (λ l. list_all (is_read_by (read_bytes l)) l.traffic) s.links ≡ true

-- a session goes on by actions of the call of a number and of no call
pub record GoesApart (number : ℕ) (s t : Seen) : Type 0 where
  pub actions : List Action
  pub does : Does actions s t
  pub apart : ActionsAreOfCall number actions s
  pub earlier : IsBooked s
  pub later : IsBooked t

-- and the channel: its ledger and buckets are those of the session, and the slots of the other calls are as they were
pub record BooksApart (number : ℕ) (x y : StateSeen) (t : Seen) : Type 0 where
  pub entry_is : entry t ≡ y.book.ledger.entry
  pub columns : SeesColumns y.book.ledger t
  pub buckets : SeesBuckets y.book.buckets t
  pub slots : (k : ℕ) → (k == number) ≡ false → slot_at y.book k ≡ slot_at x.book k

-- an attempt of the call of a number
abbrev pub is_of_number : ℕ → Option Attempt → Bool
is_of_number number o = holds (λ a. a.row.call == number) o
