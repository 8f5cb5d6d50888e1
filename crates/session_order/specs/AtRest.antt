-- Between two entries nothing follows: a session is at rest. An entry begins quiescent, and ends at rest.
-- Example: an entry in which attempt 1 ended, and its stream was reset, has closed. Nothing of it follows in the next entry, whose number is another.
use Rattle.std.specs.Prelude.{None, Some, length, ℕ, ◌≡◌, ◌≤◌}
use Rattle.attempt_ledger.specs.declared.ledger.Ask.{Ask}
use Rattle.attempt_ledger.specs.declared.row.RowEnd.{RowEnd}
use Rattle.grpc_base.specs.declared.event.Event.{Event}
use Rattle.session_actions.specs.Actions.{after_in}
use Rattle.session_actions.specs.Entries.{opened, opened_entry}
use Rattle.session_actions.specs.Sessions.{new_session}
use Rattle.session_actions.specs.Words.{numbered}
use Rattle.session_actions.specs.declared.attempt.Attempt.{Attempt}
use Rattle.session_actions.specs.declared.entry.OpenEntry.{OpenEntry}
use Rattle.session_actions.specs.declared.seen.Seen.{Seen}
use Rattle.session_actions.specs.declared.seen.Setup.{Setup}
use Rattle.session_order.specs.Quiescent.{IsQuiescent}
use Rattle.session_actions.specs.declared.action.Action.TheVariants as action
use Rattle.grpc_base.specs.declared.event.Event.TheVariants as event
use Rattle.session_actions.specs.declared.entry.Stage.TheVariants as stage

-- an entry of which nothing happened yet
abbrev pub idle_entry : OpenEntry
idle_entry = record { moment = 0; word = 0; event = event.Tick; stage = stage.Event; reply = None; drawn = 0; turn = None }

-- nothing follows of what is, whatever entry comes
abbrev pub IsAtRest : Seen → Type 0
IsAtRest s = IsQuiescent idle_entry s

-- what is dated is of entries that were made
pub record IsPast (s : Seen) : Type 0 where
  pub ends : (k : ℕ) (a : Attempt) (e : RowEnd) → numbered s.attempts k ≡ Some a → a.row.ended ≡ Some e → e.entry ≤ length s.entries
  pub asks : (k : ℕ) (ask : Ask) → numbered s.asks k ≡ Some ask → ask.entry ≤ length s.entries

-- a new session is at rest; an entry begins quiescent; and where it was quiescent when it closed, the session is at rest
abbrev pub NewOnesRest : Type 0
NewOnesRest = (setup : Setup) → IsAtRest (new_session setup)

abbrev pub EntriesBeginQuiescent : Type 0
EntriesBeginQuiescent =
    (posted word : ℕ) (e : Event) (s : Seen) → s.current ≡ None → IsPast s → IsAtRest s → IsQuiescent (opened_entry posted word e s) (opened posted word e s)

abbrev pub EntriesEndAtRest : Type 0
EntriesEndAtRest = (o : OpenEntry) (s : Seen) → s.current ≡ Some o → IsQuiescent o s → IsAtRest (after_in o action.EntryCloses s)
