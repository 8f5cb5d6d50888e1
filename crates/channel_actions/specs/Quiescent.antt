-- Where nothing follows at once: none of the lines of `following` that come before all others gives an action, whichever stage the entry is at.
-- Example: a frame with GOAWAY was read on link 1, of subchannel 1. LinkDown of subchannel 1 follows at once; after it, and after the ends of attempts that
-- it brings, nothing does, and the next frame is read.
use Rattle.std.specs.Prelude.{None, Some, ◌≡◌, ℕ}
use Rattle.grpc_base.specs.declared.event.Event.{Event}
use Rattle.session_actions.specs.Actions.{of_calls, of_links, of_policies}
use Rattle.session_actions.specs.Entries.{opened, opened_entry}
use Rattle.session_actions.specs.declared.entry.OpenEntry.{OpenEntry}
use Rattle.session_actions.specs.declared.entry.Stage.{Stage}
use Rattle.session_actions.specs.declared.seen.Seen.{Seen}

pub record IsQuiescent (o : OpenEntry) (s : Seen) : Type 0 where
  pub calls : of_calls o s ≡ None
  pub links : of_links o s ≡ None
  pub policies : of_policies o s ≡ None

-- an entry is being made, at this stage, and nothing follows at once
pub record IsAt (stage : Stage) (o : OpenEntry) (s : Seen) : Type 0 where
  pub current : s.current ≡ Some o
  pub stage_is : o.stage ≡ stage
  pub quiescent : IsQuiescent o s

-- between two entries: whichever event comes next, nothing comes before its own stage
abbrev pub EntriesAreQuiescent : Seen → Type 0
EntriesAreQuiescent s = (posted word : ℕ) (e : Event) → IsQuiescent (opened_entry posted word e s) (opened posted word e s)
