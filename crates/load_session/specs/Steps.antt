-- Nobody has to believe these steps: events after those of a run, one Take, a session on a channel to its end or to a full journal, and how
-- the ends of calls are noted while the journal is read.
use Rattle.std.specs.Prelude.{◌≡◌, ℕ, Bool, Option, Some, None, List, ◌++◌, slice_get, slice_set}
use Rattle.grpc_base.specs.declared.event.Entry.{Entry}
use Rattle.grpc_base.specs.declared.event.Event.TheVariants as event
use Rattle.grpc_base.specs.declared.event.Reply.{Reply}
use Rattle.grpc_base.specs.declared.event.Stamped.{Stamped}
use Rattle.attempt_ledger.specs.declared.journal.Journal.{Journal}
use Rattle.attempt_ledger.specs.declared.ledger.Ledger.{Ledger}
use Rattle.channel_core.specs.Core.{CoreSeen, ledger_in}
use Rattle.journal_room.specs.Runs.{HasRunBy}
use Rattle.lb_policy.specs.Table.{PolicySeen}
use Rattle.loop_server.specs.Script.{all_lines}
use Rattle.loop_server.specs.Server.{Core, new_core}
use Rattle.load_plan.specs.Answers.{server_script}
use Rattle.load_plan.specs.Plan.{actions_of}
use Rattle.load_plan.specs.declared.load.Load.{Load}
use Rattle.load_plan.specs.declared.summary.LoadSummary.{LoadSummary}
use Rattle.load_session.specs.Playing.{Plays, Posts, is_more}
use Rattle.load_session.specs.Stopping.{StopsIn}
use Rattle.load_session.specs.Sums.{call_taken, end_code, summary_of}

-- the end of a call is noted at its place, where none is noted
abbrev pub noted_at : ℕ → ℕ → List (Option ℕ) → Option (Option ℕ) → List (Option ℕ)
noted_at place code ends (Some None) = slice_set ends place (Some code)
noted_at place code ends _ = ends

abbrev pub noted : ℕ → ℕ → List (Option ℕ) → List (Option ℕ)
noted place code ends = noted_at place code ends (slice_get ends place)

abbrev pub noted_by : Option ℕ → Option ℕ → List (Option ℕ) → List (Option ℕ)
noted_by (Some call) (Some code) ends = noted call code ends
noted_by _ _ ends = ends

abbrev pub noted_entry : Entry → List (Option ℕ) → List (Option ℕ)
noted_entry e ends = noted_by (call_taken e.event) (end_code e.reply) ends

-- events that lead from one channel to another, each given where there was room: whatever run the first had come by, the second has come by
-- that run and these
abbrev pub GoesOn : CoreSeen → List Stamped → CoreSeen → Type 0
GoesOn old events new =
    (authority : List ℕ) (policies : List PolicySeen) (before : List Stamped) → HasRunBy authority policies before old
    → HasRunBy authority policies (before ++ events) new

-- a Take, and whether more may have come after it
pub record TakesOne (more : Bool) (moment call : ℕ) (old new : CoreSeen) : Type 0 where
  pub reply : Reply
  pub posts : Posts moment (event.Take call) old new reply
  pub more_is : more ≡ is_more reply

-- the session of a load on a channel, against a new server
pub record PlaysOn (load : Load) (old new : CoreSeen) : Type 0 where
  pub server : Core
  pub begun : Core
  pub new_server : begun ≡ new_core (all_lines (server_script load.seed load.calls))
  pub plays : Plays (actions_of load.seed load.calls) (record { channel = old; server = begun }) (record { channel = new; server = server })

-- or where it stops
pub record StopsFrom (load : Load) (old : CoreSeen) : Type 0 where
  pub begun : Core
  pub new_server : begun ≡ new_core (all_lines (server_script load.seed load.calls))
  pub stops : StopsIn (actions_of load.seed load.calls) (record { channel = old; server = begun })

-- what one that was played to its end comes to
pub record SumsFrom (load : Load) (old : CoreSeen) (summary : LoadSummary) : Type 0 where
  pub new : CoreSeen
  pub plays : PlaysOn load old new
  pub journal : Journal
  pub journal_is : journal ≡ new.journal
  pub ledger : Ledger
  pub ledger_is : ledger ≡ ledger_in new
  pub sums : summary ≡ summary_of load journal ledger
