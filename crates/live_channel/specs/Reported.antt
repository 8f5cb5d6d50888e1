-- Between the functions of the modes: what the report of the channel under the lock is of. The promises of the modes don't name these.
use Rattle.std.specs.Prelude.{◌≡◌, ◌⊎◌, ℕ, false, Option, Result, Ok, Err, List}
use Rattle.grpc_base.specs.declared.event.Entry.{Entry}
use Rattle.channel_core.specs.Core.{CoreSeen, ledger_in}
use Rattle.gate_io.specs.Outside.{Appends, AppendsPrefix, Rises}
use Rattle.script_text.specs.declared.report.ReportFault.{ReportFault}
use Rattle.script_text.specs.declared.report.ReportFault.TheVariants as unwritten
use Rattle.session_text.specs.Sessions.{run_text}
use Rattle.session_text.specs.declared.ran.Ran.{Ran}
use Rattle.session_text.specs.declared.ran.Ran.TheVariants as ran
use Rattle.shared_channel.specs.Histories.{IsNearlyFull}
use Rattle.shared_channel.specs.Running.{HasRun}
use Rattle.turn_lock.specs.History.{Owns, SeatSeen, StartsWith}

-- a channel that is not spent, and whose journal is nearly full where the session is reported as full
pub record IsReportable (r : Ran) (core : CoreSeen) : Type 0 where
  pub unspent : core.spent ≡ false
  pub full : r ≡ ran.Full → IsNearlyFull core.journal.entries

-- the report of a channel was written, or a prefix of it; where it can't be reported, nothing
abbrev pub ReportsThat : Ran → List ℕ → CoreSeen → Result Unit ReportFault → Option (List ℕ) → Option (List ℕ) → ℕ → ℕ → Type 0
ReportsThat r target core (Ok done) taken taken' faults faults' = IsReportable r core × Appends taken taken' (run_text r target core.journal (ledger_in core))
ReportsThat r target core (Err fault) taken taken' faults faults' =
    ((fault ≡ unwritten.NoMemory) × (taken' ≡ taken))
    ⊎ (IsReportable r core × AppendsPrefix taken taken' (run_text r target core.journal (ledger_in core)) × ((fault ≡ unwritten.Write) → Rises faults faults'))

-- the text is the report of a channel that was new with the authority of the handle's lock and was given events, in a turn of the
-- handle, which has then seen all of its history
abbrev pub ReportsAt : Ran → List ℕ → SeatSeen Entry → SeatSeen Entry → List ℕ → Type 0
ReportsAt r target before after text =
    (core : CoreSeen) × HasRun before.lock.origin core × StartsWith core.journal.entries before.seen × (after.seen ≡ core.journal.entries) × (after.own ≡ before.own) × (after.parts ≡ before.parts)
    × (r ≡ ran.Full → IsNearlyFull core.journal.entries) × (text ≡ run_text r target core.journal (ledger_in core))

-- the text is the report of a channel that was new with the authority of a handle's lock and was given events. Its history begins with
-- what the handle had seen, and the handle's entries stand in it; where it has every part they are all of it
abbrev pub ReportsOn : Ran → List ℕ → SeatSeen Entry → List ℕ → Type 0
ReportsOn r target seat text =
    (core : CoreSeen) × HasRun seat.lock.origin core × StartsWith core.journal.entries seat.seen × Owns seat.parts seat.own core.journal.entries × (r ≡ ran.Full → IsNearlyFull core.journal.entries) × (text ≡ run_text r target core.journal (ledger_in core))
