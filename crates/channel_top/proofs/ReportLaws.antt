-- The report of a session that was run, whole or up to a full journal.
use Rattle.std.proofs.Common.{ℕ, List, ◌++◌, refl}
use Rattle.grpc_base.specs.declared.event.Stamped.{Stamped}
use Rattle.channel_core.specs.Core.{CoreSeen, ledger_in}
use Rattle.journal_room.specs.Runs.{HasRunBy}
use Rattle.lb_policy.specs.Table.{PolicySeen}
use Rattle.resolver_core.specs.AnyTargets.{authority_of}
use Rattle.resolver_core.specs.declared.any_target.Target.{Target}
use Rattle.script_text.specs.Report.{report_of}
use Rattle.session_text.specs.declared.ran.Ran.{Ran}
use Rattle.session_text.specs.declared.ran.Ran.TheVariants as ran
use Rattle.session_text.specs.Sessions.{run_text, session_full_text}
use Rattle.session_text.proofs.SessionLaws.{session_of}
use Rattle.channel_top.specs.Promise.{ChannelsKeepThePromise}
use Rattle.channel_top.specs.Runs.{HasFilled, HasRun}
use Rattle.channel_top.specs.Top.{IsFullReport, IsReport, IsReportBy}

pub report_whole : ChannelsKeepThePromise → (policies : List PolicySeen) (target : List ℕ) (value : Target) (core : CoreSeen) (events : List Stamped)
    → HasRunBy (authority_of value) policies events core → IsReport policies target value events (report_of target core.journal (ledger_in core))
report_whole keep policies target value core events run = record {
  journal = core.journal;
  ledger = ledger_in core;
  session = session_of (authority_of value) policies core events core.journal (ledger_in core) run refl refl;
  promise = keep (authority_of value) policies events core run;
  text_is = refl;
}

pub report_full : ChannelsKeepThePromise → (policies : List PolicySeen) (target : List ℕ) (value : Target) (core : CoreSeen) (events : List Stamped)
    → HasFilled (authority_of value) policies events core → IsFullReport policies target value events (report_of target core.journal (ledger_in core) ++ session_full_text)
report_full keep policies target value core events filled = record {
  prefix = filled.prefix;
  next = filled.next;
  afterwards = filled.afterwards;
  parts = filled.parts;
  journal = core.journal;
  ledger = ledger_in core;
  session = session_of (authority_of value) policies core filled.prefix core.journal (ledger_in core) filled.run refl refl;
  promise = keep (authority_of value) policies filled.prefix core filled.run;
  full = filled.full;
  text_is = refl;
}

-- what is written of a channel that was given events is its report
pub report_by : ChannelsKeepThePromise → (r : Ran) (policies : List PolicySeen) (target : List ℕ) (value : Target) (core : CoreSeen) (events : List Stamped)
    → HasRun r (authority_of value) policies events core → IsReportBy r policies target value events (run_text r target core.journal (ledger_in core))
report_by keep ran.Whole policies target value core events run = report_whole keep policies target value core events run
report_by keep ran.Full policies target value core events filled = report_full keep policies target value core events filled
