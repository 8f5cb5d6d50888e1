-- The one channel of a run: what is promised of its work and of its report.
use Rattle.std.proofs.Common.{◌≡◌, ◌∙◌, ℕ, Option, List, ap}
use Rattle.grpc_base.specs.declared.event.Entry.{Entry}
use Rattle.lb_policy.specs.Table.{PolicySeen}
use Rattle.resolver_core.specs.AnyTargets.{authority_of}
use Rattle.resolver_core.specs.declared.any_target.Target.{Target}
use Rattle.turn_lock.specs.History.{LockId, Owns, SeatSeen, StartsWith}
use Rattle.channel_core.specs.Core.{CoreSeen, ledger_in}
use Rattle.shared_channel.specs.Running.{origin_of}
use Rattle.session_text.specs.declared.ran.Ran.{Ran}
use Rattle.session_text.specs.declared.ran.Ran.TheVariants as ran
use Rattle.live_run.specs.declared.outcome.Outcome.{Outcome}
use Rattle.live_run.specs.declared.outcome.Outcome.TheVariants as outcome
use Rattle.live_channel.specs.Reported.{ReportsOn}
use Rattle.live_channel.specs.Report.{ReportsTarget}
use Rattle.live_channel.proofs.HeldLaws.{come_as_held}
use Rattle.live_channel.proofs.ReportLaws.{session_at}
use Rattle.live_channel.proofs.SeatLaws.{reported_stays}
use Rattle.live_channel.proofs.ShareLaws.{shares}
use Rattle.channel_client.specs.Jobs.{LeavesClients}
use Rattle.channel_client.specs.Sessions.{WorksAreDone, CarriesWorks, IsClientReport}

-- the work stands in a history
pub are_done : {J : Type 0} (shows : J → List Entry → Type 0) (lock : LockId) (held : List (Option (List (List ℕ)))) (config : Option (List ℕ)) (o : Outcome) (works : List J) (seat : SeatSeen Entry) → LeavesClients shows lock held config o works seat → WorksAreDone shows works
are_done shows lock held config o works seat by = (by.owns, by.left.leaves.closes.prefix, record { done = by.done; calls = by.calls; stand = by.left.leaves.closes.each })

carries_works : {J : Type 0} (shows : J → List Entry → Type 0) (r : Ran) (lock : LockId) (held : List (Option (List (List ℕ)))) (config : Option (List ℕ)) (o : Outcome) (works : List J) (seat : SeatSeen Entry) (entries : List Entry) → (r ≡ ran.Whole → o ≡ outcome.Whole) → LeavesClients shows lock held config o works seat
    → Owns seat.parts seat.own entries → StartsWith entries seat.seen → CarriesWorks shows r works entries
carries_works shows r lock held config o works seat entries whole by all sees =
    let out = shares r lock held config o by.owns seat entries whole by.left by.calls all sees in
    record { prefix = out.prefix; rest = out.rest; owns = by.owns; done = record { done = by.done; calls = by.calls; stand = out.each }; shares = out.shares }

pub client_report : {J : Type 0} (shows : J → List Entry → Type 0) (policies : List PolicySeen) (held : List (Option (List (List ℕ)))) (r : Ran) (lock : LockId) (o : Outcome) (target : Target) (config : Option (List ℕ)) (name : List ℕ) (works : List J) (seat : SeatSeen Entry) (text : List ℕ)
    → lock.origin ≡ origin_of (authority_of target) policies → ReportsTarget target config seat.seen → (r ≡ ran.Whole → o ≡ outcome.Whole)
    → LeavesClients shows lock held config o works seat → ReportsOn r name seat text → IsClientReport shows policies held r target config name works text
client_report shows policies held r lock o target config name works seat text root reported whole by is =
    let core : CoreSeen = is.0 in
    let session = session_at (authority_of target) policies core seat.lock.origin (ap (λ (l : LockId). l.origin) by.left.lock_is ∙ root) is.1 in
    record {
      events = session.0;
      journal = core.journal;
      ledger = ledger_in core;
      session = session.1;
      reported = reported_stays target config core.journal.entries seat.seen is.2 reported;
      carries = carries_works shows r lock held config o works seat core.journal.entries whole by is.3 is.2;
      come = come_as_held lock held config o by.owns seat core.journal.entries by.left by.calls is.3 is.2;
      full = is.4;
      text_is = is.5;
    }
