-- The one channel of a relay: what its report is of.
use Rattle.std.proofs.Common.{◌≡◌, ◌∙◌, ℕ, Bool, true, false, Option, List, [], ◌∷◌, ap, inl, inr}
use Rattle.std.specs.List.{AllByRecursion}
use Rattle.grpc_base.specs.Counts.{one_more}
use Rattle.grpc_base.specs.declared.event.Entry.{Entry}
use Rattle.lb_policy.specs.Table.{PolicySeen}
use Rattle.resolver_core.specs.AnyTargets.{IsTarget, authority_of}
use Rattle.script_input.proofs.LiveLaws.{live_target}
use Rattle.script_input.specs.Relays.{ReadsRelay}
use Rattle.script_input.specs.declared.live_script.LiveScript.{LiveScript}
use Rattle.turn_lock.specs.History.{LockId, Owns, SeatSeen, StartsWith}
use Rattle.channel_core.specs.Core.{CoreSeen, ledger_in}
use Rattle.shared_channel.specs.Running.{origin_of}
use Rattle.session_text.specs.declared.ran.Ran.{Ran}
use Rattle.session_text.specs.declared.ran.Ran.TheVariants as ran
use Rattle.live_run.specs.declared.outcome.Outcome.{Outcome}
use Rattle.live_run.specs.declared.outcome.Outcome.TheVariants as outcome
use Rattle.live_channel.specs.Handles.{StandInOrder}
use Rattle.live_channel.specs.Reported.{ReportsOn}
use Rattle.live_channel.specs.Report.{ReportsTarget}
use Rattle.live_channel.proofs.HeldLaws.{come_as_held}
use Rattle.live_channel.proofs.ReportLaws.{session_at}
use Rattle.live_channel.proofs.SeatLaws.{reported_stays}
use Rattle.live_channel.proofs.ShareLaws.{shares}
use Rattle.relay_mode.specs.RelaySides.{EntriesAreOfCalls, LeavesLinks}
use Rattle.relay_mode.specs.Links.{IsListening}
use Rattle.relay_mode.specs.Relayed.{CarriesLinks, EndsRelayFull, IsAnyRelayReport, IsRelayReport, IsRelayText, IsRelayed, IsWorkOfLink}

work_all : (prefix : List Entry) (owns : List (List (ℕ × Entry))) → AllByRecursion (StandInOrder prefix) owns → AllByRecursion EntriesAreOfCalls owns → AllByRecursion (IsWorkOfLink prefix) owns
work_all prefix [] stand calls = tt
work_all prefix (own ∷ owns) stand calls = (record { stands = stand.0.stands; ascends = stand.0.ascends; calls = calls.0 }, work_all prefix owns stand.1 calls.1)

carries_links : (r : Ran) (lock : LockId) (held : List (Option (List (List ℕ)))) (config : Option (List ℕ)) (o : Outcome) (links : ℕ) (seat : SeatSeen Entry) (entries : List Entry) → (r ≡ ran.Whole → o ≡ outcome.Whole) → LeavesLinks lock held config o links seat → Owns seat.parts seat.own entries → StartsWith entries seat.seen → CarriesLinks r links entries
carries_links r lock held config o links seat entries whole by all sees =
    let out = shares r lock held config o by.owns seat entries whole by.left by.calls all sees in
    record { prefix = out.prefix; rest = out.rest; owns = by.owns; count = by.count; made = work_all out.prefix by.owns out.each by.calls; shares = out.shares }

pub relay_report : (policies : List PolicySeen) (held : List (Option (List (List ℕ)))) (r : Ran) (lock : LockId) (o : Outcome) (links : ℕ) (script : LiveScript) (seat : SeatSeen Entry) (text : List ℕ) → lock.origin ≡ origin_of (authority_of script.value) policies → ReportsTarget script.value script.config seat.seen → (r ≡ ran.Whole → o ≡ outcome.Whole)
    → LeavesLinks lock held script.config o links seat → ReportsOn r script.target seat text → IsRelayReport policies held r links script text
relay_report policies held r lock o links script seat text root reported whole by is =
    let core : CoreSeen = is.0 in
    let session = session_at (authority_of script.value) policies core seat.lock.origin (ap (λ (l : LockId). l.origin) by.left.lock_is ∙ root) is.1 in
    record {
      events = session.0;
      journal = core.journal;
      ledger = ledger_in core;
      session = session.1;
      reported = reported_stays script.value script.config core.journal.entries seat.seen is.2 reported;
      carries = carries_links r lock held script.config o links seat core.journal.entries whole by is.3 is.2;
      come = come_as_held lock held script.config o by.owns seat core.journal.entries by.left by.calls is.3 is.2;
      full = is.4;
      text_is = is.5;
    }

-- ---- the script

pub relay_target : (left left' : Option (List ℕ)) (script : LiveScript) → ReadsRelay left left' script → IsTarget script.value
relay_target left left' script read = live_target left left' script read.live

pub relayed_of : (policies : List PolicySeen) (held : List (Option (List (List ℕ)))) (links : ℕ) (left left' : Option (List ℕ)) (script : LiveScript) (text : List ℕ) → ReadsRelay left left' script → IsRelayReport policies held ran.Whole links script text → IsRelayed policies held links left left' text
relayed_of policies held links left left' script text read report = record { script = script; read = read; report = report }

pub full_of : (policies : List PolicySeen) (held : List (Option (List (List ℕ)))) (links : ℕ) (left left' : Option (List ℕ)) (script : LiveScript) (text : List ℕ) → ReadsRelay left left' script → IsRelayReport policies held ran.Full links script text → EndsRelayFull policies held links left left' text
full_of policies held links left left' script text read report = record { script = script; read = read; report = report }

pub relay_text : (policies : List PolicySeen) (held : List (Option (List (List ℕ)))) (links : ℕ) (left left' : Option (List ℕ)) (script : LiveScript) (text : List ℕ) → ReadsRelay left left' script → IsAnyRelayReport policies held links script text → IsRelayText policies held links left left' text
relay_text policies held links left left' script text read (ran.Whole, report) = inl (inl (relayed_of policies held links left left' script text read report))
relay_text policies held links left left' script text read (ran.Full, report) = inl (inr (full_of policies held links left left' script text read report))

-- ---- the listener

pub listened_all : (listened : Bool) (faults faults' : ℕ) → listened ≡ true → IsListening listened faults faults' → faults' ≡ faults
listened_all true faults faults' all is = is
listened_all false faults faults' all is = absurd (cc)
