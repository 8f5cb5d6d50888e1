-- The one channel of a run: what its report is of.
use Rattle.std.proofs.Common.{◌≡◌, ◌≤◌, ◌∙◌, ℕ, false, Option, List, ap, arith, inl, inr, length, refl, sym, subst}
use Rattle.std.specs.Prelude.{Result, Ok, Err, OnOk, OnErr}
use Rattle.grpc_base.specs.declared.event.Entry.{Entry}
use Rattle.gate_io.specs.Outside.{AppendsPrefix, Rises}
use Rattle.script_text.specs.declared.report.ReportFault.{ReportFault}
use Rattle.script_text.specs.declared.report.ReportFault.TheVariants as unwritten
use Rattle.turn_lock.specs.History.{LockId, Owns, SeatSeen, StartsWith}
use Rattle.turn_lock.specs.Turn.{Sees}
use Rattle.turn_lock.proofs.Places.{starts_longer}
use Rattle.std.specs.Global.{Global}
use Rattle.lb_policy.specs.Table.{PolicySeen}
use Rattle.grpc_base.specs.declared.event.Stamped.{Stamped}
use Rattle.channel_core.specs.Core.{CoreSeen, IsNewBy, ledger_in}
use Rattle.shared_channel.specs.Running.{HasRun, IsRunning, origin_of}
use Rattle.shared_channel.proofs.OriginLaws.{run_of}
use Rattle.session_text.specs.declared.ran.Ran.{Ran}
use Rattle.session_text.specs.Sessions.{IsSession, run_text}
use Rattle.session_text.proofs.SessionLaws.{session_of}
use Rattle.session_text.specs.Writing.{WritesAll, WritesPrefix, WritesSome}
use Rattle.live_channel.specs.Reported.{IsReportable, ReportsAt, ReportsOn, ReportsThat}
use Rattle.live_channel.proofs.SeatLaws.{owns_between}

-- ---- a new channel

pub new_fits : (alloc : Global) (authority : List ℕ) (policies : List PolicySeen) (core : CoreSeen) → IsNewBy alloc authority policies core → length core.journal.entries ≤ 1048576
new_fits alloc authority policies core new = omega (arith, ap length new.journal)

-- the channel of a lock whose origin says this authority and these policies: the events that it was given are a session
pub session_at : (authority : List ℕ) (policies : List PolicySeen) (core : CoreSeen) (origin : List ℕ) → origin ≡ origin_of authority policies → HasRun origin core
    → (events : List Stamped) × IsSession authority policies events core.journal (ledger_in core)
session_at authority policies core origin is has =
    let given = run_of authority policies origin core is has in
    (given.0, session_of authority policies core given.0 core.journal (ledger_in core) given.1 refl refl)

-- ---- the report

-- the handle looked before and after
pub reports_on : (r : Ran) (t : List ℕ) (first before after last : SeatSeen Entry) (text : List ℕ) → Sees first before → before ≡ record first { seen = before.seen } → Sees after last → last ≡ record after { seen = last.seen } → ReportsAt r t before after text → ReportsOn r t first text
reports_on r t first before after last text early same late same' is =
    let core : CoreSeen = is.0 in
    let own : before.own ≡ first.own = ap (λ (s : SeatSeen Entry). s.own) same in
    let parts : before.parts ≡ first.parts = ap (λ (s : SeatSeen Entry). s.parts) same in
    let own' : last.own ≡ first.own = ap (λ (s : SeatSeen Entry). s.own) same' ∙ is.4 ∙ own in
    let parts' : last.parts ≡ first.parts = ap (λ (s : SeatSeen Entry). s.parts) same' ∙ is.5 ∙ parts in
    let owns : Owns first.parts first.own before.seen = subst (λ (n : ℕ). Owns n first.own before.seen) parts (subst (λ (l : List (ℕ × Entry)). Owns before.parts l before.seen) own early.owns) in
    let owns' : Owns first.parts first.own last.seen = subst (λ (n : ℕ). Owns n first.own last.seen) parts' (subst (λ (l : List (ℕ × Entry)). Owns last.parts l last.seen) own' late.owns) in
    let afterwards : StartsWith last.seen core.journal.entries = subst (λ (l : List Entry). StartsWith last.seen l) is.3 late.later in
    let run : HasRun first.lock.origin core = subst (λ (l : LockId). HasRun l.origin core) (ap (λ (s : SeatSeen Entry). s.lock) same) is.1 in
    (core, run, starts_longer first.seen before.seen core.journal.entries early.later is.2, owns_between first.own first.parts before.seen core.journal.entries last.seen is.2 afterwards owns owns', is.6, is.7)

-- ---- what is reported under the lock

pub reports_spent : (r : Ran) (t : List ℕ) (core : CoreSeen) (taken : Option (List ℕ)) (faults : ℕ) → ReportsThat r t core (Err unwritten.NoMemory) taken taken faults faults
reports_spent r t core taken faults = inl (refl, refl)

pub reports_prefix : (r : Ran) (t : List ℕ) (core : CoreSeen) (fault : ReportFault) (taken taken' : Option (List ℕ)) (faults faults' : ℕ) → IsReportable r core → AppendsPrefix taken taken' (run_text r t core.journal (ledger_in core)) → ((fault ≡ unwritten.Write) → Rises faults faults') → ReportsThat r t core (Err fault) taken taken' faults faults'
reports_prefix r t core fault taken taken' faults faults' reportable prefix write = inr (reportable, prefix, write)
