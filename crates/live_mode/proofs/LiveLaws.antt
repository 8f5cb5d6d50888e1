-- The one channel of a live run: what its report is of.
use Rattle.std.proofs.Common.{◌≡◌, ◌∙◌, ◌+◌, ℕ, Option, List, [], ◌∷◌, ap, inl, inr, length, map, refl, suc, subst}
use Rattle.std.specs.Prelude.{Result, Ok, Err, IfOk}
use Rattle.grpc_base.specs.declared.event.Entry.{Entry}
use Rattle.grpc_base.specs.declared.script.CallLine.{CallLine}
use Rattle.resolver_core.specs.AnyTargets.{authority_of}
use Rattle.script_input.specs.Lives.{ReadsLive}
use Rattle.script_input.specs.declared.live_script.LiveScript.{LiveScript}
use Rattle.turn_lock.specs.History.{LockId, SeatSeen}
use Rattle.channel_core.specs.Core.{CoreSeen, ledger_in}
use Rattle.lb_policy.specs.Table.{PolicySeen}
use Rattle.shared_channel.specs.Running.{origin_of}
use Rattle.session_text.specs.declared.ran.Ran.{Ran}
use Rattle.session_text.specs.declared.ran.Ran.TheVariants as ran
use Rattle.live_run.specs.declared.outcome.Outcome.{Outcome}
use Rattle.live_run.specs.declared.outcome.Outcome.TheVariants as outcome
use Rattle.live_channel.specs.Handles.{DialersAreGiven, IsStarted, Keeper, Splits, keepers_in, seats_in}
use Rattle.live_run.specs.declared.link_job.LinkJob.{LinkJob}
use Rattle.live_channel.specs.Reported.{ReportsOn}
use Rattle.live_channel.specs.Report.{ReportsTarget}
use Rattle.live_channel.proofs.SeatLaws.{left_by, reported_stays}
use Rattle.live_mode.specs.Handles.{CallsAreMade, LeavesCalls, busy}
use Rattle.live_mode.specs.Live.{EndsLiveFull, IsAnyLiveReport, IsLiveReport, IsLiveText, IsLived}
use Rattle.live_mode.specs.Made.{worker_lines}
use Rattle.live_mode.specs.Sides.{RunDone}
use Rattle.live_mode.specs.declared.sides.Callers.{Callers}
use Rattle.live_channel.specs.declared.linkers.Linkers.{Linkers}
use Rattle.live_channel.proofs.ReportLaws.{session_at}
use Rattle.live_mode.proofs.CarriedLaws.{carries, come}

-- ---- the report

pub live_report : (policies : List PolicySeen) (held : List (Option (List (List ℕ)))) (r : Ran) (lock : LockId) (o : Outcome) (script : LiveScript) (groups : List (List CallLine)) (seat : SeatSeen Entry) (text : List ℕ) → lock.origin ≡ origin_of (authority_of script.value) policies
    → ReportsTarget script.value script.config seat.seen → (r ≡ ran.Whole → o ≡ outcome.Whole) → groups ≡ worker_lines script.calls.items → LeavesCalls lock held script.config o groups seat → ReportsOn r script.target seat text → IsLiveReport policies held r script text
live_report policies held r lock o script groups seat text root reported whole same left is =
    let core : CoreSeen = is.0 in
    let session = session_at (authority_of script.value) policies core seat.lock.origin (ap (λ (l : LockId). l.origin) left.left.lock_is ∙ root) is.1 in
    record {
      events = session.0;
      journal = core.journal;
      ledger = ledger_in core;
      session = session.1;
      reported = reported_stays script.value script.config core.journal.entries seat.seen is.2 reported;
      calls = carries r lock held script.config o script.calls.items groups seat core.journal.entries whole same left is.3 is.2;
      come = come lock held script.config o groups seat core.journal.entries left is.3 is.2;
      full = is.4;
      text_is = is.5;
    }

-- ---- the run

-- as many handles as jobs
pub seats_length : {H N L D : Type 0} (jobs : List (LinkJob H N L D)) (seat_of : H → SeatSeen Entry) → length jobs ≡ length (seats_in seat_of jobs)
seats_length [] seat_of = refl
seats_length (job ∷ jobs) seat_of = ap suc (seats_length jobs seat_of)

-- what a run left of a handle of which others were split off before
pub left_calls : {H N L D : Type 0} (seat_of : H → SeatSeen Entry) (coming : N → Option (List (List ℕ))) (lock : LockId) (held : List (Option (List (List ℕ)))) (config : Option (List ℕ)) (o : Outcome) (groups : List (List CallLine)) (linkers : Linkers H N L D) (calls : Callers H) (links others : List (SeatSeen Entry)) (seat mid out : SeatSeen Entry)
    → IsStarted lock links seat → DialersAreGiven held config (keepers_in coming linkers.jobs.items) seat → Splits seat others mid → seat_of calls.closer ≡ mid → map (λ j. j.lines.items) calls.jobs.items ≡ busy groups → length calls.jobs.items ≡ length others → length linkers.jobs.items ≡ length links → RunDone seat_of coming linkers calls out o
    → LeavesCalls lock held config o groups out
left_calls seat_of coming lock held config o groups linkers calls links others seat mid out started given splits same lines mine beside done = record {
  owns = done.owns;
  makes = subst (λ (g : List (List CallLine)). CallsAreMade o g done.owns) lines done.makes;
  left = left_by lock held config o (keepers_in coming linkers.jobs.items) done.owns links others seat mid (seat_of calls.closer) out given started splits same done.lock
      (done.parts ∙ ap (λ (n : ℕ). (seat_of calls.closer).parts + n + length linkers.jobs.items) mine ∙ ap (λ (n : ℕ). (seat_of calls.closer).parts + length others + n) beside) done.leaves;
}

-- and that of the whole run, of what the world said that its dialers hold
pub left_at : {E : Type 0} (lock : LockId) (here held : List (Option (List (List ℕ)))) (config : Option (List ℕ)) (groups : List (List CallLine)) (keepers : List Keeper) (seat : SeatSeen Entry) (result : Result (SeatSeen Entry × Outcome) E) → here ≡ held → DialersAreGiven here config keepers seat
    → IfOk result (λ r. (h : List (Option (List (List ℕ)))) (c : Option (List ℕ)) → DialersAreGiven h c keepers seat → LeavesCalls lock h c r.1 groups r.0) → IfOk result (λ r. LeavesCalls lock held config r.1 groups r.0)
left_at lock here held config groups keepers seat (Ok r) same given left = left held config (subst (λ (l : List (Option (List (List ℕ)))). DialersAreGiven l config keepers seat) same given)
left_at lock here held config groups keepers seat (Err e) same given left = tt

-- ---- the script

pub lived_of : (policies : List PolicySeen) (held : List (Option (List (List ℕ)))) (left left' : Option (List ℕ)) (script : LiveScript) (text : List ℕ) → ReadsLive left left' script → IsLiveReport policies held ran.Whole script text → IsLived policies held left left' text
lived_of policies held left left' script text read report = record { script = script; read = read; report = report }

pub full_of : (policies : List PolicySeen) (held : List (Option (List (List ℕ)))) (left left' : Option (List ℕ)) (script : LiveScript) (text : List ℕ) → ReadsLive left left' script → IsLiveReport policies held ran.Full script text → EndsLiveFull policies held left left' text
full_of policies held left left' script text read report = record { script = script; read = read; report = report }

pub live_text : (policies : List PolicySeen) (held : List (Option (List (List ℕ)))) (left left' : Option (List ℕ)) (script : LiveScript) (text : List ℕ) → ReadsLive left left' script → IsAnyLiveReport policies held script text → IsLiveText policies held left left' text
live_text policies held left left' script text read (ran.Whole, report) = inl (inl (lived_of policies held left left' script text read report))
live_text policies held left left' script text read (ran.Full, report) = inl (inr (full_of policies held left left' script text read report))
