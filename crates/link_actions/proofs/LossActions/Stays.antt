-- A link that is over stays so.
use Rattle.std.proofs.Common.{◌≡◌, ◌==◌, ap, refl, subst, sym, ◌∙◌, Bool, true, false, List, Option, None, Some, ℕ, if◌then◌else◌, is_some, option_map}
use Rattle.std.specs.Option.{option_map_or}
use Rattle.attempt_ledger.specs.declared.row.Placed.{Placed}
use Rattle.attempt_ledger.specs.declared.row.RowEnd.{RowEnd}
use Rattle.link_actions.proofs.Ended.{AreLeft, are_left, ended_seen, is_ended, never_out, noted_call}
use Rattle.link_actions.proofs.LossActions.Calls.{changed_any, limit_in, limit_kept}
use Rattle.link_actions.specs.LossActions.Laws.{EndsLeaveOver, OverStays}
use Rattle.link_actions.specs.LossActions.Sees.{IsGoing, SeesOver, WasOn}
use Rattle.session_actions.specs.AttemptEnds.{with_end, with_end_in_run}
use Rattle.session_actions.specs.Attempts.{call_of}
use Rattle.session_actions.specs.Entries.{now}
use Rattle.session_actions.specs.Reading.{is_outstanding_on}
use Rattle.session_actions.specs.Responses.{limit_of_attempt, response_in}
use Rattle.session_actions.specs.Words.{holds, numbered}
use Rattle.session_actions.specs.declared.attempt.Attempt.{Attempt}
use Rattle.session_actions.specs.declared.call.Call.{Call}
use Rattle.session_actions.specs.declared.call.MarkKind.TheVariants as mark
use Rattle.session_actions.specs.declared.config.ThrottleRun.{ThrottleRun}
use Rattle.session_actions.specs.declared.link.Link.{Link}
use Rattle.session_actions.specs.declared.link.Traffic.{Traffic}
use Rattle.session_actions.specs.declared.response.Response.{Response}
use Rattle.session_actions.specs.declared.seen.Seen.{Seen}
use Rattle.link_actions.specs.StreamActions.Laws.{IsOn}
use Rattle.link_actions.specs.StreamActions.Sees.{response_of}

pub over_stays : OverStays
over_stays l m s t is at over traffic_ places was = record {
  at = at;
  over = over;
  goes = λ n b on. (
      let w : WasOn l s t n b = was n b on in
      let same : response_of m t n b ≡ response_of l s n w.before
      = ap (λ (ts : List Traffic). response_in (limit_of_attempt b t) n ts) traffic_ ∙ ap (λ (k : ℕ). response_in k n l.traffic) w.limit in
      let going : IsGoing (response_of l s n w.before) = is.goes n w.before w.on in
      record { goes = ap (λ (p : Response). p.end) same ∙ going.goes; small = ap (λ (p : Response). p.large) same ∙ going.small });
  places = places;
}

-- an attempt ends
limit_ended : (s : Seen) (draws : Bool) (call t : ℕ) (e : RowEnd) (runs : List ThrottleRun) (b : Attempt)
    → limit_of_attempt b (ended_seen draws call t e runs s) ≡ limit_of_attempt b s
limit_ended s draws call t e runs b =
    let f : Call → Call = noted_call (mark.Ended t) (now s) in
    ap (limit_in s) (changed_any f call b.row.call s.calls) ∙ limit_kept s f (b.row.call == call) (call_of b s) (λ c. refl)

before_by : (l : Link) (s u : Seen) (t n : ℕ) (e : RowEnd) (b : Attempt) (o : Option Attempt) (x : Bool) → (b.place == t) ≡ x → numbered s.attempts b.place ≡ o
    → option_map (λ a. if x then with_end e a else a) o ≡ Some b → is_outstanding_on l b ≡ true → b.row.stream ≡ Some n → limit_of_attempt b u ≡ limit_of_attempt b s
    → WasOn l s u n b
before_by l s u t n e b None x is there same out stream limit = absurd (let never : ⊥ = (cc) in never)
before_by l s u t n e b (Some a) true is there same out stream limit =
    let one : with_end e a ≡ b = (cc) in
    let off : is_outstanding_on l b ≡ false = ap (is_outstanding_on l) (sym one) ∙ never_out (is_some a.row.placed) (holds (λ (at : Placed). at.link == l.number) a.row.placed) in
    let both : true ≡ false = sym out ∙ off in
    absurd (let never : ⊥ = (cc) in never)
before_by l s u t n e b (Some a) false is there same out stream limit =
    let one : a ≡ b = (cc) in
    record { before = b; on = record { there = there ∙ ap (λ (y : Attempt). Some y) one; out = out; stream = stream }; limit = limit }

pub ends_leave_over : EndsLeaveOver
ends_leave_over l s t a e is there =
    let runs : List ThrottleRun = (option_map_or (with_end_in_run a e s) (call_of a s) s).runs in
    let draws : Bool = is_some e.word in
    let call : ℕ = a.row.call in
    let u : Seen = ended_seen draws call t e runs s in
    let left : AreLeft l s u t = are_left l s draws call t e runs a is.places there in
    let was : (n : ℕ) (b : Attempt) → IsOn l u n b → WasOn l s u n b
    = λ n b on. before_by l s u t n e b (numbered s.attempts b.place) (b.place == t) refl refl (sym (changed_any (with_end e) t b.place s.attempts) ∙ on.there) on.out on.stream
    (limit_ended s draws call t e runs b) in
    subst (λ (v : Seen). SeesOver l v) (sym (is_ended s t e a is.places there)) (over_stays l l s u is is.at is.over refl left.places was)
