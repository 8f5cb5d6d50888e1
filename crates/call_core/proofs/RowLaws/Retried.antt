-- Which ends license a retry, through all that is done to a call.
use Rattle.std.proofs.Common.{◌≡◌, ◌≤◌, ◌<◌, ℕ, ◌+◌, Bool, true, false, ◌==◌, if◌then◌else◌, min, Option, Some, None, is_some, List, [], ◌∷◌, ◌++◌, refl, sym, ap, subst, ◌∙◌, ◌⊎◌, inl, inr, arith, eq-eqb}
use Rattle.std.proofs.Math.Nat.{min-eq_left}
use Rattle.std.proofs.lemmas.Bool.{leb-false}
use Rattle.grpc_base.specs.Requests.{RequestSeen}
use Rattle.grpc_base.specs.declared.event.EndCause.TheVariants as ends
use Rattle.grpc_base.specs.declared.fields.Field.{Field}
use Rattle.grpc_base.specs.declared.plan.CallPlan.{CallPlan}
use Rattle.grpc_base.specs.declared.plan.CallPlan.TheVariants as plans
use Rattle.grpc_base.specs.declared.plan.Chosen.{Chosen}
use Rattle.attempt_ledger.specs.Ends.{is_cut}
use Rattle.attempt_ledger.specs.Numbering.{most_attempts}
use Rattle.attempt_ledger.specs.Retries.{has_retries, is_retry}
use Rattle.attempt_ledger.specs.declared.ledger.Ledger.{Ledger}
use Rattle.attempt_ledger.specs.declared.row.Placed.{Placed}
use Rattle.attempt_ledger.specs.declared.row.Row.{Row}
use Rattle.attempt_ledger.specs.declared.row.RowEnd.{RowEnd}
use Rattle.attempt_ledger.specs.declared.row.RowKind.TheVariants as kind
use Rattle.ledger_stamps.specs.Steps.{changed_at, placed_row}
use Rattle.a6_numbers.specs.Throttling.{Bucket}
use Rattle.grpc_frame.specs.Messages.{framed}
use Rattle.call_core.specs.declared.act.CallAct.{CallAct}
use Rattle.call_core.specs.declared.attempts.Attempts.{Attempts}
use Rattle.call_core.specs.declared.live.LiveRow.{LiveRow}
use Rattle.call_core.specs.Commitments.{IsRowOf}
use Rattle.call_core.specs.Going.{hedges}
use Rattle.call_core.specs.Parts.{committed_buffer, find_live, furthest, has_none, is_followed, is_tested, kind_of_next, later_kind, pushed_over, stopped_attempts}
use Rattle.call_core.specs.Reasons.{AskedDelay, IsKeptAt, IsKeptRow}
use Rattle.call_core.specs.RowChains.{RowsAreChained}
use Rattle.call_core.specs.RowFollowers.{IsEndedIn, KeepsFollowers, WasFollower}
use Rattle.call_core.specs.RowLicenses.{RowsAreLicensed, LicensesWait, HaveLicenses, IsAsked, IsLastAsked, IsRetryOf, IsSound}
use Rattle.call_core.specs.Steps as step
use Rattle.call_core.specs.Steps.{Stepped, call_plan, cut_all, is_committed_live, judged_of, left_live, new_call, new_row, next_due, settled, stamp_if, with_chosen, with_judged, with_message}
use Rattle.call_core.proofs.Finding.{found_place, furthest_found}
use Rattle.call_core.proofs.Going.{due_forced}
use Rattle.call_core.proofs.Keeping.{not_stopped}
use Rattle.call_core.proofs.Moves.{Moves}
use Rattle.call_core.proofs.Numbers.{below_most, not_transparent}
use Rattle.call_core.proofs.RowLaws.Followers.{AreSameRows, one_row}
use Rattle.call_core.proofs.RowLaws.Licensed.{StaysUnfollowed, asked_less, asked_more, licenses_more}
use Rattle.call_core.proofs.RowLaws.Licenses.{IsQuietStep, IsUnlicensed, asked_still, placed_asked, placed_quiet, quiet_step, quiet_waiting}
use Rattle.call_core.proofs.RowLaws.Licensing.{AreWithin, known_plan, licensed_by_row, licensed_commit, licensed_end, live_unlicensed, never_may, no_hedge, plain_stays}
use Rattle.call_core.proofs.RowLaws.Judged.{licensed_live}

-- the other things that are done
no_asked : (s : Stepped) (number : ℕ) → ((place : ℕ) (row : Row) → IsRowOf s.call.number s.ledger.rows place row → ⊥) → IsAsked s.call.number s.ledger.rows number → ⊥
no_asked s number none h = none h.place h.has.row h.has.is

no_delay : (s : Stepped) → ((place : ℕ) (row : Row) → IsRowOf s.call.number s.ledger.rows place row → ⊥) → (s.call.attempts.delayed ≡ 0) ⊎ AskedDelay s.call.number s.ledger.rows s.call.attempts.delayed → s.call.attempts.delayed ≡ 0
no_delay s none (inl e) = e
no_delay s none (inr asked) = absurd (none asked.place asked.has.row asked.has.is)

licensed_chosen : (chosen : Chosen) (moment : ℕ) (s : Stepped) → s.call.chosen ≡ None → IsSound s → RowsAreLicensed (with_chosen chosen moment s)
licensed_chosen chosen moment s fresh sound =
    let none : (place : ℕ) (row : Row) → IsRowOf s.call.number s.ledger.rows place row → ⊥ = sound.fresh fresh in
    record {
      ends = λ other e. record { ends = λ place row is. absurd (none place row is); retries = λ has place row is. absurd (none place row is) };
      waiting = λ other e has free. record {
        pending = λ due h. inl (sound.numbered.fresh fresh).none;
        asked = record { most = λ number h. absurd (no_asked s number none h); there = inl (no_delay s none sound.reasons.delayed) };
      };
    }

licensed_same : (s t : Stepped) → t.call.number ≡ s.call.number → t.call.chosen ≡ s.call.chosen → t.ledger.rows ≡ s.ledger.rows → t.call.attempts.sent ≡ s.call.attempts.sent → t.call.attempts.forced ≡ s.call.attempts.forced → t.call.attempts.delayed ≡ s.call.attempts.delayed → t.call.attempts.committed ≡ s.call.attempts.committed → RowsAreLicensed s → RowsAreLicensed t
licensed_same s t number chosen rows sent forced delayed committed old = record {
  ends = λ c e.
      subst (λ (k : ℕ). HaveLicenses c k t.ledger.rows) (sym number) (subst (λ (l : List Row). HaveLicenses c s.call.number l) (sym rows) (old.ends c (sym chosen ∙ e)));
  waiting = λ c e has none.
      let w : LicensesWait c s.call.number s.ledger.rows s.call.attempts.sent s.call.attempts.forced s.call.attempts.delayed = old.waiting c (sym chosen ∙ e) has (sym committed ∙ none) in
      subst (λ (k : ℕ). LicensesWait c k t.ledger.rows t.call.attempts.sent t.call.attempts.forced t.call.attempts.delayed) (sym number)
      (subst (λ (l : List Row). LicensesWait c s.call.number l t.call.attempts.sent t.call.attempts.forced t.call.attempts.delayed) (sym rows)
      (subst (λ (k : ℕ). LicensesWait c s.call.number s.ledger.rows k t.call.attempts.forced t.call.attempts.delayed) (sym sent)
      (subst (λ (o : Option ℕ). LicensesWait c s.call.number s.ledger.rows s.call.attempts.sent o t.call.attempts.delayed) (sym forced)
      (subst (λ (k : ℕ). LicensesWait c s.call.number s.ledger.rows s.call.attempts.sent s.call.attempts.forced k) (sym delayed) w))));
}

licensed_head : (place : ℕ) (row : LiveRow) (meta : List Field) (moment : ℕ) (s : Stepped) (b : Bool) → find_live place s.call.live ≡ Some row → IsSound s → RowsAreLicensed s → RowsAreLicensed (step.with_head meta (if b then s else step.committed place moment (record s { call = record s.call { buffer = committed_buffer place s.call.buffer } })))
licensed_head place row meta moment s true f sound old = licensed_same s (step.with_head meta s) refl refl refl refl refl refl refl old
licensed_head place row meta moment s false f sound old =
    let c : Stepped = record s { call = record s.call { buffer = committed_buffer place s.call.buffer } } in
    let t : Stepped = step.committed place moment c in
    licensed_same t (step.with_head meta t) refl refl refl refl refl refl refl
    (licensed_commit place moment c sound.chained.within (λ chosen e. subst (λ (k : ℕ). IsUnlicensed chosen s.call.number s.ledger.rows k) (found_place place s.call.live row f) (live_unlicensed chosen place row s f sound.apart))
    (licensed_same s c refl refl refl refl refl refl refl old))

licensed_message : (octets : List ℕ) (s : Stepped) (b : Bool) → RowsAreLicensed s → RowsAreLicensed (record s { call = (if b then record s.call { inbox = record s.call.inbox { messages = s.call.inbox.messages ++ octets ∷ [] } } else s.call) })
licensed_message octets s true old = licensed_same s (record s { call = record s.call { inbox = record s.call.inbox { messages = s.call.inbox.messages ++ octets ∷ [] } } }) refl refl refl refl refl refl refl old
licensed_message octets s false old = licensed_same s (record s { call = s.call }) refl refl refl refl refl refl refl old

tested_plan : (p : CallPlan) (a : Attempts) → is_tested p a ≡ true → has_retries p ≡ false
tested_plan plans.None a e = refl
tested_plan (plans.Retry policy) a e = absurd (let no : false ≡ true = e in cc)
tested_plan (plans.Hedge policy) a e = refl

licensed_by_last : (last : Option ℕ) (moment : ℕ) (s : Stepped) → AreWithin s → is_tested (call_plan s.call) s.call.attempts ≡ true → RowsAreLicensed s → RowsAreLicensed (step.ended_by_last last moment s)
licensed_by_last None moment s within tested old = old
licensed_by_last (Some last) moment s within tested old =
    elim (has_none s.call.live) as (λ b. RowsAreLicensed (if b then step.ended_by_row last moment s else s)) [
      | true ↦ licensed_by_row last moment s within
          (λ chosen e r is x h license. never_may chosen.plan chosen.throttle r.number x (ap has_retries (sym (known_plan s chosen e)) ∙ tested_plan (call_plan s.call) s.call.attempts tested) license.may) old
      | false ↦ old
    ]

licensed_over : (over : Bool) (row : Option ℕ) (moment : ℕ) (s t : Stepped) → ((place : ℕ) → row ≡ Some place → (chosen : Chosen) → t.call.chosen ≡ Some chosen → IsUnlicensed chosen t.call.number t.ledger.rows place) → AreWithin t → RowsAreLicensed t → RowsAreLicensed (step.committed_over over row moment t)
licensed_over over None moment s t off within old = old
licensed_over true (Some place) moment s t off within old = licensed_commit place moment t within (off place refl) old
licensed_over false (Some place) moment s t off within old = old

licensed_place : (row : LiveRow) (placed : Placed) (s : Stepped) → IsSound s → RowsAreLicensed s → RowsAreLicensed (step.placed_row_live row placed s)
licensed_place row placed s sound old = record {
  ends = λ chosen e.
      quiet_step chosen s.call.number s.ledger.rows (changed_at (placed_row placed) s.ledger.rows row.place) s.call.attempts.sent sound.chained.within
      (placed_quiet chosen s.call.number s.call.attempts.sent placed s.ledger.rows row.place) (old.ends chosen e);
  waiting = λ chosen e has none.
      quiet_waiting chosen s.call.number s.ledger.rows (changed_at (placed_row placed) s.ledger.rows row.place) s.call.attempts.sent s.call.attempts.forced s.call.attempts.delayed
      (placed_quiet chosen s.call.number s.call.attempts.sent placed s.ledger.rows row.place) (λ number h. placed_asked s.call.number placed s.ledger.rows row.place number h) (old.waiting chosen e has none);
}

later_retry : (p : CallPlan) (b : Bool) → is_retry (if b then kind.First else later_kind p) ≡ true → b ≡ false
later_retry p true e = absurd (let no : false ≡ true = e in cc)
later_retry p false e = refl

made_free : (s : Stepped) (due : ℕ) → next_due s.call ≡ Some due → IsSound s → (o : Option ℕ) → s.call.attempts.committed ≡ o → s.call.attempts.committed ≡ None
made_free s due e sound None c = c
made_free s due e sound (Some p) c =
    absurd (let no : true ≡ false = sym (sound.kept.committed p c).stopped ∙ not_stopped (call_plan s.call) s.call.attempts due e in cc)

made_retry : (chosen : Chosen) (due : ℕ) (s : Stepped) → next_due s.call ≡ Some due → s.call.chosen ≡ Some chosen → has_retries chosen.plan ≡ true → (s.call.attempts.sent == 0) ≡ false → (number : ℕ) → number ≡ s.call.attempts.sent + 1 → LicensesWait chosen s.call.number s.ledger.rows s.call.attempts.sent s.call.attempts.forced s.call.attempts.delayed → IsRetryOf chosen s.call.number s.ledger.rows number due
made_retry chosen due s e known has some number same waiting = pending_of (waiting.pending due (due_forced (call_plan s.call) s.call.attempts due (ap hedges (known_plan s chosen known) ∙ no_hedge chosen.plan has) e))
  where
    pending_of : (s.call.attempts.sent ≡ 0) ⊎ IsRetryOf chosen s.call.number s.ledger.rows (s.call.attempts.sent + 1) due → IsRetryOf chosen s.call.number s.ledger.rows number due
    pending_of (inl zero_is) = absurd (let no : true ≡ false = sym (eq-eqb s.call.attempts.sent 0 zero_is) ∙ some in cc)
    pending_of (inr h) = subst (λ (k : ℕ). IsRetryOf chosen s.call.number s.ledger.rows k due) (sym same) h

licensed_made : (due : ℕ) (s : Stepped) → next_due s.call ≡ Some due → IsSound s → RowsAreLicensed s → RowsAreLicensed (step.made due s)
licensed_made due s e sound old =
    let owner : ℕ = s.call.number in
    let rows : List Row = s.ledger.rows in
    let a : Attempts = s.call.attempts in
    let plan : CallPlan = call_plan s.call in
    let below : a.sent < most_attempts plan = leb-false (most_attempts plan) a.sent (below_most plan a due e) in
    let limit : most_attempts plan ≤ 4294967295 = sound.numbered.limit in
    let number : min (a.sent + 1) 4294967295 ≡ a.sent + 1 = min-eq_left (omega (arith, below, limit)) in
    let new : Row = new_row owner (min (a.sent + 1) 4294967295) (kind_of_next plan a) due None in
    let off : StaysUnfollowed owner rows new = plain_stays owner rows new (not_transparent plan (a.sent == 0)) in
    let free : a.committed ≡ None = made_free s due e sound a.committed refl in
    record {
      ends = λ chosen known.
          licenses_more chosen owner rows new off refl
          (λ has retry. made_retry chosen due s e known has (later_retry plan (a.sent == 0) retry) (min (a.sent + 1) 4294967295) number (old.waiting chosen known has free))
          (old.ends chosen known);
      waiting = λ chosen known has none. record {
        pending = λ d h. absurd (let no : None ≡ Some d = h in cc);
        asked = made_asked owner rows new a.sent a.delayed (min (a.sent + 1) 4294967295) off refl number sound.chained.within (old.waiting chosen known has free).asked;
      };
    }
  where
    made_asked : (owner : ℕ) (rows : List Row) (new : Row) (sent delayed now : ℕ) → StaysUnfollowed owner rows new → new.ended ≡ None → now ≡ sent + 1 → ((q : ℕ) (row : Row) → IsRowOf owner rows q row → row.number ≤ sent) → IsLastAsked owner rows (sent + 1) delayed → IsLastAsked owner (rows ++ new ∷ []) (now + 1) delayed
    made_asked owner rows new sent delayed now off new_open same within last = record {
      most = λ k h less.
          let was : IsAsked owner rows k = asked_less owner rows new k new_open h in
          let le : was.has.row.number ≤ sent = within was.place was.has.row was.has.is in
          let number : was.has.row.number ≡ k = was.same in
          last.most k was (omega (arith, le, number));
      there = there_case last.there;
    }
      where
        there_case : (delayed ≡ 0) ⊎ ((delayed < sent + 1) × IsAsked owner rows delayed) → (delayed ≡ 0) ⊎ ((delayed < now + 1) × IsAsked owner (rows ++ new ∷ []) delayed)
        there_case (inl h) = inl h
        there_case (inr both) = inr ((let less : delayed < sent + 1 = both.0 in omega (arith, less, same)), asked_more owner rows new delayed off both.1)

found_unlicensed : (place : ℕ) (s : Stepped) → (x : LiveRow) × (find_live place s.call.live ≡ Some x) → IsSound s → (chosen : Chosen) → IsUnlicensed chosen s.call.number s.ledger.rows place
found_unlicensed place s found sound chosen =
    subst (λ (k : ℕ). IsUnlicensed chosen s.call.number s.ledger.rows k) (found_place place s.call.live found.0 found.1) (live_unlicensed chosen place found.0 s found.1 sound.apart)

tested_stopped : (p : CallPlan) (a : Attempts) → is_tested p a ≡ true → is_tested p (stopped_attempts a) ≡ true
tested_stopped plans.None a e = e
tested_stopped (plans.Retry policy) a e = e
tested_stopped (plans.Hedge policy) a e = e

pub licensed_new : (number : ℕ) (request : RequestSeen) (begun : ℕ) (ledger : Ledger) (tokens : Option Bucket) (acts : List CallAct) → RowsAreLicensed (step.lent (new_call number request begun) ledger tokens acts)
licensed_new number request begun ledger tokens acts = record { ends = λ chosen e. absurd (cc); waiting = λ chosen e. absurd (cc) }

pub licensed_moves : Moves (λ chosen. Unit {0}) (λ s row reported. is_cut reported.cause ≡ false) (λ moment s t. IsSound s → RowsAreLicensed s → RowsAreLicensed t)
licensed_moves = record {
  same = λ moment s sound old. old;
  configured = λ chosen moment s known e fresh sound old. licensed_chosen chosen moment s fresh sound;
  over_limit = λ chosen moment s known e fresh sound old. licensed_end ends.Request moment (with_chosen chosen moment s) sound.chained.within (licensed_chosen chosen moment s fresh sound);
  ended = λ why moment s by e sound old. licensed_end why moment s sound.chained.within old;
  too_large = λ row moment s e sound old. licensed_end ends.Response moment s sound.chained.within old;
  head = λ place row meta moment s e sound old. licensed_head place row meta moment s (is_some s.call.attempts.committed) e sound old;
  message = λ row octets moment s sound old. licensed_message octets s (is_committed_live row s.call) old;
  row_ended = λ place row reported moment word s e uncut sound old. licensed_live place row reported moment word s (is_followed s.call.attempts reported.cause reported.unseen) e uncut sound old;
  placed = λ place row placed s entry e free sound old. licensed_place row placed s sound old;
  refused = λ due moment s e passed tested sound old.
      let t : Stepped = step.with_attempts (stopped_attempts s.call.attempts) s in
      licensed_by_last s.call.attempts.last moment t sound.chained.within (tested_stopped (call_plan s.call) s.call.attempts tested) (licensed_same s t refl refl refl refl refl refl refl old);
  made = λ due moment s e passed sound old. licensed_made due s e sound old;
  accepted = λ message moment s e room sound old.
      let row : Option ℕ = furthest s.call.buffer s.call.live in
      let t : Stepped = record s { call = with_message message row s.call } in
      licensed_over (pushed_over s.call.buffer (framed message) row) row moment s t (λ place h chosen known. found_unlicensed place s (furthest_found s.call.buffer s.call.live place h) sound chosen)
      sound.chained.within (licensed_same s t refl refl refl refl refl refl refl old);
}

-- what is done to other calls
elsewhere_committed : (owner : ℕ) (rows after : List Row) → KeepsFollowers owner rows after → (place : ℕ) (old new : Row) → IsRowOf owner rows place old → IsRowOf owner after place new → new.committed ≡ old.committed
elsewhere_committed owner rows after keeps place old new is_old is_new =
    let was : WasFollower owner rows place new = keeps.back place new is_new in
    was.committed ∙ ap (λ (r : Row). r.committed) (one_row owner rows place was.row old was.is is_old)

elsewhere_like : (owner : ℕ) (rows after : List Row) → KeepsFollowers owner rows after → AreSameRows owner rows after
elsewhere_like owner rows after keeps = record {
  to = λ place row is. let now : IsKeptAt owner after place row = keeps.there place row is in (now.row, (now.is, now.kept));
  back = λ place row is.
      let was : WasFollower owner rows place row = keeps.back place row is in
      let now : IsKeptAt owner after place was.row = keeps.there place was.row was.is in
      (was.row, (was.is, subst (λ (r : Row). IsKeptRow was.row r) (one_row owner after place now.row row now.is is) now.kept));
}

elsewhere_ended : (owner : ℕ) (rows after : List Row) → KeepsFollowers owner rows after → (place : ℕ) (row : Row) → IsRowOf owner after place row → (end : RowEnd) → row.ended ≡ Some end → IsEndedIn owner rows place end
elsewhere_ended owner rows after keeps place row is end e =
    let was : WasFollower owner rows place row = keeps.back place row is in record { row = was.row; is = was.is; ended = sym was.ended ∙ e }

elsewhere_quiet : (chosen : Chosen) (owner sent : ℕ) (rows after : List Row) → KeepsFollowers owner rows after → IsQuietStep chosen owner rows after sent
elsewhere_quiet chosen owner sent rows after keeps = record {
  like = elsewhere_like owner rows after keeps;
  ends = λ place row is end e. inl (elsewhere_ended owner rows after keeps place row is end e);
  stays = λ place old new is_old is_new stamp e. elsewhere_committed owner rows after keeps place old new is_old is_new ∙ e;
  free = λ place old new is_old is_new end e h. elsewhere_committed owner rows after keeps place old new is_old is_new ∙ h.free;
}

pub licensed_elsewhere : (s : Stepped) (ledger : Ledger) → KeepsFollowers s.call.number s.ledger.rows ledger.rows → RowsAreChained s → RowsAreLicensed s → RowsAreLicensed (record s { ledger = ledger })
licensed_elsewhere s ledger keeps chained old = record {
  ends = λ chosen e.
      quiet_step chosen s.call.number s.ledger.rows ledger.rows s.call.attempts.sent chained.within (elsewhere_quiet chosen s.call.number s.call.attempts.sent s.ledger.rows ledger.rows keeps) (old.ends chosen e);
  waiting = λ chosen e has none.
      quiet_waiting chosen s.call.number s.ledger.rows ledger.rows s.call.attempts.sent s.call.attempts.forced s.call.attempts.delayed
      (elsewhere_quiet chosen s.call.number s.call.attempts.sent s.ledger.rows ledger.rows keeps)
      (λ number h. asked_still s.call.number s.ledger.rows ledger.rows number (elsewhere_like s.call.number s.ledger.rows ledger.rows keeps) (λ place row is end e counted. elsewhere_ended s.call.number s.ledger.rows ledger.rows keeps place row is end e) h)
      (old.waiting chosen e has none);
}
