-- Which ends a transparent retry follows, through all that is done to a call.
use Rattle.std.proofs.Common.{◌≡◌, ◌≤◌, ◌<◌, ℕ, ◌+◌, Bool, true, false, not, ◌&&◌, ◌||◌, ◌==◌, if◌then◌else◌, min, Option, Some, None, is_some, List, [], ◌∷◌, ◌++◌, refl, sym, ap, subst, ◌∙◌, ◌⊎◌, inl, inr, arith, eq-eqb}
use Rattle.grpc_base.specs.Requests.{RequestSeen}
use Rattle.grpc_base.specs.declared.event.EndCause.{EndCause}
use Rattle.grpc_base.specs.declared.event.EndCause.TheVariants as ends
use Rattle.grpc_base.specs.declared.fields.Field.{Field}
use Rattle.grpc_base.specs.declared.plan.CallPlan.{CallPlan}
use Rattle.grpc_base.specs.declared.plan.CallPlan.TheVariants as plans
use Rattle.attempt_ledger.specs.TransparentRows.{comes_before, is_by_peer, is_refused, is_unsent}
use Rattle.attempt_ledger.specs.declared.ledger.Ledger.{Ledger}
use Rattle.attempt_ledger.specs.declared.news.EndNews.{EndNews}
use Rattle.attempt_ledger.specs.declared.row.Row.{Row}
use Rattle.attempt_ledger.specs.declared.row.RowCause.{RowCause}
use Rattle.attempt_ledger.specs.declared.row.RowCause.TheVariants as cause
use Rattle.attempt_ledger.specs.declared.row.RowEnd.{RowEnd}
use Rattle.attempt_ledger.specs.declared.row.RowKind.TheVariants as kind
use Rattle.ledger_stamps.specs.Steps.{changed_at, committed_row, ended_row, placed_row}
use Rattle.a6_numbers.specs.Throttling.{Bucket}
use Rattle.grpc_frame.specs.Messages.{framed}
use Rattle.call_core.specs.declared.act.CallAct.{CallAct}
use Rattle.call_core.specs.declared.attempts.Attempts.{Attempts}
use Rattle.call_core.specs.declared.judge.Judged.{Judged}
use Rattle.call_core.specs.declared.live.LiveRow.{LiveRow}
use Rattle.call_core.specs.Commitments.{HasOwnEnd, IsCommittedOnce, IsInChain, IsRowOf, IsStamped}
use Rattle.call_core.specs.Laws.{IsKept}
use Rattle.call_core.specs.Parts.{committed_buffer, count_of, find_live, furthest, has_none, is_above, is_followed, is_refusal, judged, kind_of_next, names, pushed_over, row_end, stopped_attempts}
use Rattle.call_core.specs.Reasons.{IsKeptRow}
use Rattle.call_core.specs.RowChains.{RowsAreChained}
use Rattle.call_core.specs.RowFollowers.{AreFollowing, HasEndIn, HasSpent, HaveFollowers, IsCommittedBy, IsTakenBefore, IsReported, IsUnfollowed}
use Rattle.call_core.specs.Rows.{IsApart, IsStanding, row_in}
use Rattle.call_core.specs.Steps as step
use Rattle.call_core.specs.Steps.{Stepped, call_plan, is_committed_live, judged_of, left_live, new_call, new_row, next_due, settled, stamp_if, with_chosen, with_judged, with_message}
use Rattle.call_core.proofs.Alike.{all_changed_at}
use Rattle.call_core.proofs.Cuts.{row_below}
use Rattle.call_core.proofs.Finding.{found_place, furthest_found}
use Rattle.call_core.proofs.Following.{retried_by}
use Rattle.call_core.proofs.Keeping.{found_at}
use Rattle.call_core.proofs.KeptReasons.{kept_write}
use Rattle.call_core.proofs.Moves.{Moves}
use Rattle.call_core.proofs.Numbers.{not_transparent}
use Rattle.call_core.proofs.RowLaws.Chains.{last_found}
use Rattle.call_core.proofs.RowLaws.Followers.{IsFreshEnd, following_step, one_row, same_rows}
use Rattle.call_core.proofs.RowLaws.Made.{following_retry, plain_more}
use Rattle.call_core.proofs.RowLaws.Writes.{cuts_fair, ended_fair, following_later, placed_fair, stamp_fair, unfollowed_like, with_newest}
use Rattle.call_core.proofs.Standing.{found_stands}

-- a live row isn't followed
pub live_unfollowed : (place : ℕ) (row : LiveRow) (s : Stepped) → find_live place s.call.live ≡ Some row → IsApart s → RowsAreChained s → IsUnfollowed s.call.number s.ledger.rows row.place
live_unfollowed place row s f apart chained = λ r is follows.
    let one : IsStanding s.call.number s.ledger.rows row = found_stands s.call.number s.ledger.rows place s.call.live row apart.tied f in
    let same : one.row ≡ r = one_row s.call.number s.ledger.rows row.place one.row r (record { there = one.there; call = one.call }) is in
    let number : r.number ≡ row.number = ap (λ (x : Row). x.number) (sym same) ∙ one.number in
    let le : follows.later ≤ row.place = last_found s.call.number s.ledger.rows place s.call.live row chained.last f follows.later follows.next follows.is (follows.same ∙ number) in
    let order : row.place < follows.later = follows.order in
    omega (arith, le, order)

-- commitment and end
following_commit : (at place moment : ℕ) (s : Stepped) → at ≡ s.ledger.entry → IsUnfollowed s.call.number s.ledger.rows place → AreFollowing at s → AreFollowing at (step.committed place moment s)
following_commit at place moment s e off old =
    let owner : ℕ = s.call.number in
    let a : Attempts = s.call.attempts in
    let stamped_rows : List Row = (step.commit_stamped place s.ledger).rows in
    let first : HaveFollowers at owner stamped_rows a.is_refusal_followed a.last =
    subst (λ (k : ℕ). HaveFollowers at owner (changed_at (committed_row k) s.ledger.rows place) a.is_refusal_followed a.last) e
    (following_step at owner s.ledger.rows (changed_at (committed_row at) s.ledger.rows place) a.is_refusal_followed a.last (stamp_fair at owner s.ledger.rows place off) old) in
    following_step at owner stamped_rows (step.committed place moment s).ledger.rows a.is_refusal_followed a.last
    (cuts_fair at owner (Some place) moment (count_of s.tokens) s.call.live (step.commit_stamped place s.ledger)) first

following_end : (at : ℕ) (why : EndCause) (moment : ℕ) (s : Stepped) → AreFollowing at s → AreFollowing at (step.ended_as why moment s)
following_end at why moment s old =
    following_step at s.call.number s.ledger.rows (step.ended_as why moment s).ledger.rows s.call.attempts.is_refusal_followed s.call.attempts.last
    (cuts_fair at s.call.number None moment (count_of s.tokens) s.call.live s.ledger) old

following_by_row : (at place moment : ℕ) (s : Stepped) → at ≡ s.ledger.entry → IsUnfollowed s.call.number s.ledger.rows place → AreFollowing at s → AreFollowing at (step.ended_by_row place moment s)
following_by_row at place moment s e off old = following_end at ends.Row moment (step.committed place moment s) (following_commit at place moment s e off old)

-- what a transparent retry follows
pub record IsRefusedFree (a : Attempts) (why : RowCause) (unseen : Bool) : Type 0 where
  pub refused : (unseen && is_by_peer why) ≡ true
  pub free : a.committed ≡ None
  pub unspent : a.is_refusal_followed ≡ false

none_of : {X : Type 0} (o : Option X) → not (is_some o) ≡ true → o ≡ None
none_of None e = refl
none_of (Some x) e = absurd (cc)

parts_of : (a : Attempts) (why : RowCause) (unseen : Bool) (unsent peer u n f : Bool) → is_unsent why ≡ unsent → is_by_peer why ≡ peer → unseen ≡ u → not (is_some a.committed) ≡ n → a.is_refusal_followed ≡ f → (unsent || (peer && u && n && not f)) ≡ true → (is_unsent why ≡ true) ⊎ IsRefusedFree a why unseen
parts_of a why unseen true peer u n f h1 h2 h3 h4 h5 e = inl h1
parts_of a why unseen false true true true false h1 h2 h3 h4 h5 e =
    inr (record { refused = ap (λ (b : Bool). b && is_by_peer why) h3 ∙ h2; free = none_of a.committed h4; unspent = h5 })
parts_of a why unseen false false u n f h1 h2 h3 h4 h5 e = absurd (cc)
parts_of a why unseen false true false n f h1 h2 h3 h4 h5 e = absurd (cc)
parts_of a why unseen false true true false f h1 h2 h3 h4 h5 e = absurd (cc)
parts_of a why unseen false true true true true h1 h2 h3 h4 h5 e = absurd (cc)

follow_parts : (a : Attempts) (why : RowCause) (unseen : Bool) → is_followed a why unseen ≡ true → (is_unsent why ≡ true) ⊎ IsRefusedFree a why unseen
follow_parts a why unseen e =
    parts_of a why unseen (is_unsent why) (is_by_peer why) unseen (not (is_some a.committed)) a.is_refusal_followed refl refl refl refl refl (sym (retried_by a why unseen) ∙ e)

-- why none follows
unfollowed_parts : (a : Attempts) (why : RowCause) (unseen : Bool) (peer u n f : Bool) → is_by_peer why ≡ peer → unseen ≡ u → is_some a.committed ≡ n → a.is_refusal_followed ≡ f → (unseen && is_by_peer why) ≡ true → (is_unsent why || (peer && u && not n && not f)) ≡ false → (is_some a.committed ≡ true) ⊎ (a.is_refusal_followed ≡ true)
unfollowed_parts a why unseen peer u true f h1 h2 h3 h4 r e = inl h3
unfollowed_parts a why unseen peer u false true h1 h2 h3 h4 r e = inr h4
unfollowed_parts a why unseen true true false false h1 h2 h3 h4 r e = absurd (let no : true ≡ false = sym (or_last (is_unsent why)) ∙ e in cc)
  where
    or_last : (b : Bool) → (b || true) ≡ true
    or_last true = refl
    or_last false = refl
unfollowed_parts a why unseen false u false false h1 h2 h3 h4 r e = absurd (let no : false ≡ true = sym (and_last unseen) ∙ ap (λ (b : Bool). unseen && b) (sym h1) ∙ r in cc)
  where
    and_last : (b : Bool) → (b && false) ≡ false
    and_last true = refl
    and_last false = refl
unfollowed_parts a why unseen true false false false h1 h2 h3 h4 r e = absurd (let no : false ≡ true = ap (λ (b : Bool). b && is_by_peer why) (sym h2) ∙ r in cc)

stamp_of : (o : Option ℕ) → is_some o ≡ true → (k : ℕ) × (o ≡ Some k)
stamp_of None e = absurd (cc)
stamp_of (Some k) e = (k, refl)

stamped_some : (at : ℕ) (s : Stepped) (o : Option ℕ) → s.call.attempts.committed ≡ o → is_some o ≡ true → IsCommittedOnce s → AreFollowing at s → IsCommittedBy s.call.number s.ledger.rows at
stamped_some at s None c e once old = absurd (cc)
stamped_some at s (Some place) c e once old =
    let one : IsStamped s.call.number s.ledger.rows place = once.stamped place c in
    let stamp : (k : ℕ) × (one.row.committed ≡ Some k) = stamp_of one.row.committed one.stamped in
    record { place = place; row = one.row; is = one.is; stamp = stamp.0; committed = stamp.1; order = old.stamped_at place one.row one.is stamp.0 stamp.1 }

refused_why : (at : ℕ) (row : LiveRow) (reported : EndNews) (end : RowEnd) (s : Stepped) → end.entry ≡ at → at ≡ s.ledger.entry → end.seen ≡ reported.seen → is_by_peer reported.cause ≡ true → IsReported s row reported → IsCommittedOnce s → AreFollowing at s → (is_some s.call.attempts.committed ≡ true) ⊎ (s.call.attempts.is_refusal_followed ≡ true) → IsTakenBefore s.call.number s.ledger.rows row.place end ⊎ IsCommittedBy s.call.number s.ledger.rows end.entry
refused_why at row reported end s e now seen by_peer in_order once old (inl c) =
    inr (subst (λ (k : ℕ). IsCommittedBy s.call.number s.ledger.rows k) (sym e) (stamped_some at s s.call.attempts.committed refl c once old))
refused_why at row reported end s e now seen by_peer in_order once old (inr f) =
    let has : HasSpent s.call.number s.ledger.rows = old.spent_by f in
    inl (record {
      other = has.place;
      earlier = has.end;
      spent = has.spent;
      order =
          before_same has.end end (row_end reported s.ledger.entry 0 None) has.place row.place (e ∙ now) seen
          (in_order by_peer has.place has.end has.spent.has has.spent.by_peer);
    })
  where
    before_same : (earlier end other : RowEnd) (place afterwards : ℕ) → end.entry ≡ other.entry → end.seen ≡ other.seen → comes_before earlier place other afterwards ≡ true → comes_before earlier place end afterwards ≡ true
    before_same earlier end other place afterwards entry seen h =
        ap (λ (k : ℕ). comes_before earlier place (record end { entry = k }) afterwards) entry
        ∙ ap (λ (k : ℕ). comes_before earlier place (record end { entry = other.entry; seen = k }) afterwards) seen ∙ h

-- an end that counts
peer_part : (u p : Bool) → (u && p) ≡ true → p ≡ true
peer_part true p e = e
peer_part false p e = absurd (cc)

or_true_first : (a b : Bool) → a ≡ true → (a || b) ≡ true
or_true_first true b e = refl
or_true_first false b e = absurd (cc)

fresh_end : (at place : ℕ) (row : LiveRow) (reported : EndNews) (end : RowEnd) (s : Stepped) → end.entry ≡ at → at ≡ s.ledger.entry → end.cause ≡ reported.cause → end.unseen ≡ reported.unseen → end.seen ≡ reported.seen → is_followed s.call.attempts reported.cause reported.unseen ≡ false → (f : find_live place s.call.live ≡ Some row) → IsReported s row reported → IsApart s → IsCommittedOnce s → RowsAreChained s → AreFollowing at s → (r : Row) → IsRowOf s.call.number s.ledger.rows row.place r → IsFreshEnd s.call.number s.ledger.rows row.place r.number end
fresh_end at place row reported end s e now same_cause same_unseen same_seen never f in_order apart once chained old r is =
    let a : Attempts = s.call.attempts in
    let not_retried : (is_unsent reported.cause || (is_by_peer reported.cause && reported.unseen && not (is_some a.committed) && not a.is_refusal_followed)) ≡ false =
    sym (retried_by a reported.cause reported.unseen) ∙ never in
    record {
      duly = record {
        unsent = λ h.
            absurd (let no : true ≡ false =
            sym (or_true_first (is_unsent reported.cause) (is_by_peer reported.cause && reported.unseen && not (is_some a.committed) && not a.is_refusal_followed) (ap (λ (c : RowCause). is_unsent c) (sym same_cause) ∙ h)) ∙ not_retried in cc);
        refused = λ h.
            let reported_refused : (reported.unseen && is_by_peer reported.cause) ≡ true =
            ap (λ (b : Bool). b && is_by_peer reported.cause) (sym same_unseen) ∙ ap (λ (c : RowCause). end.unseen && is_by_peer c) (sym same_cause) ∙ h in
            inr (refused_why at row reported end s e now same_seen (peer_part reported.unseen (is_by_peer reported.cause) reported_refused) in_order once old
            (unfollowed_parts a reported.cause reported.unseen (is_by_peer reported.cause) reported.unseen (is_some a.committed) a.is_refusal_followed refl refl refl refl reported_refused not_retried));
      };
      unfollowed = λ h follows. live_unfollowed place row s f apart chained r is follows;
    }

judged_spent : (plan : CallPlan) (a : Attempts) (number : ℕ) (is_alone : Bool) (end : RowEnd) (above : Bool) (word : ℕ) → (judged plan a number is_alone end above word).attempts.is_refusal_followed ≡ a.is_refusal_followed
judged_spent plans.None a number is_alone end above word = refl
judged_spent (plans.Retry policy) a number is_alone end above word = refl
judged_spent (plans.Hedge policy) a number is_alone end above word = refl

-- what is known besides
pub record IsWell (s : Stepped) : Type 0 where
  pub kept : IsKept s.call
  pub apart : IsApart s
  pub once : IsCommittedOnce s
  pub chained : RowsAreChained s

ended_step : (at place : ℕ) (row : LiveRow) (reported : EndNews) (end : RowEnd) (s : Stepped) → end.entry ≡ at → at ≡ s.ledger.entry → end.cause ≡ reported.cause → end.unseen ≡ reported.unseen → end.seen ≡ reported.seen → is_followed s.call.attempts reported.cause reported.unseen ≡ false → find_live place s.call.live ≡ Some row → IsReported s row reported → IsWell s → AreFollowing at s → HaveFollowers at s.call.number (changed_at (ended_row end) s.ledger.rows row.place) s.call.attempts.is_refusal_followed s.call.attempts.last
ended_step at place row reported end s e now same_cause same_unseen same_seen never f in_order well old =
    let owner : ℕ = s.call.number in
    let one : IsStanding owner s.ledger.rows row = found_stands owner s.ledger.rows place s.call.live row well.apart.tied f in
    let is : IsRowOf owner s.ledger.rows row.place one.row = record { there = one.there; call = one.call } in
    following_step at owner s.ledger.rows (changed_at (ended_row end) s.ledger.rows row.place) s.call.attempts.is_refusal_followed s.call.attempts.last
    (ended_fair at owner s.ledger.rows row.place one.row end is
    (fresh_end at place row reported end s e now same_cause same_unseen same_seen never f in_order well.apart well.once well.chained old one.row is)) old

ended_off : (place : ℕ) (row : LiveRow) (end : RowEnd) (s : Stepped) → find_live place s.call.live ≡ Some row → IsWell s → IsUnfollowed s.call.number (changed_at (ended_row end) s.ledger.rows row.place) row.place
ended_off place row end s f well =
    unfollowed_like s.call.number s.ledger.rows (changed_at (ended_row end) s.ledger.rows row.place) row.place
    (same_rows s.call.number s.ledger.rows (changed_at (ended_row end) s.ledger.rows row.place) (all_changed_at IsKeptRow kept_write (ended_row end) (λ r. kept_write.ended end r) s.ledger.rows row.place)) (live_unfollowed place row s f well.apart well.chained)

following_closed : (at place : ℕ) (row : LiveRow) (reported : EndNews) (end : RowEnd) (moment word : ℕ) (s : Stepped) (b : Bool) → end.entry ≡ at → at ≡ s.ledger.entry → end.cause ≡ reported.cause → end.unseen ≡ reported.unseen → end.seen ≡ reported.seen → is_followed s.call.attempts reported.cause reported.unseen ≡ false → find_live place s.call.live ≡ Some row → IsReported s row reported → IsWell s → AreFollowing at s → AreFollowing at (step.closed_if b row.place moment (with_judged row end (judged_of row end word (left_live row.place s).call (settled reported (left_live row.place s)).tokens) (settled reported (left_live row.place s))))
following_closed at place row reported end moment word s b e now same_cause same_unseen same_seen never f in_order well old =
    let owner : ℕ = s.call.number in
    let v : Stepped = settled reported (left_live row.place s) in
    let after : Judged = judged_of row end word v.call v.tokens in
    let last : RowEnd = record end { word = after.word } in
    let rows : List Row = changed_at (ended_row last) s.ledger.rows row.place in
    let w : Stepped = with_judged row end after v in
    let off : IsUnfollowed owner rows row.place = ended_off place row last s f well in
    let first : HaveFollowers at owner rows s.call.attempts.is_refusal_followed s.call.attempts.last = ended_step at place row reported last s e now same_cause same_unseen same_seen never f in_order well old in
    let second : HaveFollowers at owner rows s.call.attempts.is_refusal_followed (Some row.place) = with_newest at owner rows s.call.attempts.is_refusal_followed s.call.attempts.last row.place off first in
    let one : AreFollowing at w =
    subst (λ (x : Bool). HaveFollowers at owner rows x (Some row.place)) (sym (judged_spent (call_plan s.call) s.call.attempts row.number (has_none v.call.live) end (is_above v.tokens) word)) second in
    elim b as (λ c. AreFollowing at (step.closed_if c row.place moment w)) [ true ↦ following_by_row at row.place moment w now off one | false ↦ one ]

following_counted : (at place : ℕ) (row : LiveRow) (reported : EndNews) (moment word : ℕ) (s : Stepped) (o : Option ℕ) → at ≡ s.ledger.entry → is_followed s.call.attempts reported.cause reported.unseen ≡ false → find_live place s.call.live ≡ Some row → IsReported s row reported → IsWell s → AreFollowing at s → AreFollowing at (if is_some o then step.ended_as ends.Row moment (step.row_ended row.place (row_end reported s.ledger.entry moment (count_of (settled reported (left_live row.place s)).tokens)) (settled reported (left_live row.place s))) else step.counted_free row (row_end reported s.ledger.entry moment (count_of (settled reported (left_live row.place s)).tokens)) moment word (settled reported (left_live row.place s)))
following_counted at place row reported moment word s (Some p) now never f in_order well old =
    let v : Stepped = settled reported (left_live row.place s) in
    let end : RowEnd = row_end reported s.ledger.entry moment (count_of v.tokens) in
    following_end at ends.Row moment (step.row_ended row.place end v) (ended_step at place row reported end s (sym now) now refl refl refl never f in_order well old)
following_counted at place row reported moment word s None now never f in_order well old =
    let v : Stepped = settled reported (left_live row.place s) in
    let end : RowEnd = row_end reported s.ledger.entry moment (count_of v.tokens) in
    following_closed at place row reported end moment word s (judged_of row end word v.call v.tokens).closes (sym now) now refl refl refl never f in_order well old

-- an end that is followed
or_right : (a b : Bool) → b ≡ true → (a || b) ≡ true
or_right true b e = refl
or_right false b e = e

or_split : (a b : Bool) → (a || b) ≡ true → (a ≡ true) ⊎ (b ≡ true)
or_split true b e = inl refl
or_split false b e = inr e

refusal_peer : (c : RowCause) → is_refusal c ≡ is_by_peer c
refusal_peer cause.Status = refl
refusal_peer cause.Http = refl
refusal_peer cause.Reset = refl
refusal_peer cause.Framing = refl
refusal_peer cause.Lost = refl
refusal_peer cause.Goaway = refl
refusal_peer cause.Unsent = refl
refusal_peer cause.Pick = refl
refusal_peer cause.Cut = refl

unsent_peer : (c : RowCause) → is_unsent c ≡ true → is_by_peer c ≡ true → ⊥
unsent_peer cause.Unsent e h = let no : false ≡ true = h in cc
unsent_peer cause.Status e h = let no : false ≡ true = e in cc
unsent_peer cause.Http e h = let no : false ≡ true = e in cc
unsent_peer cause.Reset e h = let no : false ≡ true = e in cc
unsent_peer cause.Framing e h = let no : false ≡ true = e in cc
unsent_peer cause.Lost e h = let no : false ≡ true = e in cc
unsent_peer cause.Goaway e h = let no : false ≡ true = e in cc
unsent_peer cause.Pick e h = let no : false ≡ true = e in cc
unsent_peer cause.Cut e h = let no : false ≡ true = e in cc

cause_case : (reported : EndNews) (end : RowEnd) (a : Attempts) → end.cause ≡ reported.cause → end.unseen ≡ reported.unseen → (is_unsent reported.cause ≡ true) ⊎ IsRefusedFree a reported.cause reported.unseen → (is_unsent end.cause ≡ true) ⊎ (is_refused end ≡ true)
cause_case reported end a c u (inl e) = inl (ap (λ (x : RowCause). is_unsent x) c ∙ e)
cause_case reported end a c u (inr r) = inr (ap (λ (b : Bool). b && is_by_peer end.cause) u ∙ ap (λ (x : RowCause). reported.unseen && is_by_peer x) c ∙ r.refused)

free_when : (why : RowCause) (unseen : Bool) (a : Attempts) → is_by_peer why ≡ true → (is_unsent why ≡ true) ⊎ IsRefusedFree a why unseen → IsRefusedFree a why unseen
free_when why unseen a by (inl e) = absurd (unsent_peer why e by)
free_when why unseen a by (inr r) = r

pub none_stamped : (s : Stepped) → IsCommittedOnce s → s.call.attempts.committed ≡ None → (q : ℕ) (other : Row) → IsRowOf s.call.number s.ledger.rows q other → other.committed ≡ None
none_stamped s once free q other is = none_case other.committed refl
  where
    none_case : (o : Option ℕ) → other.committed ≡ o → other.committed ≡ None
    none_case None e = e
    none_case (Some k) e =
        let c : IsInChain s q other = once.chain q other is (ap (λ (x : Option ℕ). is_some x) e) in
        absurd (let no : None ≡ Some c.last = sym free ∙ c.is_last in cc)

stamp_entry : (b : Bool) (at k : ℕ) → stamp_if b at ≡ Some k → k ≡ at
stamp_entry true at k e = let same : at ≡ k = (cc) in sym same
stamp_entry false at k e = absurd (cc)

inherits_by : (place : ℕ) (row : LiveRow) (s : Stepped) (r : Row) (o : Option ℕ) → r.committed ≡ o → find_live place s.call.live ≡ Some row → IsRowOf s.call.number s.ledger.rows row.place r → IsWell s → (r.committed ≡ None) ⊎ (stamp_if (names row.place s.call.attempts.committed) s.ledger.entry ≡ Some s.ledger.entry)
inherits_by place row s r None e f is well = inl e
inherits_by place row s r (Some k) e f is well =
    let c : IsInChain s row.place r = well.once.chain row.place r is (ap (λ (x : Option ℕ). is_some x) e) in
    let at : row.place ≡ c.last = found_at c.last place s.call.live row (well.kept.committed c.last c.is_last).live f in
    inr (ap (λ (o : Option ℕ). stamp_if (names row.place o) s.ledger.entry) c.is_last ∙ ap (λ (b : Bool). stamp_if b s.ledger.entry) (eq-eqb c.last row.place (sym at)))

own_end : (s : Stepped) (q : ℕ) → IsCommittedOnce s → s.call.attempts.last ≡ Some q → HasEndIn s.call.number s.ledger.rows q
own_end s q once e = let has : HasOwnEnd s.call.number s.ledger.rows q = once.last q e in record { row = has.row; is = has.is; end = has.end; ended = has.ended }

following_followed : (at place : ℕ) (row : LiveRow) (reported : EndNews) (moment : ℕ) (s : Stepped) → at ≡ s.ledger.entry → is_followed s.call.attempts reported.cause reported.unseen ≡ true → find_live place s.call.live ≡ Some row → IsWell s → AreFollowing at s → AreFollowing at (step.followed row reported moment (left_live row.place s))
following_followed at place row reported moment s now follows f well old =
    let owner : ℕ = s.call.number in
    let rows : List Row = s.ledger.rows in
    let a : Attempts = s.call.attempts in
    let end : RowEnd = row_end reported s.ledger.entry moment (count_of s.tokens) in
    let new : Row = new_row owner row.number kind.Transparent moment (stamp_if (names row.place a.committed) s.ledger.entry) in
    let one : IsStanding owner rows row = found_stands owner rows place s.call.live row well.apart.tied f in
    let is : IsRowOf owner rows row.place one.row = record { there = one.there; call = one.call } in
    let why : (is_unsent reported.cause ≡ true) ⊎ IsRefusedFree a reported.cause reported.unseen = follow_parts a reported.cause reported.unseen follows in
    following_retry at owner rows row.place one.row end new a.is_refusal_followed (a.is_refusal_followed || is_refusal reported.cause) a.last
    (record {
      is = is;
      free = one.ended;
      nearest = λ q other is_q same. last_found owner rows place s.call.live row well.chained.last f q other is_q (same ∙ one.number);
      kinds = well.chained.kinds;
      call = refl;
      number = sym one.number;
      kind = refl;
      ended = refl;
      due = refl;
      cause = cause_case reported end a refl refl why;
      inherits = inherits_by place row s one.row one.row.committed refl f is well;
      entry = sym now;
      stamp = λ k e. stamp_entry (names row.place a.committed) s.ledger.entry k e ∙ sym now;
      unspent = λ by. (free_when reported.cause reported.unseen a by why).unspent;
      uncommitted = λ by.
          let free : a.committed ≡ None = (free_when reported.cause reported.unseen a by why).free in
          (ap (λ (o : Option ℕ). stamp_if (names row.place o) s.ledger.entry) free, none_stamped s well.once free);
      spends = λ by. or_right a.is_refusal_followed (is_refusal reported.cause) (refusal_peer reported.cause ∙ by);
      keeps = λ e. or_true_first a.is_refusal_followed (is_refusal reported.cause) e;
      by = λ e. by_case (or_split a.is_refusal_followed (is_refusal reported.cause) e);
      newest_ended = λ q e. own_end s q well.once e;
    })
    old
  where
    by_case : (s.call.attempts.is_refusal_followed ≡ true) ⊎ (is_refusal reported.cause ≡ true) → (s.call.attempts.is_refusal_followed ≡ true) ⊎ (is_by_peer reported.cause ≡ true)
    by_case (inl e) = inl e
    by_case (inr e) = inr (sym (refusal_peer reported.cause) ∙ e)

following_live : (at place : ℕ) (row : LiveRow) (reported : EndNews) (moment word : ℕ) (s : Stepped) (b : Bool) → is_followed s.call.attempts reported.cause reported.unseen ≡ b → at ≡ s.ledger.entry → find_live place s.call.live ≡ Some row → IsReported s row reported → IsWell s → AreFollowing at s → AreFollowing at (if b then step.followed row reported moment (left_live row.place s) else step.counted row reported moment word (settled reported (left_live row.place s)))
following_live at place row reported moment word s true e now f in_order well old = following_followed at place row reported moment s now e f well old
following_live at place row reported moment word s false e now f in_order well old = following_counted at place row reported moment word s s.call.attempts.committed now e f in_order well old

-- the other things that are done
following_head : (at place : ℕ) (row : LiveRow) (meta : List Field) (moment : ℕ) (s : Stepped) (b : Bool) → at ≡ s.ledger.entry → find_live place s.call.live ≡ Some row → IsWell s → AreFollowing at s → AreFollowing at (step.with_head meta (if b then s else step.committed place moment (record s { call = record s.call { buffer = committed_buffer place s.call.buffer } })))
following_head at place row meta moment s true now f well old = old
following_head at place row meta moment s false now f well old =
    following_commit at place moment (record s { call = record s.call { buffer = committed_buffer place s.call.buffer } }) now
    (subst (λ (k : ℕ). IsUnfollowed s.call.number s.ledger.rows k) (found_place place s.call.live row f) (live_unfollowed place row s f well.apart well.chained)) old

following_message : (at : ℕ) (octets : List ℕ) (s : Stepped) (b : Bool) → AreFollowing at s → AreFollowing at (record s { call = (if b then record s.call { inbox = record s.call.inbox { messages = s.call.inbox.messages ++ octets ∷ [] } } else s.call) })
following_message at octets s true old = old
following_message at octets s false old = old

following_by_last : (at : ℕ) (last : Option ℕ) (moment : ℕ) (s : Stepped) → s.call.attempts.last ≡ last → at ≡ s.ledger.entry → AreFollowing at s → AreFollowing at (step.ended_by_last last moment s)
following_by_last at None moment s e now old = old
following_by_last at (Some last) moment s e now old =
    elim (has_none s.call.live) as (λ b. AreFollowing at (if b then step.ended_by_row last moment s else s)) [ true ↦ following_by_row at last moment s now (old.last last e) old | false ↦ old ]

following_over : (at : ℕ) (over : Bool) (row : Option ℕ) (moment : ℕ) (s t : Stepped) → ((place : ℕ) → row ≡ Some place → IsUnfollowed s.call.number s.ledger.rows place) → at ≡ t.ledger.entry → t.call.number ≡ s.call.number → t.ledger.rows ≡ s.ledger.rows → AreFollowing at t → AreFollowing at (step.committed_over over row moment t)
following_over at over None moment s t off now number rows old = old
following_over at true (Some place) moment s t off now number rows old =
    following_commit at place moment t now
    (subst (λ (k : ℕ). IsUnfollowed k t.ledger.rows place) (sym number) (subst (λ (l : List Row). IsUnfollowed s.call.number l place) (sym rows) (off place refl))) old
following_over at false (Some place) moment s t off now number rows old = old

found_off : (place : ℕ) (s : Stepped) → (x : LiveRow) × (find_live place s.call.live ≡ Some x) → IsWell s → IsUnfollowed s.call.number s.ledger.rows place
found_off place s found well =
    subst (λ (k : ℕ). IsUnfollowed s.call.number s.ledger.rows k) (found_place place s.call.live found.0 found.1) (live_unfollowed place found.0 s found.1 well.apart well.chained)

following_made : (at due : ℕ) (s : Stepped) → IsWell s → AreFollowing at s → AreFollowing at (step.made due s)
following_made at due s well old =
    let a : Attempts = s.call.attempts in
    let new : Row = new_row s.call.number (min (a.sent + 1) 4294967295) (kind_of_next (call_plan s.call) a) due None in
    plain_more at s.call.number s.ledger.rows new a.is_refusal_followed a.last refl refl (not_transparent (call_plan s.call) (a.sent == 0))
    (λ place e. let has : HasEndIn s.call.number s.ledger.rows place = own_end s place well.once e in row_below s.ledger.rows place has.row has.is.there) old

now_following : (at : ℕ) (s : Stepped) → at ≤ s.ledger.entry → AreFollowing at s → AreFollowing s.ledger.entry s
now_following at s le old = following_later at s.ledger.entry s.call.number s.ledger.rows s.call.attempts.is_refusal_followed s.call.attempts.last le old

pub following_moves : Moves (λ chosen. Unit {0}) (λ s row reported. IsReported s row reported) (λ moment s t. (at : ℕ) → at ≤ s.ledger.entry → IsKept s.call → IsApart s → IsCommittedOnce s → RowsAreChained s → AreFollowing at s → AreFollowing s.ledger.entry t)
following_moves = record {
  same = λ moment s at le kept apart once chained old. now_following at s le old;
  configured = λ chosen moment s known e fresh at le kept apart once chained old. now_following at s le old;
  over_limit = λ chosen moment s known e fresh at le kept apart once chained old.
      following_end s.ledger.entry ends.Request moment (with_chosen chosen moment s) (now_following at s le old);
  ended = λ why moment s by e at le kept apart once chained old. following_end s.ledger.entry why moment s (now_following at s le old);
  too_large = λ row moment s e at le kept apart once chained old. following_end s.ledger.entry ends.Response moment s (now_following at s le old);
  head = λ place row meta moment s e at le kept apart once chained old.
      following_head s.ledger.entry place row meta moment s (is_some s.call.attempts.committed) refl e (record { kept = kept; apart = apart; once = once; chained = chained }) (now_following at s le old);
  message = λ row octets moment s at le kept apart once chained old. following_message s.ledger.entry octets s (is_committed_live row s.call) (now_following at s le old);
  row_ended = λ place row reported moment word s e in_order at le kept apart once chained old.
      following_live s.ledger.entry place row reported moment word s (is_followed s.call.attempts reported.cause reported.unseen) refl refl e in_order (record { kept = kept; apart = apart; once = once; chained = chained }) (now_following at s le old);
  placed = λ place row placed s entry e free at le kept apart once chained old.
      following_step s.ledger.entry s.call.number s.ledger.rows (changed_at (placed_row placed) s.ledger.rows row.place) s.call.attempts.is_refusal_followed s.call.attempts.last
      (placed_fair s.ledger.entry s.call.number placed s.ledger.rows row.place) (now_following at s le old);
  refused = λ due moment s e passed tested at le kept apart once chained old.
      following_by_last s.ledger.entry s.call.attempts.last moment (step.with_attempts (stopped_attempts s.call.attempts) s) refl refl (now_following at s le old);
  made = λ due moment s e passed at le kept apart once chained old. following_made s.ledger.entry due s (record { kept = kept; apart = apart; once = once; chained = chained }) (now_following at s le old);
  accepted = λ message moment s e room at le kept apart once chained old.
      let row : Option ℕ = furthest s.call.buffer s.call.live in
      following_over s.ledger.entry (pushed_over s.call.buffer (framed message) row) row moment s (record s { call = with_message message row s.call })
      (λ place h. found_off place s (furthest_found s.call.buffer s.call.live place h) (record { kept = kept; apart = apart; once = once; chained = chained })) refl refl refl (now_following at s le old);
}

pub following_new : (number : ℕ) (request : RequestSeen) (begun : ℕ) (ledger : Ledger) (tokens : Option Bucket) (acts : List CallAct) → ((place : ℕ) (row : Row) → row_in ledger.rows place ≡ Some row → row.call ≡ number → ⊥) → AreFollowing ledger.entry (step.lent (new_call number request begun) ledger tokens acts)
following_new number request begun ledger tokens acts none = record {
  followers = λ place row is kind. absurd (none place row is.there is.call);
  followed = λ place row is. absurd (none place row is.there is.call);
  once = λ place other end afterwards first second. absurd (none place first.has.row first.has.is.there first.has.is.call);
  free = λ place end spent. absurd (none place spent.has.row spent.has.is.there spent.has.is.call);
  spent = λ place end spent. absurd (none place spent.has.row spent.has.is.there spent.has.is.call);
  spent_by = λ e. absurd (cc);
  spent_at = λ place end spent. absurd (none place spent.has.row spent.has.is.there spent.has.is.call);
  stamped_at = λ place row is. absurd (none place row is.there is.call);
  last = λ place e. absurd (cc);
}
