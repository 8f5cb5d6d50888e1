-- Every row of a call but the first attempt has its reason among the rows before it.
use Rattle.std.proofs.Common.{◌≡◌, ◌≤◌, ◌<◌, ℕ, zero, suc, ◌+◌, ◌-◌, Bool, true, false, not, ◌&&◌, ◌==◌, if◌then◌else◌, min, max, length, Option, Some, None, is_some, List, [], ◌∷◌, ◌++◌, refl, sym, ap, subst, ◌∙◌, ◌⊎◌, inl, inr, arith, eq-eqb}
use Rattle.std.proofs.Math.Nat.{max-eq_left, min-eq_left}
use Rattle.std.proofs.lemmas.Bool.{eqb-true, leb-false}
use Rattle.std.specs.Option.{option_map, option_map_or}
use Rattle.grpc_base.specs.Codes.{has_code}
use Rattle.grpc_base.specs.Requests.{RequestSeen}
use Rattle.grpc_base.specs.declared.event.EndCause.{EndCause}
use Rattle.grpc_base.specs.declared.event.EndCause.TheVariants as ends
use Rattle.grpc_base.specs.declared.fields.Field.{Field}
use Rattle.grpc_base.specs.declared.plan.CallPlan.{CallPlan}
use Rattle.grpc_base.specs.declared.plan.CallPlan.TheVariants as plans
use Rattle.grpc_base.specs.declared.plan.Chosen.{Chosen}
use Rattle.grpc_base.specs.declared.plan.HedgePolicy.{HedgePolicy}
use Rattle.grpc_base.specs.declared.plan.Pushback.{Pushback}
use Rattle.grpc_base.specs.declared.plan.Pushback.TheVariants as pushback
use Rattle.grpc_base.specs.declared.plan.RetryPolicy.{RetryPolicy}
use Rattle.attempt_ledger.specs.Ends.{delay_of}
use Rattle.attempt_ledger.specs.Numbering.{is_transparent, most_attempts}
use Rattle.attempt_ledger.specs.TransparentRows.{is_by_peer, is_unsent}
use Rattle.attempt_ledger.specs.declared.ledger.Ledger.{Ledger}
use Rattle.attempt_ledger.specs.declared.news.EndNews.{EndNews}
use Rattle.attempt_ledger.specs.declared.next.Next.TheVariants as nexts
use Rattle.attempt_ledger.specs.declared.row.Placed.{Placed}
use Rattle.attempt_ledger.specs.declared.row.Row.{Row}
use Rattle.attempt_ledger.specs.declared.row.RowCause.{RowCause}
use Rattle.attempt_ledger.specs.declared.row.RowCause.TheVariants as causes
use Rattle.attempt_ledger.specs.declared.row.RowEnd.{RowEnd}
use Rattle.attempt_ledger.specs.declared.row.RowKind.{RowKind}
use Rattle.attempt_ledger.specs.declared.row.RowKind.TheVariants as kind
use Rattle.ledger_stamps.specs.Steps.{changed_at, committed_row, ended_row, placed_row, stamped}
use Rattle.a6_numbers.specs.Throttling.{Bucket}
use Rattle.hedge_core.specs.DueMoments.{delayed_due, forced_by, is_over}
use Rattle.hedge_core.specs.DueMoments as hedging
use Rattle.retry_core.specs.Retries.{is_licensed, retry_due}
use Rattle.grpc_frame.specs.Messages.{framed}
use Rattle.call_core.specs.declared.act.CallAct.{CallAct}
use Rattle.call_core.specs.declared.attempts.Attempts.{Attempts}
use Rattle.call_core.specs.declared.judge.Judged.{Judged}
use Rattle.call_core.specs.declared.live.LiveRow.{LiveRow}
use Rattle.call_core.specs.Commitments.{IsRowOf}
use Rattle.call_core.specs.Going.{IsGoing, hedges}
use Rattle.call_core.specs.Numbering.{IsNumbered}
use Rattle.call_core.specs.Parts.{committed_buffer, count_of, delayed_after, due_of, find_live, from_one, furthest, has_none, hedge_of, is_above, is_followed, judged, kind_of_next, later_kind, lasted_attempts, names, next_forced, next_of_plan, plan_of, pushed_over, row_end, stopped_attempts, word_of}
use Rattle.call_core.specs.Reasons.{AskedDelay, Forced, HasEnded, HasReasons, HaveReasons, IsAttemptAt, IsDelayed, IsDelayedBefore, IsForcedBefore, IsForcedThen, IsKeptRow, IsPlacedThen, IsRetryDue, IsRetryReason, KeepsReasons, Reason, WasKeptAt}
use Rattle.call_core.specs.Rows.{IsApart, IsOnLink, IsStanding, row_in}
use Rattle.call_core.specs.Steps as step
use Rattle.call_core.specs.Steps.{Stepped, call_plan, is_committed_live, judged_of, left_live, new_call, new_row, next_due, settled, stamp_if, with_chosen, with_judged, with_message}
use Rattle.call_core.proofs.Alike.{AreLike, all_changed_at, all_cut, all_joined, row_split}
use Rattle.call_core.proofs.Cuts.{row_below}
use Rattle.call_core.proofs.Going.{alone_found, due_forced}
use Rattle.call_core.proofs.Keeping.{found_some}
use Rattle.call_core.proofs.Moves.{Moves}
use Rattle.call_core.proofs.Numbers.{below_most, not_transparent}
use Rattle.call_core.proofs.Standing.{found_stands, row_changed_same, row_last, row_more}
use Rattle.call_core.proofs.KeptReasons.{AreKept, attempt_to, forced_plan, have_like, kept_committed, kept_like, kept_more, kept_placed, kept_write, none_or_asked, placed_to, reason_of, reason_to, rows_like}

-- commitment and end
have_commit : (place moment : ℕ) (s : Stepped) → HasReasons s → HasReasons (step.committed place moment s)
have_commit place moment s old =
    have_like (call_plan s.call) s.call.number s.ledger.rows (step.committed place moment s).ledger.rows s.call.attempts (step.committed place moment s).call.attempts
    (all_joined IsKeptRow kept_write s.ledger.rows (step.commit_stamped place s.ledger).rows (step.committed place moment s).ledger.rows
    (all_changed_at IsKeptRow kept_write (committed_row s.ledger.entry) (kept_committed s.ledger.entry) s.ledger.rows place)
    (all_cut IsKeptRow kept_write (Some place) moment (count_of s.tokens) s.call.live (step.commit_stamped place s.ledger)))
    refl refl refl refl refl old

have_end : (why : EndCause) (moment : ℕ) (s : Stepped) → HasReasons s → HasReasons (step.ended_as why moment s)
have_end why moment s old =
    have_like (call_plan s.call) s.call.number s.ledger.rows (step.ended_as why moment s).ledger.rows s.call.attempts (step.ended_as why moment s).call.attempts
    (all_cut IsKeptRow kept_write None moment (count_of s.tokens) s.call.live s.ledger) refl refl refl refl refl old

have_by_row : (place moment : ℕ) (s : Stepped) → HasReasons s → HasReasons (step.ended_by_row place moment s)
have_by_row place moment s old = have_end ends.Row moment (step.committed place moment s) (have_commit place moment s old)

-- the end of a live row
abbrev has_ended : (owner : ℕ) (rows : List Row) (l : LiveRow) (end : RowEnd) (one : IsStanding owner rows l) → HasEnded owner (changed_at (ended_row end) rows l.place) l.place
has_ended owner rows l end one = record {
  row = ended_row end one.row;
  is = record { there = row_changed_same (ended_row end) rows l.place one.row one.there; call = one.call };
  end = end;
  ended = ap (λ (o : Option RowEnd). stamped end o) one.ended;
}

due_is : (b : Bool) (x due : ℕ) → due_of (if b then nexts.Again x else nexts.Final) ≡ Some due → (b ≡ true) × (due ≡ x)
due_is true x due e = (refl, (cc))
due_is false x due e = absurd (cc)

word_drawn : (b : Bool) (x : ℕ) (p : Pushback) (word : ℕ) → b ≡ true → delay_of p ≡ None → word_of (if b then nexts.Again x else nexts.Final) p word ≡ Some word
word_drawn true x pushback.None word e none = refl
word_drawn true x (pushback.After millis) word e none = absurd (cc)
word_drawn true x pushback.Stop word e none = refl
word_drawn false x p word e none = absurd (cc)

retry_judged : (policy : RetryPolicy) (owner : ℕ) (rows : List Row) (l : LiveRow) (a : Attempts) (end : RowEnd) (tokens : Option Bucket) (word due : ℕ) → IsStanding owner rows l → end.tokens ≡ count_of tokens → l.number ≡ a.sent → 1 ≤ a.sent → (a.delayed ≡ 0) ⊎ AskedDelay owner rows a.delayed → (judged (plans.Retry policy) a l.number true end (is_above tokens) word).attempts.forced ≡ Some due → IsRetryDue policy owner (changed_at (ended_row (record end { word = (judged (plans.Retry policy) a l.number true end (is_above tokens) word).word })) rows l.place) a.sent due
retry_judged policy owner rows l a end tokens word due one counted same some delayed e =
    let after : Judged = judged (plans.Retry policy) a l.number true end (is_above tokens) word in
    let last : RowEnd = record end { word = after.word } in
    let rows_after : List Row = changed_at (ended_row last) rows l.place in
    let licensed : Bool = is_licensed policy (from_one l.number) end (is_above tokens) in
    let due_then : ℕ = retry_due policy (from_one (from_one l.number - a.delayed)) end word in
    let number : from_one l.number ≡ a.sent = ap (λ (k : ℕ). max k 1) same ∙ max-eq_left some in
    let both : (licensed ≡ true) × (due ≡ due_then) = due_is licensed due_then due e in
    let like : AreLike IsKeptRow rows rows_after = all_changed_at IsKeptRow kept_write (ended_row last) (λ r. kept_write.ended last r) rows l.place in
    record {
      place = l.place;
      has = has_ended owner rows l last one;
      number = one.number ∙ same;
      tokens = tokens;
      counted = counted;
      licensed = ap (λ (k : ℕ). is_licensed policy k end (is_above tokens)) (sym number) ∙ both.0;
      asked = a.delayed;
      by_server = none_or_asked owner rows rows_after a.delayed (kept_like owner rows rows_after like) delayed;
      word = word;
      drawn = λ none. word_drawn licensed due_then end.pushback word both.0 none;
      due = both.1 ∙ ap (λ (k : ℕ). retry_due policy (max (k - a.delayed) 1) end word) number;
    }

retry_delayed : (owner : ℕ) (rows after : List Row) (place number delayed : ℕ) (p : Pushback) → AreKept owner rows after → (has : HasEnded owner after place) → has.end.pushback ≡ p → has.row.number ≡ number → (delayed ≡ 0) ⊎ AskedDelay owner rows delayed → (delayed_after p number delayed ≡ 0) ⊎ AskedDelay owner after (delayed_after p number delayed)
retry_delayed owner rows after place number delayed pushback.None kept has p same old = none_or_asked owner rows after delayed kept old
retry_delayed owner rows after place number delayed pushback.Stop kept has p same old = none_or_asked owner rows after delayed kept old
retry_delayed owner rows after place number delayed (pushback.After millis) kept has p same old =
    inr (record { place = place; has = has; number = same; delay = ap (λ (x : Pushback). is_some (delay_of x)) p })

hedge_judged : (policy : HedgePolicy) (owner : ℕ) (rows after : List Row) (place due : ℕ) (a : Attempts) (b : Bool) → AreKept owner rows after → (has : HasEnded owner after place) → has_code policy.codes has.end.code ≡ b → ((due : ℕ) → a.forced ≡ Some due → Forced (plans.Hedge policy) owner rows a.sent due) → (if b then Some (forced_by has.end) else a.forced) ≡ Some due → Forced (plans.Hedge policy) owner after a.sent due
hedge_judged policy owner rows after place due a true kept has in_set old e =
    inr (record { place = place; has = has; in_set = in_set; due = (let same : forced_by has.end ≡ due = (cc) in sym same) })
hedge_judged policy owner rows after place due a false kept has in_set old e = forced_plan (plans.Hedge policy) owner rows after a.sent due kept (old due e)

-- what is known of the row that ended
pub record IsJudgedOf (plan : CallPlan) (owner : ℕ) (rows : List Row) (l : LiveRow) (a : Attempts) : Type 0 where
  pub one : IsStanding owner rows l
  pub sent : 1 ≤ a.sent
  pub alone : hedges plan ≡ false → l.number ≡ a.sent

have_judged : (plan : CallPlan) (owner : ℕ) (rows : List Row) (l : LiveRow) (a : Attempts) (is_alone : Bool) (end : RowEnd) (tokens : Option Bucket) (word : ℕ) → IsJudgedOf plan owner rows l a → end.tokens ≡ count_of tokens → HaveReasons plan owner rows a → HaveReasons plan owner (changed_at (ended_row (record end { word = (judged plan a l.number is_alone end (is_above tokens) word).word })) rows l.place) (lasted_attempts l.place (judged plan a l.number is_alone end (is_above tokens) word).attempts)
have_judged plans.None owner rows l a is_alone end tokens word known counted old =
    let last : RowEnd = record end { word = None } in
    have_like plans.None owner rows (changed_at (ended_row last) rows l.place) a (lasted_attempts l.place a)
    (all_changed_at IsKeptRow kept_write (ended_row last) (λ r. kept_write.ended last r) rows l.place) refl refl refl refl refl old
have_judged (plans.Retry policy) owner rows l a is_alone end tokens word known counted old =
    let after : Judged = judged (plans.Retry policy) a l.number true end (is_above tokens) word in
    let last : RowEnd = record end { word = after.word } in
    let rows_after : List Row = changed_at (ended_row last) rows l.place in
    let like : AreLike IsKeptRow rows rows_after = all_changed_at IsKeptRow kept_write (ended_row last) (λ r. kept_write.ended last r) rows l.place in
    let kept : AreKept owner rows rows_after = kept_like owner rows rows_after like in
    let same : l.number ≡ a.sent = known.alone refl in
    let some : 1 ≤ a.sent = known.sent in
    let one : 1 ≤ l.number = omega (arith, some, same) in
    record {
      rows = rows_like (plans.Retry policy) owner rows rows_after like old.rows;
      forced = λ due e. inr (retry_judged policy owner rows l a end tokens word due known.one counted same some old.delayed e);
      newest = λ p e. attempt_to owner rows rows_after a.sent p kept (old.newest p e);
      placed = λ moment e. placed_to owner rows rows_after a.sent moment kept (old.placed moment e);
      delayed = retry_delayed owner rows rows_after l.place (from_one l.number) a.delayed end.pushback kept (has_ended owner rows l last known.one) refl (known.one.number ∙ sym (max-eq_left one)) old.delayed;
    }
have_judged (plans.Hedge policy) owner rows l a is_alone end tokens word known counted old =
    let last : RowEnd = record end { word = None } in
    let rows_after : List Row = changed_at (ended_row last) rows l.place in
    let like : AreLike IsKeptRow rows rows_after = all_changed_at IsKeptRow kept_write (ended_row last) (λ r. kept_write.ended last r) rows l.place in
    let kept : AreKept owner rows rows_after = kept_like owner rows rows_after like in
    record {
      rows = rows_like (plans.Hedge policy) owner rows rows_after like old.rows;
      forced = λ due e. hedge_judged policy owner rows rows_after l.place due a (has_code policy.codes end.code) kept (has_ended owner rows l last known.one) refl old.forced e;
      newest = λ p e. attempt_to owner rows rows_after a.sent p kept (old.newest p e);
      placed = λ moment e. placed_to owner rows rows_after a.sent moment kept (old.placed moment e);
      delayed = none_or_asked owner rows rows_after a.delayed kept old.delayed;
    }

positive : (n : ℕ) → (n ≡ 0 → ⊥) → 1 ≤ n
positive zero never = absurd (never refl)
positive (suc n) never = omega arith

known_of : (place : ℕ) (row : LiveRow) (s : Stepped) → find_live place s.call.live ≡ Some row → IsGoing s.call → IsApart s → IsJudgedOf (call_plan s.call) s.call.number s.ledger.rows row s.call.attempts
known_of place row s f going apart = record {
  one = found_stands s.call.number s.ledger.rows place s.call.live row apart.tied f;
  sent = positive s.call.attempts.sent (λ h. found_some place s.call.live row f (going.none h));
  alone = λ h. (alone_found s.call place row (going.alone h) f).1.number;
}

have_closed : (place : ℕ) (row : LiveRow) (reported : EndNews) (end : RowEnd) (moment word : ℕ) (s : Stepped) (b : Bool) → find_live place s.call.live ≡ Some row → end.tokens ≡ count_of (settled reported (left_live row.place s)).tokens → IsGoing s.call → IsApart s → HasReasons s → HasReasons (step.closed_if b row.place moment (with_judged row end (judged_of row end word (left_live row.place s).call (settled reported (left_live row.place s)).tokens) (settled reported (left_live row.place s))))
have_closed place row reported end moment word s b f counted going apart old =
    let u : Stepped = left_live row.place s in
    let v : Stepped = settled reported u in
    let after : Judged = judged_of row end word u.call v.tokens in
    let w : Stepped = with_judged row end after v in
    let have : HasReasons w = have_judged (call_plan s.call) s.call.number s.ledger.rows row s.call.attempts (has_none u.call.live) end v.tokens word (known_of place row s f going apart) counted old in
    elim b as (λ c. HasReasons (step.closed_if c row.place moment w)) [ true ↦ have_by_row row.place moment w have | false ↦ have ]

have_counted : (place : ℕ) (row : LiveRow) (reported : EndNews) (moment word : ℕ) (s : Stepped) (committed : Bool) → find_live place s.call.live ≡ Some row → IsGoing s.call → IsApart s → HasReasons s → HasReasons (if committed then step.ended_as ends.Row moment (step.row_ended row.place (row_end reported s.ledger.entry moment (count_of (settled reported (left_live row.place s)).tokens)) (settled reported (left_live row.place s))) else step.counted_free row (row_end reported s.ledger.entry moment (count_of (settled reported (left_live row.place s)).tokens)) moment word (settled reported (left_live row.place s)))
have_counted place row reported moment word s true f going apart old =
    let v : Stepped = settled reported (left_live row.place s) in
    let end : RowEnd = row_end reported s.ledger.entry moment (count_of v.tokens) in
    have_end ends.Row moment (step.row_ended row.place end v)
    (have_like (call_plan s.call) s.call.number s.ledger.rows (changed_at (ended_row end) s.ledger.rows row.place) s.call.attempts s.call.attempts (all_changed_at IsKeptRow kept_write (ended_row end) (λ r. kept_write.ended end r) s.ledger.rows row.place) refl refl refl refl refl old)
have_counted place row reported moment word s false f going apart old =
    let v : Stepped = settled reported (left_live row.place s) in
    let end : RowEnd = row_end reported s.ledger.entry moment (count_of v.tokens) in
    have_closed place row reported end moment word s (judged_of row end word v.call v.tokens).closes f refl going apart old

-- a row more
more_reason : (plan : CallPlan) (owner : ℕ) (rows : List Row) (x row : Row) (place : ℕ) → Reason plan owner (rows ++ x ∷ []) (length rows + 1) x x.kind → ((place : ℕ) (row : Row) → IsRowOf owner rows place row → Reason plan owner rows place row row.kind) → row.call ≡ owner → (row_in rows place ≡ Some row) ⊎ ((place ≡ length rows + 1) × (row ≡ x)) → Reason plan owner (rows ++ x ∷ []) place row row.kind
more_reason plan owner rows x row place new old call (inl there) =
    reason_to plan owner rows (rows ++ x ∷ []) place row row (kept_more owner rows x) (kept_write.same row) (old place row (record { there = there; call = call }))
more_reason plan owner rows x row place new old call (inr both) =
    subst (λ (k : ℕ). Reason plan owner (rows ++ x ∷ []) k row row.kind) (sym both.0) (subst (λ (r : Row). Reason plan owner (rows ++ x ∷ []) (length rows + 1) r r.kind) (sym both.1) new)

have_more : (plan : CallPlan) (owner : ℕ) (rows : List Row) (x : Row) (a b : Attempts) → Reason plan owner (rows ++ x ∷ []) (length rows + 1) x x.kind → ((due : ℕ) → b.forced ≡ Some due → Forced plan owner (rows ++ x ∷ []) b.sent due) → ((place : ℕ) → b.newest ≡ Some place → IsAttemptAt owner (rows ++ x ∷ []) b.sent place) → ((moment : ℕ) → b.placed ≡ Some moment → IsPlacedThen owner (rows ++ x ∷ []) b.sent moment) → b.delayed ≡ a.delayed → HaveReasons plan owner rows a → HaveReasons plan owner (rows ++ x ∷ []) b
have_more plan owner rows x a b new forced newest placed delayed old = record {
  rows = λ place row is. more_reason plan owner rows x row place new old.rows is.call (row_split rows x place row is.there);
  forced = forced;
  newest = newest;
  placed = placed;
  delayed = subst (λ (k : ℕ). (k ≡ 0) ⊎ AskedDelay owner (rows ++ x ∷ []) k) (sym delayed) (none_or_asked owner rows (rows ++ x ∷ []) a.delayed (kept_more owner rows x) old.delayed);
}

refused_cause : (unseen free once : Bool) → (unseen && free && once) ≡ true → unseen ≡ true
refused_cause true free once e = refl
refused_cause false free once e = absurd (let bad : false ≡ true = e in cc)

followed_cause : (a : Attempts) (why : RowCause) (unseen : Bool) → is_followed a why unseen ≡ true → (is_unsent why ≡ true) ⊎ ((is_by_peer why ≡ true) × (unseen ≡ true))
followed_cause a causes.Unsent unseen e = inl refl
followed_cause a causes.Goaway unseen e = inr (refl, refused_cause unseen (not (is_some a.committed)) (not a.is_refusal_followed) e)
followed_cause a causes.Reset unseen e = inr (refl, refused_cause unseen (not (is_some a.committed)) (not a.is_refusal_followed) e)
followed_cause a causes.Status unseen e = absurd (let bad : false ≡ true = e in cc)
followed_cause a causes.Http unseen e = absurd (let bad : false ≡ true = e in cc)
followed_cause a causes.Framing unseen e = absurd (let bad : false ≡ true = e in cc)
followed_cause a causes.Lost unseen e = absurd (let bad : false ≡ true = e in cc)
followed_cause a causes.Pick unseen e = absurd (let bad : false ≡ true = e in cc)
followed_cause a causes.Cut unseen e = absurd (let bad : false ≡ true = e in cc)

have_followed : (place : ℕ) (row : LiveRow) (reported : EndNews) (moment : ℕ) (s : Stepped) → is_followed s.call.attempts reported.cause reported.unseen ≡ true → find_live place s.call.live ≡ Some row → IsApart s → HasReasons s → HasReasons (step.followed row reported moment (left_live row.place s))
have_followed place row reported moment s f found apart old =
    let owner : ℕ = s.call.number in
    let end : RowEnd = row_end reported s.ledger.entry moment (count_of s.tokens) in
    let rows : List Row = changed_at (ended_row end) s.ledger.rows row.place in
    let x : Row = new_row owner row.number kind.Transparent moment (stamp_if (names row.place s.call.attempts.committed) s.ledger.entry) in
    let one : IsStanding owner s.ledger.rows row = found_stands owner s.ledger.rows place s.call.live row apart.tied found in
    let has : HasEnded owner rows row.place = has_ended owner s.ledger.rows row end one in
    let mid : HaveReasons (call_plan s.call) owner rows s.call.attempts =
    have_like (call_plan s.call) owner s.ledger.rows rows s.call.attempts s.call.attempts (all_changed_at IsKeptRow kept_write (ended_row end) (λ r. kept_write.ended end r) s.ledger.rows row.place) refl refl refl refl refl old in
    let below : row.place ≤ length rows = row_below rows row.place has.row has.is.there in
    have_more (call_plan s.call) owner rows x s.call.attempts (step.followed row reported moment (left_live row.place s)).call.attempts
    (record {
      before = row.place;
      order = (omega (arith, below));
      has = record { row = has.row; is = record { there = row_more rows x row.place has.row has.is.there; call = has.is.call }; end = end; ended = has.ended };
      number = one.number;
      cause = followed_cause s.call.attempts reported.cause reported.unseen f;
      due = refl;
    })
    (λ due e. forced_plan (call_plan s.call) owner rows (rows ++ x ∷ []) s.call.attempts.sent due (kept_more owner rows x) (mid.forced due e))
    (λ p e. attempt_to owner rows (rows ++ x ∷ []) s.call.attempts.sent p (kept_more owner rows x) (mid.newest p e))
    (λ at e. placed_to owner rows (rows ++ x ∷ []) s.call.attempts.sent at (kept_more owner rows x) (mid.placed at e))
    refl mid

have_live : (place : ℕ) (row : LiveRow) (reported : EndNews) (moment word : ℕ) (s : Stepped) (b : Bool) → is_followed s.call.attempts reported.cause reported.unseen ≡ b → find_live place s.call.live ≡ Some row → IsGoing s.call → IsApart s → HasReasons s → HasReasons (if b then step.followed row reported moment (left_live row.place s) else step.counted row reported moment word (settled reported (left_live row.place s)))
have_live place row reported moment word s true f found going apart old = have_followed place row reported moment s f found apart old
have_live place row reported moment word s false f found going apart old = have_counted place row reported moment word s (is_some s.call.attempts.committed) found going apart old

-- the configuration: before it no row is a retry or a hedge
chosen_reason : (plan : CallPlan) (owner : ℕ) (rows : List Row) (place : ℕ) (row : Row) (why : RowKind) → Reason plans.None owner rows place row why → Reason plan owner rows place row why
chosen_reason plan owner rows place row kind.First reason = tt
chosen_reason plan owner rows place row kind.Retry reason = absurd reason
chosen_reason plan owner rows place row kind.Hedge reason = absurd reason
chosen_reason plan owner rows place row kind.Transparent reason = reason

forced_first : (plan : CallPlan) (owner : ℕ) (rows : List Row) (sent due : ℕ) → sent ≡ 0 → Forced plan owner rows sent due
forced_first plans.None owner rows sent due e = e
forced_first (plans.Retry policy) owner rows sent due e = inl e
forced_first (plans.Hedge policy) owner rows sent due e = inl e

have_chosen : (chosen : Chosen) (moment : ℕ) (s : Stepped) → s.call.chosen ≡ None → IsGoing s.call → HasReasons s → HasReasons (with_chosen chosen moment s)
have_chosen chosen moment s fresh going old = record {
  rows = λ place row is.
      chosen_reason chosen.plan s.call.number s.ledger.rows place row row.kind
      (subst (λ (o : Option Chosen). Reason (plan_of o) s.call.number s.ledger.rows place row row.kind) fresh (old.rows place row is));
  forced = λ due e. forced_first chosen.plan s.call.number s.ledger.rows s.call.attempts.sent due (going.fresh fresh);
  newest = old.newest;
  placed = old.placed;
  delayed = old.delayed;
}

-- a placing
free_placed : (placed : Option Placed) → IsOnLink placed None → placed ≡ None
free_placed None on = refl
free_placed (Some at) on = absurd on

-- the row of the newest attempt
newest_row : (owner : ℕ) (rows : List Row) (newest : Option ℕ) (sent place : ℕ) (row : Row) → names place newest ≡ true → ((p : ℕ) → newest ≡ Some p → IsAttemptAt owner rows sent p) → row_in rows place ≡ Some row → (row.number ≡ sent) × (is_transparent row.kind ≡ false)
newest_row owner rows None sent place row e old there = absurd (cc)
newest_row owner rows (Some p) sent place row e old there =
    let same : p ≡ place = eqb-true p place e in
    let mine : IsAttemptAt owner rows sent p = old p refl in
    let both : Some mine.row ≡ Some row = sym (subst (λ (k : ℕ). row_in rows k ≡ Some mine.row) same mine.is.there) ∙ there in
    let is : mine.row ≡ row = (cc) in
    (subst (λ (r : Row). r.number ≡ sent) is mine.number, subst (λ (r : Row). is_transparent r.kind ≡ false) is mine.own)

placed_at_case : (b : Bool) (owner : ℕ) (rows after : List Row) (l : LiveRow) (at : Placed) (a : Attempts) (moment : ℕ) → AreKept owner rows after → (now : Row) → IsRowOf owner after l.place now → now.placed ≡ Some at → (b ≡ true → (now.number ≡ a.sent) × (is_transparent now.kind ≡ false)) → ((m : ℕ) → a.placed ≡ Some m → IsPlacedThen owner rows a.sent m) → (if b then Some at.moment else a.placed) ≡ Some moment → IsPlacedThen owner after a.sent moment
placed_at_case true owner rows after l at a moment kept now is placed mine old e = record {
  place = l.place;
  has = record { row = now; is = is; number = (mine refl).0; own = (mine refl).1 };
  at = at;
  placed = placed;
  moment = (cc);
}
placed_at_case false owner rows after l at a moment kept now is placed mine old e = placed_to owner rows after a.sent moment kept (old moment e)

have_placed : (place : ℕ) (row : LiveRow) (at : Placed) (s : Stepped) → find_live place s.call.live ≡ Some row → row.link ≡ None → IsApart s → HasReasons s → HasReasons (step.placed_row_live row at s)
have_placed place row at s f free apart old =
    let owner : ℕ = s.call.number in
    let after : List Row = changed_at (placed_row at) s.ledger.rows row.place in
    let one : IsStanding owner s.ledger.rows row = found_stands owner s.ledger.rows place s.call.live row apart.tied f in
    let none : one.row.placed ≡ None = free_placed one.row.placed (subst (λ (o : Option ℕ). IsOnLink one.row.placed o) free one.placed) in
    let like : AreLike IsKeptRow s.ledger.rows after = all_changed_at IsKeptRow kept_write (placed_row at) (kept_placed at) s.ledger.rows row.place in
    let kept : AreKept owner s.ledger.rows after = kept_like owner s.ledger.rows after like in
    record {
      rows = rows_like (call_plan s.call) owner s.ledger.rows after like old.rows;
      forced = λ due e. forced_plan (call_plan s.call) owner s.ledger.rows after s.call.attempts.sent due kept (old.forced due e);
      newest = λ p e. attempt_to owner s.ledger.rows after s.call.attempts.sent p kept (old.newest p e);
      placed = λ moment e.
          placed_at_case (names row.place s.call.attempts.newest) owner s.ledger.rows after row at s.call.attempts moment kept (placed_row at one.row)
          (record { there = row_changed_same (placed_row at) s.ledger.rows row.place one.row one.there; call = one.call })
          (ap (λ (o : Option Placed). stamped at o) none)
          (λ h. newest_row owner s.ledger.rows s.call.attempts.newest s.call.attempts.sent row.place one.row h old.newest one.there) old.placed e;
      delayed = none_or_asked owner s.ledger.rows after s.call.attempts.delayed kept old.delayed;
    }

-- the next attempt
forced_order : (policy : HedgePolicy) (owner : ℕ) (rows : List Row) (due : ℕ) → IsForcedThen policy owner rows due → IsForcedBefore policy owner rows (length rows + 1) due
forced_order policy owner rows due why =
    let below : why.place ≤ length rows = row_below rows why.place why.has.row why.has.is.there in record { why = why; order = (omega (arith, below)) }

delayed_order : (policy : HedgePolicy) (owner : ℕ) (rows : List Row) (attempt number due : ℕ) → number ≡ attempt + 1 → IsDelayed policy owner rows attempt due → IsDelayedBefore policy owner rows (length rows + 1) number due
delayed_order policy owner rows attempt number due next why =
    let below : why.placed.place ≤ length rows = row_below rows why.placed.place why.placed.has.row why.placed.has.is.there in
    record { attempt = attempt; next = next; why = why; order = (omega (arith, below)) }

retry_order : (policy : RetryPolicy) (owner : ℕ) (rows : List Row) (attempt : ℕ) (x : Row) → x.number ≡ attempt + 1 → IsRetryDue policy owner rows attempt x.due → IsRetryReason policy owner rows (length rows + 1) x
retry_order policy owner rows attempt x number why =
    let below : why.place ≤ length rows = row_below rows why.place why.has.row why.has.is.there in
    record { attempt = attempt; number = number; why = why; order = (omega (arith, below)) }

abbrev IsHedgeDue : HedgePolicy → ℕ → List Row → ℕ → ℕ → Type 0
IsHedgeDue policy owner rows number due = IsForcedBefore policy owner rows (length rows + 1) due ⊎ IsDelayedBefore policy owner rows (length rows + 1) number due

hedge_due_by : (policy : HedgePolicy) (owner : ℕ) (rows : List Row) (a : Attempts) (number due : ℕ) (over : Bool) (forced placed : Option ℕ) → number ≡ a.sent + 1 → ((d : ℕ) → forced ≡ Some d → IsForcedThen policy owner rows d) → ((m : ℕ) → placed ≡ Some m → IsPlacedThen owner rows a.sent m) → (if over then None else option_map_or (λ f. Some f) forced (option_map (λ p. p + policy.delay) placed)) ≡ Some due → IsHedgeDue policy owner rows number due
hedge_due_by policy owner rows a number due true forced placed next f p e = absurd (cc)
hedge_due_by policy owner rows a number due false (Some d) placed next f p e = inl (forced_order policy owner rows due (f due e))
hedge_due_by policy owner rows a number due false None None next f p e = absurd (cc)
hedge_due_by policy owner rows a number due false None (Some m) next f p e =
    inr (delayed_order policy owner rows a.sent number due next (record { since = m; placed = p m refl; due = (let same : m + policy.delay ≡ due = (cc) in sym same) }))

forced_some : (policy : HedgePolicy) (owner : ℕ) (rows : List Row) (sent due : ℕ) → (sent ≡ 0 → ⊥) → (sent ≡ 0) ⊎ IsForcedThen policy owner rows due → IsForcedThen policy owner rows due
forced_some policy owner rows sent due some (inl e) = absurd (some e)
forced_some policy owner rows sent due some (inr forced) = forced

retry_some : (policy : RetryPolicy) (owner : ℕ) (rows : List Row) (sent due : ℕ) → (sent ≡ 0 → ⊥) → (sent ≡ 0) ⊎ IsRetryDue policy owner rows sent due → IsRetryDue policy owner rows sent due
retry_some policy owner rows sent due some (inl e) = absurd (some e)
retry_some policy owner rows sent due some (inr retry) = retry

hedge_made : (policy : HedgePolicy) (owner : ℕ) (rows : List Row) (a : Attempts) (number due : ℕ) (b : Bool) → number ≡ a.sent + 1 → (a.sent == 0) ≡ b → b ≡ false → HaveReasons (plans.Hedge policy) owner rows a → (a.sent ≡ 0 → ⊥) → (if b then next_forced policy.max a else hedging.next_due policy (hedge_of a)) ≡ Some due → IsHedgeDue policy owner rows number due
hedge_made policy owner rows a number due true next t off old some e = absurd (let bad : true ≡ false = off in cc)
hedge_made policy owner rows a number due false next t off old some e =
    hedge_due_by policy owner rows a number due (is_over policy (hedge_of a)) a.forced a.placed next (λ d h. forced_some policy owner rows a.sent d some (old.forced d h)) old.placed e

made_reason : (plan : CallPlan) (owner : ℕ) (rows : List Row) (a : Attempts) (x : Row) (b : Bool) → (a.sent == 0) ≡ b → x.number ≡ a.sent + 1 → next_of_plan plan a ≡ Some x.due → HaveReasons plan owner rows a → (b ≡ false → a.sent ≡ 0 → ⊥) → Reason plan owner rows (length rows + 1) x (if b then kind.First else later_kind plan)
made_reason plan owner rows a x true t number e old some = tt
made_reason plans.None owner rows a x false t number e old some = absurd (some refl (old.forced x.due (due_forced plans.None a x.due refl e)))
made_reason (plans.Retry policy) owner rows a x false t number e old some =
    retry_order policy owner rows a.sent x number (retry_some policy owner rows a.sent x.due (some refl) (old.forced x.due (due_forced (plans.Retry policy) a x.due refl e)))
made_reason (plans.Hedge policy) owner rows a x false t number e old some =
    hedge_made policy owner rows a x.number x.due (a.sent == 0) number refl t old (some refl) e

test_some : (n : ℕ) (b : Bool) → (n == 0) ≡ b → b ≡ false → n ≡ 0 → ⊥
test_some n b t e none = let bad : true ≡ false = sym (eq-eqb n 0 none) ∙ t ∙ e in (cc)

have_made : (due : ℕ) (s : Stepped) → next_due s.call ≡ Some due → IsNumbered s → HasReasons s → HasReasons (step.made due s)
have_made due s e numbered old =
    let owner : ℕ = s.call.number in
    let a : Attempts = s.call.attempts in
    let plan : CallPlan = call_plan s.call in
    let x : Row = new_row owner (min (a.sent + 1) 4294967295) (kind_of_next plan a) due None in
    let below : a.sent < most_attempts plan = leb-false (most_attempts plan) a.sent (below_most plan a due e) in
    let limit : most_attempts plan ≤ 4294967295 = numbered.limit in
    let small : a.sent + 1 ≤ 4294967295 = omega (arith, below, limit) in
    have_more plan owner s.ledger.rows x a (step.made due s).call.attempts
    (reason_of plan owner s.ledger.rows (s.ledger.rows ++ x ∷ []) (length s.ledger.rows + 1) x x (kind_of_next plan a) (kept_more owner s.ledger.rows x) (kept_write.same x)
    (made_reason plan owner s.ledger.rows a x (a.sent == 0) refl (min-eq_left small) e old (test_some a.sent (a.sent == 0) refl)))
    (λ d h. absurd (cc))
    (λ p h.
    let same : length s.ledger.rows + 1 ≡ p = (cc) in
    subst (λ (k : ℕ). IsAttemptAt owner (s.ledger.rows ++ x ∷ []) (step.made due s).call.attempts.sent k) same
    (record { row = x; is = record { there = row_last s.ledger.rows x; call = refl }; number = refl; own = not_transparent plan (a.sent == 0) }))
    (λ m h. absurd (cc)) refl old

have_by_last : (last : Option ℕ) (moment : ℕ) (s : Stepped) → HasReasons s → HasReasons (step.ended_by_last last moment s)
have_by_last None moment s old = old
have_by_last (Some last) moment s old =
    elim (has_none s.call.live) as (λ b. HasReasons (if b then step.ended_by_row last moment s else s)) [ true ↦ have_by_row last moment s old | false ↦ old ]

have_stopped : (s : Stepped) → HasReasons s → HasReasons (step.with_attempts (stopped_attempts s.call.attempts) s)
have_stopped s old = record { rows = old.rows; forced = old.forced; newest = old.newest; placed = old.placed; delayed = old.delayed }

have_head : (place : ℕ) (meta : List Field) (moment : ℕ) (s : Stepped) (b : Bool) → HasReasons s → HasReasons (step.with_head meta (if b then s else step.committed place moment (record s { call = record s.call { buffer = committed_buffer place s.call.buffer } })))
have_head place meta moment s true old = old
have_head place meta moment s false old = have_commit place moment (record s { call = record s.call { buffer = committed_buffer place s.call.buffer } }) old

have_message : (octets : List ℕ) (s : Stepped) (b : Bool) → HasReasons s → HasReasons (record s { call = (if b then record s.call { inbox = record s.call.inbox { messages = s.call.inbox.messages ++ octets ∷ [] } } else s.call) })
have_message octets s true old = old
have_message octets s false old = old

have_over : (over : Bool) (row : Option ℕ) (moment : ℕ) (s : Stepped) → HasReasons s → HasReasons (step.committed_over over row moment s)
have_over over None moment s old = old
have_over true (Some place) moment s old = have_commit place moment s old
have_over false (Some place) moment s old = old

pub reasons_moves : Moves (λ chosen. Unit {0}) (λ s row reported. Unit {0}) (λ moment s t. IsGoing s.call → IsNumbered s → IsApart s → HasReasons s → HasReasons t)
reasons_moves = record {
  same = λ moment s going numbered apart old. old;
  configured = λ chosen moment s known e fresh going numbered apart old. have_chosen chosen moment s fresh going old;
  over_limit = λ chosen moment s known e fresh going numbered apart old. have_end ends.Request moment (with_chosen chosen moment s) (have_chosen chosen moment s fresh going old);
  ended = λ why moment s by e going numbered apart old. have_end why moment s old;
  too_large = λ row moment s e going numbered apart old. have_end ends.Response moment s old;
  head = λ place row meta moment s e going numbered apart old. have_head place meta moment s (is_some s.call.attempts.committed) old;
  message = λ row octets moment s going numbered apart old. have_message octets s (is_committed_live row s.call) old;
  row_ended = λ place row reported moment word s e known going numbered apart old.
      have_live place row reported moment word s (is_followed s.call.attempts reported.cause reported.unseen) refl e going apart old;
  placed = λ place row at s entry e free going numbered apart old. have_placed place row at s e free apart old;
  refused = λ due moment s e passed tested going numbered apart old.
      have_by_last s.call.attempts.last moment (step.with_attempts (stopped_attempts s.call.attempts) s) (have_stopped s old);
  made = λ due moment s e passed going numbered apart old. have_made due s e numbered old;
  accepted = λ message moment s e room going numbered apart old.
      let row : Option ℕ = furthest s.call.buffer s.call.live in
      have_over (pushed_over s.call.buffer (framed message) row) row moment (record s { call = with_message message row s.call }) old;
}

pub reasons_new : (number : ℕ) (request : RequestSeen) (begun : ℕ) (ledger : Ledger) (tokens : Option Bucket) (acts : List CallAct) → ((place : ℕ) (row : Row) → row_in ledger.rows place ≡ Some row → row.call ≡ number → ⊥) → HasReasons (step.lent (new_call number request begun) ledger tokens acts)
reasons_new number request begun ledger tokens acts fresh = record {
  rows = λ place row is. absurd (fresh place row is.there is.call);
  forced = λ due e. absurd (cc);
  newest = λ place e. absurd (cc);
  placed = λ moment e. absurd (cc);
  delayed = inl refl;
}

-- what is done to other calls
pub reasons_elsewhere : (s : Stepped) (ledger : Ledger) → KeepsReasons s.call.number s.ledger.rows ledger.rows → HasReasons s → HasReasons (record s { ledger = ledger })
reasons_elsewhere s ledger keeps old = record {
  rows = λ place row is.
      let was : WasKeptAt s.call.number s.ledger.rows place row = keeps.back place row is in
      reason_to (call_plan s.call) s.call.number s.ledger.rows ledger.rows place was.row row keeps.there was.kept (old.rows place was.row was.is);
  forced = λ due e. forced_plan (call_plan s.call) s.call.number s.ledger.rows ledger.rows s.call.attempts.sent due keeps.there (old.forced due e);
  newest = λ place e. attempt_to s.call.number s.ledger.rows ledger.rows s.call.attempts.sent place keeps.there (old.newest place e);
  placed = λ moment e. placed_to s.call.number s.ledger.rows ledger.rows s.call.attempts.sent moment keeps.there (old.placed moment e);
  delayed = none_or_asked s.call.number s.ledger.rows ledger.rows s.call.attempts.delayed keeps.there old.delayed;
}
