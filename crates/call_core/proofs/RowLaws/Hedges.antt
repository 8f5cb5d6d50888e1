-- No row of a call breaks the law of hedging.
use Rattle.std.proofs.Common.{◌≡◌, ◌≤◌, ◌<◌, ℕ, ◌+◌, Bool, true, false, not, ◌&&◌, ◌||◌, ◌==◌, nat_lt, if◌then◌else◌, min, length, Option, Some, None, is_some, List, [], ◌∷◌, ◌++◌, refl, sym, ap, subst, ◌∙◌, ◌⊎◌, inl, inr, arith, eq-eqb}
use Rattle.std.proofs.lemmas.Bool.{OnTrue_from, ltb-true}
use Rattle.std.specs.List.{list_any}
use Rattle.std.specs.Option.{option_map_or}
use Rattle.grpc_base.specs.Codes.{has_code}
use Rattle.grpc_base.specs.Requests.{RequestSeen}
use Rattle.grpc_base.specs.declared.event.EndCause.{EndCause}
use Rattle.grpc_base.specs.declared.event.EndCause.TheVariants as ends
use Rattle.grpc_base.specs.declared.fields.Field.{Field}
use Rattle.grpc_base.specs.declared.plan.CallPlan.{CallPlan}
use Rattle.grpc_base.specs.declared.plan.CallPlan.TheVariants as plans
use Rattle.grpc_base.specs.declared.plan.Chosen.{Chosen}
use Rattle.grpc_base.specs.declared.plan.HedgePolicy.{HedgePolicy}
use Rattle.attempt_ledger.specs.Ends.{delay_of, is_followed, is_stop, millis_after}
use Rattle.attempt_ledger.specs.Faults.{Breaks}
use Rattle.attempt_ledger.specs.Hedging.{IsDueHedge, KeepsHedging, end_makes_due, ends_hedging, hedging_ended, is_hedge, is_hedging_over, makes_due, placing_makes_due}
use Rattle.attempt_ledger.specs.declared.ledger.Ledger.{Ledger}
use Rattle.attempt_ledger.specs.declared.news.EndNews.{EndNews}
use Rattle.attempt_ledger.specs.declared.row.Placed.{Placed}
use Rattle.attempt_ledger.specs.declared.row.Row.{Row}
use Rattle.attempt_ledger.specs.declared.row.RowEnd.{RowEnd}
use Rattle.attempt_ledger.specs.declared.row.RowKind.{RowKind}
use Rattle.attempt_ledger.specs.declared.row.RowKind.TheVariants as kind
use Rattle.attempt_ledger.specs.Numbering.{is_transparent}
use Rattle.ledger_stamps.specs.Steps.{changed_at, committed_row, ended_row, placed_row}
use Rattle.a6_numbers.specs.Throttling.{Bucket}
use Rattle.hedge_core.specs.DueMoments.{forced_by, stops}
use Rattle.grpc_frame.specs.Messages.{framed}
use Rattle.call_core.specs.declared.act.CallAct.{CallAct}
use Rattle.call_core.specs.declared.attempts.Attempts.{Attempts}
use Rattle.call_core.specs.declared.judge.Judged.{Judged}
use Rattle.call_core.specs.declared.live.LiveRow.{LiveRow}
use Rattle.call_core.specs.Commitments.{IsRowOf}
use Rattle.call_core.specs.Laws.{IsKept}
use Rattle.call_core.specs.Orders.{RowsAreDue}
use Rattle.call_core.specs.Parts.{committed_buffer, count_of, cut_end, find_live, furthest, has_none, is_above, is_followed as follows_end, judged, kind_of_next, names, plan_of, pushed_over, row_end, stopped_attempts}
use Rattle.call_core.specs.Reasons.{HasReasons, IsDelayedBefore, IsForcedBefore, IsKeptRow, Reason}
use Rattle.call_core.specs.RowLaws.{RowsAreHedged, EndsHedging, EndsKeep, HasNoRows, HedgesBy, IsFollowedAt, KeepsHedges, NeverBreaks, StopsHedging, WasHedge, rows_of}
use Rattle.call_core.specs.Rows.{IsApart, IsStanding, row_in}
use Rattle.call_core.specs.Steps as step
use Rattle.call_core.specs.Steps.{Stepped, call_plan, is_committed_live, judged_of, left_live, new_call, new_row, next_due, settled, stamp_if, with_chosen, with_judged, with_message}
use Rattle.call_core.proofs.Alike.{AreLike, WasRow, all_changed_at, all_cut, all_joined, like_from, row_split}
use Rattle.call_core.proofs.Cuts.{row_below}
use Rattle.call_core.proofs.EachRow.{EachRow, EndOf, TakesCuts, each_changed, each_cut, each_more, followed_to, kept_joined, with_end}
use Rattle.call_core.proofs.Keeping.{not_stopped}
use Rattle.call_core.proofs.KeptReasons.{AreKept, kept_committed, kept_like, kept_more, kept_placed, kept_write}
use Rattle.call_core.proofs.Moves.{Moves}
use Rattle.call_core.proofs.Numbers.{judged_stopped}
use Rattle.call_core.proofs.RowLaws.Splits.{IsSome, IsSplit, and_parts, any_before, followed_in, not_true, some_found, split_of, split_place, split_row}
use Rattle.call_core.proofs.Standing.{found_stands, row_changed_same, row_last}

-- later rows
ends_back : (policy : HedgePolicy) (owner : ℕ) (rows after : List Row) (place number : ℕ) (end : RowEnd) → AreKept owner rows after → EndsHedging policy owner after place number end → EndsHedging policy owner rows place number end
ends_back policy owner rows after place number end kept (inl e) = inl e
ends_back policy owner rows after place number end kept (inr both) = inr (both.0, λ old. both.1 (followed_to owner rows after place number kept old))

stop_to : (policy : HedgePolicy) (owner : ℕ) (rows after : List Row) (place number : ℕ) (end : RowEnd) (before now : Bool) → AreKept owner rows after → (HedgesBy owner rows end.moment → HedgesBy owner after end.moment) → (before ≡ true → now ≡ true) → StopsHedging policy before owner rows place number end → StopsHedging policy now owner after place number end
stop_to policy owner rows after place number end before now kept by up old = λ h.
    let was : (before ≡ true) × HedgesBy owner rows end.moment = old (ends_back policy owner rows after place number end kept h) in (up was.0, by was.1)

by_like : (owner : ℕ) (rows after : List Row) (moment : ℕ) → AreLike IsKeptRow rows after → HedgesBy owner rows moment → HedgesBy owner after moment
by_like owner rows after moment like old = λ place row is h.
    let was : WasRow IsKeptRow (row_in rows place) row = like_from IsKeptRow (row_in rows place) (row_in after place) row (like place) is.there in
    let before : was.row.due ≤ moment = old place was.row (record { there = was.there; call = sym was.like.call ∙ is.call }) (ap (λ (k : RowKind). is_hedge k) (sym was.like.kind) ∙ h) in
    let same : row.due ≡ was.row.due = was.like.due in
    omega (arith, before, same)

by_more_one : (owner : ℕ) (rows : List Row) (x row : Row) (moment q : ℕ) → (is_hedge x.kind ≡ true → ⊥) → HedgesBy owner rows moment → row.call ≡ owner → is_hedge row.kind ≡ true → (row_in rows q ≡ Some row) ⊎ ((q ≡ length rows + 1) × (row ≡ x)) → row.due ≤ moment
by_more_one owner rows x row moment q never old call h (inl there) = old q row (record { there = there; call = call }) h
by_more_one owner rows x row moment q never old call h (inr both) = absurd (never (ap (λ (r : Row). is_hedge r.kind) (sym both.1) ∙ h))

by_more : (owner : ℕ) (rows : List Row) (x : Row) (moment : ℕ) → (is_hedge x.kind ≡ true → ⊥) → HedgesBy owner rows moment → HedgesBy owner (rows ++ x ∷ []) moment
by_more owner rows x moment never old = λ place row is h. by_more_one owner rows x row moment place never old is.call h (row_split rows x place row is.there)

abbrev Ends : HedgePolicy → Bool → ℕ → List Row → List Row → Type 0
Ends policy stopped owner final rows = EndsKeep (StopsHedging policy stopped owner) owner final rows

ends_to : (policy : HedgePolicy) (before now : Bool) (owner : ℕ) (final later rows : List Row) → AreKept owner final later → ((m : ℕ) → HedgesBy owner final m → HedgesBy owner later m) → (before ≡ true → now ≡ true) → Ends policy before owner final rows → Ends policy now owner later rows
ends_to policy before now owner final later rows kept by up old = λ place row is end e.
    stop_to policy owner final later place row.number end before now kept (by end.moment) up (old place row is end e)

cut_stops : (policy : HedgePolicy) (owner : ℕ) (final : List Row) (moment : ℕ) (tokens : Option ℕ) → HedgesBy owner final moment → TakesCuts (λ place row. EndOf (StopsHedging policy true owner final) place row) moment tokens
cut_stops policy owner final moment tokens by = λ entry seen place row old.
    with_end (StopsHedging policy true owner final) place (cut_end entry moment seen tokens) row (λ none h. (refl, by)) old

-- the rows of a call, at a moment by which all were due
record AreHedgedBy (moment : ℕ) (s : Stepped) : Type 0 where
  hedged : RowsAreHedged s
  by : HedgesBy s.call.number s.ledger.rows moment

-- commitment and end
commit_like : (place moment : ℕ) (s : Stepped) → AreLike IsKeptRow s.ledger.rows (step.committed place moment s).ledger.rows
commit_like place moment s =
    all_joined IsKeptRow kept_write s.ledger.rows (step.commit_stamped place s.ledger).rows (step.committed place moment s).ledger.rows
    (all_changed_at IsKeptRow kept_write (committed_row s.ledger.entry) (kept_committed s.ledger.entry) s.ledger.rows place)
    (all_cut IsKeptRow kept_write (Some place) moment (count_of s.tokens) s.call.live (step.commit_stamped place s.ledger))

end_like : (why : EndCause) (moment : ℕ) (s : Stepped) → AreLike IsKeptRow s.ledger.rows (step.ended_as why moment s).ledger.rows
end_like why moment s = all_cut IsKeptRow kept_write None moment (count_of s.tokens) s.call.live s.ledger

hedged_commit : (place moment : ℕ) (s : Stepped) → AreHedgedBy moment s → AreHedgedBy moment (step.committed place moment s)
hedged_commit place moment s old =
    let owner : ℕ = s.call.number in
    let rows : List Row = s.ledger.rows in
    let after : List Row = (step.committed place moment s).ledger.rows in
    let like : AreLike IsKeptRow rows after = commit_like place moment s in
    let by : HedgesBy owner after moment = by_like owner rows after moment like old.by in
    record {
      hedged = record {
        ends = λ policy e.
            each_cut (λ p row. EndOf (StopsHedging policy true owner after) p row) owner (Some place) moment (count_of s.tokens) s.call.live (step.commit_stamped place s.ledger)
            (cut_stops policy owner after moment (count_of s.tokens) by)
            (each_changed (λ p row. EndOf (StopsHedging policy true owner after) p row) owner place (committed_row s.ledger.entry) rows (λ r. record { call = refl }) (λ r is h. h)
            (ends_to policy s.call.attempts.stopped true owner rows after rows (kept_like owner rows after like) (λ m h. by_like owner rows after m like h) (λ h. refl) (old.hedged.ends policy e)));
      };
      by = by;
    }

hedged_end : (why : EndCause) (moment : ℕ) (s : Stepped) → AreHedgedBy moment s → AreHedgedBy moment (step.ended_as why moment s)
hedged_end why moment s old =
    let owner : ℕ = s.call.number in
    let rows : List Row = s.ledger.rows in
    let after : List Row = (step.ended_as why moment s).ledger.rows in
    let like : AreLike IsKeptRow rows after = end_like why moment s in
    let by : HedgesBy owner after moment = by_like owner rows after moment like old.by in
    record {
      hedged = record {
        ends = λ policy e.
            each_cut (λ p row. EndOf (StopsHedging policy true owner after) p row) owner None moment (count_of s.tokens) s.call.live s.ledger
            (cut_stops policy owner after moment (count_of s.tokens) by)
            (ends_to policy s.call.attempts.stopped true owner rows after rows (kept_like owner rows after like) (λ m h. by_like owner rows after m like h) (λ h. refl) (old.hedged.ends policy e));
      };
      by = by;
    }

hedged_by_row : (place moment : ℕ) (s : Stepped) → AreHedgedBy moment s → AreHedgedBy moment (step.ended_by_row place moment s)
hedged_by_row place moment s old = hedged_end ends.Row moment (step.committed place moment s) (hedged_commit place moment s old)

-- the end of a live row
row_ends : (policy : HedgePolicy) (before now : Bool) (owner moment place : ℕ) (end : RowEnd) (rows : List Row) → end.moment ≡ moment → HedgesBy owner rows moment → (before ≡ true → now ≡ true) → ((number : ℕ) → EndsHedging policy owner (changed_at (ended_row end) rows place) place number end → now ≡ true) → Ends policy before owner rows rows → Ends policy now owner (changed_at (ended_row end) rows place) (changed_at (ended_row end) rows place)
row_ends policy before now owner moment place end rows at by up stop old =
    let after : List Row = changed_at (ended_row end) rows place in
    let like : AreLike IsKeptRow rows after = all_changed_at IsKeptRow kept_write (ended_row end) (λ r. kept_write.ended end r) rows place in
    let by_end : HedgesBy owner after end.moment = subst (λ (m : ℕ). HedgesBy owner after m) (sym at) (by_like owner rows after moment like by) in
    each_changed (λ p r. EndOf (StopsHedging policy now owner after) p r) owner place (ended_row end) rows (λ r. record { call = refl })
    (λ r is h. with_end (StopsHedging policy now owner after) place end r (λ none x. (stop r.number x, by_end)) h)
    (ends_to policy before now owner rows after rows (kept_like owner rows after like) (λ m h. by_like owner rows after m like h) up old)

first_of_three : (a b c : Bool) → a ≡ true → (a || b || c) ≡ true
first_of_three true b c e = refl
first_of_three false b c e = absurd (cc)

second_of_three : (a b c : Bool) → b ≡ true → (a || b || c) ≡ true
second_of_three true b c e = refl
second_of_three false true c e = refl
second_of_three false false c e = absurd (cc)

or_second : (a b : Bool) → b ≡ true → (a || b) ≡ true
or_second true b e = refl
or_second false b e = e

stops_by : (policy : HedgePolicy) (owner : ℕ) (rows : List Row) (place number : ℕ) (end : RowEnd) (above : Bool) → EndsHedging policy owner rows place number end → stops policy end above ≡ true
stops_by policy owner rows place number end above (inl e) = second_of_three (not (has_code policy.codes end.code)) (is_stop end.pushback) _ e
stops_by policy owner rows place number end above (inr both) = first_of_three (not (has_code policy.codes end.code)) (is_stop end.pushback) _ (ap not both.0)

judged_stops : (plan : CallPlan) (policy : HedgePolicy) (a : Attempts) (number : ℕ) (is_alone : Bool) (end : RowEnd) (above : Bool) (word : ℕ) → plan ≡ plans.Hedge policy → stops policy end above ≡ true → (judged plan a number is_alone end above word).attempts.stopped ≡ true
judged_stops plans.None policy a number is_alone end above word e h = absurd (cc)
judged_stops (plans.Retry other) policy a number is_alone end above word e h = absurd (cc)
judged_stops (plans.Hedge other) policy a number is_alone end above word e h =
    let same : policy ≡ other = (cc) in or_second a.stopped (stops other end above) (subst (λ (p : HedgePolicy). stops p end above ≡ true) same h)

hedged_closed : (place : ℕ) (row : LiveRow) (reported : EndNews) (end : RowEnd) (moment word : ℕ) (s : Stepped) (b : Bool) → end.moment ≡ moment → AreHedgedBy moment s → AreHedgedBy moment (step.closed_if b row.place moment (with_judged row end (judged_of row end word (left_live row.place s).call (settled reported (left_live row.place s)).tokens) (settled reported (left_live row.place s))))
hedged_closed place row reported end moment word s b at old =
    let owner : ℕ = s.call.number in
    let rows : List Row = s.ledger.rows in
    let v : Stepped = settled reported (left_live row.place s) in
    let after : Judged = judged_of row end word v.call v.tokens in
    let last : RowEnd = record end { word = after.word } in
    let w : Stepped = with_judged row end after v in
    let alone : Bool = has_none v.call.live in
    let one : AreHedgedBy moment w = record {
      hedged = record {
        ends = λ policy e.
            row_ends policy s.call.attempts.stopped after.attempts.stopped owner moment row.place last rows at old.by
            (λ h. judged_stopped (call_plan s.call) s.call.attempts row.number alone end (is_above v.tokens) word h)
            (λ number x.
            judged_stops (call_plan s.call) policy s.call.attempts row.number alone end (is_above v.tokens) word e
            (stops_by policy owner (changed_at (ended_row last) rows row.place) row.place number last (is_above v.tokens) x))
            (old.hedged.ends policy e);
      };
      by = by_like owner rows (changed_at (ended_row last) rows row.place) moment (all_changed_at IsKeptRow kept_write (ended_row last) (λ r. kept_write.ended last r) rows row.place) old.by;
    } in
    elim b as (λ c. AreHedgedBy moment (step.closed_if c row.place moment w)) [ true ↦ hedged_by_row row.place moment w one | false ↦ one ]

hedged_counted : (place : ℕ) (row : LiveRow) (reported : EndNews) (moment word : ℕ) (s : Stepped) (o : Option ℕ) → s.call.attempts.committed ≡ o → IsKept s.call → AreHedgedBy moment s → AreHedgedBy moment (if is_some o then step.ended_as ends.Row moment (step.row_ended row.place (row_end reported s.ledger.entry moment (count_of (settled reported (left_live row.place s)).tokens)) (settled reported (left_live row.place s))) else step.counted_free row (row_end reported s.ledger.entry moment (count_of (settled reported (left_live row.place s)).tokens)) moment word (settled reported (left_live row.place s)))
hedged_counted place row reported moment word s (Some p) c kept old =
    let v : Stepped = settled reported (left_live row.place s) in
    let end : RowEnd = row_end reported s.ledger.entry moment (count_of v.tokens) in
    let rows : List Row = s.ledger.rows in
    hedged_end ends.Row moment (step.row_ended row.place end v)
    (record {
      hedged = record {
        ends = λ policy e.
            row_ends policy s.call.attempts.stopped s.call.attempts.stopped s.call.number moment row.place end rows refl old.by (λ h. h)
            (λ number x. (kept.committed p c).stopped) (old.hedged.ends policy e);
      };
      by = by_like s.call.number rows (changed_at (ended_row end) rows row.place) moment (all_changed_at IsKeptRow kept_write (ended_row end) (λ r. kept_write.ended end r) rows row.place) old.by;
    })
hedged_counted place row reported moment word s None c kept old =
    let v : Stepped = settled reported (left_live row.place s) in
    let end : RowEnd = row_end reported s.ledger.entry moment (count_of v.tokens) in
    hedged_closed place row reported end moment word s (judged_of row end word v.call v.tokens).closes refl old

followed_stops : (policy : HedgePolicy) (place : ℕ) (row : LiveRow) (end : RowEnd) (new : Row) (s : Stepped) → find_live place s.call.live ≡ Some row → IsApart s → new.call ≡ s.call.number → new.number ≡ row.number → new.kind ≡ kind.Transparent → new.ended ≡ None → is_stop end.pushback ≡ false → Ends policy s.call.attempts.stopped s.call.number s.ledger.rows s.ledger.rows → Ends policy s.call.attempts.stopped s.call.number (changed_at (ended_row end) s.ledger.rows row.place ++ new ∷ []) (changed_at (ended_row end) s.ledger.rows row.place ++ new ∷ [])
followed_stops policy place row end new s f apart call number why none plain old =
    let owner : ℕ = s.call.number in
    let st : Bool = s.call.attempts.stopped in
    let rows : List Row = s.ledger.rows in
    let after : List Row = changed_at (ended_row end) rows row.place in
    let final : List Row = after ++ new ∷ [] in
    let one : IsStanding owner rows row = found_stands owner rows place s.call.live row apart.tied f in
    let like : AreLike IsKeptRow rows after = all_changed_at IsKeptRow kept_write (ended_row end) (λ r. kept_write.ended end r) rows row.place in
    let below : row.place ≤ length after = row_below after row.place (ended_row end one.row) (row_changed_same (ended_row end) rows row.place one.row one.there) in
    let follows : IsFollowedAt owner final row.place row.number = record {
      later = length after + 1;
      order = (omega (arith, below));
      next = new;
      is = record { there = row_last after new; call = call };
      kind = ap (λ (k : RowKind). is_transparent k) why;
      same = number;
    } in
    each_more (λ p r. EndOf (StopsHedging policy st owner final) p r) owner after new
    (λ x e. absurd (let no : None ≡ Some x = sym none ∙ e in cc))
    (each_changed (λ p r. EndOf (StopsHedging policy st owner final) p r) owner row.place (ended_row end) rows (λ r. record { call = refl })
    (λ r is h.
    let both : Some one.row ≡ Some r = sym one.there ∙ is.there in
    let equal : one.row ≡ r = (cc) in
    let same : r.number ≡ row.number = ap (λ (x : Row). x.number) (sym equal) ∙ one.number in
    with_end (StopsHedging policy st owner final) row.place end r
    (λ free x. absurd (never_ends policy owner final row.place r.number end plain (subst (λ (k : ℕ). IsFollowedAt owner final row.place k) (sym same) follows) x)) h)
    (ends_to policy st st owner rows final rows (kept_joined owner rows after final (kept_like owner rows after like) (kept_more owner after new))
    (λ m h. by_more owner after new m (λ t. let no : false ≡ true = ap (λ (k : RowKind). is_hedge k) (sym why) ∙ t in cc) (by_like owner rows after m like h)) (λ h. h) old))
  where
    never_ends : (policy : HedgePolicy) (owner : ℕ) (final : List Row) (place number : ℕ) (end : RowEnd) → is_stop end.pushback ≡ false → IsFollowedAt owner final place number → EndsHedging policy owner final place number end → ⊥
    never_ends policy owner final place number end plain follows (inl e) = let no : true ≡ false = sym e ∙ plain in cc
    never_ends policy owner final place number end plain follows (inr both) = both.1 follows

hedged_live : (place : ℕ) (row : LiveRow) (reported : EndNews) (moment word : ℕ) (s : Stepped) (b : Bool) → (b ≡ true → is_stop reported.pushback ≡ false) → find_live place s.call.live ≡ Some row → IsKept s.call → IsApart s → AreHedgedBy moment s → RowsAreHedged (if b then step.followed row reported moment (left_live row.place s) else step.counted row reported moment word (settled reported (left_live row.place s)))
hedged_live place row reported moment word s true plain f kept apart old =
    let end : RowEnd = row_end reported s.ledger.entry moment (count_of s.tokens) in
    let new : Row = new_row s.call.number row.number kind.Transparent moment (stamp_if (names row.place s.call.attempts.committed) s.ledger.entry) in
    record { ends = λ policy e. followed_stops policy place row end new s f apart refl refl refl refl (plain refl) (old.hedged.ends policy e) }
hedged_live place row reported moment word s false plain f kept apart old = (hedged_counted place row reported moment word s s.call.attempts.committed refl kept old).hedged

-- the other things that are done
no_rows : (s t : Stepped) → t.call.number ≡ s.call.number → t.ledger.rows ≡ s.ledger.rows → EachRow (λ p row. ⊥) s.call.number s.ledger.rows → RowsAreHedged t
no_rows s t number rows none = record {
  ends = λ policy e place row is.
      absurd (none place row (record { there = ap (λ (l : List Row). row_in l place) (sym rows) ∙ is.there; call = is.call ∙ number }));
}

over_hedged : (chosen : Chosen) (moment : ℕ) (s : Stepped) → EachRow (λ p row. ⊥) s.call.number s.ledger.rows → RowsAreHedged (step.ended_as ends.Request moment (with_chosen chosen moment s))
over_hedged chosen moment s none =
    let t : Stepped = with_chosen chosen moment s in
    let after : EachRow (λ p row. ⊥) s.call.number (step.ended_as ends.Request moment t).ledger.rows =
    each_cut (λ p row. ⊥) s.call.number None moment (count_of s.tokens) s.call.live t.ledger (λ entry seen place row no. no) none in
    record { ends = λ policy e place row is. absurd (after place row is) }

hedged_head : (place : ℕ) (meta : List Field) (moment : ℕ) (s : Stepped) (b : Bool) → AreHedgedBy moment s → RowsAreHedged (step.with_head meta (if b then s else step.committed place moment (record s { call = record s.call { buffer = committed_buffer place s.call.buffer } })))
hedged_head place meta moment s true old = record { ends = old.hedged.ends }
hedged_head place meta moment s false old =
    let c : Stepped = record s { call = record s.call { buffer = committed_buffer place s.call.buffer } } in
    let after : AreHedgedBy moment (step.committed place moment c) = hedged_commit place moment c (record { hedged = record { ends = old.hedged.ends }; by = old.by }) in
    record { ends = after.hedged.ends }

hedged_message : (octets : List ℕ) (s : Stepped) (b : Bool) → RowsAreHedged s → RowsAreHedged (record s { call = (if b then record s.call { inbox = record s.call.inbox { messages = s.call.inbox.messages ++ octets ∷ [] } } else s.call) })
hedged_message octets s true old = record { ends = old.ends }
hedged_message octets s false old = record { ends = old.ends }

hedged_by_last : (last : Option ℕ) (moment : ℕ) (s : Stepped) → AreHedgedBy moment s → RowsAreHedged (step.ended_by_last last moment s)
hedged_by_last None moment s old = old.hedged
hedged_by_last (Some last) moment s old =
    elim (has_none s.call.live) as (λ b. RowsAreHedged (if b then step.ended_by_row last moment s else s)) [ true ↦ (hedged_by_row last moment s old).hedged | false ↦ old.hedged ]

hedged_stopped : (moment : ℕ) (s : Stepped) → AreHedgedBy moment s → AreHedgedBy moment (step.with_attempts (stopped_attempts s.call.attempts) s)
hedged_stopped moment s old = record {
  hedged = record { ends = λ policy e place row is end h x. (refl, (old.hedged.ends policy e place row is end h x).1) };
  by = old.by;
}

hedged_over : (over : Bool) (row : Option ℕ) (moment : ℕ) (s : Stepped) → AreHedgedBy moment s → RowsAreHedged (step.committed_over over row moment s)
hedged_over over None moment s old = old.hedged
hedged_over true (Some place) moment s old = (hedged_commit place moment s old).hedged
hedged_over false (Some place) moment s old = old.hedged

hedged_place : (row : LiveRow) (at : Placed) (s : Stepped) → RowsAreHedged s → RowsAreHedged (step.placed_row_live row at s)
hedged_place row at s old =
    let owner : ℕ = s.call.number in
    let rows : List Row = s.ledger.rows in
    let after : List Row = changed_at (placed_row at) rows row.place in
    let like : AreLike IsKeptRow rows after = all_changed_at IsKeptRow kept_write (placed_row at) (kept_placed at) rows row.place in
    record {
      ends = λ policy e.
          each_changed (λ p r. EndOf (StopsHedging policy s.call.attempts.stopped owner after) p r) owner row.place (placed_row at) rows (λ r. record { call = refl }) (λ r is h. h)
          (ends_to policy s.call.attempts.stopped s.call.attempts.stopped owner rows after rows (kept_like owner rows after like) (λ m h. by_like owner rows after m like h) (λ h. h) (old.ends policy e));
    }

hedged_made : (due : ℕ) (s : Stepped) → next_due s.call ≡ Some due → RowsAreHedged s → RowsAreHedged (step.made due s)
hedged_made due s e old =
    let owner : ℕ = s.call.number in
    let rows : List Row = s.ledger.rows in
    let new : Row = new_row owner (min (s.call.attempts.sent + 1) 4294967295) (kind_of_next (call_plan s.call) s.call.attempts) due None in
    let going : s.call.attempts.stopped ≡ false = not_stopped (call_plan s.call) s.call.attempts due e in
    record {
      ends = λ policy known.
          each_more (λ p r. EndOf (StopsHedging policy s.call.attempts.stopped owner (rows ++ new ∷ [])) p r) owner rows new (λ x h. absurd (let no : None ≡ Some x = h in cc))
          (λ place row is end h x.
          absurd (let was : s.call.attempts.stopped ≡ true = (old.ends policy known place row is end h (ends_back policy owner rows (rows ++ new ∷ []) place row.number end (kept_more owner rows new) x)).0 in
          let no : true ≡ false = sym was ∙ going in cc));
    }

timed_by : (now moment : ℕ) (s : Stepped) → now ≤ moment → RowsAreDue now s → RowsAreHedged s → AreHedgedBy moment s
timed_by now moment s le timed old = record {
  hedged = old;
  by = λ place row is h. (let due : row.due ≤ now = timed place row is in omega (arith, due, le));
}

pub hedged_moves : Moves (λ chosen. Unit {0}) (λ s row reported. follows_end s.call.attempts reported.cause reported.unseen ≡ true → is_stop reported.pushback ≡ false) (λ moment s t. (now : ℕ) → now ≤ moment → IsKept s.call → IsApart s → RowsAreDue now s → HasNoRows s → RowsAreHedged s → RowsAreHedged t)
hedged_moves = record {
  same = λ moment s now le kept apart timed none old. old;
  configured = λ chosen moment s known e fresh now le kept apart timed none old. no_rows s (with_chosen chosen moment s) refl refl (none fresh);
  over_limit = λ chosen moment s known e fresh now le kept apart timed none old. over_hedged chosen moment s (none fresh);
  ended = λ why moment s by e now le kept apart timed none old. (hedged_end why moment s (timed_by now moment s le timed old)).hedged;
  too_large = λ row moment s e now le kept apart timed none old. (hedged_end ends.Response moment s (timed_by now moment s le timed old)).hedged;
  head = λ place row meta moment s e now le kept apart timed none old. hedged_head place meta moment s (is_some s.call.attempts.committed) (timed_by now moment s le timed old);
  message = λ row octets moment s now le kept apart timed none old. hedged_message octets s (is_committed_live row s.call) old;
  row_ended = λ place row reported moment word s e plain now le kept apart timed none old.
      hedged_live place row reported moment word s (follows_end s.call.attempts reported.cause reported.unseen) plain e kept apart (timed_by now moment s le timed old);
  placed = λ place row at s entry e free now le kept apart timed none old. hedged_place row at s old;
  refused = λ due moment s e passed tested now le kept apart timed none old.
      hedged_by_last s.call.attempts.last moment (step.with_attempts (stopped_attempts s.call.attempts) s) (hedged_stopped moment s (timed_by now moment s le timed old));
  made = λ due moment s e passed now le kept apart timed none old. hedged_made due s e old;
  accepted = λ message moment s e room now le kept apart timed none old.
      let row : Option ℕ = furthest s.call.buffer s.call.live in
      let before : AreHedgedBy moment s = timed_by now moment s le timed old in
      hedged_over (pushed_over s.call.buffer (framed message) row) row moment (record s { call = with_message message row s.call }) (record { hedged = record { ends = old.ends }; by = before.by });
}

pub hedged_new : (number : ℕ) (request : RequestSeen) (begun : ℕ) (ledger : Ledger) (tokens : Option Bucket) (acts : List CallAct) → RowsAreHedged (step.lent (new_call number request begun) ledger tokens acts)
hedged_new number request begun ledger tokens acts = record { ends = λ policy e. absurd (cc) }

-- what is done to other calls
pub hedged_elsewhere : (s : Stepped) (ledger : Ledger) → KeepsHedges s.call.number s.ledger.rows ledger.rows → RowsAreHedged s → RowsAreHedged (record s { ledger = ledger })
hedged_elsewhere s ledger keeps old = record {
  ends = λ policy known place row is end e.
      let owner : ℕ = s.call.number in
      let rows : List Row = s.ledger.rows in
      let was : WasHedge owner rows place row = keeps.back place row is in
      let before : StopsHedging policy s.call.attempts.stopped owner rows place was.row.number end = old.ends policy known place was.row was.is end (sym was.ended ∙ e) in
      subst (λ (k : ℕ). StopsHedging policy s.call.attempts.stopped owner ledger.rows place k end) (sym was.number)
      (stop_to policy owner rows ledger.rows place was.row.number end s.call.attempts.stopped s.call.attempts.stopped keeps.there (by_keeps owner rows ledger.rows end.moment keeps) (λ h. h) before);
}
  where
    by_keeps : (owner : ℕ) (rows after : List Row) (moment : ℕ) → KeepsHedges owner rows after → HedgesBy owner rows moment → HedgesBy owner after moment
    by_keeps owner rows after moment keeps by = λ place row is h.
        let was : WasHedge owner rows place row = keeps.back place row is in
        let before : was.row.due ≤ moment = by place was.row was.is (ap (λ (k : RowKind). is_hedge k) (sym was.kind) ∙ h) in
        let same : row.due ≡ was.row.due = was.due in
        omega (arith, before, same)

-- the law
hedge_kind : (k : RowKind) → is_hedge k ≡ true → k ≡ kind.Hedge
hedge_kind kind.First e = absurd (cc)
hedge_kind kind.Retry e = absurd (cc)
hedge_kind kind.Hedge e = refl
hedge_kind kind.Transparent e = absurd (cc)

due_at_end : (due : ℕ) (end : RowEnd) (delay : Option ℕ) → due ≡ option_map_or (millis_after end) delay end.moment → ((due == end.moment) || option_map_or (λ millis. due == millis_after end millis) delay false) ≡ true
due_at_end due end None e = ap (λ (b : Bool). b || false) (eq-eqb due end.moment e)
due_at_end due end (Some millis) e = or_second (due == end.moment) (due == millis_after end millis) (eq-eqb due (millis_after end millis) e)

ended_makes : (policy : HedgePolicy) (due : ℕ) (row : Row) (end : RowEnd) → row.ended ≡ Some end → due ≡ forced_by end → makes_due policy due row ≡ true
ended_makes policy due row end e d =
    or_second (placing_makes_due policy due row.placed) (end_makes_due due row)
    (ap (λ (o : Option RowEnd). option_map_or (λ end. (due == end.moment) || option_map_or (λ millis. due == millis_after end millis) (delay_of end.pushback) false) o false) e
    ∙ due_at_end due end (delay_of end.pushback) d)

placed_makes : (policy : HedgePolicy) (due : ℕ) (row : Row) (at : Placed) → row.placed ≡ Some at → due ≡ at.moment + policy.delay → makes_due policy due row ≡ true
placed_makes policy due row at e d =
    ap (λ (b : Bool). b || end_makes_due due row)
    (ap (λ (o : Option Placed). option_map_or (λ p. due == p.moment + policy.delay) o false) e ∙ eq-eqb due (at.moment + policy.delay) d)

due_before : (policy : HedgePolicy) (owner : ℕ) (rows before : List Row) (row : Row) (after : List Row) (split : IsSplit owner rows before row after) → IsForcedBefore policy owner rows (split_place split.pre) row.due ⊎ IsDelayedBefore policy owner rows (split_place split.pre) row.number row.due → list_any (makes_due policy row.due) before ≡ true
due_before policy owner rows before row after split (inl forced) =
    any_before (makes_due policy row.due) owner rows before row after split forced.why.place forced.why.has.row forced.why.has.is forced.order
    (ended_makes policy row.due forced.why.has.row forced.why.has.end forced.why.has.ended forced.why.due)
due_before policy owner rows before row after split (inr delayed) =
    any_before (makes_due policy row.due) owner rows before row after split delayed.why.placed.place delayed.why.placed.has.row delayed.why.placed.has.is delayed.order
    (placed_makes policy row.due delayed.why.placed.has.row delayed.why.placed.at delayed.why.placed.placed
    (delayed.why.due ∙ ap (λ (k : ℕ). k + policy.delay) (sym delayed.why.placed.moment)))

hedge_reason : (plan : CallPlan) (policy : HedgePolicy) (owner : ℕ) (rows : List Row) (place : ℕ) (row : Row) (why : RowKind) → plan ≡ plans.Hedge policy → why ≡ kind.Hedge → Reason plan owner rows place row why → IsForcedBefore policy owner rows place row.due ⊎ IsDelayedBefore policy owner rows place row.number row.due
hedge_reason plan policy owner rows place row why p k reason =
    subst (λ (x : CallPlan). Reason x owner rows place row kind.Hedge) p (subst (λ (x : RowKind). Reason plan owner rows place row x) k reason)

not_found : (b : Bool) → (b ≡ true → ⊥) → b ≡ false
not_found true never = absurd (never refl)
not_found false never = refl

over_by : (policy : HedgePolicy) (owner : ℕ) (rows before : List Row) (row : Row) (after : List Row) (end : RowEnd) (split : IsSplit owner rows before row after) (stop outside : Bool) → is_stop end.pushback ≡ stop → (not (has_code policy.codes end.code) && not (is_followed row after)) ≡ outside → (stop || outside) ≡ true → EndsHedging policy owner rows (split_place split.pre) row.number end
over_by policy owner rows before row after end split true outside s o e = inl s
over_by policy owner rows before row after end split false true s o e =
    let both : (not (has_code policy.codes end.code) ≡ true) × (not (is_followed row after) ≡ true) = and_parts (not (has_code policy.codes end.code)) (not (is_followed row after)) o in
    inr (not_true (has_code policy.codes end.code) both.0, λ f. let no : true ≡ false = sym (followed_in owner rows before row after split f) ∙ not_true (is_followed row after) both.1 in cc)
over_by policy owner rows before row after end split false false s o e = absurd (cc)

ended_some : (test : RowEnd → Bool) (o : Option RowEnd) → option_map_or test o false ≡ true → (end : RowEnd) × ((o ≡ Some end) × (test end ≡ true))
ended_some test None e = absurd (cc)
ended_some test (Some end) e = (end, (refl, e))

never_over : (policy : HedgePolicy) (s : Stepped) (place : ℕ) (hedge : Row) → call_plan s.call ≡ plans.Hedge policy → RowsAreHedged s → IsRowOf s.call.number s.ledger.rows place hedge → is_hedge hedge.kind ≡ true → is_hedging_over policy hedge.due (rows_of s.call.number s.ledger.rows) ≡ true → ⊥
never_over policy s place hedge plan hedged is why e =
    let owner : ℕ = s.call.number in
    let rows : List Row = s.ledger.rows in
    let found : IsSome (λ at row after. hedging_ended policy hedge.due row after) 0 (rows_of owner rows) = some_found (λ at row after. hedging_ended policy hedge.due row after) 0 (rows_of owner rows) e in
    let split : IsSplit owner rows found.before found.row found.after = split_of owner rows found.before found.row found.after found.together in
    let ended : (end : RowEnd) × ((found.row.ended ≡ Some end) × (ends_hedging policy hedge.due found.row found.after end ≡ true)) = ended_some (ends_hedging policy hedge.due found.row found.after) found.row.ended found.passes in
    let end : RowEnd = ended.0 in
    let both : (nat_lt end.moment hedge.due ≡ true) × ((is_stop end.pushback || (not (has_code policy.codes end.code) && not (is_followed found.row found.after))) ≡ true) =
    and_parts (nat_lt end.moment hedge.due) (is_stop end.pushback || (not (has_code policy.codes end.code) && not (is_followed found.row found.after))) ended.1.1 in
    let early : end.moment < hedge.due = ltb-true end.moment hedge.due both.0 in
    let late : hedge.due ≤ end.moment =
    (hedged.ends policy plan (split_place split.pre) found.row (split_row owner rows found.before found.row found.after split) end ended.1.0
    (over_by policy owner rows found.before found.row found.after end split (is_stop end.pushback) (not (has_code policy.codes end.code) && not (is_followed found.row found.after)) refl refl both.1)).1 place hedge is why in
    omega (arith, early, late)

row_hedged : (plan : CallPlan) (s : Stepped) (before : List Row) (row : Row) (after : List Row) → call_plan s.call ≡ plan → HasReasons s → RowsAreHedged s → rows_of s.call.number s.ledger.rows ≡ before ++ row ∷ after → KeepsHedging plan (rows_of s.call.number s.ledger.rows) before row
row_hedged plans.None s before row after known reasons hedged together = tt
row_hedged (plans.Retry policy) s before row after known reasons hedged together = tt
row_hedged (plans.Hedge policy) s before row after known reasons hedged together =
    let owner : ℕ = s.call.number in
    let rows : List Row = s.ledger.rows in
    let split : IsSplit owner rows before row after = split_of owner rows before row after together in
    let is : IsRowOf owner rows (split_place split.pre) row = split_row owner rows before row after split in
    OnTrue_from (is_hedge row.kind) (IsDueHedge policy (rows_of owner rows) before row)
    (λ h. record {
      due = due_before policy owner rows before row after split
          (hedge_reason (call_plan s.call) policy owner rows (split_place split.pre) row row.kind known (hedge_kind row.kind h) (reasons.rows (split_place split.pre) row is));
      goes_on = not_found (is_hedging_over policy row.due (rows_of owner rows)) (λ e. never_over policy s (split_place split.pre) row known hedged is h e);
    })

breaks_ten : (chosen : Chosen) (rows before : List Row) (row : Row) (after : List Row) → KeepsHedging chosen.plan rows before row → Breaks chosen rows 10 before row after → ⊥
breaks_ten chosen rows before row after keeps (inl h) = let no : 10 ≡ 8 = h.0 in omega (arith, no)
breaks_ten chosen rows before row after keeps (inr (inl h)) = let no : 10 ≡ 9 = h.0 in omega (arith, no)
breaks_ten chosen rows before row after keeps (inr (inr (inl h))) = h.1 keeps
breaks_ten chosen rows before row after keeps (inr (inr (inr (inl h)))) = let no : 10 ≡ 11 = h.0 in omega (arith, no)
breaks_ten chosen rows before row after keeps (inr (inr (inr (inr h)))) = let no : 10 ≡ 12 = h.0 in omega (arith, no)

pub never_unhedged : (chosen : Chosen) (s : Stepped) → s.call.chosen ≡ Some chosen → HasReasons s → RowsAreHedged s → NeverBreaks 10 chosen s
never_unhedged chosen s known reasons hedged = λ place breaks.
    breaks_ten chosen (rows_of s.call.number s.ledger.rows) breaks.before breaks.row breaks.after
    (row_hedged chosen.plan s breaks.before breaks.row breaks.after (ap (λ (o : Option Chosen). plan_of o) known) reasons hedged breaks.together) breaks.broken
