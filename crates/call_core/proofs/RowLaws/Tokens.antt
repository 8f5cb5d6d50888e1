-- No row of a call breaks the law of throttling.
use Rattle.std.proofs.Common.{◌≡◌, ◌≤◌, ℕ, ◌+◌, ◌-◌, Bool, true, false, not, ◌&&◌, ◌||◌, if◌then◌else◌, min, length, Option, Some, None, IfSome, is_some, List, [], ◌∷◌, ◌++◌, refl, sym, ap, subst, ◌∙◌, inl, inr, arith}
use Rattle.std.proofs.Math.Nat.{le-min, min-le_left, min-le_right}
use Rattle.std.proofs.lemmas.Bool.{OnTrue_from}
use Rattle.grpc_base.specs.Codes.{has_code, no_codes}
use Rattle.grpc_base.specs.Requests.{RequestSeen}
use Rattle.grpc_base.specs.declared.code.Code.{Code}
use Rattle.grpc_base.specs.declared.code.Code.TheVariants as code
use Rattle.grpc_base.specs.declared.event.EndCause.{EndCause}
use Rattle.grpc_base.specs.declared.event.EndCause.TheVariants as ends
use Rattle.grpc_base.specs.declared.fields.Field.{Field}
use Rattle.grpc_base.specs.declared.plan.CallPlan.{CallPlan}
use Rattle.grpc_base.specs.declared.plan.CallPlan.TheVariants as plans
use Rattle.grpc_base.specs.declared.plan.Chosen.{Chosen}
use Rattle.grpc_base.specs.declared.plan.Pushback.{Pushback}
use Rattle.grpc_base.specs.declared.plan.Throttle.{Throttle}
use Rattle.attempt_ledger.specs.Ends.{is_counted, is_cut, is_followed, is_stop}
use Rattle.attempt_ledger.specs.Faults.{Breaks}
use Rattle.attempt_ledger.specs.Numbering.{is_transparent}
use Rattle.attempt_ledger.specs.Throttling.{IsCountAfter, KeepsThrottling, codes_of, is_failure, is_success}
use Rattle.attempt_ledger.specs.declared.ledger.Ledger.{Ledger}
use Rattle.attempt_ledger.specs.declared.news.EndNews.{EndNews}
use Rattle.attempt_ledger.specs.declared.row.Placed.{Placed}
use Rattle.attempt_ledger.specs.declared.row.Row.{Row}
use Rattle.attempt_ledger.specs.declared.row.RowEnd.{RowEnd}
use Rattle.attempt_ledger.specs.declared.row.RowKind.{RowKind}
use Rattle.attempt_ledger.specs.declared.row.RowKind.TheVariants as kind
use Rattle.ledger_stamps.specs.Steps.{changed_at, committed_row, ended_row, placed_row}
use Rattle.a6_numbers.specs.Throttling.{Bucket, after_failure, after_success}
use Rattle.grpc_frame.specs.Messages.{framed}
use Rattle.call_core.specs.declared.act.CallAct.{CallAct}
use Rattle.call_core.specs.declared.judge.Judged.{Judged}
use Rattle.call_core.specs.declared.live.LiveRow.{LiveRow}
use Rattle.call_core.specs.Laws.{IsKept}
use Rattle.call_core.specs.Parts.{committed_buffer, count_of, cut_end, find_live, furthest, has_none, is_in_set, is_ok, kind_of_next, names, pushed_over, row_end, settled_bucket, settled_tokens, stopped_attempts}
use Rattle.call_core.specs.Parts as parts
use Rattle.call_core.specs.RowLaws.{TokensAreOwn, RowsAreThrottled, EndsKeep, FitsTokens, HasCount, IsBucketOf, IsCountOf, IsCountedAt, IsFollowedAt, KeepsEnds, NeverBreaks, WasEnded, rows_of}
use Rattle.call_core.specs.Rows.{IsApart, IsStanding, row_in}
use Rattle.call_core.specs.Steps as step
use Rattle.call_core.specs.Steps.{Stepped, call_plan, is_committed_live, judged_of, left_live, new_call, new_row, next_due, settled, stamp_if, with_chosen, with_judged, with_message}
use Rattle.call_core.proofs.Alike.{all_changed_at, all_cut, all_joined}
use Rattle.call_core.proofs.Cuts.{row_below}
use Rattle.call_core.proofs.EachRow.{EachRow, EndOf, TakesCuts, counted_back, each_changed, each_cut, each_more, ends_final, kept_joined, with_end}
use Rattle.call_core.proofs.Keeping.{found_some, not_stopped}
use Rattle.call_core.proofs.KeptReasons.{AreKept, kept_committed, kept_like, kept_more, kept_placed, kept_write}
use Rattle.call_core.proofs.Moves.{Moves}
use Rattle.call_core.proofs.RowLaws.Splits.{IsSplit, and_parts, followed_in, if_some, not_true, split_of, split_place, split_row}
use Rattle.call_core.proofs.Standing.{found_stands, row_changed_same, row_last}
use Rattle.call_core.specs.Reasons.{IsKeptRow}

-- codes
none_has : (c : Code) → has_code no_codes c ≡ false
none_has code.Ok = refl
none_has code.Cancelled = refl
none_has code.Unknown = refl
none_has code.InvalidArgument = refl
none_has code.DeadlineExceeded = refl
none_has code.NotFound = refl
none_has code.AlreadyExists = refl
none_has code.PermissionDenied = refl
none_has code.ResourceExhausted = refl
none_has code.FailedPrecondition = refl
none_has code.Aborted = refl
none_has code.OutOfRange = refl
none_has code.Unimplemented = refl
none_has code.Internal = refl
none_has code.Unavailable = refl
none_has code.DataLoss = refl
none_has code.Unauthenticated = refl

ok_same : (c : Code) → is_ok c ≡ is_success c
ok_same code.Ok = refl
ok_same code.Cancelled = refl
ok_same code.Unknown = refl
ok_same code.InvalidArgument = refl
ok_same code.DeadlineExceeded = refl
ok_same code.NotFound = refl
ok_same code.AlreadyExists = refl
ok_same code.PermissionDenied = refl
ok_same code.ResourceExhausted = refl
ok_same code.FailedPrecondition = refl
ok_same code.Aborted = refl
ok_same code.OutOfRange = refl
ok_same code.Unimplemented = refl
ok_same code.Internal = refl
ok_same code.Unavailable = refl
ok_same code.DataLoss = refl
ok_same code.Unauthenticated = refl

codes_same : (plan : CallPlan) (c : Code) → has_code (codes_of plan) c ≡ is_in_set plan c
codes_same plans.None c = none_has c
codes_same (plans.Retry policy) c = refl
codes_same (plans.Hedge policy) c = refl

-- a bucket after an end
pub settled_fits : (throttle : Throttle) (b : Bucket) (ok fails : Bool) → IsBucketOf throttle b → IsBucketOf throttle (if ok then after_success b else if fails then after_failure b else b)
settled_fits throttle b true fails old = record { start = old.start; ratio = old.ratio; most = min-le_right (b.count + b.ratio) b.start }
settled_fits throttle b false true old =
    let most : b.count ≤ b.start = old.most in
    let less : b.count - 1000 ≤ b.start = omega (arith, most) in
    record { start = old.start; ratio = old.ratio; most = less }
settled_fits throttle b false false old = old

failed_count : (throttle : Throttle) (b : Bucket) (ok fails : Bool) → IsBucketOf throttle b → ok ≡ false → fails ≡ true → (if ok then after_success b else if fails then after_failure b else b).count ≤ throttle.start - 1000
failed_count throttle b ok true old e f =
    let most : b.count ≤ b.start = old.most in
    let start : b.start ≡ throttle.start = old.start in
    let le : b.count - 1000 ≤ throttle.start - 1000 = omega (arith, most, start) in
    subst (λ (x : Bool). (if x then after_success b else after_failure b).count ≤ throttle.start - 1000) (sym e) le
failed_count throttle b ok false old e f = absurd (cc)

more_above : (x a b : ℕ) → x ≤ b → x ≤ a + b
more_above x a b h = omega (arith, h)

min_more : (a b c : ℕ) → min b c ≤ min (a + b) c
min_more a b c = le-min (more_above (min b c) a b (min-le_left b c)) (min-le_right b c)

won_count : (throttle : Throttle) (b : Bucket) (ok fails : Bool) → IsBucketOf throttle b → ok ≡ true → min throttle.ratio throttle.start ≤ (if ok then after_success b else if fails then after_failure b else b).count
won_count throttle b true fails old e =
    subst (λ (k : ℕ). min throttle.ratio k ≤ min (b.count + b.ratio) b.start) old.start
    (subst (λ (k : ℕ). min k b.start ≤ min (b.count + b.ratio) b.start) old.ratio (min_more b.count b.ratio b.start))
won_count throttle b false fails old e = absurd (cc)

fail_parts : (ok has stop : Bool) → (not ok && (has || stop)) ≡ true → (ok ≡ false) × ((has || stop) ≡ true)
fail_parts true has stop e = absurd (cc)
fail_parts false has stop e = (refl, e)

bucket_count : (plan : CallPlan) (throttle : Throttle) (b : Bucket) (counted : Type 0) (end : RowEnd) → IsBucketOf throttle b → IsCountOf plan throttle counted end (settled_bucket end.code end.pushback (is_in_set plan end.code) b).count
bucket_count plan throttle b counted end fits =
    let ok : Bool = is_ok end.code in
    let fails : Bool = is_in_set plan end.code || is_stop end.pushback in
    let after : IsBucketOf throttle (settled_bucket end.code end.pushback (is_in_set plan end.code) b) = settled_fits throttle b ok fails fits in
    record {
      most = subst (λ (k : ℕ). (settled_bucket end.code end.pushback (is_in_set plan end.code) b).count ≤ k) after.start after.most;
      failure = λ c f.
          let both : (is_success end.code ≡ false) × ((has_code (codes_of plan) end.code || is_stop end.pushback) ≡ true) = fail_parts (is_success end.code) (has_code (codes_of plan) end.code) (is_stop end.pushback) f in
          failed_count throttle b ok fails fits (ok_same end.code ∙ both.0) (ap (λ (x : Bool). x || is_stop end.pushback) (sym (codes_same plan end.code)) ∙ both.1);
      success = λ c f. won_count throttle b ok fails fits (ok_same end.code ∙ f);
    }

settled_count : (plan : CallPlan) (throttle : Throttle) (o : Option Bucket) (counted : Type 0) (end : RowEnd) (tokens : ℕ) → FitsTokens (Some throttle) o → end.tokens ≡ count_of (settled_tokens end.code end.pushback (is_in_set plan end.code) o) → end.tokens ≡ Some tokens → IsCountOf plan throttle counted end tokens
settled_count plan throttle None counted end tokens fits e h = absurd (let no : None ≡ Some tokens = sym e ∙ h in cc)
settled_count plan throttle (Some b) counted end tokens fits e h =
    let both : Some (settled_bucket end.code end.pushback (is_in_set plan end.code) b).count ≡ Some tokens = sym e ∙ h in
    let same : (settled_bucket end.code end.pushback (is_in_set plan end.code) b).count ≡ tokens = (cc) in
    subst (λ (k : ℕ). IsCountOf plan throttle counted end k) same (bucket_count plan throttle b counted end fits)

-- an end that doesn't count
plain_count : (plan : CallPlan) (throttle : Throttle) (o : Option Bucket) (counted : Type 0) (end : RowEnd) (tokens : ℕ) → (counted → ⊥) → FitsTokens (Some throttle) o → end.tokens ≡ count_of o → end.tokens ≡ Some tokens → IsCountOf plan throttle counted end tokens
plain_count plan throttle None counted end tokens never fits e h = absurd (let no : None ≡ Some tokens = sym e ∙ h in cc)
plain_count plan throttle (Some b) counted end tokens never fits e h =
    let both : Some b.count ≡ Some tokens = sym e ∙ h in
    let same : b.count ≡ tokens = (cc) in
    let most : b.count ≤ b.start = fits.most in
    let start : b.start ≡ throttle.start = fits.start in
    record {
      most = (omega (arith, same, most, start));
      failure = λ c f. absurd (never c);
      success = λ c f. absurd (never c);
    }

abbrev fits_of : (chosen : Chosen) (o : Option Bucket) (throttle : Throttle) → FitsTokens chosen.throttle o → chosen.throttle ≡ Some throttle → FitsTokens (Some throttle) o
fits_of chosen o throttle fits e = subst (λ (t : Option Throttle). FitsTokens t o) e fits

fits_settled : (plan : CallPlan) (throttle : Option Throttle) (c : Code) (p : Pushback) (in_set : Bool) (o : Option Bucket) → FitsTokens throttle o → FitsTokens throttle (settled_tokens c p in_set o)
fits_settled plan throttle c p in_set None fits = tt
fits_settled plan None c p in_set (Some b) fits = fits
fits_settled plan (Some throttle) c p in_set (Some b) fits = settled_fits throttle b (is_ok c) (in_set || is_stop p) fits

-- later rows
count_to : (chosen : Chosen) (owner : ℕ) (rows after : List Row) (place number : ℕ) (end : RowEnd) → AreKept owner rows after → HasCount chosen owner rows place number end → HasCount chosen owner after place number end
count_to chosen owner rows after place number end kept old = λ throttle t tokens h. record {
  most = (old throttle t tokens h).most;
  failure = λ counted f. (old throttle t tokens h).failure (counted_back owner rows after place number end kept counted) f;
  success = λ counted f. (old throttle t tokens h).success (counted_back owner rows after place number end kept counted) f;
}

abbrev Ends : Chosen → ℕ → List Row → List Row → Type 0
Ends chosen owner final rows = EndsKeep (HasCount chosen owner) owner final rows

ends_to : (chosen : Chosen) (owner : ℕ) (final later rows : List Row) → AreKept owner final later → Ends chosen owner final rows → Ends chosen owner later rows
ends_to chosen owner final later rows kept old =
    ends_final (HasCount chosen owner) owner final later rows (λ place number end h. count_to chosen owner final later place number end kept h) old

cut_count : (chosen : Chosen) (owner : ℕ) (final : List Row) (moment : ℕ) (o : Option Bucket) → FitsTokens chosen.throttle o → TakesCuts (λ place row. EndOf (HasCount chosen owner final) place row) moment (count_of o)
cut_count chosen owner final moment o fits = λ entry seen place row old.
    with_end (HasCount chosen owner final) place (cut_end entry moment seen (count_of o)) row
    (λ none throttle t tokens h.
    plain_count chosen.plan throttle o (IsCountedAt owner final place row.number (cut_end entry moment seen (count_of o))) (cut_end entry moment seen (count_of o)) tokens
    (λ counted. let no : true ≡ false = counted.cause in cc) (fits_of chosen o throttle fits t) refl h)
    old

-- commitment and end
commit_kept : (place moment : ℕ) (s : Stepped) → AreKept s.call.number s.ledger.rows (step.committed place moment s).ledger.rows
commit_kept place moment s =
    kept_like s.call.number s.ledger.rows (step.committed place moment s).ledger.rows
    (all_joined IsKeptRow kept_write s.ledger.rows (step.commit_stamped place s.ledger).rows (step.committed place moment s).ledger.rows
    (all_changed_at IsKeptRow kept_write (committed_row s.ledger.entry) (kept_committed s.ledger.entry) s.ledger.rows place)
    (all_cut IsKeptRow kept_write (Some place) moment (count_of s.tokens) s.call.live (step.commit_stamped place s.ledger)))

end_kept : (why : EndCause) (moment : ℕ) (s : Stepped) → AreKept s.call.number s.ledger.rows (step.ended_as why moment s).ledger.rows
end_kept why moment s =
    kept_like s.call.number s.ledger.rows (step.ended_as why moment s).ledger.rows (all_cut IsKeptRow kept_write None moment (count_of s.tokens) s.call.live s.ledger)

pub own_fits : (tokens : Option Bucket) (o : Option Chosen) (chosen : Chosen) → o ≡ Some chosen → TokensAreOwn tokens o → FitsTokens chosen.throttle tokens
own_fits tokens o chosen e own = subst (λ (x : Option Chosen). TokensAreOwn tokens x) e own

no_cuts : (moment : ℕ) (tokens : Option ℕ) → TakesCuts (λ place row. ⊥) moment tokens
no_cuts moment tokens = λ entry seen place row no. no

throttled_commit : (place moment : ℕ) (s : Stepped) → TokensAreOwn s.tokens s.call.chosen → RowsAreThrottled s → RowsAreThrottled (step.committed place moment s)
throttled_commit place moment s own old =
    let owner : ℕ = s.call.number in
    let rows : List Row = s.ledger.rows in
    let after : List Row = (step.committed place moment s).ledger.rows in
    record {
      ends = λ chosen e.
          each_cut (λ p row. EndOf (HasCount chosen owner after) p row) owner (Some place) moment (count_of s.tokens) s.call.live (step.commit_stamped place s.ledger)
          (cut_count chosen owner after moment s.tokens (own_fits s.tokens s.call.chosen chosen e own))
          (each_changed (λ p row. EndOf (HasCount chosen owner after) p row) owner place (committed_row s.ledger.entry) rows (λ r. record { call = refl }) (λ r is h. h)
          (ends_to chosen owner rows after rows (commit_kept place moment s) (old.ends chosen e)));
      fresh = λ e.
          each_cut (λ p row. ⊥) owner (Some place) moment (count_of s.tokens) s.call.live (step.commit_stamped place s.ledger) (no_cuts moment (count_of s.tokens))
          (each_changed (λ p row. ⊥) owner place (committed_row s.ledger.entry) rows (λ r. record { call = refl }) (λ r is h. h) (old.fresh e));
    }

throttled_end : (why : EndCause) (moment : ℕ) (s : Stepped) → TokensAreOwn s.tokens s.call.chosen → RowsAreThrottled s → RowsAreThrottled (step.ended_as why moment s)
throttled_end why moment s own old =
    let owner : ℕ = s.call.number in
    let rows : List Row = s.ledger.rows in
    let after : List Row = (step.ended_as why moment s).ledger.rows in
    record {
      ends = λ chosen e.
          each_cut (λ p row. EndOf (HasCount chosen owner after) p row) owner None moment (count_of s.tokens) s.call.live s.ledger
          (cut_count chosen owner after moment s.tokens (own_fits s.tokens s.call.chosen chosen e own))
          (ends_to chosen owner rows after rows (end_kept why moment s) (old.ends chosen e));
      fresh = λ e.
          each_cut (λ p row. ⊥) owner None moment (count_of s.tokens) s.call.live s.ledger (no_cuts moment (count_of s.tokens)) (old.fresh e);
    }

throttled_by_row : (place moment : ℕ) (s : Stepped) → TokensAreOwn s.tokens s.call.chosen → RowsAreThrottled s → RowsAreThrottled (step.ended_by_row place moment s)
throttled_by_row place moment s own old = throttled_end ends.Row moment (step.committed place moment s) own (throttled_commit place moment s own old)

-- the end of a live row
none_fresh : (place : ℕ) (row : LiveRow) (s : Stepped) → find_live place s.call.live ≡ Some row → IsKept s.call → s.call.chosen ≡ None → ⊥
none_fresh place row s f kept e = found_some place s.call.live row f (kept.unconfigured e).live

row_ends : (chosen : Chosen) (row : LiveRow) (end : RowEnd) (s : Stepped) → s.call.chosen ≡ Some chosen → FitsTokens chosen.throttle s.tokens → end.tokens ≡ count_of (settled_tokens end.code end.pushback (is_in_set chosen.plan end.code) s.tokens) → Ends chosen s.call.number s.ledger.rows s.ledger.rows → Ends chosen s.call.number (changed_at (ended_row end) s.ledger.rows row.place) (changed_at (ended_row end) s.ledger.rows row.place)
row_ends chosen row end s known fits tokens_is old =
    let owner : ℕ = s.call.number in
    let after : List Row = changed_at (ended_row end) s.ledger.rows row.place in
    let kept : AreKept owner s.ledger.rows after = kept_like owner s.ledger.rows after (all_changed_at IsKeptRow kept_write (ended_row end) (λ r. kept_write.ended end r) s.ledger.rows row.place) in
    each_changed (λ p r. EndOf (HasCount chosen owner after) p r) owner row.place (ended_row end) s.ledger.rows (λ r. record { call = refl })
    (λ r is h.
    with_end (HasCount chosen owner after) row.place end r
    (λ none throttle t tokens e. settled_count chosen.plan throttle s.tokens (IsCountedAt owner after row.place r.number end) end tokens (fits_of chosen s.tokens throttle fits t) tokens_is e)
    h)
    (ends_to chosen owner s.ledger.rows after s.ledger.rows kept old)

plan_known : (o : Option Chosen) (chosen : Chosen) → o ≡ Some chosen → parts.plan_of o ≡ chosen.plan
plan_known o chosen e = ap parts.plan_of e

pub own_settled : (reported : EndNews) (s : Stepped) → TokensAreOwn s.tokens s.call.chosen → TokensAreOwn (settled reported s).tokens s.call.chosen
own_settled reported s own = own_case s.call.chosen own
  where
    own_case : (o : Option Chosen) → TokensAreOwn s.tokens o → TokensAreOwn (settled reported s).tokens o
    own_case None h = tt
    own_case (Some chosen) h = fits_settled chosen.plan chosen.throttle reported.code reported.pushback (is_in_set (call_plan s.call) reported.code) s.tokens h

throttled_closed : (place : ℕ) (row : LiveRow) (reported : EndNews) (end : RowEnd) (moment word : ℕ) (s : Stepped) (b : Bool) → find_live place s.call.live ≡ Some row → IsKept s.call → end.code ≡ reported.code → end.pushback ≡ reported.pushback → end.tokens ≡ count_of (settled reported (left_live row.place s)).tokens → TokensAreOwn s.tokens s.call.chosen → RowsAreThrottled s → RowsAreThrottled (step.closed_if b row.place moment (with_judged row end (judged_of row end word (left_live row.place s).call (settled reported (left_live row.place s)).tokens) (settled reported (left_live row.place s))))
throttled_closed place row reported end moment word s b f kept same_code same_push tokens_is own old =
    let v : Stepped = settled reported (left_live row.place s) in
    let after : Judged = judged_of row end word v.call v.tokens in
    let last : RowEnd = record end { word = after.word } in
    let w : Stepped = with_judged row end after v in
    let one : RowsAreThrottled w = record {
      ends = λ chosen e. row_ends chosen row last s e (own_fits s.tokens s.call.chosen chosen e own) (tokens_of chosen e) (old.ends chosen e);
      fresh = λ e. absurd (none_fresh place row s f kept e);
    } in
    elim b as (λ c. RowsAreThrottled (step.closed_if c row.place moment w)) [ true ↦ throttled_by_row row.place moment w (own_settled reported s own) one | false ↦ one ]
  where
    tokens_of : (chosen : Chosen) → s.call.chosen ≡ Some chosen → end.tokens ≡ count_of (settled_tokens end.code end.pushback (is_in_set chosen.plan end.code) s.tokens)
    tokens_of chosen e =
        tokens_is
        ∙ ap (λ (p : CallPlan). count_of (settled_tokens reported.code reported.pushback (is_in_set p reported.code) s.tokens)) (plan_known s.call.chosen chosen e)
        ∙ ap (λ (c : Code). count_of (settled_tokens c reported.pushback (is_in_set chosen.plan c) s.tokens)) (sym same_code)
        ∙ ap (λ (p : Pushback). count_of (settled_tokens end.code p (is_in_set chosen.plan end.code) s.tokens)) (sym same_push)

throttled_counted : (place : ℕ) (row : LiveRow) (reported : EndNews) (moment word : ℕ) (s : Stepped) (o : Option ℕ) → find_live place s.call.live ≡ Some row → IsKept s.call → TokensAreOwn s.tokens s.call.chosen → RowsAreThrottled s → RowsAreThrottled (if is_some o then step.ended_as ends.Row moment (step.row_ended row.place (row_end reported s.ledger.entry moment (count_of (settled reported (left_live row.place s)).tokens)) (settled reported (left_live row.place s))) else step.counted_free row (row_end reported s.ledger.entry moment (count_of (settled reported (left_live row.place s)).tokens)) moment word (settled reported (left_live row.place s)))
throttled_counted place row reported moment word s (Some p) f kept own old =
    let v : Stepped = settled reported (left_live row.place s) in
    let end : RowEnd = row_end reported s.ledger.entry moment (count_of v.tokens) in
    throttled_end ends.Row moment (step.row_ended row.place end v) (own_settled reported s own)
    (record {
      ends = λ chosen e.
          row_ends chosen row end s e (own_fits s.tokens s.call.chosen chosen e own)
          (ap (λ (p : CallPlan). count_of (settled_tokens reported.code reported.pushback (is_in_set p reported.code) s.tokens)) (plan_known s.call.chosen chosen e))
          (old.ends chosen e);
      fresh = λ e. absurd (none_fresh place row s f kept e);
    })
throttled_counted place row reported moment word s None f kept own old =
    let v : Stepped = settled reported (left_live row.place s) in
    let end : RowEnd = row_end reported s.ledger.entry moment (count_of v.tokens) in
    throttled_closed place row reported end moment word s (judged_of row end word v.call v.tokens).closes f kept refl refl refl own old

-- a row that is followed doesn't count
followed_ends : (chosen : Chosen) (place : ℕ) (row : LiveRow) (end : RowEnd) (new : Row) (s : Stepped) → find_live place s.call.live ≡ Some row → IsApart s → new.call ≡ s.call.number → new.number ≡ row.number → new.kind ≡ kind.Transparent → new.ended ≡ None → FitsTokens chosen.throttle s.tokens → end.tokens ≡ count_of s.tokens → Ends chosen s.call.number s.ledger.rows s.ledger.rows → Ends chosen s.call.number (changed_at (ended_row end) s.ledger.rows row.place ++ new ∷ []) (changed_at (ended_row end) s.ledger.rows row.place ++ new ∷ [])
followed_ends chosen place row end new s f apart call number why none fits tokens_is old =
    let owner : ℕ = s.call.number in
    let rows : List Row = s.ledger.rows in
    let after : List Row = changed_at (ended_row end) rows row.place in
    let final : List Row = after ++ new ∷ [] in
    let one : IsStanding owner rows row = found_stands owner rows place s.call.live row apart.tied f in
    let kept : AreKept owner rows after = kept_like owner rows after (all_changed_at IsKeptRow kept_write (ended_row end) (λ r. kept_write.ended end r) rows row.place) in
    let below : row.place ≤ length after = row_below after row.place (ended_row end one.row) (row_changed_same (ended_row end) rows row.place one.row one.there) in
    let follows : IsFollowedAt owner final row.place row.number = record {
      later = length after + 1;
      order = (omega (arith, below));
      next = new;
      is = record { there = row_last after new; call = call };
      kind = ap (λ (k : RowKind). is_transparent k) why;
      same = number;
    } in
    each_more (λ p r. EndOf (HasCount chosen owner final) p r) owner after new
    (λ x e. absurd (let no : None ≡ Some x = sym none ∙ e in cc))
    (each_changed (λ p r. EndOf (HasCount chosen owner final) p r) owner row.place (ended_row end) rows (λ r. record { call = refl })
    (λ r is h.
    let both : Some one.row ≡ Some r = sym one.there ∙ is.there in
    let equal : one.row ≡ r = (cc) in
    let same : r.number ≡ row.number = ap (λ (x : Row). x.number) (sym equal) ∙ one.number in
    with_end (HasCount chosen owner final) row.place end r
    (λ free throttle t tokens e.
    plain_count chosen.plan throttle s.tokens (IsCountedAt owner final row.place r.number end) end tokens
    (λ counted. counted.unfollowed (subst (λ (k : ℕ). IsFollowedAt owner final row.place k) (sym same) follows))
    (fits_of chosen s.tokens throttle fits t) tokens_is e)
    h)
    (ends_to chosen owner rows final rows (kept_joined owner rows after final kept (kept_more owner after new)) old))

throttled_live : (place : ℕ) (row : LiveRow) (reported : EndNews) (moment word : ℕ) (s : Stepped) (b : Bool) → find_live place s.call.live ≡ Some row → IsKept s.call → IsApart s → TokensAreOwn s.tokens s.call.chosen → RowsAreThrottled s → RowsAreThrottled (if b then step.followed row reported moment (left_live row.place s) else step.counted row reported moment word (settled reported (left_live row.place s)))
throttled_live place row reported moment word s true f kept apart own old =
    let end : RowEnd = row_end reported s.ledger.entry moment (count_of s.tokens) in
    let new : Row = new_row s.call.number row.number kind.Transparent moment (stamp_if (names row.place s.call.attempts.committed) s.ledger.entry) in
    record {
      ends = λ chosen e. followed_ends chosen place row end new s f apart refl refl refl refl (own_fits s.tokens s.call.chosen chosen e own) refl (old.ends chosen e);
      fresh = λ e. absurd (none_fresh place row s f kept e);
    }
throttled_live place row reported moment word s false f kept apart own old = throttled_counted place row reported moment word s s.call.attempts.committed f kept own old

-- the other things that are done
throttled_chosen : (chosen : Chosen) (moment : ℕ) (s : Stepped) → s.call.chosen ≡ None → RowsAreThrottled s → RowsAreThrottled (with_chosen chosen moment s)
throttled_chosen chosen moment s fresh old = record {
  ends = λ other e place row is. absurd (old.fresh fresh place row is);
  fresh = λ e. absurd (cc);
}

over_throttled : (chosen : Chosen) (moment : ℕ) (s : Stepped) → s.call.chosen ≡ None → RowsAreThrottled s → RowsAreThrottled (step.ended_as ends.Request moment (with_chosen chosen moment s))
over_throttled chosen moment s fresh old =
    let t : Stepped = with_chosen chosen moment s in
    let none : EachRow (λ p row. ⊥) s.call.number (step.ended_as ends.Request moment t).ledger.rows =
    each_cut (λ p row. ⊥) s.call.number None moment (count_of s.tokens) s.call.live t.ledger (no_cuts moment (count_of s.tokens)) (old.fresh fresh) in
    record { ends = λ other e place row is. absurd (none place row is); fresh = λ e. absurd (cc) }

throttled_head : (place : ℕ) (meta : List Field) (moment : ℕ) (s : Stepped) (b : Bool) → TokensAreOwn s.tokens s.call.chosen → RowsAreThrottled s → RowsAreThrottled (step.with_head meta (if b then s else step.committed place moment (record s { call = record s.call { buffer = committed_buffer place s.call.buffer } })))
throttled_head place meta moment s true own old = record { ends = old.ends; fresh = old.fresh }
throttled_head place meta moment s false own old =
    let c : Stepped = record s { call = record s.call { buffer = committed_buffer place s.call.buffer } } in
    let after : RowsAreThrottled (step.committed place moment c) = throttled_commit place moment c own (record { ends = old.ends; fresh = old.fresh }) in
    record { ends = after.ends; fresh = after.fresh }

throttled_message : (octets : List ℕ) (s : Stepped) (b : Bool) → RowsAreThrottled s → RowsAreThrottled (record s { call = (if b then record s.call { inbox = record s.call.inbox { messages = s.call.inbox.messages ++ octets ∷ [] } } else s.call) })
throttled_message octets s true old = record { ends = old.ends; fresh = old.fresh }
throttled_message octets s false old = record { ends = old.ends; fresh = old.fresh }

throttled_by_last : (last : Option ℕ) (moment : ℕ) (s : Stepped) → TokensAreOwn s.tokens s.call.chosen → RowsAreThrottled s → RowsAreThrottled (step.ended_by_last last moment s)
throttled_by_last None moment s own old = old
throttled_by_last (Some last) moment s own old =
    elim (has_none s.call.live) as (λ b. RowsAreThrottled (if b then step.ended_by_row last moment s else s)) [ true ↦ throttled_by_row last moment s own old | false ↦ old ]

throttled_over : (over : Bool) (row : Option ℕ) (moment : ℕ) (s : Stepped) → TokensAreOwn s.tokens s.call.chosen → RowsAreThrottled s → RowsAreThrottled (step.committed_over over row moment s)
throttled_over over None moment s own old = old
throttled_over true (Some place) moment s own old = throttled_commit place moment s own old
throttled_over false (Some place) moment s own old = old

throttled_place : (row : LiveRow) (at : Placed) (s : Stepped) → RowsAreThrottled s → RowsAreThrottled (step.placed_row_live row at s)
throttled_place row at s old =
    let owner : ℕ = s.call.number in
    let after : List Row = changed_at (placed_row at) s.ledger.rows row.place in
    let kept : AreKept owner s.ledger.rows after = kept_like owner s.ledger.rows after (all_changed_at IsKeptRow kept_write (placed_row at) (kept_placed at) s.ledger.rows row.place) in
    record {
      ends = λ chosen e.
          each_changed (λ p r. EndOf (HasCount chosen owner after) p r) owner row.place (placed_row at) s.ledger.rows (λ r. record { call = refl }) (λ r is h. h)
          (ends_to chosen owner s.ledger.rows after s.ledger.rows kept (old.ends chosen e));
      fresh = λ e. each_changed (λ p r. ⊥) owner row.place (placed_row at) s.ledger.rows (λ r. record { call = refl }) (λ r is h. h) (old.fresh e);
    }

throttled_made : (due : ℕ) (s : Stepped) → next_due s.call ≡ Some due → IsKept s.call → RowsAreThrottled s → RowsAreThrottled (step.made due s)
throttled_made due s e kept old =
    let owner : ℕ = s.call.number in
    let new : Row = new_row owner (min (s.call.attempts.sent + 1) 4294967295) (kind_of_next (call_plan s.call) s.call.attempts) due None in
    record {
      ends = λ chosen known.
          each_more (λ p r. EndOf (HasCount chosen owner (s.ledger.rows ++ new ∷ [])) p r) owner s.ledger.rows new (λ x h. absurd (let no : None ≡ Some x = h in cc))
          (ends_to chosen owner s.ledger.rows (s.ledger.rows ++ new ∷ []) s.ledger.rows (kept_more owner s.ledger.rows new) (old.ends chosen known));
      fresh = λ none.
          absurd (let no : true ≡ false = sym (kept.unconfigured none).stopped ∙ not_stopped (call_plan s.call) s.call.attempts due e in cc);
    }

pub throttled_moves : Moves (λ chosen. Unit {0}) (λ s row reported. Unit {0}) (λ moment s t. IsKept s.call → IsApart s → TokensAreOwn s.tokens s.call.chosen → RowsAreThrottled s → RowsAreThrottled t)
throttled_moves = record {
  same = λ moment s kept apart own old. old;
  configured = λ chosen moment s known e fresh kept apart own old. throttled_chosen chosen moment s fresh old;
  over_limit = λ chosen moment s known e fresh kept apart own old. over_throttled chosen moment s fresh old;
  ended = λ why moment s by e kept apart own old. throttled_end why moment s own old;
  too_large = λ row moment s e kept apart own old. throttled_end ends.Response moment s own old;
  head = λ place row meta moment s e kept apart own old. throttled_head place meta moment s (is_some s.call.attempts.committed) own old;
  message = λ row octets moment s kept apart own old. throttled_message octets s (is_committed_live row s.call) old;
  row_ended = λ place row reported moment word s e known kept apart own old.
      throttled_live place row reported moment word s (parts.is_followed s.call.attempts reported.cause reported.unseen) e kept apart own old;
  placed = λ place row at s entry e free kept apart own old. throttled_place row at s old;
  refused = λ due moment s e passed tested kept apart own old.
      throttled_by_last s.call.attempts.last moment (step.with_attempts (stopped_attempts s.call.attempts) s) own (record { ends = old.ends; fresh = old.fresh });
  made = λ due moment s e passed kept apart own old. throttled_made due s e kept old;
  accepted = λ message moment s e room kept apart own old.
      let row : Option ℕ = furthest s.call.buffer s.call.live in
      throttled_over (pushed_over s.call.buffer (framed message) row) row moment (record s { call = with_message message row s.call }) own (record { ends = old.ends; fresh = old.fresh });
}

pub throttled_new : (number : ℕ) (request : RequestSeen) (begun : ℕ) (ledger : Ledger) (tokens : Option Bucket) (acts : List CallAct) → ((place : ℕ) (row : Row) → row_in ledger.rows place ≡ Some row → row.call ≡ number → ⊥) → RowsAreThrottled (step.lent (new_call number request begun) ledger tokens acts)
throttled_new number request begun ledger tokens acts none = record {
  ends = λ chosen e. absurd (cc);
  fresh = λ e place row is. none place row is.there is.call;
}

-- what is done to other calls
pub throttled_elsewhere : (s : Stepped) (ledger : Ledger) → KeepsEnds s.call.number s.ledger.rows ledger.rows → RowsAreThrottled s → RowsAreThrottled (record s { ledger = ledger })
throttled_elsewhere s ledger keeps old = record {
  ends = λ chosen known place row is end e.
      let was : WasEnded s.call.number s.ledger.rows place row = keeps.back place row is in
      let before : HasCount chosen s.call.number s.ledger.rows place was.row.number end = old.ends chosen known place was.row was.is end (sym was.ended ∙ e) in
      subst (λ (k : ℕ). HasCount chosen s.call.number ledger.rows place k end) (sym was.number)
      (count_to chosen s.call.number s.ledger.rows ledger.rows place was.row.number end keeps.there before);
  fresh = λ none place row is.
      let was : WasEnded s.call.number s.ledger.rows place row = keeps.back place row is in old.fresh none place was.row was.is;
}

-- the law
counted_at : (owner : ℕ) (rows before : List Row) (row : Row) (after : List Row) (end : RowEnd) → (split : IsSplit owner rows before row after) → is_counted row after end ≡ true → IsCountedAt owner rows (split_place split.pre) row.number end
counted_at owner rows before row after end split e =
    let both : (not (is_cut end.cause) ≡ true) × (not (is_followed row after) ≡ true) = and_parts (not (is_cut end.cause)) (not (is_followed row after)) e in
    record {
      cause = not_true (is_cut end.cause) both.0;
      unfollowed = λ f.
          let no : true ≡ false = sym (followed_in owner rows before row after split f) ∙ not_true (is_followed row after) both.1 in cc;
    }

row_throttled : (chosen : Chosen) (s : Stepped) (before : List Row) (row : Row) (after : List Row) → s.call.chosen ≡ Some chosen → RowsAreThrottled s → rows_of s.call.number s.ledger.rows ≡ before ++ row ∷ after → KeepsThrottling chosen row after
row_throttled chosen s before row after known throttled together =
    let owner : ℕ = s.call.number in
    let rows : List Row = s.ledger.rows in
    let split : IsSplit owner rows before row after = split_of owner rows before row after together in
    if_some chosen.throttle (λ throttle. IfSome row.ended (λ end. IfSome end.tokens (λ tokens. IsCountAfter chosen.plan throttle row after end tokens)))
    (λ throttle t.
    if_some row.ended (λ end. IfSome end.tokens (λ tokens. IsCountAfter chosen.plan throttle row after end tokens))
    (λ end e.
    if_some end.tokens (λ tokens. IsCountAfter chosen.plan throttle row after end tokens)
    (λ tokens h.
    let count : IsCountOf chosen.plan throttle (IsCountedAt owner rows (split_place split.pre) row.number end) end tokens =
    throttled.ends chosen known (split_place split.pre) row (split_row owner rows before row after split) end e throttle t tokens h in
    record {
      most = count.most;
      failure = OnTrue_from (is_counted row after end && is_failure chosen.plan end) (tokens ≤ throttle.start - 1000)
          (λ x. let both : (is_counted row after end ≡ true) × (is_failure chosen.plan end ≡ true) = and_parts (is_counted row after end) (is_failure chosen.plan end) x in
          count.failure (counted_at owner rows before row after end split both.0) both.1);
      success = OnTrue_from (is_counted row after end && is_success end.code) (min throttle.ratio throttle.start ≤ tokens)
          (λ x. let both : (is_counted row after end ≡ true) × (is_success end.code ≡ true) = and_parts (is_counted row after end) (is_success end.code) x in
          count.success (counted_at owner rows before row after end split both.0) both.1);
    })))

breaks_twelve : (chosen : Chosen) (rows before : List Row) (row : Row) (after : List Row) → KeepsThrottling chosen row after → Breaks chosen rows 12 before row after → ⊥
breaks_twelve chosen rows before row after keeps (inl h) = let no : 12 ≡ 8 = h.0 in omega (arith, no)
breaks_twelve chosen rows before row after keeps (inr (inl h)) = let no : 12 ≡ 9 = h.0 in omega (arith, no)
breaks_twelve chosen rows before row after keeps (inr (inr (inl h))) = let no : 12 ≡ 10 = h.0 in omega (arith, no)
breaks_twelve chosen rows before row after keeps (inr (inr (inr (inl h)))) = let no : 12 ≡ 11 = h.0 in omega (arith, no)
breaks_twelve chosen rows before row after keeps (inr (inr (inr (inr h)))) = h.1 keeps

pub never_miscounted : (chosen : Chosen) (s : Stepped) → s.call.chosen ≡ Some chosen → RowsAreThrottled s → NeverBreaks 12 chosen s
never_miscounted chosen s known throttled = λ place breaks.
    breaks_twelve chosen (rows_of s.call.number s.ledger.rows) breaks.before breaks.row breaks.after
    (row_throttled chosen s breaks.before breaks.row breaks.after known throttled breaks.together) breaks.broken
