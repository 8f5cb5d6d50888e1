-- No row of a call breaks the law of retries.
use Rattle.std.proofs.Common.{◌≡◌, ◌≤◌, ◌<◌, ℕ, suc, ◌+◌, ◌-◌, Bool, true, false, not, ◌&&◌, ◌||◌, ◌==◌, nat_lt, if◌then◌else◌, max, length, Option, Some, None, is_some, List, [], ◌∷◌, ◌++◌, refl, sym, ap, subst, ◌∙◌, ◌⊎◌, inl, inr, arith, eq-eqb, slice_get}
use Rattle.std.proofs.Math.Nat.{le-max_left, le-max_right, max-le}
use Rattle.std.proofs.lemmas.Bool.{OnTrue_from, eqb-true, lt-ltb, ltb-true}
use Rattle.std.specs.Bool.{OnTrue}
use Rattle.std.specs.List.{list_any}
use Rattle.std.specs.Option.{is_none, option_map_or}
use Rattle.grpc_base.specs.Codes.{has_code}
use Rattle.grpc_base.specs.declared.plan.CallPlan.{CallPlan}
use Rattle.grpc_base.specs.declared.plan.CallPlan.TheVariants as plans
use Rattle.grpc_base.specs.declared.plan.Chosen.{Chosen}
use Rattle.grpc_base.specs.declared.plan.RetryPolicy.{RetryPolicy}
use Rattle.grpc_base.specs.declared.plan.Throttle.{Throttle}
use Rattle.attempt_ledger.specs.Ends.{delay_of, ended_by, is_above, is_counted, is_cut, is_followed, is_stop, some_row, some_row_from}
use Rattle.attempt_ledger.specs.Faults.{Breaks}
use Rattle.attempt_ledger.specs.Retries.{EndsInLaw, KeepsRetries, asks_delay, asks_delay_before, has_retries, is_counted_of, is_due, is_license_by, is_licensed, is_licensed_by, is_retry, is_retryable, is_uncommitted, last_delayed, licenses, retry_due, some_counted_of}
use Rattle.attempt_ledger.specs.TransparentRows.{has_number}
use Rattle.attempt_ledger.specs.declared.row.Row.{Row}
use Rattle.attempt_ledger.specs.declared.row.RowEnd.{RowEnd}
use Rattle.attempt_ledger.specs.declared.row.RowKind.{RowKind}
use Rattle.attempt_ledger.specs.declared.row.RowKind.TheVariants as kind
use Rattle.call_core.specs.Commitments.{IsRowOf}
use Rattle.call_core.specs.Parts.{plan_of}
use Rattle.call_core.specs.Reasons.{HasReasons, Reason}
use Rattle.call_core.specs.RowChains.{RowsAreChained}
use Rattle.call_core.specs.RowLaws.{IsCountedAt, IsFollowedAt, NeverBreaks, rows_of}
use Rattle.call_core.specs.RowLicenses.{RowsAreLicensed, HaveLicenses, IsAsked, IsKnownEnd, IsLastAsked, IsLicense, IsRetryOf, IsStampedBy, due_after, may_retry}
use Rattle.call_core.specs.Steps.{Stepped, call_plan}
use Rattle.call_core.proofs.RowLaws.Chains.{AreKinds}
use Rattle.call_core.proofs.RowLaws.Retries.{IsCut, IsOwn, IsPlace, cut_at, ended_has, ended_some, followed_out, get_rest, is_not, list_at, own_of, place_of, some_in, split_at}
use Rattle.call_core.proofs.RowLaws.Splits.{IsSplit, and_parts, followed_in, if_some, not_true, split_of, split_place, split_row}

-- ends that can be tried again
and_false : (b : Bool) → (b && false) ≡ false
and_false true = refl
and_false false = refl

five : (a b c d e : Bool) → (a && b && c && d && e) ≡ (a && (b && (c && (d && e))))
five false b c d e = refl
five true false c d e = refl
five true true false d e = refl
five true true true false e = refl
five true true true true e = refl

retryable_same : (p : CallPlan) (throttle : Option Throttle) (row : Row) (after : List Row) (end : RowEnd) → is_retryable p throttle row after end ≡ (is_counted row after end && may_retry p throttle row.number end)
retryable_same plans.None throttle row after end = sym (and_false (is_counted row after end))
retryable_same (plans.Hedge policy) throttle row after end = sym (and_false (is_counted row after end))
retryable_same (plans.Retry policy) throttle row after end =
    five (is_counted row after end) (has_code policy.codes end.code) (not (is_stop end.pushback)) (is_above throttle end.tokens) (nat_lt row.number policy.max)

no_retryable : (p : CallPlan) (throttle : Option Throttle) (row : Row) (after : List Row) (end : RowEnd) → has_retries p ≡ false → is_retryable p throttle row after end ≡ false
no_retryable plans.None throttle row after end e = refl
no_retryable (plans.Hedge policy) throttle row after end e = refl
no_retryable (plans.Retry policy) throttle row after end e = absurd (let no : true ≡ false = e in cc)

-- whether an end counts, in the call's list
counted_in : (owner : ℕ) (rows before : List Row) (row : Row) (after : List Row) (end : RowEnd) (split : IsSplit owner rows before row after) → IsCountedAt owner rows (split_place split.pre) row.number end → is_counted row after end ≡ true
counted_in owner rows before row after end split counted =
    let unfollowed : is_followed row after ≡ false = is_not (is_followed row after) (λ h. counted.unfollowed (followed_out owner rows before row after split h)) in
    ap (λ (b : Bool). not b && not (is_followed row after)) counted.cause ∙ ap not unfollowed

counted_out : (owner : ℕ) (rows before : List Row) (row : Row) (after : List Row) (end : RowEnd) (split : IsSplit owner rows before row after) → is_counted row after end ≡ true → IsCountedAt owner rows (split_place split.pre) row.number end
counted_out owner rows before row after end split e =
    let both : (not (is_cut end.cause) ≡ true) × (not (is_followed row after) ≡ true) = and_parts (not (is_cut end.cause)) (not (is_followed row after)) e in
    record {
      cause = not_true (is_cut end.cause) both.0;
      unfollowed = λ f. let no : true ≡ false = sym (followed_in owner rows before row after split f) ∙ not_true (is_followed row after) both.1 in cc;
    }

-- what an end shows
license_retryable : (chosen : Chosen) (owner : ℕ) (rows before : List Row) (row : Row) (after : List Row) (end : RowEnd) (split : IsSplit owner rows before row after) → IsLicense chosen owner rows (split_place split.pre) row end → is_retryable chosen.plan chosen.throttle row after end ≡ true
license_retryable chosen owner rows before row after end split h =
    retryable_same chosen.plan chosen.throttle row after end
    ∙ ap (λ (b : Bool). b && may_retry chosen.plan chosen.throttle row.number end) (counted_in owner rows before row after end split h.counted) ∙ h.may

license_licenses : (chosen : Chosen) (owner : ℕ) (rows before : List Row) (row : Row) (after : List Row) (end : RowEnd) (split : IsSplit owner rows before row after) → IsLicense chosen owner rows (split_place split.pre) row end → licenses chosen row after end ≡ true
license_licenses chosen owner rows before row after end split h =
    ap (λ (b : Bool). b && is_uncommitted row end) (license_retryable chosen owner rows before row after end split h)
    ∙ ap (λ (o : Option ℕ). option_map_or (λ committed. nat_lt end.entry committed) o true) h.free

unlicensed_law : (chosen : Chosen) (row : Row) (after : List Row) (end : RowEnd) → end.word ≡ None → licenses chosen row after end ≡ false → is_some end.word ≡ (licenses chosen row after end && is_none (delay_of end.pushback))
unlicensed_law chosen row after end word e =
    ap (λ (o : Option ℕ). is_some o) word ∙ sym (ap (λ (b : Bool). b && is_none (delay_of end.pushback)) e)

three_first : (a b c : Bool) → (a && b && c) ≡ true → (a ≡ true) × ((b ≡ true) × (c ≡ true))
three_first true true true e = (refl, (refl, refl))
three_first false b c e = absurd (cc)
three_first true false c e = absurd (cc)
three_first true true false e = absurd (cc)

commits_if : (chosen : Chosen) (row : Row) (after : List Row) (end : RowEnd) → ((has_retries chosen.plan ≡ true) → is_counted row after end ≡ true → is_retryable chosen.plan chosen.throttle row after end ≡ false → is_uncommitted row end ≡ false) → OnTrue (has_retries chosen.plan && is_counted row after end && not (is_retryable chosen.plan chosen.throttle row after end)) (is_uncommitted row end ≡ false)
commits_if chosen row after end h =
    OnTrue_from (has_retries chosen.plan && is_counted row after end && not (is_retryable chosen.plan chosen.throttle row after end)) (is_uncommitted row end ≡ false)
    (λ e.
    let three : (has_retries chosen.plan ≡ true) × ((is_counted row after end ≡ true) × (not (is_retryable chosen.plan chosen.throttle row after end) ≡ true)) =
    three_first (has_retries chosen.plan) (is_counted row after end) (not (is_retryable chosen.plan chosen.throttle row after end)) e in
    h three.0 three.1.0 (not_true (is_retryable chosen.plan chosen.throttle row after end) three.1.1))

stamped_law : (row : Row) (end : RowEnd) → IsStampedBy end.entry row → is_uncommitted row end ≡ false
stamped_law row end h =
    ap (λ (o : Option ℕ). option_map_or (λ committed. nat_lt end.entry committed) o true) h.committed
    ∙ is_not (nat_lt end.entry h.stamp) (λ e. let less : end.entry < h.stamp = ltb-true end.entry h.stamp e in let le : h.stamp ≤ end.entry = h.order in omega (arith, less, le))

plain_law : (chosen : Chosen) (owner : ℕ) (rows before : List Row) (row : Row) (after : List Row) (end : RowEnd) (split : IsSplit owner rows before row after) → end.word ≡ None → (IsCountedAt owner rows (split_place split.pre) row.number end → ⊥) ⊎ (IsStampedBy end.entry row ⊎ (has_retries chosen.plan ≡ false)) → EndsInLaw chosen row after end
plain_law chosen owner rows before row after end split word (inl never) =
    let uncounted : is_counted row after end ≡ false = is_not (is_counted row after end) (λ e. never (counted_out owner rows before row after end split e)) in
    let none : is_retryable chosen.plan chosen.throttle row after end ≡ false =
    retryable_same chosen.plan chosen.throttle row after end ∙ ap (λ (b : Bool). b && may_retry chosen.plan chosen.throttle row.number end) uncounted in
    record {
      commits = commits_if chosen row after end (λ has counted off. absurd (let no : true ≡ false = sym counted ∙ uncounted in cc));
      draws = unlicensed_law chosen row after end word (ap (λ (b : Bool). b && is_uncommitted row end) none);
    }
plain_law chosen owner rows before row after end split word (inr (inl stamp)) = record {
  commits = commits_if chosen row after end (λ has counted off. stamped_law row end stamp);
  draws =
      unlicensed_law chosen row after end word
      (ap (λ (b : Bool). is_retryable chosen.plan chosen.throttle row after end && b) (stamped_law row end stamp) ∙ and_false (is_retryable chosen.plan chosen.throttle row after end));
}
plain_law chosen owner rows before row after end split word (inr (inr none)) = record {
  commits = commits_if chosen row after end (λ has counted off. absurd (let no : true ≡ false = sym has ∙ none in cc));
  draws = unlicensed_law chosen row after end word (ap (λ (b : Bool). b && is_uncommitted row end) (no_retryable chosen.plan chosen.throttle row after end none));
}

end_law : (chosen : Chosen) (owner : ℕ) (rows before : List Row) (row : Row) (after : List Row) (end : RowEnd) (split : IsSplit owner rows before row after) → IsKnownEnd chosen owner rows (split_place split.pre) row end → EndsInLaw chosen row after end
end_law chosen owner rows before row after end split (inl h) = record {
  commits = commits_if chosen row after end (λ has counted off. absurd (let no : true ≡ false = sym (license_retryable chosen owner rows before row after end split h) ∙ off in cc));
  draws = h.word ∙ sym (ap (λ (b : Bool). b && is_none (delay_of end.pushback)) (license_licenses chosen owner rows before row after end split h));
}
end_law chosen owner rows before row after end split (inr h) = plain_law chosen owner rows before row after end split h.word h.why

-- the greatest number below one whose end asks for a delay
asks_one : (number : ℕ) (x : Row) (rows : List Row) (d : ℕ) (b : Bool) → (b ≡ true → x.number ≤ d) → last_delayed number rows ≤ d → (if b then max x.number (last_delayed number rows) else last_delayed number rows) ≤ d
asks_one number x rows d true one rest = max-le (one refl) rest
asks_one number x rows d false one rest = rest

upper : (number d : ℕ) (xs : List Row) → ((before : List Row) (row : Row) (after : List Row) → xs ≡ before ++ row ∷ after → asks_delay_before number row after ≡ true → row.number ≤ d) → last_delayed number xs ≤ d
upper number d [] h = omega arith
upper number d (x ∷ xs) h =
    asks_one number x xs d (asks_delay_before number x xs) (λ e. h [] x xs refl e)
    (upper number d xs (λ before row after e asks. h (x ∷ before) row after (ap (λ (l : List Row). x ∷ l) e) asks))

grows : (number : ℕ) (x : Row) (rows : List Row) (b : Bool) → last_delayed number rows ≤ (if b then max x.number (last_delayed number rows) else last_delayed number rows)
grows number x rows true = le-max_right x.number (last_delayed number rows)
grows number x rows false = omega arith

here_asks : (number : ℕ) (x : Row) (rows : List Row) (b : Bool) → b ≡ true → x.number ≤ (if b then max x.number (last_delayed number rows) else last_delayed number rows)
here_asks number x rows true e = le-max_left x.number (last_delayed number rows)
here_asks number x rows false e = absurd (cc)

lower : (number : ℕ) (before : List Row) (row : Row) (after : List Row) → asks_delay_before number row after ≡ true → row.number ≤ last_delayed number (before ++ row ∷ after)
lower number [] row after e = here_asks number row after (asks_delay_before number row after) e
lower number (x ∷ before) row after e =
    let rest : row.number ≤ last_delayed number (before ++ row ∷ after) = lower number before row after e in
    let more : last_delayed number (before ++ row ∷ after) ≤ last_delayed number (x ∷ before ++ row ∷ after) = grows number x (before ++ row ∷ after) (asks_delay_before number x (before ++ row ∷ after)) in
    omega (arith, rest, more)

asked_number : (owner : ℕ) (rows : List Row) (number since : ℕ) → IsLastAsked owner rows number since → (before : List Row) (row : Row) (after : List Row) → rows_of owner rows ≡ before ++ row ∷ after → asks_delay_before number row after ≡ true → row.number ≤ since
asked_number owner rows number since last before row after together e =
    let split : IsSplit owner rows before row after = split_of owner rows before row after together in
    let both : (nat_lt row.number number ≡ true) × (asks_delay row after ≡ true) = and_parts (nat_lt row.number number) (asks_delay row after) e in
    let ended : (end : RowEnd) × ((row.ended ≡ Some end) × ((is_counted row after end && is_some (delay_of end.pushback)) ≡ true)) = ended_has (λ end. is_counted row after end && is_some (delay_of end.pushback)) row.ended both.1 in
    let two : (is_counted row after ended.0 ≡ true) × (is_some (delay_of ended.0.pushback) ≡ true) = and_parts (is_counted row after ended.0) (is_some (delay_of ended.0.pushback)) ended.1.1 in
    last.most row.number
    (record {
      place = split_place split.pre;
      end = ended.0;
      has = record { row = row; is = split_row owner rows before row after split; ended = ended.1.0 };
      counted = counted_out owner rows before row after ended.0 split two.0;
      delay = two.1;
      same = refl;
    })
    (ltb-true row.number number both.0)

asked_below : (owner : ℕ) (rows : List Row) (number since : ℕ) → (since ≡ 0) ⊎ ((since < number) × IsAsked owner rows since) → since ≤ last_delayed number (rows_of owner rows)
asked_below owner rows number since (inl e) = omega (arith, e)
asked_below owner rows number since (inr both) =
    let h : IsAsked owner rows since = both.1 in
    let r : Row = h.has.row in
    let less : since < number = both.0 in
    let where_is : IsPlace rows h.place r = place_of rows h.place r h.has.is.there in
    let cut : IsCut rows where_is.index r = cut_at rows where_is.index r where_is.there in
    let split : IsSplit owner rows (rows_of owner cut.pre) r (rows_of owner cut.post) = split_at owner rows where_is.index r h.has.is.call cut in
    let same : h.place ≡ suc (length cut.pre) = where_is.same ∙ ap suc (sym cut.len) in
    let counted : is_counted r (rows_of owner cut.post) h.end ≡ true =
    counted_in owner rows (rows_of owner cut.pre) r (rows_of owner cut.post) h.end split (subst (λ (k : ℕ). IsCountedAt owner rows k r.number h.end) same h.counted) in
    let asks : asks_delay r (rows_of owner cut.post) ≡ true =
    ended_some (λ end. is_counted r (rows_of owner cut.post) end && is_some (delay_of end.pushback)) r h.end h.has.ended (ap (λ (b : Bool). b && is_some (delay_of h.end.pushback)) counted ∙ h.delay) in
    let number_less : r.number < number = subst (λ (k : ℕ). k < number) (sym h.same) less in
    let found : r.number ≤ last_delayed number (rows_of owner cut.pre ++ r ∷ rows_of owner cut.post) =
    lower number (rows_of owner cut.pre) r (rows_of owner cut.post) (ap (λ (b : Bool). b && asks_delay r (rows_of owner cut.post)) (lt-ltb r.number number number_less) ∙ asks) in
    subst (λ (l : List Row). since ≤ last_delayed number l) (sym (list_at owner rows where_is.index r h.has.is.call cut))
    (subst (λ (k : ℕ). k ≤ last_delayed number (rows_of owner cut.pre ++ r ∷ rows_of owner cut.post)) h.same found)

last_is : (owner : ℕ) (rows : List Row) (number since : ℕ) → IsLastAsked owner rows number since → last_delayed number (rows_of owner rows) ≡ since
last_is owner rows number since last =
    let le : last_delayed number (rows_of owner rows) ≤ since = upper number since (rows_of owner rows) (asked_number owner rows number since last) in
    let ge : since ≤ last_delayed number (rows_of owner rows) = asked_below owner rows number since last.there in
    omega (arith, le, ge)

-- no later end of the number counts
counted_any_one : (number : ℕ) (x : Row) (xs : List Row) (b : Bool) → is_counted_of number x xs ≡ b → (x.number == number) ≡ true → list_any (has_number number) (x ∷ xs) ≡ true
counted_any_one number x xs b t e = ap (λ (c : Bool). c || list_any (has_number number) xs) e

second_true : (a b : Bool) → b ≡ true → (a || b) ≡ true
second_true true b e = refl
second_true false b e = e

counted_case : (number from : ℕ) (x : Row) (xs : List Row) (b : Bool) → is_counted_of number x xs ≡ b → (some_row_from (λ place row after. is_counted_of number row after) (from + 1) xs ≡ true → list_any (has_number number) xs ≡ true) → (b || some_row_from (λ place row after. is_counted_of number row after) (from + 1) xs) ≡ true → list_any (has_number number) (x ∷ xs) ≡ true
counted_case number from x xs true t rest e = counted_any_one number x xs true t (and_parts (x.number == number) (ended_by (is_counted x xs) x) t).0
counted_case number from x xs false t rest e = second_true (has_number number x) (list_any (has_number number) xs) (rest e)

counted_any : (number from : ℕ) (xs : List Row) → some_row_from (λ place row after. is_counted_of number row after) from xs ≡ true → list_any (has_number number) xs ≡ true
counted_any number from [] e = absurd (cc)
counted_any number from (x ∷ xs) e = counted_case number from x xs (is_counted_of number x xs) refl (λ h. counted_any number (from + 1) xs h) e

none_afterwards : (owner : ℕ) (rows : List Row) (i : ℕ) (r : Row) (cut : IsCut rows i r) → IsRowOf owner rows (suc i) r → AreKinds owner rows → (IsFollowedAt owner rows (suc i) r.number → ⊥) → some_counted_of r.number (rows_of owner cut.post) ≡ true → ⊥
none_afterwards owner rows i r cut is kinds off e =
    let found : IsOwn (has_number r.number) owner cut.post = own_of (has_number r.number) owner cut.post (counted_any r.number 0 (rows_of owner cut.post) e) in
    let j : ℕ = suc (length cut.pre + found.at) in
    let there : slice_get rows j ≡ Some found.row = ap (λ (l : List Row). slice_get l j) cut.together ∙ get_rest cut.pre r cut.post found.at j refl ∙ found.there in
    let is_later : IsRowOf owner rows (suc j) found.row = record { there = there; call = found.call } in
    let same : found.row.number ≡ r.number = eqb-true found.row.number r.number found.passes in
    let less : suc i < suc j = less_of i (length cut.pre) found.at cut.len in
    off (record { later = suc j; order = less; next = found.row; is = is_later; kind = kinds (suc i) (suc j) r found.row is is_later less same; same = same })
  where
    less_of : (i n k : ℕ) → n ≡ i → suc i < suc (suc (n + k))
    less_of i n k e = omega (arith, e)

four_of : (a b c d : Bool) → a ≡ true → b ≡ true → c ≡ true → d ≡ true → (a && b && c && d) ≡ true
four_of true true true true e f g h = refl
four_of false b c d e f g h = absurd (cc)
four_of true false c d e f g h = absurd (cc)
four_of true true false d e f g h = absurd (cc)
four_of true true true false e f g h = absurd (cc)

due_true : (o : Option ℕ) (due : ℕ) → o ≡ Some due → is_due o due ≡ true
due_true o due e = ap (λ (x : Option ℕ). option_map_or (λ at. at == due) x false) e ∙ eq-eqb due due refl

licensed_by : (chosen : Chosen) (policy : RetryPolicy) (owner : ℕ) (rows : List Row) (retry : Row) (h : IsRetryOf chosen owner rows retry.number retry.due) → chosen.plan ≡ plans.Retry policy → AreKinds owner rows → is_licensed chosen (rows_of owner rows) retry ≡ true
licensed_by chosen policy owner rows retry h plan kinds =
    let r : Row = h.has.row in
    let where_is : IsPlace rows h.place r = place_of rows h.place r h.has.is.there in
    let i : ℕ = where_is.index in
    let cut : IsCut rows i r = cut_at rows i r where_is.there in
    let split : IsSplit owner rows (rows_of owner cut.pre) r (rows_of owner cut.post) = split_at owner rows i r h.has.is.call cut in
    let same : h.place ≡ suc (length cut.pre) = where_is.same ∙ ap suc (sym cut.len) in
    let license : IsLicense chosen owner rows (suc (length cut.pre)) r h.end = subst (λ (k : ℕ). IsLicense chosen owner rows k r h.end) same h.license in
    let off : IsFollowedAt owner rows (suc i) r.number → ⊥ = λ f. h.license.counted.unfollowed (subst (λ (k : ℕ). IsFollowedAt owner rows k r.number) (sym where_is.same) f) in
    let none : some_counted_of r.number (rows_of owner cut.post) ≡ false =
    is_not (some_counted_of r.number (rows_of owner cut.post)) (λ e. none_afterwards owner rows i r cut (record { there = where_is.there; call = h.has.is.call }) kinds off e) in
    let due : retry_due policy (r.number - last_delayed retry.number (rows_of owner rows)) h.end ≡ Some retry.due =
    ap (λ (k : ℕ). retry_due policy (r.number - k) h.end) (last_is owner rows retry.number h.since h.last)
    ∙ sym (ap (λ (p : CallPlan). due_after p (r.number - h.since) h.end) plan) ∙ h.due_is in
    let passes : is_license_by (plans.Retry policy) chosen (rows_of owner rows) retry r (rows_of owner cut.post) h.end ≡ true =
    four_of (r.number + 1 == retry.number) (licenses chosen r (rows_of owner cut.post) h.end) (not (some_counted_of r.number (rows_of owner cut.post))) (is_due (retry_due policy (r.number - last_delayed retry.number (rows_of owner rows)) h.end) retry.due)
    (eq-eqb (r.number + 1) retry.number h.before)
    (license_licenses chosen owner rows (rows_of owner cut.pre) r (rows_of owner cut.post) h.end split license)
    (ap not none)
    (due_true (retry_due policy (r.number - last_delayed retry.number (rows_of owner rows)) h.end) retry.due due) in
    subst (λ (l : List Row). some_row (λ place row after. is_licensed_by chosen (rows_of owner rows) retry row after) l ≡ true) (sym (list_at owner rows i r h.has.is.call cut))
    (some_in (λ place row after. is_licensed_by chosen (rows_of owner rows) retry row after) (rows_of owner cut.pre) r (rows_of owner cut.post)
    (ended_some (is_license_by chosen.plan chosen (rows_of owner rows) retry r (rows_of owner cut.post)) r h.end h.has.ended
    (ap (λ (p : CallPlan). is_license_by p chosen (rows_of owner rows) retry r (rows_of owner cut.post) h.end) plan ∙ passes)))

retry_kind : (k : RowKind) → is_retry k ≡ true → k ≡ kind.Retry
retry_kind kind.First e = absurd (let no : false ≡ true = e in cc)
retry_kind kind.Retry e = refl
retry_kind kind.Hedge e = absurd (let no : false ≡ true = e in cc)
retry_kind kind.Transparent e = absurd (let no : false ≡ true = e in cc)

reason_plan : (p : CallPlan) (owner : ℕ) (rows : List Row) (place : ℕ) (row : Row) → Reason p owner rows place row kind.Retry → (policy : RetryPolicy) × (p ≡ plans.Retry policy)
reason_plan plans.None owner rows place row h = absurd h
reason_plan (plans.Retry policy) owner rows place row h = (policy, refl)
reason_plan (plans.Hedge policy) owner rows place row h = absurd h

row_retried : (chosen : Chosen) (s : Stepped) (before : List Row) (row : Row) (after : List Row) → s.call.chosen ≡ Some chosen → HasReasons s → RowsAreChained s → RowsAreLicensed s → rows_of s.call.number s.ledger.rows ≡ before ++ row ∷ after → KeepsRetries chosen (rows_of s.call.number s.ledger.rows) row after
row_retried chosen s before row after known reasons chained licensed together =
    let owner : ℕ = s.call.number in
    let rows : List Row = s.ledger.rows in
    let split : IsSplit owner rows before row after = split_of owner rows before row after together in
    let is : IsRowOf owner rows (split_place split.pre) row = split_row owner rows before row after split in
    let have : HaveLicenses chosen owner rows = licensed.ends chosen known in
    record {
      end = if_some row.ended (λ end. EndsInLaw chosen row after end) (λ end e. end_law chosen owner rows before row after end split (have.ends (split_place split.pre) row is end e));
      licensed = OnTrue_from (is_retry row.kind) (is_licensed chosen (rows_of owner rows) row ≡ true)
          (λ h.
          let reason : Reason (call_plan s.call) owner rows (split_place split.pre) row kind.Retry =
          subst (λ (k : RowKind). Reason (call_plan s.call) owner rows (split_place split.pre) row k) (retry_kind row.kind h) (reasons.rows (split_place split.pre) row is) in
          let plan : (policy : RetryPolicy) × (call_plan s.call ≡ plans.Retry policy) = reason_plan (call_plan s.call) owner rows (split_place split.pre) row reason in
          let plan_is : chosen.plan ≡ plans.Retry plan.0 = sym (ap plan_of known) ∙ plan.1 in
          licensed_by chosen plan.0 owner rows row (have.retries (ap has_retries plan_is) (split_place split.pre) row is h) plan_is chained.kinds);
    }

breaks_nine : (chosen : Chosen) (rows before : List Row) (row : Row) (after : List Row) → KeepsRetries chosen rows row after → Breaks chosen rows 9 before row after → ⊥
breaks_nine chosen rows before row after keeps (inl h) = let no : 9 ≡ 8 = h.0 in omega (arith, no)
breaks_nine chosen rows before row after keeps (inr (inl h)) = h.1 keeps
breaks_nine chosen rows before row after keeps (inr (inr (inl h))) = let no : 9 ≡ 10 = h.0 in omega (arith, no)
breaks_nine chosen rows before row after keeps (inr (inr (inr (inl h)))) = let no : 9 ≡ 11 = h.0 in omega (arith, no)
breaks_nine chosen rows before row after keeps (inr (inr (inr (inr h)))) = let no : 9 ≡ 12 = h.0 in omega (arith, no)

pub never_unlicensed : (chosen : Chosen) (s : Stepped) → s.call.chosen ≡ Some chosen → HasReasons s → RowsAreChained s → RowsAreLicensed s → NeverBreaks 9 chosen s
never_unlicensed chosen s known reasons chained licensed = λ place breaks.
    breaks_nine chosen (rows_of s.call.number s.ledger.rows) breaks.before breaks.row breaks.after
    (row_retried chosen s breaks.before breaks.row breaks.after known reasons chained licensed breaks.together) breaks.broken
