-- No row of a call breaks the law of transparent retries.
use Rattle.std.proofs.Common.{◌≡◌, ◌≤◌, ◌<◌, ℕ, zero, suc, ◌+◌, Bool, true, false, not, ◌&&◌, ◌||◌, ◌==◌, nat_lt, if◌then◌else◌, length, Option, Some, None, List, [], ◌∷◌, ◌++◌, refl, sym, ap, subst, ◌∙◌, ◌⊎◌, inl, inr, arith, eq-eqb, slice_get}
use Rattle.std.proofs.lemmas.Bool.{OnTrue_from, eqb-true, lt-ltb, ltb-true, ltb-false}
use Rattle.std.proofs.lemmas.List.Elements.{filter-append}
use Rattle.std.specs.List.{list_any}
use Rattle.std.specs.Option.{is_none, option_map_or}
use Rattle.grpc_base.specs.declared.plan.Chosen.{Chosen}
use Rattle.attempt_ledger.specs.Ends.{ended_by, is_followed, is_follower, some_row, some_row_from}
use Rattle.attempt_ledger.specs.Faults.{Breaks}
use Rattle.attempt_ledger.specs.Numbering.{is_transparent}
use Rattle.attempt_ledger.specs.TransparentRows.{KeepsTransparent, allows_follower, comes_before, follows, follows_end, has_number, inherits, is_by_peer, is_committed_at, is_committed_before, is_refused, is_retry_taken, is_taken_by, is_unsent, may_follow, must_follow, needs_follower, row_needs_follower}
use Rattle.attempt_ledger.specs.declared.row.Row.{Row}
use Rattle.attempt_ledger.specs.declared.row.RowEnd.{RowEnd}
use Rattle.call_core.specs.Commitments.{IsRowOf}
use Rattle.call_core.specs.RowFollowers.{AreFollowing, HaveFollowers, IsCommittedBy, IsEndedIn, IsFollowedDuly, IsFollowerOf, IsSpentBy, IsTakenBefore}
use Rattle.call_core.specs.RowLaws.{IsFollowedAt, NeverBreaks, rows_of}
use Rattle.call_core.specs.Rows.{row_in}
use Rattle.call_core.specs.Steps.{Stepped}
use Rattle.call_core.proofs.RowLaws.Followers.{follows_by, one_end}
use Rattle.call_core.proofs.RowLaws.Splits.{IsSome, IsSplit, and_parts, any_own, followed_in, some_found, split_of, split_place, split_row}

-- booleans
both_of : (a b : Bool) → a ≡ true → b ≡ true → (a && b) ≡ true
both_of a b e f = ap (λ (x : Bool). x && b) e ∙ f

first_or : (a b : Bool) → a ≡ true → (a || b) ≡ true
first_or true b e = refl
first_or false b e = absurd (cc)

second_or : (a b : Bool) → b ≡ true → (a || b) ≡ true
second_or true b e = refl
second_or false b e = e

either : (a b : Bool) → (a || b) ≡ true → (a ≡ true) ⊎ (b ≡ true)
either true b e = inl refl
either false b e = inr e

pub is_not : (b : Bool) → (b ≡ true → ⊥) → b ≡ false
is_not true never = absurd (never refl)
is_not false never = refl

-- a row of the call that passes a test, in the call's own list
pub record IsOwn (test : Row → Bool) (owner : ℕ) (rows : List Row) : Type 0 where
  pub at : ℕ
  pub row : Row
  pub there : slice_get rows at ≡ Some row
  pub call : row.call ≡ owner
  pub passes : test row ≡ true

own_after : (test : Row → Bool) (owner : ℕ) (x : Row) (rows : List Row) → IsOwn test owner rows → IsOwn test owner (x ∷ rows)
own_after test owner x rows old = record { at = suc old.at; row = old.row; there = old.there; call = old.call; passes = old.passes }

own_split : (test : Row → Bool) (owner : ℕ) (x : Row) (rows : List Row) → (x.call == owner) ≡ true → (list_any test (rows_of owner rows) ≡ true → IsOwn test owner rows) → (test x ≡ true) ⊎ (list_any test (rows_of owner rows) ≡ true) → IsOwn test owner (x ∷ rows)
own_split test owner x rows on rest (inl e) = record { at = 0; row = x; there = refl; call = eqb-true x.call owner on; passes = e }
own_split test owner x rows on rest (inr e) = own_after test owner x rows (rest e)

own_one : (test : Row → Bool) (owner : ℕ) (x : Row) (rows : List Row) (b : Bool) → (x.call == owner) ≡ b → (list_any test (rows_of owner rows) ≡ true → IsOwn test owner rows) → list_any test (if b then x ∷ rows_of owner rows else rows_of owner rows) ≡ true → IsOwn test owner (x ∷ rows)
own_one test owner x rows true t rest e = own_split test owner x rows t rest (either (test x) (list_any test (rows_of owner rows)) e)
own_one test owner x rows false t rest e = own_after test owner x rows (rest e)

pub own_of : (test : Row → Bool) (owner : ℕ) (rows : List Row) → list_any test (rows_of owner rows) ≡ true → IsOwn test owner rows
own_of test owner [] e = absurd (cc)
own_of test owner (x ∷ rows) e = own_one test owner x rows (x.call == owner) refl (own_of test owner rows) e

own_row : (test : Row → Bool) (owner : ℕ) (rows : List Row) (own : IsOwn test owner rows) → IsRowOf owner rows (suc own.at) own.row
own_row test owner rows own = record { there = own.there; call = own.call }

-- the rows before and after a place
pub record IsCut (rows : List Row) (i : ℕ) (row : Row) : Type 0 where
  pub pre : List Row
  pub post : List Row
  pub together : rows ≡ pre ++ row ∷ post
  pub len : length pre ≡ i

cut_after : (x row : Row) (rows : List Row) (i : ℕ) → IsCut rows i row → IsCut (x ∷ rows) (suc i) row
cut_after x row rows i old = record { pre = x ∷ old.pre; post = old.post; together = ap (λ (l : List Row). x ∷ l) old.together; len = ap suc old.len }

pub cut_at : (rows : List Row) (i : ℕ) (row : Row) → slice_get rows i ≡ Some row → IsCut rows i row
cut_at [] i row e = absurd (cc)
cut_at (x ∷ rows) zero row e = let same : x ≡ row = (cc) in record { pre = []; post = rows; together = ap (λ (r : Row). r ∷ rows) same; len = refl }
cut_at (x ∷ rows) (suc i) row e = cut_after x row rows i (cut_at rows i row e)

own_middle : (owner : ℕ) (pre : List Row) (row : Row) (post : List Row) → row.call ≡ owner → rows_of owner (pre ++ row ∷ post) ≡ rows_of owner pre ++ row ∷ rows_of owner post
own_middle owner pre row post call =
    filter-append (λ (r : Row). r.call == owner) pre (row ∷ post)
    ∙ ap (λ (b : Bool). rows_of owner pre ++ (if b then row ∷ rows_of owner post else rows_of owner post)) (eq-eqb row.call owner call)

-- a row that passes a test on what stands before and after it, found by its place
some_at : (test : ℕ → Row → List Row → Bool) (from : ℕ) (before : List Row) (row : Row) (after : List Row) → test (from + length before) row after ≡ true → some_row_from test from (before ++ row ∷ after) ≡ true
some_at test from [] row after e =
    first_or (test from row after) (some_row_from test (from + 1) after) (subst (λ (k : ℕ). test k row after ≡ true) (let same : from + 0 ≡ from = omega arith in same) e)
some_at test from (x ∷ before) row after e =
    second_or (test from x (before ++ row ∷ after)) (some_row_from test (from + 1) (before ++ row ∷ after))
    (some_at test (from + 1) before row after
    (subst (λ (k : ℕ). test k row after ≡ true) (let same : from + suc (length before) ≡ from + 1 + length before = omega arith in same) e))

zero_more : (n : ℕ) → 0 + n ≡ n
zero_more n = omega arith

pub some_in : (test : ℕ → Row → List Row → Bool) (before : List Row) (row : Row) (after : List Row) → test (length before) row after ≡ true → some_row test (before ++ row ∷ after) ≡ true
some_in test before row after e = some_at test 0 before row after (subst (λ (k : ℕ). test k row after ≡ true) (sym (zero_more (length before))) e)

passes_at : (test : ℕ → Row → List Row → Bool) (rows : List Row) (found : IsSome test 0 rows) → test (length found.before) found.row found.after ≡ true
passes_at test rows found = subst (λ (k : ℕ). test k found.row found.after ≡ true) (zero_more (length found.before)) found.passes

-- two cuts at one place
same_prefix : (xs ys zs ws : List Row) (x z : Row) → xs ++ x ∷ ys ≡ zs ++ z ∷ ws → length xs ≡ length zs → xs ≡ zs
same_prefix [] ys [] ws x z e h = refl
same_prefix [] ys (w ∷ zs) ws x z e h = absurd (cc)
same_prefix (y ∷ xs) ys [] ws x z e h = absurd (cc)
same_prefix (y ∷ xs) ys (w ∷ zs) ws x z e h = prefix_case (cc) (same_prefix xs ys zs ws x z (cc) (let s : suc (length xs) ≡ suc (length zs) = h in omega (arith, s)))
  where
    prefix_case : y ≡ w → xs ≡ zs → y ∷ xs ≡ w ∷ zs
    prefix_case a b = ap (λ (r : Row). r ∷ xs) a ∙ ap (λ (l : List Row). w ∷ l) b

-- how many rows of the call stand before a place
len_more : (owner : ℕ) (xs : List Row) (x : Row) (ys : List Row) → x.call ≡ owner → length (rows_of owner xs) < length (rows_of owner (xs ++ x ∷ ys))
len_more owner xs x ys call =
    let list : rows_of owner (xs ++ x ∷ ys) ≡ rows_of owner xs ++ x ∷ rows_of owner ys = own_middle owner xs x ys call in
    subst (λ (l : List Row). length (rows_of owner xs) < length l) (sym list) (longer (rows_of owner xs) x (rows_of owner ys))
  where
    longer : (xs : List Row) (a : Row) (bs : List Row) → length xs < length (xs ++ a ∷ bs)
    longer [] a bs = omega arith
    longer (b ∷ xs) a bs = let rest : length xs < length (xs ++ a ∷ bs) = longer xs a bs in omega (arith, rest)

record IsWithin (pre other : List Row) (row : Row) : Type 0 where
  rest : List Row
  together : pre ≡ other ++ row ∷ rest

within_of : (pre : List Row) (x : Row) (post other : List Row) (row : Row) (afterwards : List Row) → pre ++ x ∷ post ≡ other ++ row ∷ afterwards → length other < length pre → IsWithin pre other row
within_of [] x post other row afterwards e h = absurd (let no : length other < 0 = h in omega (arith, no))
within_of (y ∷ pre) x post [] row afterwards e h = let same : y ≡ row = (cc) in record { rest = pre; together = ap (λ (r : Row). r ∷ pre) same }
within_of (y ∷ pre) x post (w ∷ other) row afterwards e h =
    within_more (cc) (within_of pre x post other row afterwards (cc) (let s : suc (length other) < suc (length pre) = h in omega (arith, s)))
  where
    within_more : y ≡ w → IsWithin pre other row → IsWithin (y ∷ pre) (w ∷ other) row
    within_more a old = record { rest = old.rest; together = ap (λ (r : Row). r ∷ pre) a ∙ ap (λ (l : List Row). w ∷ l) old.together }

-- ends
pub ended_some : (test : RowEnd → Bool) (row : Row) (end : RowEnd) → row.ended ≡ Some end → test end ≡ true → ended_by test row ≡ true
ended_some test row end e h = ap (λ (o : Option RowEnd). option_map_or test o false) e ∙ h

pub ended_has : (test : RowEnd → Bool) (o : Option RowEnd) → option_map_or test o false ≡ true → (end : RowEnd) × ((o ≡ Some end) × (test end ≡ true))
ended_has test None e = absurd (cc)
ended_has test (Some end) e = (end, (refl, e))

stamped_has : (test : ℕ → Bool) (o : Option ℕ) → option_map_or test o false ≡ true → (stamp : ℕ) × ((o ≡ Some stamp) × (test stamp ≡ true))
stamped_has test None e = absurd (cc)
stamped_has test (Some stamp) e = (stamp, (refl, e))

-- nothing comes before itself
never_less : (n : ℕ) → nat_lt n n ≡ true → ⊥
never_less n e = let no : n < n = ltb-true n n e in omega (arith, no)

never_before : (end : RowEnd) (i : ℕ) → comes_before end i end i ≡ true → ⊥
never_before end i e = first_case (either (nat_lt end.entry end.entry) ((end.entry == end.entry) && (nat_lt end.seen end.seen || ((end.seen == end.seen) && nat_lt i i))) e)
  where
    third_case : (nat_lt end.seen end.seen ≡ true) ⊎ (((end.seen == end.seen) && nat_lt i i) ≡ true) → ⊥
    third_case (inl h) = never_less end.seen h
    third_case (inr h) = never_less i (and_parts (end.seen == end.seen) (nat_lt i i) h).1

    first_case : (nat_lt end.entry end.entry ≡ true) ⊎ (((end.entry == end.entry) && (nat_lt end.seen end.seen || ((end.seen == end.seen) && nat_lt i i))) ≡ true) → ⊥
    first_case (inl h) = never_less end.entry h
    first_case (inr h) =
        third_case (either (nat_lt end.seen end.seen) ((end.seen == end.seen) && nat_lt i i) (and_parts (end.entry == end.entry) (nat_lt end.seen end.seen || ((end.seen == end.seen) && nat_lt i i)) h).1)

-- places of the ledger and of the call's list are in one order
before_places : (earlier end : RowEnd) (p q i j : ℕ) → (p < q → i < j) → comes_before earlier p end q ≡ true → comes_before earlier i end j ≡ true
before_places earlier end p q i j order e = entry_case (either (nat_lt earlier.entry end.entry) ((earlier.entry == end.entry) && (nat_lt earlier.seen end.seen || ((earlier.seen == end.seen) && nat_lt p q))) e)
  where
    seen_case : (nat_lt earlier.seen end.seen ≡ true) ⊎ (((earlier.seen == end.seen) && nat_lt p q) ≡ true) → (nat_lt earlier.seen end.seen || ((earlier.seen == end.seen) && nat_lt i j)) ≡ true
    seen_case (inl h) = first_or (nat_lt earlier.seen end.seen) ((earlier.seen == end.seen) && nat_lt i j) h
    seen_case (inr h) =
        let both : ((earlier.seen == end.seen) ≡ true) × (nat_lt p q ≡ true) = and_parts (earlier.seen == end.seen) (nat_lt p q) h in
        second_or (nat_lt earlier.seen end.seen) ((earlier.seen == end.seen) && nat_lt i j)
        (both_of (earlier.seen == end.seen) (nat_lt i j) both.0 (lt-ltb i j (order (ltb-true p q both.1))))

    entry_case : (nat_lt earlier.entry end.entry ≡ true) ⊎ (((earlier.entry == end.entry) && (nat_lt earlier.seen end.seen || ((earlier.seen == end.seen) && nat_lt p q))) ≡ true) → comes_before earlier i end j ≡ true
    entry_case (inl h) = first_or (nat_lt earlier.entry end.entry) ((earlier.entry == end.entry) && (nat_lt earlier.seen end.seen || ((earlier.seen == end.seen) && nat_lt i j))) h
    entry_case (inr h) =
        let both : ((earlier.entry == end.entry) ≡ true) × ((nat_lt earlier.seen end.seen || ((earlier.seen == end.seen) && nat_lt p q)) ≡ true) =
        and_parts (earlier.entry == end.entry) (nat_lt earlier.seen end.seen || ((earlier.seen == end.seen) && nat_lt p q)) h in
        second_or (nat_lt earlier.entry end.entry) ((earlier.entry == end.entry) && (nat_lt earlier.seen end.seen || ((earlier.seen == end.seen) && nat_lt i j)))
        (both_of (earlier.entry == end.entry) (nat_lt earlier.seen end.seen || ((earlier.seen == end.seen) && nat_lt i j)) both.0
        (seen_case (either (nat_lt earlier.seen end.seen) ((earlier.seen == end.seen) && nat_lt p q) both.1)))

three_of : (a b c : Bool) → a ≡ true → b ≡ true → c ≡ true → (a && b && c) ≡ true
three_of true true true e f g = refl
three_of false b c e f g = absurd (cc)
three_of true false c e f g = absurd (cc)
three_of true true false e f g = absurd (cc)

record AreThree (a b c : Bool) : Type 0 where
  first : a ≡ true
  second : b ≡ true
  third : c ≡ true

three_parts : (a b c : Bool) → (a && b && c) ≡ true → AreThree a b c
three_parts true true true e = record { first = refl; second = refl; third = refl }
three_parts false b c e = absurd (cc)
three_parts true false c e = absurd (cc)
three_parts true true false e = absurd (cc)

-- elements of joined lists
get_prefix : (xs ys : List Row) (j : ℕ) (row : Row) → slice_get xs j ≡ Some row → slice_get (xs ++ ys) j ≡ Some row
get_prefix [] ys j row e = absurd (cc)
get_prefix (x ∷ xs) ys zero row e = e
get_prefix (x ∷ xs) ys (suc j) row e = get_prefix xs ys j row e

pub get_rest : (xs : List Row) (x : Row) (ys : List Row) (k j : ℕ) → j ≡ suc (length xs + k) → slice_get (xs ++ x ∷ ys) j ≡ slice_get ys k
get_rest [] x ys k j e = let same : j ≡ suc k = omega (arith, e) in ap (λ (n : ℕ). slice_get (x ∷ ys) n) same
get_rest (y ∷ xs) x ys k zero e = absurd (let no : 0 ≡ suc (suc (length xs) + k) = e in omega (arith, no))
get_rest (y ∷ xs) x ys k (suc j) e =
    get_rest xs x ys k j (let h : suc j ≡ suc (suc (length xs) + k) = e in omega (arith, h))

within_len : (ys : List Row) (k : ℕ) (row : Row) → slice_get ys k ≡ Some row → k < length ys
within_len [] k row e = absurd (cc)
within_len (y ∷ ys) zero row e = omega arith
within_len (y ∷ ys) (suc k) row e = let rest : k < length ys = within_len ys k row e in omega (arith, rest)

-- a place counts from 1
pub record IsPlace (rows : List Row) (place : ℕ) (row : Row) : Type 0 where
  pub index : ℕ
  pub same : place ≡ suc index
  pub there : slice_get rows index ≡ Some row

pub place_of : (rows : List Row) (place : ℕ) (row : Row) → row_in rows place ≡ Some row → IsPlace rows place row
place_of rows zero row e = absurd (cc)
place_of rows (suc i) row e = record { index = i; same = refl; there = e }

-- a row at a place splits the call's list
abbrev pub split_at : (owner : ℕ) (rows : List Row) (i : ℕ) (row : Row) → row.call ≡ owner → (cut : IsCut rows i row) → IsSplit owner rows (rows_of owner cut.pre) row (rows_of owner cut.post)
split_at owner rows i row call cut = record { pre = cut.pre; post = cut.post; together = cut.together; call = call; prefix = refl; back = refl }

pub list_at : (owner : ℕ) (rows : List Row) (i : ℕ) (row : Row) → row.call ≡ owner → (cut : IsCut rows i row) → rows_of owner rows ≡ rows_of owner cut.pre ++ row ∷ rows_of owner cut.post
list_at owner rows i row call cut = ap (rows_of owner) cut.together ∙ own_middle owner cut.pre row cut.post call

-- what follows in the call's list follows in the ledger
pub followed_out : (owner : ℕ) (rows before : List Row) (row : Row) (after : List Row) → (split : IsSplit owner rows before row after) → is_followed row after ≡ true → IsFollowedAt owner rows (split_place split.pre) row.number
followed_out owner rows before row after split e =
    let found : IsOwn (is_follower row) owner split.post = own_of (is_follower row) owner split.post (ap (λ (l : List Row). list_any (is_follower row) l) split.back ∙ e) in
    let both : (is_transparent found.row.kind ≡ true) × ((found.row.number == row.number) ≡ true) = and_parts (is_transparent found.row.kind) (found.row.number == row.number) found.passes in
    let there : slice_get rows (suc (length split.pre + found.at)) ≡ Some found.row =
    ap (λ (l : List Row). slice_get l (suc (length split.pre + found.at))) split.together ∙ get_rest split.pre row split.post found.at (suc (length split.pre + found.at)) refl ∙ found.there in
    record {
      later = suc (suc (length split.pre + found.at));
      order = (omega arith);
      next = found.row;
      is = record { there = there; call = found.call };
      kind = both.0;
      same = eqb-true found.row.number row.number both.1;
    }

-- a refusal that is followed is the only one
only_once : (at owner : ℕ) (rows : List Row) (is_spent : Bool) (newest : Option ℕ) (place : ℕ) (row : Row) (f : IsFollowerOf owner rows place row) (i : ℕ) (cut : IsCut rows i f.has.row) → f.before ≡ suc i → HaveFollowers at owner rows is_spent newest → IsFollowedAt owner rows f.before f.has.row.number → is_by_peer f.end.cause ≡ true → is_retry_taken (rows_of owner rows) f.end (length (rows_of owner cut.pre)) ≡ true → ⊥
only_once at owner rows is_spent newest place row f i cut same old follows by_peer e =
    let test : ℕ → Row → List Row → Bool = is_taken_by f.end (length (rows_of owner cut.pre)) in
    let found : IsSome test 0 (rows_of owner rows) = some_found test 0 (rows_of owner rows) e in
    let split : IsSplit owner rows found.before found.row found.after = split_of owner rows found.before found.row found.after found.together in
    let ended : (earlier : RowEnd) × ((found.row.ended ≡ Some earlier) × ((is_by_peer earlier.cause && comes_before earlier (length found.before) f.end (length (rows_of owner cut.pre)) && is_followed found.row found.after) ≡ true)) =
    ended_has (λ earlier. is_by_peer earlier.cause && comes_before earlier (length found.before) f.end (length (rows_of owner cut.pre)) && is_followed found.row found.after) found.row.ended (passes_at test (rows_of owner rows) found) in
    let earlier : RowEnd = ended.0 in
    let three : AreThree (is_by_peer earlier.cause) (comes_before earlier (length found.before) f.end (length (rows_of owner cut.pre))) (is_followed found.row found.after) =
    three_parts (is_by_peer earlier.cause) (comes_before earlier (length found.before) f.end (length (rows_of owner cut.pre))) (is_followed found.row found.after) ended.1.1 in
    let there : IsEndedIn owner rows (split_place split.pre) earlier = record { row = found.row; is = split_row owner rows found.before found.row found.after split; ended = ended.1.0 } in
    let spent : IsSpentBy owner rows (split_place split.pre) earlier = record { has = there; by_peer = three.first; followed = followed_out owner rows found.before found.row found.after split three.third } in
    let own : IsSpentBy owner rows f.before f.end = record { has = f.has; by_peer = by_peer; followed = follows } in
    let one : split_place split.pre ≡ f.before = old.once (split_place split.pre) f.before earlier f.end spent own in
    let lens : length split.pre ≡ length cut.pre = lens_of (length split.pre) i (length cut.pre) (one ∙ same) cut.len in
    let prefixes : split.pre ≡ cut.pre = same_prefix split.pre split.post cut.pre cut.post found.row f.has.row (sym split.together ∙ cut.together) lens in
    let index : length found.before ≡ length (rows_of owner cut.pre) = ap length (sym split.prefix) ∙ ap (λ (l : List Row). length (rows_of owner l)) prefixes in
    let ends_same : earlier ≡ f.end = one_end owner rows f.before earlier f.end (subst (λ (k : ℕ). IsEndedIn owner rows k earlier) one there) f.has in
    never_before f.end (length (rows_of owner cut.pre))
    (subst (λ (x : RowEnd). comes_before x (length (rows_of owner cut.pre)) f.end (length (rows_of owner cut.pre)) ≡ true) ends_same
    (subst (λ (k : ℕ). comes_before earlier k f.end (length (rows_of owner cut.pre)) ≡ true) index three.second))
  where
    lens_of : (a b c : ℕ) → suc a ≡ suc b → c ≡ b → a ≡ c
    lens_of a b c e h = omega (arith, e, h)

never_committed : (at owner : ℕ) (rows : List Row) (is_spent : Bool) (newest : Option ℕ) (place : ℕ) (end : RowEnd) → HaveFollowers at owner rows is_spent newest → IsSpentBy owner rows place end → list_any (is_committed_before end.entry) (rows_of owner rows) ≡ true → ⊥
never_committed at owner rows is_spent newest place end old spent e =
    let found : IsOwn (is_committed_before end.entry) owner rows = own_of (is_committed_before end.entry) owner rows e in
    let stamp : (k : ℕ) × ((found.row.committed ≡ Some k) × (nat_lt k end.entry ≡ true)) = stamped_has (λ committed. nat_lt committed end.entry) found.row.committed found.passes in
    let le : end.entry ≤ stamp.0 = old.free place end spent (suc found.at) found.row (own_row (is_committed_before end.entry) owner rows found) stamp.0 stamp.1.0 in
    let less : stamp.0 < end.entry = ltb-true stamp.0 end.entry stamp.1.1 in
    omega (arith, le, less)

-- the row that a transparent retry follows, in the call's list
allowed : (at owner : ℕ) (rows : List Row) (is_spent : Bool) (newest : Option ℕ) (place : ℕ) (row : Row) (f : IsFollowerOf owner rows place row) (i : ℕ) (cut : IsCut rows i f.has.row) → f.before ≡ suc i → HaveFollowers at owner rows is_spent newest → IsFollowedAt owner rows f.before f.has.row.number → (is_unsent f.end.cause ≡ true) ⊎ (is_refused f.end ≡ true) → allows_follower (rows_of owner rows) (length (rows_of owner cut.pre)) f.end ≡ true
allowed at owner rows is_spent newest place row f i cut same old follows (inl e) =
    first_or (is_unsent f.end.cause) (is_refused f.end && may_follow (rows_of owner rows) f.end (length (rows_of owner cut.pre))) e
allowed at owner rows is_spent newest place row f i cut same old follows (inr e) =
    let by_peer : is_by_peer f.end.cause ≡ true = (and_parts f.end.unseen (is_by_peer f.end.cause) e).1 in
    let spent : IsSpentBy owner rows f.before f.end = record { has = f.has; by_peer = by_peer; followed = follows } in
    let first : is_retry_taken (rows_of owner rows) f.end (length (rows_of owner cut.pre)) ≡ false =
    is_not (is_retry_taken (rows_of owner rows) f.end (length (rows_of owner cut.pre))) (λ h. only_once at owner rows is_spent newest place row f i cut same old follows by_peer h) in
    let second : list_any (is_committed_before f.end.entry) (rows_of owner rows) ≡ false =
    is_not (list_any (is_committed_before f.end.entry) (rows_of owner rows)) (λ h. never_committed at owner rows is_spent newest f.before f.end old spent h) in
    second_or (is_unsent f.end.cause) (is_refused f.end && may_follow (rows_of owner rows) f.end (length (rows_of owner cut.pre)))
    (both_of (is_refused f.end) (may_follow (rows_of owner rows) f.end (length (rows_of owner cut.pre))) e
    (both_of (not (is_retry_taken (rows_of owner rows) f.end (length (rows_of owner cut.pre)))) (not (list_any (is_committed_before f.end.entry) (rows_of owner rows))) (ap not first) (ap not second)))

inherited : (row old : Row) (end : RowEnd) → (old.committed ≡ None) ⊎ (row.committed ≡ Some end.entry) → inherits row old end ≡ true
inherited row old end (inl none) = first_or (is_none old.committed) (is_committed_at end.entry row) (ap (λ (o : Option ℕ). is_none o) none)
inherited row old end (inr some) =
    second_or (is_none old.committed) (is_committed_at end.entry row)
    (ap (λ (o : Option ℕ). option_map_or (λ committed. committed == end.entry) o false) some ∙ eq-eqb end.entry end.entry refl)

none_between : (owner : ℕ) (rows before : List Row) (row : Row) (after : List Row) (split : IsSplit owner rows before row after) (f : IsFollowerOf owner rows (split_place split.pre) row) (i : ℕ) (cut : IsCut rows i f.has.row) (rest : List Row) → f.before ≡ suc i → split.pre ≡ cut.pre ++ f.has.row ∷ rest → list_any (has_number row.number) (rows_of owner rest) ≡ true → ⊥
none_between owner rows before row after split f i cut rest same within e =
    let found : IsOwn (has_number row.number) owner rest = own_of (has_number row.number) owner rest e in
    let k : ℕ = found.at in
    let j : ℕ = suc (length cut.pre + k) in
    let there : slice_get (cut.pre ++ f.has.row ∷ rest) j ≡ Some found.row = get_rest cut.pre f.has.row rest k j refl ∙ found.there in
    let in_pre : slice_get split.pre j ≡ Some found.row = ap (λ (l : List Row). slice_get l j) within ∙ there in
    let in_rows : slice_get rows j ≡ Some found.row = ap (λ (l : List Row). slice_get l j) split.together ∙ get_prefix split.pre (row ∷ split.post) j found.row in_pre in
    let short : j < length split.pre = within_len split.pre j found.row in_pre in
    let at : length cut.pre ≡ i = cut.len in
    f.nearest (suc j) found.row (record { there = in_rows; call = found.call }) (after_first f.before i (length cut.pre) k same at) (before_last j (length split.pre) short)
    (eqb-true found.row.number row.number found.passes)
  where
    after_first : (before i n k : ℕ) → before ≡ suc i → n ≡ i → before < suc (suc (n + k))
    after_first before i n k e h = omega (arith, e, h)

    before_last : (j n : ℕ) → j < n → suc j < suc n
    before_last j n h = omega (arith, h)

follows_some : (at owner : ℕ) (rows : List Row) (is_spent : Bool) (newest : Option ℕ) (before : List Row) (row : Row) (after : List Row) (split : IsSplit owner rows before row after) → HaveFollowers at owner rows is_spent newest → is_transparent row.kind ≡ true → some_row (follows (rows_of owner rows) row) before ≡ true
follows_some at owner rows is_spent newest before row after split old kind =
    let is : IsRowOf owner rows (split_place split.pre) row = split_row owner rows before row after split in
    let f : IsFollowerOf owner rows (split_place split.pre) row = old.followers (split_place split.pre) row is kind in
    let where_is : IsPlace rows f.before f.has.row = place_of rows f.before f.has.row f.has.is.there in
    let i : ℕ = where_is.index in
    let cut : IsCut rows i f.has.row = cut_at rows i f.has.row where_is.there in
    let order : f.before < split_place split.pre = f.order in
    let shorter : length cut.pre < length split.pre = shorter_of (length cut.pre) i f.before (length split.pre) cut.len where_is.same order in
    let within : IsWithin split.pre cut.pre f.has.row = within_of split.pre row split.post cut.pre f.has.row cut.post (sym split.together ∙ cut.together) shorter in
    let list : before ≡ rows_of owner cut.pre ++ f.has.row ∷ rows_of owner within.rest =
    sym split.prefix ∙ ap (rows_of owner) within.together ∙ own_middle owner cut.pre f.has.row within.rest f.has.is.call in
    let follows_it : IsFollowedAt owner rows f.before f.has.row.number = follows_by owner rows (split_place split.pre) row is kind f in
    let passes : follows (rows_of owner rows) row (length (rows_of owner cut.pre)) f.has.row (rows_of owner within.rest) ≡ true =
    three_of (has_number row.number f.has.row) (not (list_any (has_number row.number) (rows_of owner within.rest))) (follows_end (rows_of owner rows) row (length (rows_of owner cut.pre)) f.has.row)
    (eq-eqb f.has.row.number row.number f.number)
    (ap not (is_not (list_any (has_number row.number) (rows_of owner within.rest)) (λ h. none_between owner rows before row after split f i cut within.rest where_is.same within.together h)))
    (ended_some (λ end. allows_follower (rows_of owner rows) (length (rows_of owner cut.pre)) end && (row.due == end.moment) && inherits row f.has.row end) f.has.row f.end f.has.ended
    (three_of (allows_follower (rows_of owner rows) (length (rows_of owner cut.pre)) f.end) (row.due == f.end.moment) (inherits row f.has.row f.end)
    (allowed at owner rows is_spent newest (split_place split.pre) row f i cut where_is.same old follows_it f.cause)
    (eq-eqb row.due f.end.moment f.due) (inherited row f.has.row f.end f.inherits))) in
    subst (λ (l : List Row). some_row (follows (rows_of owner rows) row) l ≡ true) (sym list)
    (some_in (follows (rows_of owner rows) row) (rows_of owner cut.pre) f.has.row (rows_of owner within.rest) passes)
  where
    shorter_of : (a i p n : ℕ) → a ≡ i → p ≡ suc i → p < suc n → a < n
    shorter_of a i p n e h l = omega (arith, e, h, l)

-- an end that has to be followed is
fewer : (owner : ℕ) (rows before : List Row) (row : Row) (after : List Row) (split : IsSplit owner rows before row after) (i : ℕ) (r : Row) (cut : IsCut rows i r) → r.call ≡ owner → length cut.pre < length split.pre → length (rows_of owner cut.pre) < length before
fewer owner rows before row after split i r cut call less =
    let within : IsWithin split.pre cut.pre r = within_of split.pre row split.post cut.pre r cut.post (sym split.together ∙ cut.together) less in
    subst (λ (l : List Row). length (rows_of owner cut.pre) < length l) split.prefix
    (subst (λ (l : List Row). length (rows_of owner cut.pre) < length (rows_of owner l)) (sym within.together) (len_more owner cut.pre r within.rest call))

taken_in : (owner : ℕ) (rows before : List Row) (row : Row) (after : List Row) (end : RowEnd) (split : IsSplit owner rows before row after) → IsTakenBefore owner rows (split_place split.pre) end → is_retry_taken (rows_of owner rows) end (length before) ≡ true
taken_in owner rows before row after end split t =
    let r : Row = t.spent.has.row in
    let where_is : IsPlace rows t.other r = place_of rows t.other r t.spent.has.is.there in
    let cut : IsCut rows where_is.index r = cut_at rows where_is.index r where_is.there in
    let call : r.call ≡ owner = t.spent.has.is.call in
    let at : IsSplit owner rows (rows_of owner cut.pre) r (rows_of owner cut.post) = split_at owner rows where_is.index r call cut in
    let same : t.other ≡ suc (length cut.pre) = where_is.same ∙ ap suc (sym cut.len) in
    let followed : is_followed r (rows_of owner cut.post) ≡ true =
    followed_in owner rows (rows_of owner cut.pre) r (rows_of owner cut.post) at (subst (λ (k : ℕ). IsFollowedAt owner rows k r.number) same t.spent.followed) in
    let order : comes_before t.earlier (length (rows_of owner cut.pre)) end (length before) ≡ true =
    before_places t.earlier end t.other (split_place split.pre) (length (rows_of owner cut.pre)) (length before)
    (λ less. fewer owner rows before row after split where_is.index r cut call (shorter_of t.other (length cut.pre) (length split.pre) same less)) t.order in
    subst (λ (l : List Row). some_row (is_taken_by end (length before)) l ≡ true) (sym (list_at owner rows where_is.index r call cut))
    (some_in (is_taken_by end (length before)) (rows_of owner cut.pre) r (rows_of owner cut.post)
    (ended_some (λ earlier. is_by_peer earlier.cause && comes_before earlier (length (rows_of owner cut.pre)) end (length before) && is_followed r (rows_of owner cut.post)) r t.earlier t.spent.has.ended
    (three_of (is_by_peer t.earlier.cause) (comes_before t.earlier (length (rows_of owner cut.pre)) end (length before)) (is_followed r (rows_of owner cut.post)) t.spent.by_peer order followed)))
  where
    shorter_of : (p a n : ℕ) → p ≡ suc a → p < suc n → a < n
    shorter_of p a n e l = omega (arith, e, l)

committed_case : (owner : ℕ) (rows : List Row) (entry : ℕ) (c : IsCommittedBy owner rows entry) (i : ℕ) (b : Bool) → slice_get rows i ≡ Some c.row → nat_lt c.stamp entry ≡ b → (list_any (is_committed_before entry) (rows_of owner rows) ≡ true) ⊎ (list_any (is_committed_at entry) (rows_of owner rows) ≡ true)
committed_case owner rows entry c i true there t =
    inl (any_own (is_committed_before entry) owner rows i c.row there c.is.call
    (ap (λ (o : Option ℕ). option_map_or (λ committed. nat_lt committed entry) o false) c.committed ∙ t))
committed_case owner rows entry c i false there t =
    let ge : entry ≤ c.stamp = ltb-false c.stamp entry t in
    let le : c.stamp ≤ entry = c.order in
    let same : c.stamp ≡ entry = omega (arith, ge, le) in
    inr (any_own (is_committed_at entry) owner rows i c.row there c.is.call
    (ap (λ (o : Option ℕ). option_map_or (λ committed. committed == entry) o false) c.committed ∙ eq-eqb c.stamp entry same))

committed_in : (owner : ℕ) (rows : List Row) (entry : ℕ) (c : IsCommittedBy owner rows entry) → (list_any (is_committed_before entry) (rows_of owner rows) ≡ true) ⊎ (list_any (is_committed_at entry) (rows_of owner rows) ≡ true)
committed_in owner rows entry c =
    let where_is : IsPlace rows c.place c.row = place_of rows c.place c.row c.is.there in
    committed_case owner rows entry c where_is.index (nat_lt c.stamp entry) where_is.there refl

true_false : (b : Bool) → b ≡ true → not b ≡ true → ⊥
true_false true e h = let no : false ≡ true = h in cc
true_false false e h = let no : false ≡ true = e in cc

excused : (owner : ℕ) (rows before : List Row) (row : Row) (after : List Row) (end : RowEnd) (split : IsSplit owner rows before row after) → must_follow (rows_of owner rows) end (length before) ≡ true → IsTakenBefore owner rows (split_place split.pre) end ⊎ IsCommittedBy owner rows end.entry → ⊥
excused owner rows before row after end split must (inl t) =
    let both : (may_follow (rows_of owner rows) end (length before) ≡ true) × (not (list_any (is_committed_at end.entry) (rows_of owner rows)) ≡ true) =
    and_parts (may_follow (rows_of owner rows) end (length before)) (not (list_any (is_committed_at end.entry) (rows_of owner rows))) must in
    true_false (is_retry_taken (rows_of owner rows) end (length before)) (taken_in owner rows before row after end split t)
    (and_parts (not (is_retry_taken (rows_of owner rows) end (length before))) (not (list_any (is_committed_before end.entry) (rows_of owner rows))) both.0).0
excused owner rows before row after end split must (inr c) =
    let both : (may_follow (rows_of owner rows) end (length before) ≡ true) × (not (list_any (is_committed_at end.entry) (rows_of owner rows)) ≡ true) =
    and_parts (may_follow (rows_of owner rows) end (length before)) (not (list_any (is_committed_at end.entry) (rows_of owner rows))) must in
    committed_no both.1 (and_parts (not (is_retry_taken (rows_of owner rows) end (length before))) (not (list_any (is_committed_before end.entry) (rows_of owner rows))) both.0).1 (committed_in owner rows end.entry c)
  where
    committed_no : not (list_any (is_committed_at end.entry) (rows_of owner rows)) ≡ true → not (list_any (is_committed_before end.entry) (rows_of owner rows)) ≡ true → (list_any (is_committed_before end.entry) (rows_of owner rows) ≡ true) ⊎ (list_any (is_committed_at end.entry) (rows_of owner rows) ≡ true) → ⊥
    committed_no at before_it (inl e) = true_false (list_any (is_committed_before end.entry) (rows_of owner rows)) e before_it
    committed_no at before_it (inr e) = true_false (list_any (is_committed_at end.entry) (rows_of owner rows)) e at

needed_case : (owner : ℕ) (rows before : List Row) (row : Row) (after : List Row) (end : RowEnd) (split : IsSplit owner rows before row after) → must_follow (rows_of owner rows) end (length before) ≡ true → IsFollowedAt owner rows (split_place split.pre) row.number ⊎ (IsTakenBefore owner rows (split_place split.pre) end ⊎ IsCommittedBy owner rows end.entry) → is_followed row after ≡ true
needed_case owner rows before row after end split must (inl f) = followed_in owner rows before row after split f
needed_case owner rows before row after end split must (inr why) = absurd (excused owner rows before row after end split must why)

needed : (owner : ℕ) (rows before : List Row) (row : Row) (after : List Row) (end : RowEnd) (split : IsSplit owner rows before row after) → IsFollowedDuly owner rows (split_place split.pre) row.number end → (is_unsent end.cause ≡ true) ⊎ ((is_refused end && must_follow (rows_of owner rows) end (length before)) ≡ true) → is_followed row after ≡ true
needed owner rows before row after end split duly (inl e) = followed_in owner rows before row after split (duly.unsent e)
needed owner rows before row after end split duly (inr e) =
    let both : (is_refused end ≡ true) × (must_follow (rows_of owner rows) end (length before) ≡ true) = and_parts (is_refused end) (must_follow (rows_of owner rows) end (length before)) e in
    needed_case owner rows before row after end split both.1 (duly.refused both.0)

row_transparent : (at owner : ℕ) (rows : List Row) (is_spent : Bool) (newest : Option ℕ) (before : List Row) (row : Row) (after : List Row) → HaveFollowers at owner rows is_spent newest → rows_of owner rows ≡ before ++ row ∷ after → KeepsTransparent (rows_of owner rows) before row after
row_transparent at owner rows is_spent newest before row after old together =
    let split : IsSplit owner rows before row after = split_of owner rows before row after together in
    record {
      follows = OnTrue_from (is_transparent row.kind) (some_row (follows (rows_of owner rows) row) before ≡ true) (λ kind. follows_some at owner rows is_spent newest before row after split old kind);
      followed = OnTrue_from (row_needs_follower (rows_of owner rows) (length before) row) (is_followed row after ≡ true)
          (λ h.
          let ended : (end : RowEnd) × ((row.ended ≡ Some end) × (needs_follower (rows_of owner rows) (length before) end ≡ true)) = ended_has (needs_follower (rows_of owner rows) (length before)) row.ended h in
          needed owner rows before row after ended.0 split
          (old.followed (split_place split.pre) row (split_row owner rows before row after split) ended.0 ended.1.0)
          (either (is_unsent ended.0.cause) (is_refused ended.0 && must_follow (rows_of owner rows) ended.0 (length before)) ended.1.1));
    }

breaks_eleven : (chosen : Chosen) (rows before : List Row) (row : Row) (after : List Row) → KeepsTransparent rows before row after → Breaks chosen rows 11 before row after → ⊥
breaks_eleven chosen rows before row after keeps (inl h) = let no : 11 ≡ 8 = h.0 in omega (arith, no)
breaks_eleven chosen rows before row after keeps (inr (inl h)) = let no : 11 ≡ 9 = h.0 in omega (arith, no)
breaks_eleven chosen rows before row after keeps (inr (inr (inl h))) = let no : 11 ≡ 10 = h.0 in omega (arith, no)
breaks_eleven chosen rows before row after keeps (inr (inr (inr (inl h)))) = h.1 keeps
breaks_eleven chosen rows before row after keeps (inr (inr (inr (inr h)))) = let no : 11 ≡ 12 = h.0 in omega (arith, no)

pub never_unfollowed : (chosen : Chosen) (at : ℕ) (s : Stepped) → AreFollowing at s → NeverBreaks 11 chosen s
never_unfollowed chosen at s following = λ place breaks.
    breaks_eleven chosen (rows_of s.call.number s.ledger.rows) breaks.before breaks.row breaks.after
    (row_transparent at s.call.number s.ledger.rows s.call.attempts.is_refusal_followed s.call.attempts.last breaks.before breaks.row breaks.after following breaks.together) breaks.broken
