-- The rows of a call as a list of their own, and as places of the ledger.
use Rattle.std.proofs.Common.{◌≡◌, ◌<◌, ℕ, zero, suc, ◌+◌, Bool, true, false, not, ◌&&◌, ◌||◌, ◌==◌, if◌then◌else◌, length, Option, Some, None, IfSome, List, [], ◌∷◌, ◌++◌, refl, sym, ap, subst, ◌∙◌, arith, eq-eqb, slice_get}
use Rattle.std.proofs.lemmas.Bool.{eqb-true}
use Rattle.std.specs.List.{list_any}
use Rattle.attempt_ledger.specs.Ends.{is_followed, is_follower, some_row_from}
use Rattle.attempt_ledger.specs.declared.row.Row.{Row}
use Rattle.call_core.specs.Commitments.{IsRowOf}
use Rattle.attempt_ledger.specs.Numbering.{is_transparent}
use Rattle.call_core.specs.RowLaws.{IsFollowedAt, rows_of}

-- clauses
pub if_some : {X : Type 0} (o : Option X) (P : X → Type 0) → ((x : X) → o ≡ Some x → P x) → IfSome o P
if_some None P h = tt
if_some (Some x) P h = h x refl

pub and_parts : (a b : Bool) → (a && b) ≡ true → (a ≡ true) × (b ≡ true)
and_parts true b e = (refl, e)
and_parts false b e = absurd (cc)

pub not_true : (b : Bool) → not b ≡ true → b ≡ false
not_true true e = absurd (cc)
not_true false e = refl

-- a row of the call's list, with what stands before and after it in the ledger
pub record IsSplit (owner : ℕ) (rows before : List Row) (row : Row) (after : List Row) : Type 0 where
  pub pre : List Row
  pub post : List Row
  pub together : rows ≡ pre ++ row ∷ post
  pub call : row.call ≡ owner
  pub prefix : rows_of owner pre ≡ before
  pub back : rows_of owner post ≡ after

split_after : (owner : ℕ) (x : Row) (rows before : List Row) (row : Row) (after : List Row) → (x.call == owner) ≡ false → IsSplit owner rows before row after → IsSplit owner (x ∷ rows) before row after
split_after owner x rows before row after off rest = record {
  pre = x ∷ rest.pre;
  post = rest.post;
  together = ap (λ (l : List Row). x ∷ l) rest.together;
  call = rest.call;
  prefix = ap (λ (b : Bool). if b then x ∷ rows_of owner rest.pre else rows_of owner rest.pre) off ∙ rest.prefix;
  back = rest.back;
}

split_on : (owner : ℕ) (x y : Row) (rows before : List Row) (row : Row) (after : List Row) → (x.call == owner) ≡ true → x ≡ y → IsSplit owner rows before row after → IsSplit owner (x ∷ rows) (y ∷ before) row after
split_on owner x y rows before row after on same rest = record {
  pre = x ∷ rest.pre;
  post = rest.post;
  together = ap (λ (l : List Row). x ∷ l) rest.together;
  call = rest.call;
  prefix =
      ap (λ (b : Bool). if b then x ∷ rows_of owner rest.pre else rows_of owner rest.pre) on
      ∙ ap (λ (l : List Row). x ∷ l) rest.prefix ∙ ap (λ (r : Row). r ∷ before) same;
  back = rest.back;
}

split_here : (owner : ℕ) (x : Row) (rows : List Row) (row : Row) (after : List Row) → (x.call == owner) ≡ true → x ≡ row → rows_of owner rows ≡ after → IsSplit owner (x ∷ rows) [] row after
split_here owner x rows row after on same back = record {
  pre = [];
  post = rows;
  together = ap (λ (r : Row). r ∷ rows) same;
  call = ap (λ (r : Row). r.call) (sym same) ∙ eqb-true x.call owner on;
  prefix = refl;
  back = back;
}

split_by : (owner : ℕ) (x : Row) (rows before : List Row) (row : Row) (after : List Row) (b : Bool) → (x.call == owner) ≡ b → ((before : List Row) → rows_of owner rows ≡ before ++ row ∷ after → IsSplit owner rows before row after) → (if b then x ∷ rows_of owner rows else rows_of owner rows) ≡ before ++ row ∷ after → IsSplit owner (x ∷ rows) before row after
split_by owner x rows before row after false t rest e = split_after owner x rows before row after t (rest before e)
split_by owner x rows [] row after true t rest e = split_here owner x rows row after t (cc) (cc)
split_by owner x rows (y ∷ before) row after true t rest e = split_on owner x y rows before row after t (cc) (rest before (cc))

pub split_of : (owner : ℕ) (rows before : List Row) (row : Row) (after : List Row) → rows_of owner rows ≡ before ++ row ∷ after → IsSplit owner rows before row after
split_of owner [] [] row after e = absurd (cc)
split_of owner [] (y ∷ before) row after e = absurd (cc)
split_of owner (x ∷ rows) before row after e = split_by owner x rows before row after (x.call == owner) refl (λ prefix h. split_of owner rows prefix row after h) e

-- the place of such a row
abbrev pub split_place : List Row → ℕ
split_place pre = suc (length pre)

get_middle : (pre : List Row) (row : Row) (post : List Row) → slice_get (pre ++ row ∷ post) (length pre) ≡ Some row
get_middle [] row post = refl
get_middle (x ∷ pre) row post = get_middle pre row post

pub split_row : (owner : ℕ) (rows before : List Row) (row : Row) (after : List Row) → (split : IsSplit owner rows before row after) → IsRowOf owner rows (split_place split.pre) row
split_row owner rows before row after split = record {
  there = ap (λ (l : List Row). slice_get l (length split.pre)) split.together ∙ get_middle split.pre row split.post;
  call = split.call;
}

-- a row after it, as one of the call's rows after it
record IsAfter (pre post : List Row) (j : ℕ) (next : Row) : Type 0 where
  at : ℕ
  there : slice_get post at ≡ Some next
  place : j ≡ length pre + suc at

afterwards_of : (pre : List Row) (row : Row) (post : List Row) (j : ℕ) (next : Row) → slice_get (pre ++ row ∷ post) j ≡ Some next → length pre < j → IsAfter pre post j next
afterwards_of [] row post zero next e order = absurd (let no : 0 < 0 = order in omega (arith, no))
afterwards_of [] row post (suc j) next e order = record { at = j; there = e; place = (omega arith) }
afterwards_of (x ∷ pre) row post zero next e order = absurd (let no : suc (length pre) < 0 = order in omega (arith, no))
afterwards_of (x ∷ pre) row post (suc j) next e order =
    let below : length pre < j = (let h : suc (length pre) < suc j = order in omega (arith, h)) in
    let rest : IsAfter pre post j next = afterwards_of pre row post j next e below in
    let at : j ≡ length pre + suc rest.at = rest.place in
    record { at = rest.at; there = rest.there; place = (omega (arith, at)) }

any_one : (test : Row → Bool) (x : Row) (rows : List Row) (b : Bool) → list_any test rows ≡ true → list_any test (if b then x ∷ rows else rows) ≡ true
any_one test x rows true e = any_second (test x) (list_any test rows) e
  where
    any_second : (a b : Bool) → b ≡ true → (a || b) ≡ true
    any_second true b h = refl
    any_second false b h = h
any_one test x rows false e = e

any_first : (test : Row → Bool) (x : Row) (rows : List Row) (b : Bool) → b ≡ true → test x ≡ true → list_any test (if b then x ∷ rows else rows) ≡ true
any_first test x rows true t e = ap (λ (b : Bool). b || list_any test rows) e
any_first test x rows false t e = absurd (cc)

pub any_own : (test : Row → Bool) (owner : ℕ) (rows : List Row) (i : ℕ) (row : Row) → slice_get rows i ≡ Some row → row.call ≡ owner → test row ≡ true → list_any test (rows_of owner rows) ≡ true
any_own test owner [] i row e call t = absurd (cc)
any_own test owner (x ∷ rows) zero row e call t =
    let same : x ≡ row = (cc) in
    any_first test x (rows_of owner rows) (x.call == owner) (eq-eqb x.call owner (ap (λ (r : Row). r.call) same ∙ call)) (ap test same ∙ t)
any_own test owner (x ∷ rows) (suc i) row e call t = any_one test x (rows_of owner rows) (x.call == owner) (any_own test owner rows i row e call t)

both_true : (a b : Bool) → a ≡ true → b ≡ true → (a && b) ≡ true
both_true a b e f = ap (λ (x : Bool). x && b) e ∙ f

after_any : (test : Row → Bool) (owner : ℕ) (rows before : List Row) (row : Row) (after : List Row) (split : IsSplit owner rows before row after) (later : ℕ) (next : Row) → IsRowOf owner rows later next → split_place split.pre < later → test next ≡ true → list_any test after ≡ true
after_any test owner rows before row after split zero next is order t = absurd (let no : split_place split.pre < 0 = order in omega (arith, no))
after_any test owner rows before row after split (suc j) next is order t =
    let below : length split.pre < j = (let h : suc (length split.pre) < suc j = order in omega (arith, h)) in
    let there : slice_get (split.pre ++ row ∷ split.post) j ≡ Some next = subst (λ (l : List Row). slice_get l j ≡ Some next) split.together is.there in
    let found : IsAfter split.pre split.post j next = afterwards_of split.pre row split.post j next there below in
    subst (λ (l : List Row). list_any test l ≡ true) split.back (any_own test owner split.post found.at next found.there is.call t)

pub followed_in : (owner : ℕ) (rows before : List Row) (row : Row) (after : List Row) (split : IsSplit owner rows before row after) → IsFollowedAt owner rows (split_place split.pre) row.number → is_followed row after ≡ true
followed_in owner rows before row after split f =
    after_any (is_follower row) owner rows before row after split f.later f.next f.is f.order
    (both_true (is_transparent f.next.kind) (f.next.number == row.number) f.kind (eq-eqb f.next.number row.number f.same))

-- a row before it, as one of the call's rows before it
get_before : (pre : List Row) (row : Row) (post : List Row) (j : ℕ) (x : Row) → slice_get (pre ++ row ∷ post) j ≡ Some x → j < length pre → slice_get pre j ≡ Some x
get_before [] row post j x e order = absurd (let no : j < 0 = order in omega (arith, no))
get_before (y ∷ pre) row post zero x e order = e
get_before (y ∷ pre) row post (suc j) x e order = get_before pre row post j x e (let h : suc j < suc (length pre) = order in omega (arith, h))

pub any_before : (test : Row → Bool) (owner : ℕ) (rows before : List Row) (row : Row) (after : List Row) (split : IsSplit owner rows before row after) (place : ℕ) (x : Row) → IsRowOf owner rows place x → place < split_place split.pre → test x ≡ true → list_any test before ≡ true
any_before test owner rows before row after split zero x is order t = absurd (let no : None ≡ Some x = is.there in cc)
any_before test owner rows before row after split (suc j) x is order t =
    let below : j < length split.pre = (let h : suc j < suc (length split.pre) = order in omega (arith, h)) in
    let there : slice_get (split.pre ++ row ∷ split.post) j ≡ Some x = subst (λ (l : List Row). slice_get l j ≡ Some x) split.together is.there in
    subst (λ (l : List Row). list_any test l ≡ true) split.prefix
    (any_own test owner split.pre j x (get_before split.pre row split.post j x there below) is.call t)

-- a row that passes a test on what stands before and after it
pub record IsSome (test : ℕ → Row → List Row → Bool) (from : ℕ) (rows : List Row) : Type 0 where
  pub before : List Row
  pub row : Row
  pub after : List Row
  pub together : rows ≡ before ++ row ∷ after
  pub passes : test (from + length before) row after ≡ true

some_case : (test : ℕ → Row → List Row → Bool) (from : ℕ) (x : Row) (rows : List Row) (b : Bool) → test from x rows ≡ b → (some_row_from test (from + 1) rows ≡ true → IsSome test (from + 1) rows) → (b || some_row_from test (from + 1) rows) ≡ true → IsSome test from (x ∷ rows)
some_case test from x rows true t rest e =
    let same : from ≡ from + 0 = omega arith in
    record { before = []; row = x; after = rows; together = refl; passes = subst (λ (k : ℕ). test k x rows ≡ true) same t }
some_case test from x rows false t rest e =
    let found : IsSome test (from + 1) rows = rest e in
    let same : from + 1 + length found.before ≡ from + suc (length found.before) = omega arith in
    record {
      before = x ∷ found.before;
      row = found.row;
      after = found.after;
      together = ap (λ (l : List Row). x ∷ l) found.together;
      passes = subst (λ (k : ℕ). test k found.row found.after ≡ true) same found.passes;
    }

pub some_found : (test : ℕ → Row → List Row → Bool) (from : ℕ) (rows : List Row) → some_row_from test from rows ≡ true → IsSome test from rows
some_found test from [] e = absurd (cc)
some_found test from (x ∷ rows) e = some_case test from x rows (test from x rows) refl (λ h. some_found test (from + 1) rows h) e
