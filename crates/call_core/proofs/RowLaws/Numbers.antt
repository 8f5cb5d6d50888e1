-- No row of a call breaks the law of numbering.
use Rattle.std.proofs.Common.{◌≡◌, ◌≤◌, ◌<◌, ℕ, zero, suc, Bool, true, false, not, ◌&&◌, ◌==◌, if◌then◌else◌, length, Option, Some, List, [], ◌∷◌, ◌++◌, map, refl, sym, ap, subst, ◌∙◌, ◌⊎◌, inl, inr, arith, slice_get}
use Rattle.std.proofs.lemmas.Bool.{OnFalse_from}
use Rattle.std.proofs.lemmas.List.{length-map}
use Rattle.std.specs.List.{filter}
use Rattle.grpc_base.specs.declared.plan.CallPlan.{CallPlan}
use Rattle.grpc_base.specs.declared.plan.Chosen.{Chosen}
use Rattle.attempt_ledger.specs.Faults.{Breaks}
use Rattle.attempt_ledger.specs.Numbering.{IsNextAttempt, KeepsNumbering, attempts_of, is_transparent, kind_by_number, most_attempts}
use Rattle.attempt_ledger.specs.declared.row.Row.{Row}
use Rattle.attempt_ledger.specs.declared.row.RowKind.{RowKind}
use Rattle.call_core.specs.Numbering.{IsNumbered, is_attempt_of, number_and_kind, numbered}
use Rattle.call_core.specs.Orders.{RowsAreTimed, IsTimed}
use Rattle.call_core.specs.Parts.{plan_of}
use Rattle.call_core.specs.RowLaws.{NeverBreaks, rows_of}
use Rattle.call_core.specs.Steps.{Stepped, call_plan}
use Rattle.call_core.proofs.RowLaws.Splits.{IsSplit, split_of, split_place, split_row}

-- the attempts of a call, as those of its own rows
attempts_prefix : (x : Row) (P Q : List Row) (b t : Bool) → P ≡ Q → (if b && t then x ∷ P else P) ≡ (if b then (if t then x ∷ Q else Q) else Q)
attempts_prefix x P Q false t e = e
attempts_prefix x P Q true true e = ap (λ (l : List Row). x ∷ l) e
attempts_prefix x P Q true false e = e

attempts_if : (x : Row) (rows : List Row) (b : Bool) → (if b then (if not (is_transparent x.kind) then x ∷ attempts_of rows else attempts_of rows) else attempts_of rows) ≡ attempts_of (if b then x ∷ rows else rows)
attempts_if x rows true = refl
attempts_if x rows false = refl

attempts_own : (owner : ℕ) (rows : List Row) → filter (is_attempt_of owner) rows ≡ attempts_of (rows_of owner rows)
attempts_own owner [] = refl
attempts_own owner (x ∷ rows) =
    attempts_prefix x (filter (is_attempt_of owner) rows) (attempts_of (rows_of owner rows)) (x.call == owner) (not (is_transparent x.kind)) (attempts_own owner rows)
    ∙ attempts_if x (rows_of owner rows) (x.call == owner)

-- the names of the attempts before a row, its own, and those after it
abbrev names : List Row → List (ℕ × Option RowKind)
names rows = map number_and_kind (attempts_of rows)

names_one : (x : Row) (P Q : List Row) (R : List (ℕ × Option RowKind)) (b : Bool) → map number_and_kind P ≡ map number_and_kind Q ++ R → map number_and_kind (if b then x ∷ P else P) ≡ map number_and_kind (if b then x ∷ Q else Q) ++ R
names_one x P Q R true e = ap (λ (l : List (ℕ × Option RowKind)). number_and_kind x ∷ l) e
names_one x P Q R false e = e

names_both : (xs ys : List Row) → names (xs ++ ys) ≡ names xs ++ names ys
names_both [] ys = refl
names_both (x ∷ xs) ys = names_one x (attempts_of (xs ++ ys)) (attempts_of xs) (names ys) (not (is_transparent x.kind)) (names_both xs ys)

names_first : (x : Row) (rows : List Row) (t : Bool) → t ≡ false → map number_and_kind (if not t then x ∷ attempts_of rows else attempts_of rows) ≡ number_and_kind x ∷ names rows
names_first x rows true e = absurd (cc)
names_first x rows false e = refl

-- elements of lists
get_middle : (xs : List (ℕ × Option RowKind)) (x : ℕ × Option RowKind) (ys : List (ℕ × Option RowKind)) → slice_get (xs ++ x ∷ ys) (length xs) ≡ Some x
get_middle [] x ys = refl
get_middle (y ∷ xs) x ys = get_middle xs x ys

abbrev IsNumber : CallPlan → ℕ → ℕ → ℕ × Option RowKind → Type 0
IsNumber plan n i p = (p ≡ (suc i, kind_by_number plan (suc i))) × (i < n)

numbered_length : (plan : CallPlan) (n : ℕ) → length (numbered plan n) ≡ n
numbered_length plan zero = refl
numbered_length plan (suc n) = length_more (numbered plan n) (suc n, kind_by_number plan (suc n)) ∙ ap suc (numbered_length plan n)
  where
    length_more : (xs : List (ℕ × Option RowKind)) (x : ℕ × Option RowKind) → length (xs ++ x ∷ []) ≡ suc (length xs)
    length_more [] x = refl
    length_more (y ∷ xs) x = ap suc (length_more xs x)

get_last : (xs : List (ℕ × Option RowKind)) (x p : ℕ × Option RowKind) (i : ℕ) → slice_get (xs ++ x ∷ []) i ≡ Some p → (slice_get xs i ≡ Some p) ⊎ ((i ≡ length xs) × (p ≡ x))
get_last [] x p zero e = inr (refl, (cc))
get_last [] x p (suc i) e = absurd (cc)
get_last (y ∷ xs) x p zero e = inl e
get_last (y ∷ xs) x p (suc i) e = get_after (get_last xs x p i e)
  where
    get_after : (slice_get xs i ≡ Some p) ⊎ ((i ≡ length xs) × (p ≡ x)) → (slice_get xs i ≡ Some p) ⊎ ((suc i ≡ suc (length xs)) × (p ≡ x))
    get_after (inl h) = inl h
    get_after (inr h) = inr (ap suc h.0, h.1)

number_split : (plan : CallPlan) (n i : ℕ) (p : ℕ × Option RowKind) → (slice_get (numbered plan n) i ≡ Some p → IsNumber plan n i p) → (slice_get (numbered plan n) i ≡ Some p) ⊎ ((i ≡ length (numbered plan n)) × (p ≡ (suc n, kind_by_number plan (suc n)))) → IsNumber plan (suc n) i p
number_split plan n i p rest (inl e) = let old : IsNumber plan n i p = rest e in let below : i < n = old.1 in (old.0, omega (arith, below))
number_split plan n i p rest (inr h) =
    let at : i ≡ n = h.0 ∙ numbered_length plan n in
    (h.1 ∙ ap (λ (k : ℕ). let q : ℕ × Option RowKind = (suc k, kind_by_number plan (suc k)) in q) (sym at), (omega (arith, at)))

numbered_at : (plan : CallPlan) (n i : ℕ) (p : ℕ × Option RowKind) → slice_get (numbered plan n) i ≡ Some p → IsNumber plan n i p
numbered_at plan zero i p e = absurd (cc)
numbered_at plan (suc n) i p e =
    number_split plan n i p (numbered_at plan n i p) (get_last (numbered plan n) (suc n, kind_by_number plan (suc n)) p i e)

-- the law
next_attempt : (chosen : Chosen) (s : Stepped) (before : List Row) (row : Row) (after : List Row) → s.call.chosen ≡ Some chosen → IsNumbered s → rows_of s.call.number s.ledger.rows ≡ before ++ row ∷ after → is_transparent row.kind ≡ false → IsNextAttempt chosen.plan (length (attempts_of before)) row
next_attempt chosen s before row after known numbered_s together kind =
    let plan : CallPlan = call_plan s.call in
    let i : ℕ = length (attempts_of before) in
    let n : ℕ = s.call.attempts.sent in
    let list : names before ++ number_and_kind row ∷ names after ≡ numbered plan n =
    ap (λ (l : List (ℕ × Option RowKind)). names before ++ l) (sym (names_first row after (is_transparent row.kind) kind))
    ∙ sym (names_both before (row ∷ after)) ∙ ap names (sym together)
    ∙ ap (map number_and_kind) (sym (attempts_own s.call.number s.ledger.rows)) ∙ numbered_s.attempts in
    let there : slice_get (numbered plan n) (length (names before)) ≡ Some (number_and_kind row) =
    ap (λ (l : List (ℕ × Option RowKind)). slice_get l (length (names before))) (sym list) ∙ get_middle (names before) (number_and_kind row) (names after) in
    let is : IsNumber plan n i (number_and_kind row) =
    numbered_at plan n i (number_and_kind row) (subst (λ (k : ℕ). slice_get (numbered plan n) k ≡ Some (number_and_kind row)) (length-map (attempts_of before) number_and_kind) there) in
    let same : plan ≡ chosen.plan = ap plan_of known in
    let number : row.number ≡ suc i = ap (λ (p : ℕ × Option RowKind). p.0) is.0 in
    let below : i < n = is.1 in
    let most : n ≤ most_attempts plan = numbered_s.most in
    let within : row.number ≤ most_attempts plan = omega (arith, number, below, most) in
    record {
      number = (omega (arith, number));
      most = subst (λ (p : CallPlan). row.number ≤ most_attempts p) same within;
      kind =
          ap (λ (p : ℕ × Option RowKind). p.1) is.0 ∙ ap (λ (k : ℕ). kind_by_number plan k) (sym number)
          ∙ ap (λ (p : CallPlan). kind_by_number p row.number) same;
    }

row_numbered : (chosen : Chosen) (now : ℕ) (s : Stepped) (before : List Row) (row : Row) (after : List Row) → s.call.chosen ≡ Some chosen → IsNumbered s → RowsAreTimed now s → rows_of s.call.number s.ledger.rows ≡ before ++ row ∷ after → KeepsNumbering chosen.plan (length (attempts_of before)) row
row_numbered chosen now s before row after known numbered_s timed together =
    let split : IsSplit s.call.number s.ledger.rows before row after = split_of s.call.number s.ledger.rows before row after together in
    let is : IsTimed now row = timed (split_place split.pre) row (split_row s.call.number s.ledger.rows before row after split) in
    record {
      attempt = OnFalse_from (is_transparent row.kind) (IsNextAttempt chosen.plan (length (attempts_of before)) row) (λ kind. next_attempt chosen s before row after known numbered_s together kind);
      order = is.order;
    }

breaks_eight : (chosen : Chosen) (rows before : List Row) (row : Row) (after : List Row) → KeepsNumbering chosen.plan (length (attempts_of before)) row → Breaks chosen rows 8 before row after → ⊥
breaks_eight chosen rows before row after keeps (inl h) = h.1 keeps
breaks_eight chosen rows before row after keeps (inr (inl h)) = let no : 8 ≡ 9 = h.0 in omega (arith, no)
breaks_eight chosen rows before row after keeps (inr (inr (inl h))) = let no : 8 ≡ 10 = h.0 in omega (arith, no)
breaks_eight chosen rows before row after keeps (inr (inr (inr (inl h)))) = let no : 8 ≡ 11 = h.0 in omega (arith, no)
breaks_eight chosen rows before row after keeps (inr (inr (inr (inr h)))) = let no : 8 ≡ 12 = h.0 in omega (arith, no)

pub never_misnumbered : (chosen : Chosen) (now : ℕ) (s : Stepped) → s.call.chosen ≡ Some chosen → IsNumbered s → RowsAreTimed now s → NeverBreaks 8 chosen s
never_misnumbered chosen now s known numbered_s timed = λ place breaks.
    breaks_eight chosen (rows_of s.call.number s.ledger.rows) breaks.before breaks.row breaks.after
    (row_numbered chosen now s breaks.before breaks.row breaks.after known numbered_s timed breaks.together) breaks.broken
