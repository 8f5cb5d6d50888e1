-- Going through the rows of a call, each with its place and the rows after it.
use Rattle.std.proofs.Common.{◌≡◌, ℕ, suc, ◌+◌, ◌-◌, ◌≤◌, ◌<◌, ◌∙◌, Bool, true, false, ◌||◌, cond, max, List, [], ◌∷◌, length, take, drop, get_or, refl, ap, sym, arith, drop-cons, take_all, length-drop}
use Rattle.std.proofs.lemmas.Grind.{common_steps}
use Rattle.std.proofs.lemmas.List.{drop_all}
use Rattle.attempt_ledger.specs.declared.row.Row.{Row}
use Rattle.attempt_ledger.specs.Ends.{some_row, some_row_from}
use Rattle.attempt_ledger.specs.Retries.{asks_delay_before, last_delayed}

-- the rows from a place on
pub from-place : (rows : List Row) (i : ℕ) (row : Row) → i < length rows → row ≡ get_or rows i row → drop i rows ≡ row ∷ drop (i + 1) rows
from-place rows i row inside is =
    let next : suc i ≡ i + 1 = omega arith in
    drop-cons rows i row inside ∙ ap (λ (r : Row). r ∷ drop (suc i) rows) (sym is) ∙ ap (λ (k : ℕ). row ∷ drop k rows) next

-- the rows before a place don't pass the test
abbrev pub NoneSoFar : (ℕ → Row → List Row → Bool) → List Row → ℕ → Type 0
NoneSoFar test rows i = some_row_from test i (drop i rows) ≡ some_row test rows

-- at a row
at-row : (test : ℕ → Row → List Row → Bool) (rows : List Row) (i : ℕ) (row : Row) → i < length rows → row ≡ get_or rows i row → NoneSoFar test rows i → (test i row (drop (i + 1) rows) || some_row_from test (i + 1) (drop (i + 1) rows)) ≡ some_row test rows
at-row test rows i row inside is so_far = sym (ap (some_row_from test i) (from-place rows i row inside is)) ∙ so_far

-- the rows after a place, as a slice gives them
pub afterwards : (rows : List Row) (k : ℕ) → take (length rows - k) (drop k rows) ≡ drop k rows
afterwards rows k = take_all (length rows - k) (drop k rows) (omega (arith, length-drop k rows))

-- a row passes
pub found : (test : ℕ → Row → List Row → Bool) (rows : List Row) (i : ℕ) (row : Row) (reported : Bool) → i < length rows → row ≡ get_or rows i row → NoneSoFar test rows i → reported ≡ test i row (take (length rows - (i + 1)) (drop (i + 1) rows)) → reported ≡ true → true ≡ some_row test rows
found test rows i row reported inside is so_far says passes =
    let here : test i row (drop (i + 1) rows) ≡ true = ap (test i row) (sym (afterwards rows (i + 1))) ∙ sym says ∙ passes in
    sym (ap (λ (b : Bool). b || some_row_from test (i + 1) (drop (i + 1) rows)) here) ∙ at-row test rows i row inside is so_far

-- a row doesn't
pub one-more : (test : ℕ → Row → List Row → Bool) (rows : List Row) (i : ℕ) (row : Row) (reported : Bool) → i < length rows → row ≡ get_or rows i row → NoneSoFar test rows i → reported ≡ test i row (take (length rows - (i + 1)) (drop (i + 1) rows)) → reported ≡ false → NoneSoFar test rows (i + 1)
one-more test rows i row reported inside is so_far says fails =
    let here : test i row (drop (i + 1) rows) ≡ false = ap (test i row) (sym (afterwards rows (i + 1))) ∙ sym says ∙ fails in
    sym (ap (λ (b : Bool). b || some_row_from test (i + 1) (drop (i + 1) rows)) here) ∙ at-row test rows i row inside is so_far

-- no row does
pub none-at-all : (test : ℕ → Row → List Row → Bool) (rows : List Row) (i : ℕ) → length rows ≤ i → NoneSoFar test rows i → false ≡ some_row test rows
none-at-all test rows i end so_far = sym (ap (some_row_from test i) (drop_all i rows end)) ∙ so_far

greater-of : (number last new all some here rest : ℕ) (reported : Bool) → max last some ≡ all → some ≡ cond reported (max here rest) rest → new ≡ cond reported (max here last) last → max new rest ≡ all
greater-of number last new all some here rest true a b c = omega arith
greater-of number last new all some here rest false a b c = omega arith

-- the greatest number with one row more
pub delayed-more : (number last new i : ℕ) (rows : List Row) (row : Row) (reported : Bool) → i < length rows → row ≡ get_or rows i row → max last (last_delayed number (drop i rows)) ≡ last_delayed number rows → reported ≡ asks_delay_before number row (take (length rows - (i + 1)) (drop (i + 1) rows)) → new ≡ cond reported (max row.number last) last → max new (last_delayed number (drop (i + 1) rows)) ≡ last_delayed number rows
delayed-more number last new i rows row reported inside is so_far says more =
    let asks : asks_delay_before number row (drop (i + 1) rows) ≡ reported = ap (asks_delay_before number row) (sym (afterwards rows (i + 1))) ∙ sym says in
    let here : last_delayed number (drop i rows) ≡ cond reported (max row.number (last_delayed number (drop (i + 1) rows))) (last_delayed number (drop (i + 1) rows)) =
    ap (last_delayed number) (from-place rows i row inside is) ∙ ap (λ (b : Bool). cond b (max row.number (last_delayed number (drop (i + 1) rows))) (last_delayed number (drop (i + 1) rows))) asks in
    greater-of number last new (last_delayed number rows) (last_delayed number (drop i rows)) row.number (last_delayed number (drop (i + 1) rows)) reported so_far here more

below-of : (number here rest : ℕ) (asks : Bool) → (asks ≡ true → here < number) → rest ≤ number - 1 → cond asks (max here rest) rest ≤ number - 1
below-of number here rest true low rests = let h : here < number = low refl in omega arith
below-of number here rest false low rests = rests

-- that number is below the other
pub delayed-below : (number : ℕ) (rows : List Row) → last_delayed number rows ≤ number - 1
delayed-below number [] = omega arith
delayed-below number (row ∷ after) =
    below-of number row.number (last_delayed number after) (asks_delay_before number row after)
    (λ asks. grind (arith, common_steps, asks))
    (delayed-below number after)
