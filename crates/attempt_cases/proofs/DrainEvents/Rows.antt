-- The rows of the ledger get the streams that the attempts of the session get.
use Rattle.std.proofs.Common.{◌≡◌, ◌∷◌, ap, refl, sym, ◌∙◌, Bool, true, false, List, [], Option, None, Some, ℕ, zero, suc, if◌then◌else◌, length, map, nat_lt, slice_get, slice_set}
use Rattle.std.proofs.lemmas.Bool.{lt-ltb}
use Rattle.std.proofs.lemmas.Option.{slice_get-map, slice_get_within}
use Rattle.std.specs.Option.{option_map, option_map_or}
use Rattle.attempt_ledger.specs.declared.row.Row.{Row}
use Rattle.channel_core.specs.Draining.{streams_given}
use Rattle.channel_actions.specs.DrainWrites.Laws.{OpenedRowsWait, given_in}
use Rattle.ledger_stamps.specs.Steps as ledger
use Rattle.ledger_stamps.specs.Steps.{changed_at, stamped, streamed_row}
use Rattle.session_actions.specs.Words.{changed, changed_if, numbered}
use Rattle.session_actions.specs.Writing.{with_stream}
use Rattle.session_actions.specs.declared.attempt.Attempt.{Attempt}

abbrev rows_of : List Attempt → List Row
rows_of as_ = map (λ (a : Attempt). a.row) as_

streamed : (stream : ℕ) (r : Row) → r.stream ≡ None → streamed_row stream r ≡ record r { stream = Some stream }
streamed stream r none = ap (λ (o : Option ℕ). record r { stream = stamped stream o }) none

row_set : (stream : ℕ) (xs : List Attempt) (i : ℕ) (x : Attempt) → slice_get xs i ≡ Some x → x.row.stream ≡ None
    → rows_of (slice_set xs i (with_stream stream x)) ≡ ledger.changed (streamed_row stream) (rows_of xs) i
row_set stream [] i x e none = refl
row_set stream (y ∷ xs) zero x e none =
    let one : x ≡ y = (cc) in
    ap (λ (r : Row). r ∷ rows_of xs) (sym (streamed stream x.row none) ∙ ap (λ (q : Attempt). streamed_row stream q.row) one)
row_set stream (y ∷ xs) (suc i) x e none = ap (λ (rs : List Row). y.row ∷ rs) (row_set stream xs i x e none)

-- inside the list, and past its end
past : (f : Row → Row) (xs : List Attempt) (i : ℕ) → slice_get xs i ≡ None → ledger.changed f (rows_of xs) i ≡ rows_of xs
past f [] i e = refl
past f (y ∷ xs) zero e = absurd (cc)
past f (y ∷ xs) (suc i) e = ap (λ (rs : List Row). y.row ∷ rs) (past f xs i e)

inside : (xs : List Attempt) (i : ℕ) (x : Attempt) → slice_get xs i ≡ Some x → nat_lt i (length (rows_of xs)) ≡ true
inside xs i x e =
    lt-ltb i (length (rows_of xs)) (slice_get_within (rows_of xs) i x.row (slice_get-map (λ (a : Attempt). a.row) xs i ∙ ap (option_map (λ (a : Attempt). a.row)) e))

by_length : (f : Row → Row) (rows : List Row) (i : ℕ) (b : Bool) → ledger.changed f rows i ≡ rows
    → rows ≡ option_map_or (λ (k : ℕ). ledger.changed f rows k) (if b then Some i else None) rows
by_length f rows i true e = sym e
by_length f rows i false e = refl

row_if : (stream : ℕ) (xs : List Attempt) (i : ℕ) (o : Option Attempt) → slice_get xs i ≡ o → ((b : Attempt) → slice_get xs i ≡ Some b → b.row.stream ≡ None)
    → rows_of (changed_if (with_stream stream) (suc i) xs o) ≡ changed_at (streamed_row stream) (rows_of xs) (suc i)
row_if stream xs i None e fresh = by_length (streamed_row stream) (rows_of xs) i (nat_lt i (length (rows_of xs))) (past (streamed_row stream) xs i e)
row_if stream xs i (Some x) e fresh =
    row_set stream xs i x e (fresh x e)
    ∙ sym (ap (λ (b : Bool). option_map_or (λ (k : ℕ). ledger.changed (streamed_row stream) (rows_of xs) k) (if b then Some i else None) (rows_of xs)) (inside xs i x e))

row_given : (stream place : ℕ) (xs : List Attempt) → ((b : Attempt) → numbered xs place ≡ Some b → b.row.stream ≡ None)
    → rows_of (changed (with_stream stream) place xs) ≡ changed_at (streamed_row stream) (rows_of xs) place
row_given stream zero xs fresh = refl
row_given stream (suc i) xs fresh = row_if stream xs i (slice_get xs i) refl fresh

pub rows_given : (opened : List (ℕ × ℕ)) (as_ : List Attempt) → OpenedRowsWait opened as_ → rows_of (given_in opened as_) ≡ streams_given opened (rows_of as_)
rows_given [] as_ fresh = refl
rows_given (o ∷ opened) as_ fresh =
    rows_given opened (changed (with_stream o.1) o.0 as_) fresh.1 ∙ ap (streams_given opened) (row_given o.1 o.0 as_ fresh.0)
