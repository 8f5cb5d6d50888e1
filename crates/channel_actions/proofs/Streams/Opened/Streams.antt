-- The streams of attempts by their places: what HEADERS open is the stream of one.
use Rattle.std.proofs.Common.{◌≡◌, ◌+◌, ◌∷◌, ap, arith, refl, sym, ◌∙◌, List, [], Option, None, Some, ℕ, zero, suc, map, slice_get, slice_set}
use Rattle.std.specs.Option.{option_and_then}
use Rattle.call_actions.specs.Order.{AttemptsAreNumbered}
use Rattle.session_actions.specs.Words.{changed, changed_if, numbered}
use Rattle.session_actions.specs.Writing.{with_stream}
use Rattle.session_actions.specs.declared.attempt.Attempt.{Attempt}
use Rattle.channel_actions.proofs.Streams.Opened.Rows.{restream}

abbrev pub streams_of : List Attempt → ℕ → Option ℕ
streams_of xs k = option_and_then (λ (a : Attempt). a.row.stream) (numbered xs k)

-- an attempt with a stream, and else as it was
abbrev pub IsRow : Attempt → Attempt → Type 0
IsRow a b = b ≡ record a { row = record a.row { stream = b.row.stream } }

abbrev pub RowsAgree : List Attempt → List Attempt → Type 0
RowsAgree [] [] = Unit {0}
RowsAgree (a ∷ as_) (b ∷ bs) = IsRow a b × RowsAgree as_ bs
RowsAgree _ _ = ⊥

restream_from : (n : ℕ) (xs ys all : List Attempt) → RowsAgree xs ys → ((i : ℕ) → slice_get ys i ≡ slice_get all (n + i)) → AttemptsAreNumbered (suc n) xs
    → map (restream (streams_of all)) xs ≡ ys
restream_from n [] [] all are same places = refl
restream_from n (a ∷ xs) (b ∷ ys) all are same places =
    let start : n + 0 ≡ n = omega arith in
    let here : streams_of all a.place ≡ b.row.stream
    = ap (streams_of all) places.0 ∙ ap (λ (o : Option Attempt). option_and_then (λ (q : Attempt). q.row.stream) o) (ap (slice_get all) (sym start) ∙ sym (same zero)) in
    let on : (i : ℕ) → slice_get ys i ≡ slice_get all (suc n + i) = λ i. same (suc i) ∙ ap (slice_get all) (let e : n + suc i ≡ suc n + i = omega arith in e) in
    ap (λ (z : Attempt). z ∷ map (restream (streams_of all)) xs) (ap (λ (o : Option ℕ). record a { row = record a.row { stream = o } }) here ∙ sym are.0)
    ∙ ap (λ (l : List Attempt). b ∷ l) (restream_from (suc n) xs ys all are.1 on places.1)
restream_from n [] (b ∷ ys) all are same places = absurd are
restream_from n (a ∷ xs) [] all are same places = absurd are

pub restream_is : (xs ys : List Attempt) → RowsAgree xs ys → AttemptsAreNumbered 1 xs → map (restream (streams_of ys)) xs ≡ ys
restream_is xs ys are places = restream_from 0 xs ys ys are (λ i. ap (slice_get ys) (let e : i ≡ 0 + i = omega arith in e)) places

-- nothing, or one, changed
pub rows_self : (xs : List Attempt) → RowsAgree xs xs
rows_self [] = tt
rows_self (a ∷ xs) = (refl, rows_self xs)

rows_set : (n : ℕ) (xs : List Attempt) (i : ℕ) (x : Attempt) → slice_get xs i ≡ Some x → RowsAgree xs (slice_set xs i (with_stream n x))
rows_set n [] i x e = tt
rows_set n (y ∷ xs) zero x e =
    let one : x ≡ y = (cc) in (ap (with_stream n) one, rows_self xs)
rows_set n (y ∷ xs) (suc i) x e = (refl, rows_set n xs i x e)

rows_if : (n : ℕ) (xs : List Attempt) (i : ℕ) (o : Option Attempt) → slice_get xs i ≡ o → RowsAgree xs (changed_if (with_stream n) (suc i) xs o)
rows_if n xs i None e = rows_self xs
rows_if n xs i (Some x) e = rows_set n xs i x e

pub rows_changed : (n place : ℕ) (xs : List Attempt) → RowsAgree xs (changed (with_stream n) place xs)
rows_changed n zero xs = rows_self xs
rows_changed n (suc i) xs = rows_if n xs i (slice_get xs i) refl
