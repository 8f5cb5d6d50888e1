-- The readers of tags, by their places.
use Rattle.std.proofs.Common.{◌≡◌, ℕ, suc, ◌+◌, true, Option, Some, None, List, [], ◌∷◌, refl, ap, sym, ◌∙◌, arith, inl, inr}
use Rattle.std.proofs.lemmas.Bool.{cases_Bool}
use Rattle.std.specs.Prelude.{◌==◌, option_map, slice_index_or}
use Rattle.std.specs.List.{remove}
use Rattle.grpc_link.specs.Links.{found, found_from, opened_at, opened_one, with_reader, without, without_at}
use Rattle.grpc_link.specs.declared.readers.TagReader.{TagReader}
use Rattle.grpc_link.specs.Readers.{ReaderSeen}

-- what is found at a place stands there
record StandsAt (p from : ℕ) (r : ReaderSeen) (readers : List TagReader) : Type 0 where
  place : ℕ
  place_is : p ≡ from + place
  there : (d : TagReader) → (slice_index_or readers place d).reader ≡ r

some_is : (a b : ℕ) → Some a ≡ Some b → a ≡ b
some_is a b e = (cc)

abbrev place_of : Option (ℕ × ReaderSeen) → ℕ
place_of None = 0
place_of (Some x) = x.0

abbrev reader_of : ReaderSeen → Option (ℕ × ReaderSeen) → ReaderSeen
reader_of r None = r
reader_of r (Some x) = x.1

found_there : (tag from p : ℕ) (r : ReaderSeen) (readers : List TagReader) → found_from tag from readers ≡ Some (p, r) → StandsAt p from r readers
found_there tag from p r [] h = absurd (cc)
found_there tag from p r (t ∷ readers) h =
    elim (cases_Bool (t.tag == tag)) [
      | inl hit ↦ (
          let here : ◌≡◌ {A = Option (ℕ × ReaderSeen)} (Some (from, t.reader)) (Some (p, r)) = rw hit at h in
          let place : from ≡ p = ap place_of here in
          record { place = 0; place_is = omega (arith, place); there = λ d. ap (reader_of r) here })
      | inr miss ↦ (
          let later = found_there tag (from + 1) p r readers (rw miss at h) in
          record { place = suc later.place; place_is = omega (arith, later.place_is); there = λ d. later.there d })
    ]

-- the reader at a place that was found
pub taken : (tag place : ℕ) (readers : List TagReader) (t : TagReader) → Some place ≡ option_map (λ x. x.0) (found tag readers) → t ≡ slice_index_or readers place t
    → Some t.reader ≡ option_map (λ x. x.1) (found tag readers)
taken tag place readers t e there = taken_by (found tag readers) refl e
  where
    taken_by : (o : Option (ℕ × ReaderSeen)) → found tag readers ≡ o → Some place ≡ option_map (λ x. x.0) o → Some t.reader ≡ option_map (λ x. x.1) o
    taken_by None f e = absurd (cc)
    taken_by (Some x) f e =
        let here = found_there tag 0 x.0 x.1 readers f in
        let same : here.place ≡ place = omega (arith, here.place_is, some_is place x.0 e) in
        ap Some (ap (λ (y : TagReader). y.reader) (there ∙ ap (λ (n : ℕ). slice_index_or readers n t) (sym same)) ∙ here.there t)

-- a tag whose stream was opened
none_opened : (tag : ℕ) (readers : List TagReader) (o : Option (ℕ × ReaderSeen)) → option_map (λ x. x.1) o ≡ None → without_at readers o ≡ opened_at tag readers o
none_opened tag readers None e = refl
none_opened tag readers (Some x) e = absurd (cc)

pub opened_none : (tag : ℕ) (readers : List TagReader) → option_map (λ x. x.1) (found tag readers) ≡ None → without tag readers ≡ opened_one tag readers
opened_none tag readers e = none_opened tag readers (found tag readers) e

one_opened : (tag : ℕ) (r : ReaderSeen) (readers : List TagReader) (o : Option (ℕ × ReaderSeen)) → Some r ≡ option_map (λ x. x.1) o
    → with_reader tag (record r { opened = true }) (without_at readers o) ≡ opened_at tag readers o
one_opened tag r readers None e = absurd (cc)
one_opened tag r readers (Some x) e = ap (λ (y : ReaderSeen). with_reader tag (record y { opened = true }) (remove readers x.0)) (some_reader r x.1 e)
  where
    some_reader : (a b : ReaderSeen) → Some a ≡ Some b → a ≡ b
    some_reader a b e = (cc)

pub opened_some : (tag : ℕ) (r : ReaderSeen) (readers : List TagReader) → Some r ≡ option_map (λ x. x.1) (found tag readers)
    → with_reader tag (record r { opened = true }) (without tag readers) ≡ opened_one tag readers
opened_some tag r readers e = one_opened tag r readers (found tag readers) e
