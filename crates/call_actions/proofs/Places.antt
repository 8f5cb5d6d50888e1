-- Attempts that are numbered by their places: one that is changed, one more, and the one of a place.
use Rattle.std.proofs.Common.{◌≡◌, ◌<◌, ◌≤◌, ◌+◌, ◌==◌, ◌&&◌, ◌∷◌, ◌++◌, ap, arith, refl, sym, ◌∙◌, Bool, true, false, List, [], None, Some, ℕ, zero, suc, cond, if◌then◌else◌, filter, length, map, nat_lt, slice_get, slice_set}
use Rattle.std.proofs.lemmas.Bool.{and_left, and_right, eq-eqb, le-ltb, lt-ltb, ne_eqb, or_from}
use Rattle.std.specs.List.{list_any}
use Rattle.std.specs.Option.{option_map_or}
use Rattle.attempt_ledger.specs.declared.row.Row.{Row}
use Rattle.call_actions.specs.Order.{AttemptsAreNumbered}
use Rattle.call_actions.specs.Sees.{live_row}
use Rattle.call_core.specs.Parts.{find_live}
use Rattle.ledger_stamps.specs.Steps as stamps
use Rattle.session_actions.specs.Attempts.{is_later_of}
use Rattle.session_actions.specs.Words.{changed, changed_if, numbered}
use Rattle.session_actions.specs.declared.attempt.Attempt.{Attempt}

-- one more
pub numbered_snoc : (k : ℕ) (xs : List Attempt) (y : Attempt) → AttemptsAreNumbered k xs → y.place ≡ k + length xs → AttemptsAreNumbered k (xs ++ y ∷ [])
numbered_snoc k [] y p e = let at : y.place ≡ k = omega arith in (at, tt)
numbered_snoc k (x ∷ xs) y p e =
    let next : y.place ≡ suc k + length xs = omega arith in
    (p.0, numbered_snoc (suc k) xs y p.1 next)

-- each changed, and none moved
pub numbered_written : (g : Attempt → Attempt) → ((q : Attempt) → (g q).place ≡ q.place) → (k : ℕ) (xs : List Attempt) → AttemptsAreNumbered k xs → AttemptsAreNumbered k (map g xs)
numbered_written g same k [] p = tt
numbered_written g same k (x ∷ xs) p = (same x ∙ p.0, numbered_written g same (suc k) xs p.1)

-- none stands after it
pub none_later : (a : Attempt) (k : ℕ) (xs : List Attempt) → AttemptsAreNumbered k xs → k + length xs ≤ a.place → list_any (is_later_of a) xs ≡ false
none_later a k [] p e = refl
none_later a k (x ∷ xs) p e =
    let at : x.place ≡ k = p.0 in
    let before : x.place ≤ a.place = omega arith in
    let rest : suc k + length xs ≤ a.place = omega arith in
    or_from (is_later_of a x) (list_any (is_later_of a) xs)
    (and_right ((x.row.call == a.row.call) && (x.row.number == a.row.number)) (nat_lt a.place x.place) (le-ltb a.place x.place before))
    (none_later a (suc k) xs p.1 rest)

-- one of them changed: the others stay
module _ (f h : Attempt → Attempt) (n : ℕ) (a : Attempt) (here : h a ≡ f a) (away : (q : Attempt) → (q.place ≡ n → ⊥) → h q ≡ q) where
  none_there : (k : ℕ) (xs : List Attempt) → AttemptsAreNumbered k xs → n < k → map h xs ≡ xs
  none_there k [] p e = refl
  none_there k (x ∷ xs) p e =
      let at : x.place ≡ k = p.0 in
      let off : x.place ≡ n → ⊥ = λ g. omega arith in
      let rest : n < suc k = omega arith in
      ap (λ (z : Attempt). z ∷ map h xs) (away x off) ∙ ap (λ (l : List Attempt). x ∷ l) (none_there (suc k) xs p.1 rest)

  changed_from : (k i : ℕ) (xs : List Attempt) → AttemptsAreNumbered k xs → k + i ≡ n → slice_get xs i ≡ Some a → slice_set xs i (f a) ≡ map h xs
  changed_from k i [] p e got = absurd (cc)
  changed_from k zero (x ∷ xs) p e got =
      let one : x ≡ a = (cc) in
      let past : n < suc k = omega arith in
      ap (λ (z : Attempt). z ∷ xs) (sym here ∙ ap h (sym one)) ∙ ap (λ (l : List Attempt). h x ∷ l) (sym (none_there (suc k) xs p.1 past))
  changed_from k (suc i) (x ∷ xs) p e got =
      let at : x.place ≡ k = p.0 in
      let off : x.place ≡ n → ⊥ = λ g. omega arith in
      let next : suc k + i ≡ n = omega arith in
      ap (λ (z : Attempt). z ∷ slice_set xs i (f a)) (sym (away x off)) ∙ ap (λ (l : List Attempt). h x ∷ l) (changed_from (suc k) i xs p.1 next got)

  changed_by : (m : ℕ) (xs : List Attempt) → AttemptsAreNumbered 1 xs → m ≡ n → numbered xs m ≡ Some a → changed f m xs ≡ map h xs
  changed_by zero xs p e got = absurd (cc)
  changed_by (suc i) xs p e got =
      let at : 1 + i ≡ n = omega arith in
      ap (changed_if f (suc i) xs) got ∙ changed_from 1 i xs p at got

  pub changed_is : (xs : List Attempt) → AttemptsAreNumbered 1 xs → numbered xs n ≡ Some a → changed f n xs ≡ map h xs
  changed_is xs p got = changed_by n xs p refl got

  -- the rows of the ledger
  module _ (g : Row → Row) (row_here : (h a).row ≡ g a.row) where
    rows_from : (k i : ℕ) (xs : List Attempt) → AttemptsAreNumbered k xs → k + i ≡ n → slice_get xs i ≡ Some a
        → stamps.changed g (map (λ (q : Attempt). q.row) xs) i ≡ map (λ (q : Attempt). q.row) (map h xs)
    rows_from k i [] p e got = absurd (cc)
    rows_from k zero (x ∷ xs) p e got =
        let one : x ≡ a = (cc) in
        let past : n < suc k = omega arith in
        ap (λ (z : Attempt). g z.row ∷ map (λ (q : Attempt). q.row) xs) one
        ∙ ap (λ (r : Row). r ∷ map (λ (q : Attempt). q.row) xs) (sym row_here ∙ ap (λ (z : Attempt). (h z).row) (sym one))
        ∙ ap (λ (l : List Attempt). (h x).row ∷ map (λ (q : Attempt). q.row) l) (sym (none_there (suc k) xs p.1 past))
    rows_from k (suc i) (x ∷ xs) p e got =
        let at : x.place ≡ k = p.0 in
        let off : x.place ≡ n → ⊥ = λ g. omega arith in
        let next : suc k + i ≡ n = omega arith in
        ap (λ (z : Attempt). z.row ∷ stamps.changed g (map (λ (q : Attempt). q.row) xs) i) (sym (away x off))
        ∙ ap (λ (l : List Row). (h x).row ∷ l) (rows_from (suc k) i xs p.1 next got)

    within : (xs : List Attempt) (i : ℕ) → slice_get xs i ≡ Some a → i < length (map (λ (q : Attempt). q.row) xs)
    within [] i got = absurd (cc)
    within (x ∷ xs) zero got = omega arith
    within (x ∷ xs) (suc i) got = let next : i < length (map (λ (q : Attempt). q.row) xs) = within xs i got in omega arith

    rows_by : (m : ℕ) (xs : List Attempt) → AttemptsAreNumbered 1 xs → m ≡ n → numbered xs m ≡ Some a
        → stamps.changed_at g (map (λ (q : Attempt). q.row) xs) m ≡ map (λ (q : Attempt). q.row) (map h xs)
    rows_by zero xs p e got = absurd (cc)
    rows_by (suc i) xs p e got =
        let at : 1 + i ≡ n = omega arith in
        let rows : List Row = map (λ (q : Attempt). q.row) xs in
        ap (λ (b : Bool). option_map_or (λ (index : ℕ). stamps.changed g rows index) (if b then Some i else None) rows)
        (lt-ltb i (length rows) (within xs i got)) ∙ rows_from 1 i xs p at got

    pub rows_are : (xs : List Attempt) → AttemptsAreNumbered 1 xs → numbered xs n ≡ Some a
        → stamps.changed_at g (map (λ (q : Attempt). q.row) xs) n ≡ map (λ (q : Attempt). q.row) (map h xs)
    rows_are xs p got = rows_by n xs p refl got

-- what does not hold of the one at a place holds of none that has this place
module _ (test : Attempt → Bool) (n : ℕ) (a : Attempt) (not_it : test a ≡ false) where
  none_past : (k : ℕ) (xs : List Attempt) → AttemptsAreNumbered k xs → n < k → list_any (λ q. (q.place == n) && test q) xs ≡ false
  none_past k [] p e = refl
  none_past k (x ∷ xs) p e =
      let at : x.place ≡ k = p.0 in
      let off : x.place ≡ n → ⊥ = λ g. omega arith in
      let rest : n < suc k = omega arith in
      or_from ((x.place == n) && test x) (list_any (λ q. (q.place == n) && test q) xs) (and_left (x.place == n) (test x) (ne_eqb x.place n off))
      (none_past (suc k) xs p.1 rest)

  only_from : (k i : ℕ) (xs : List Attempt) → AttemptsAreNumbered k xs → k + i ≡ n → slice_get xs i ≡ Some a → list_any (λ q. (q.place == n) && test q) xs ≡ false
  only_from k i [] p e got = refl
  only_from k zero (x ∷ xs) p e got =
      let one : x ≡ a = (cc) in
      let past : n < suc k = omega arith in
      or_from ((x.place == n) && test x) (list_any (λ q. (q.place == n) && test q) xs)
      (and_right (x.place == n) (test x) (ap test one ∙ not_it)) (none_past (suc k) xs p.1 past)
  only_from k (suc i) (x ∷ xs) p e got =
      let at : x.place ≡ k = p.0 in
      let off : x.place ≡ n → ⊥ = λ g. omega arith in
      let next : suc k + i ≡ n = omega arith in
      or_from ((x.place == n) && test x) (list_any (λ q. (q.place == n) && test q) xs) (and_left (x.place == n) (test x) (ne_eqb x.place n off))
      (only_from (suc k) i xs p.1 next got)

  only_by : (m : ℕ) (xs : List Attempt) → AttemptsAreNumbered 1 xs → m ≡ n → numbered xs m ≡ Some a → list_any (λ q. (q.place == n) && test q) xs ≡ false
  only_by zero xs p e got = absurd (cc)
  only_by (suc i) xs p e got = let at : 1 + i ≡ n = omega arith in only_from 1 i xs p at got

  pub only_here : (xs : List Attempt) → AttemptsAreNumbered 1 xs → numbered xs n ≡ Some a → list_any (λ q. (q.place == n) && test q) xs ≡ false
  only_here xs p got = only_by n xs p refl got

-- it has this place
place_from : (k i : ℕ) (xs : List Attempt) (a : Attempt) → AttemptsAreNumbered k xs → slice_get xs i ≡ Some a → a.place ≡ k + i
place_from k i [] a p got = absurd (cc)
place_from k zero (x ∷ xs) a p got =
    let one : x ≡ a = (cc) in
    let at : x.place ≡ k = p.0 in
    let same : a.place ≡ x.place = ap (λ (z : Attempt). z.place) (sym one) in omega arith
place_from k (suc i) (x ∷ xs) a p got = let next : a.place ≡ suc k + i = place_from (suc k) i xs a p.1 got in omega arith

pub place_is : (n : ℕ) (xs : List Attempt) (a : Attempt) → AttemptsAreNumbered 1 xs → numbered xs n ≡ Some a → a.place ≡ n
place_is zero xs a p got = absurd (cc)
place_is (suc i) xs a p got = let at : a.place ≡ 1 + i = place_from 1 i xs a p got in omega arith

below_from : {X : Type 0} (xs : List X) (i : ℕ) (x : X) → slice_get xs i ≡ Some x → i < length xs
below_from [] i x got = absurd (cc)
below_from (y ∷ xs) zero x got = omega arith
below_from (y ∷ xs) (suc i) x got = let next : i < length xs = below_from xs i x got in omega arith

pub places_below : {X : Type 0} (xs : List X) (n : ℕ) (x : X) → numbered xs n ≡ Some x → n ≤ length xs
places_below xs zero x got = absurd (cc)
places_below xs (suc i) x got = let below : i < length xs = below_from xs i x got in omega arith

-- a live attempt is found among the live rows
module _ (p : Attempt → Bool) (n : ℕ) (a : Attempt) (lives : p a ≡ true) where
  found_if : (x : Attempt) (xs : List Attempt) (b : Bool) → (x.place ≡ n → ⊥) → find_live n (map live_row xs) ≡ Some (live_row a)
      → find_live n (map live_row (cond b (x ∷ xs) xs)) ≡ Some (live_row a)
  found_if x xs true off rest = ap (λ (b : Bool). if b then Some (live_row x) else find_live n (map live_row xs)) (ne_eqb x.place n off) ∙ rest
  found_if x xs false off rest = rest

  found_from : (k i : ℕ) (xs : List Attempt) → AttemptsAreNumbered k xs → k + i ≡ n → slice_get xs i ≡ Some a
      → find_live n (map live_row (filter p xs)) ≡ Some (live_row a)
  found_from k i [] q e got = absurd (cc)
  found_from k zero (x ∷ xs) q e got =
      let one : x ≡ a = (cc) in
      let at : x.place ≡ k = q.0 in
      let here : a.place ≡ n = (let same : a.place ≡ x.place = ap (λ (z : Attempt). z.place) (sym one) in omega arith) in
      ap (λ (b : Bool). find_live n (map live_row (cond b (x ∷ filter p xs) (filter p xs)))) (ap p one ∙ lives)
      ∙ ap (λ (z : Attempt). find_live n (map live_row (z ∷ filter p xs))) one
      ∙ ap (λ (b : Bool). if b then Some (live_row a) else find_live n (map live_row (filter p xs))) (eq-eqb a.place n here)
  found_from k (suc i) (x ∷ xs) q e got =
      let at : x.place ≡ k = q.0 in
      let off : x.place ≡ n → ⊥ = λ g. omega arith in
      let next : suc k + i ≡ n = omega arith in
      found_if x (filter p xs) (p x) off (found_from (suc k) i xs q.1 next got)

  found_by : (m : ℕ) (xs : List Attempt) → AttemptsAreNumbered 1 xs → m ≡ n → numbered xs m ≡ Some a → find_live n (map live_row (filter p xs)) ≡ Some (live_row a)
  found_by zero xs q e got = absurd (cc)
  found_by (suc i) xs q e got = let at : 1 + i ≡ n = omega arith in found_from 1 i xs q at got

  pub found_live : (xs : List Attempt) → AttemptsAreNumbered 1 xs → numbered xs n ≡ Some a → find_live n (map live_row (filter p xs)) ≡ Some (live_row a)
  found_live xs q got = found_by n xs q refl got
