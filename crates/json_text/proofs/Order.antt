-- A name is found among members by their places in the order of their names.
use Rattle.std.proofs.Common.{◌≡◌, ℕ, ◌<◌, ◌≤◌, zero, suc, List, [], ◌∷◌, ◌++◌, length, length-append, get_or, refl, ap, sym, subst, ◌∙◌, arith, Bool, true, false, Result, Ok, Err, inl, inr}
use Rattle.std.specs.Prelude.{◌||◌, is_ok}
use Rattle.std.specs.List.{All, list_any, insert}
use Rattle.std.specs.List.Sorted.{IsSearchInRange, IsBinarySearchResult}
use Rattle.std.specs.declared.cmp.Ordering.{Ordering}
use Rattle.std.specs.declared.cmp.Ordering.TheVariants.{Less, Equal, Greater}
use Rattle.std.specs.Ordering.{nat_cmp, ordering_index, ordering_reverse, is_eq}
use Rattle.std.specs.Cmp.{alike_right}
use Rattle.std.specs.Cmp.Lexicographic.{slice_cmp}
use Rattle.std.specs.Str.{bytes_eq}
use Rattle.std.proofs.lemmas.Bool.{cases_lt}
use Rattle.std.proofs.lemmas.Cmp.{nat_list_cmp_total}
use Rattle.std.proofs.lemmas.List.Folds.{list_any_at, list_any_none}
use Rattle.std.proofs.lemmas.List.Sorted.{list_any-IsPermutation, IsPermutation-insert, IsNonDecreasingBy-insert, All-permutation}
use Rattle.std.proofs.lemmas.Map.Text.{is_eq-slice_cmp}
use Rattle.std.proofs.lemmas.Slice.Eq.{bytes_eq-Decides}
use Rattle.json_text.specs.Order.{name_at, any_named, place_cmp, PlacesAreWithin, HaveAll, NamesAreRising, placed}

All-insert : (P : ℕ → Type 0) (xs : List ℕ) (i x : ℕ) → All P xs → P x → All P (insert xs i x)
All-insert P xs i x h p = All-permutation P (x ∷ xs) (insert xs i x) (IsPermutation-insert xs i x) (λ k d below. first k d below)
  where
    first : (k d : ℕ) → k < length (x ∷ xs) → P (get_or (x ∷ xs) k d)
    first zero d below = p
    first (suc k) d below = h k d (omega arith)

any_same : (p q : ℕ → Bool) (xs : List ℕ) → All (λ x. p x ≡ q x) xs → list_any p xs ≡ list_any q xs
any_same p q [] h = refl
any_same p q (x ∷ xs) h =
    ap (λ (b : Bool). b || list_any p xs) (h 0 0 (omega arith)) ∙ ap (λ (b : Bool). q x || b) (any_same p q xs (λ k d below. h (suc k) d (omega arith)))

at_most_two : (r : Ordering) → ordering_index r ≤ 2
at_most_two Less = omega arith
at_most_two Equal = omega arith
at_most_two Greater = omega arith

lower : (x y q : List ℕ) → slice_cmp nat_cmp x y ≡ Less → ordering_index (slice_cmp nat_cmp x q) ≤ ordering_index (slice_cmp nat_cmp y q)
lower x y q e = by (slice_cmp nat_cmp y q) refl
  where
    by : (r : Ordering) → slice_cmp nat_cmp y q ≡ r → ordering_index (slice_cmp nat_cmp x q) ≤ ordering_index r
    by Less f = omega (arith, ap ordering_index (nat_list_cmp_total.trans x y q e f))
    by Equal f = omega (arith, ap ordering_index (sym (alike_right nat_list_cmp_total y q x f) ∙ e))
    by Greater f = at_most_two (slice_cmp nat_cmp x q)

higher : (x y q : List ℕ) → slice_cmp nat_cmp x y ≡ Greater → ordering_index (slice_cmp nat_cmp y q) ≤ ordering_index (slice_cmp nat_cmp x q)
higher x y q e = lower y x q (nat_list_cmp_total.antisymm y x ∙ ap ordering_reverse e)

module _ {V : Type 0} where
  name_prefix : (ms : List (List ℕ × V)) (m : List ℕ × V) (i : ℕ) → i < length ms → name_at (ms ++ m ∷ []) i ≡ name_at ms i
  name_prefix [] m i h = absurd (omega arith)
  name_prefix (x ∷ ms) m zero h = refl
  name_prefix (x ∷ ms) m (suc i) h = name_prefix ms m i (omega arith)

  name_last : (ms : List (List ℕ × V)) (m : List ℕ × V) → name_at (ms ++ m ∷ []) (length ms) ≡ m.0
  name_last [] m = refl
  name_last (x ∷ ms) m = name_last ms m

  named_last : (name : List ℕ) (ms : List (List ℕ × V)) (m : List ℕ × V) → any_named name (ms ++ m ∷ []) ≡ (bytes_eq m.0 name || any_named name ms)
  named_last name [] m = refl
  named_last name (x ∷ ms) m = ap (λ (b : Bool). bytes_eq x.0 name || b) (named_last name ms m) ∙ turned (bytes_eq x.0 name) (bytes_eq m.0 name) (any_named name ms)
    where
      turned : (a b c : Bool) → (a || (b || c)) ≡ (b || (a || c))
      turned true true c = refl
      turned true false c = refl
      turned false b c = refl

  is_named_at : (ms : List (List ℕ × V)) (name : List ℕ) (i : ℕ) (r : Ordering) → place_cmp ms name i ≡ r → bytes_eq (name_at ms i) name ≡ is_eq r
  is_named_at ms name i r e = sym (is_eq-slice_cmp (name_at ms i) name) ∙ ap is_eq e

  -- The search finds the name if a member has it.
  pub search_finds : (ms : List (List ℕ × V)) (order name : List ℕ) (r : Result ℕ ℕ) → HaveAll ms order → NamesAreRising ms order
      → IsSearchInRange r (length order) → IsBinarySearchResult (place_cmp ms name) order r → is_ok r ≡ any_named name ms
  search_finds ms order name (Ok i) all rising bound position =
      sym (all name ∙ list_any_at (λ j. bytes_eq (name_at ms j) name) order i 0 bound (is_named_at ms name (get_or order i 0) Equal (position 0)))
  search_finds ms order name (Err i) all rising bound position =
      sym (all name ∙ list_any_none (λ j. bytes_eq (name_at ms j) name) order (λ k d below. apart k d below))
    where
      apart : (k d : ℕ) → k < length order → bytes_eq (name_at ms (get_or order k d)) name ≡ false
      apart k d below = elim (cases_lt k i) [
        | inl before ↦ is_named_at ms name (get_or order k d) Less ((position (rising name)).0 k d (omega arith) before)
        | inr after ↦ is_named_at ms name (get_or order k d) Greater ((position (rising name)).1 k d after below)
      ]

  pub name_of_item : (ms : List (List ℕ × V)) (i : ℕ) (d : List ℕ × V) → i < length ms → (get_or ms i d).0 ≡ name_at ms i
  name_of_item [] i d h = absurd (omega arith)
  name_of_item (x ∷ ms) zero d h = refl
  name_of_item (x ∷ ms) (suc i) d h = name_of_item ms i d (omega arith)

  pub no_name_after : (ms : List (List ℕ × V)) (i : ℕ) → length ms ≤ i → name_at ms i ≡ []
  no_name_after [] i h = refl
  no_name_after (x ∷ ms) zero h = absurd (omega arith)
  no_name_after (x ∷ ms) (suc i) h = no_name_after ms i (omega arith)

  -- One member more.
  within_same : (ms : List (List ℕ × V)) (m : List ℕ × V) (order : List ℕ) → PlacesAreWithin ms order → PlacesAreWithin (ms ++ m ∷ []) order
  within_same ms m order h = λ k d below. omega (arith, length-append ms (m ∷ []), h k d below)

  within_placed : (ms : List (List ℕ × V)) (m : List ℕ × V) (order : List ℕ) (r : Result ℕ ℕ) → PlacesAreWithin ms order → PlacesAreWithin (ms ++ m ∷ []) (placed r order (length ms))
  within_placed ms m order (Ok i) h = within_same ms m order h
  within_placed ms m order (Err i) h =
      All-insert (λ j. j < length (ms ++ m ∷ [])) order i (length ms) (within_same ms m order h) (omega (arith, length-append ms (m ∷ [])))

  same_names : (ms : List (List ℕ × V)) (m : List ℕ × V) (order name : List ℕ) → PlacesAreWithin ms order
      → list_any (λ i. bytes_eq (name_at (ms ++ m ∷ []) i) name) order ≡ list_any (λ i. bytes_eq (name_at ms i) name) order
  same_names ms m order name h = any_same _ _ order (λ k d below. ap (λ (n : List ℕ). bytes_eq n name) (name_prefix ms m (get_or order k d) (h k d below)))

  whole_placed : (ms : List (List ℕ × V)) (m : List ℕ × V) (order : List ℕ) (r : Result ℕ ℕ) → PlacesAreWithin ms order → HaveAll ms order
      → (is_ok r ≡ true → any_named m.0 ms ≡ true) → HaveAll (ms ++ m ∷ []) (placed r order (length ms))
  whole_placed ms m order (Ok i) h all twice = λ name. named_last name ms m ∙ absorbed name (bytes_eq m.0 name) refl ∙ all name ∙ sym (same_names ms m order name h)
    where
      absorbed : (name : List ℕ) (b : Bool) → bytes_eq m.0 name ≡ b → (b || any_named name ms) ≡ any_named name ms
      absorbed name true e = sym (ap (λ (n : List ℕ). any_named n ms) (sym ((bytes_eq-Decides m.0 name).0 e)) ∙ twice refl)
      absorbed name false e = refl
  whole_placed ms m order (Err i) h all twice = λ name.
      named_last name ms m ∙ ap (λ (b : Bool). bytes_eq m.0 name || b) (all name ∙ sym (same_names ms m order name h))
      ∙ ap (λ (n : List ℕ). bytes_eq n name || list_any (λ i. bytes_eq (name_at (ms ++ m ∷ []) i) name) order) (sym (name_last ms m))
      ∙ list_any-IsPermutation (λ i. bytes_eq (name_at (ms ++ m ∷ []) i) name) (length ms ∷ order) (insert order i (length ms)) (IsPermutation-insert order i (length ms))

  same_index : (ms : List (List ℕ × V)) (m : List ℕ × V) (name : List ℕ) (i : ℕ) → i < length ms
      → ordering_index (place_cmp (ms ++ m ∷ []) name i) ≡ ordering_index (place_cmp ms name i)
  same_index ms m name i h = ap (λ (n : List ℕ). ordering_index (slice_cmp nat_cmp n name)) (name_prefix ms m i h)

  rising_same : (ms : List (List ℕ × V)) (m : List ℕ × V) (order : List ℕ) → PlacesAreWithin ms order → NamesAreRising ms order → NamesAreRising (ms ++ m ∷ []) order
  rising_same ms m order h rising = λ name j k d le below.
      omega (arith, same_index ms m name (get_or order j d) (h j d (omega arith)), same_index ms m name (get_or order k d) (h k d below), rising name j k d le below)

  last_index : (ms : List (List ℕ × V)) (m : List ℕ × V) (name : List ℕ)
      → ordering_index (place_cmp (ms ++ m ∷ []) name (length ms)) ≡ ordering_index (slice_cmp nat_cmp m.0 name)
  last_index ms m name = ap (λ (n : List ℕ). ordering_index (slice_cmp nat_cmp n name)) (name_last ms m)

  rising_placed : (ms : List (List ℕ × V)) (m : List ℕ × V) (order : List ℕ) (r : Result ℕ ℕ) → PlacesAreWithin ms order → NamesAreRising ms order
      → IsSearchInRange r (length order) → IsBinarySearchResult (place_cmp ms m.0) order r → NamesAreRising (ms ++ m ∷ []) (placed r order (length ms))
  rising_placed ms m order (Ok i) h rising bound position = rising_same ms m order h rising
  rising_placed ms m order (Err i) h rising bound position = λ name.
      IsNonDecreasingBy-insert (λ j. ordering_index (place_cmp (ms ++ m ∷ []) name j)) order i (length ms)
      (rising_same ms m order h rising name) bound
      (λ k d before. omega (
        arith,
        last_index ms m name,
        same_index ms m name (get_or order k d) (h k d (omega arith)),
        lower (name_at ms (get_or order k d)) m.0 name ((position (rising m.0)).0 k d (omega arith) before),
      ))
      (λ k d after below. omega (
        arith,
        last_index ms m name,
        same_index ms m name (get_or order k d) (h k d below),
        higher (name_at ms (get_or order k d)) m.0 name ((position (rising m.0)).1 k d after below),
      ))

  pub one_more : (ms new : List (List ℕ × V)) (m : List ℕ × V) (order after : List ℕ) (r : Result ℕ ℕ)
      → new ≡ ms ++ m ∷ [] → after ≡ placed r order (length ms) → PlacesAreWithin ms order → HaveAll ms order → NamesAreRising ms order
      → IsSearchInRange r (length order) → IsBinarySearchResult (place_cmp ms m.0) order r
      → PlacesAreWithin new after × HaveAll new after × NamesAreRising new after
  one_more ms new m order after r e f h all rising bound position =
      subst (λ (x : List (List ℕ × V)). PlacesAreWithin x after × HaveAll x after × NamesAreRising x after) (sym e)
      (subst (λ (x : List ℕ). PlacesAreWithin (ms ++ m ∷ []) x × HaveAll (ms ++ m ∷ []) x × NamesAreRising (ms ++ m ∷ []) x) (sym f) (
        within_placed ms m order r h,
        whole_placed ms m order r h all (λ y. sym (search_finds ms order m.0 r all rising bound position) ∙ y),
        rising_placed ms m order r h rising bound position,
      ))
