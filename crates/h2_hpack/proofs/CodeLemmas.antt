-- The code: no code begins another, and each symbol has its own.
use Rattle.std.proofs.Common.{◌≡◌, ℕ, ◌+◌, ◌^◌, Bool, true, false, ◌&&◌, ◌==◌, nat_lt, List, [], ◌∷◌, ◌++◌, length, refl, sym, ◌∙◌, ap, subst, arith, Option, Some, None, inl, inr, length-append}
use Rattle.std.specs.Prelude.{option_map, is_some, bytes_eq, find, unwrap_or, not, replicate, map}
use Rattle.std.specs.List.{list_all, range_with_len}
use Rattle.std.proofs.lemmas.Bool.{agree_below, and_parts, cases_Bool, false≢true, true≢false, eq-eqb, false_from_ne_true}
use Rattle.std.proofs.lemmas.Slice.Eq.{bytes_eq-Decides}
use Rattle.h2_hpack.specs.Laws.{share, code_counts}
use Rattle.h2_hpack.specs.Huffman.{SymbolCode, symbol_codes, of_length, code_of, end_of_string, code_lengths, symbols_from, is_prefix, is_free}

abbrev pub code_for : List SymbolCode → ℕ → Option SymbolCode
code_for table s = find (λ c. c.symbol == s) table

abbrev pub has_own : List SymbolCode → SymbolCode → Bool
has_own table c = nat_lt c.symbol 257 && (nat_lt 0 (length c.bits) && bytes_eq (unwrap_or (option_map (λ d. d.bits) (code_for table c.symbol)) []) c.bits)

abbrev pub all_own : List SymbolCode → Bool
all_own table = list_all (has_own table) table

pub free : is_free symbol_codes ≡ true
unfolding symbol_codes code_lengths
free = refl

pub own : all_own symbol_codes ≡ true
unfolding symbol_codes code_lengths
own = refl

pub each_has_code : agree_below (λ s. is_some (code_for symbol_codes s)) (λ _. true) 256 ≡ true
unfolding symbol_codes code_lengths
each_has_code = refl

abbrev pub is_nothing : Option (List ℕ) → Bool
is_nothing (Some []) = true
is_nothing _ = false

pub padding_reads : agree_below (λ p. is_nothing (symbols_from [] (replicate p 1))) (λ _. true) 8 ≡ true
unfolding symbol_codes code_lengths
padding_reads = refl

some_injective : (d c : SymbolCode) → Some d ≡ Some c → d ≡ c
some_injective d c h = cc h

bytes_eq-self : (xs : List ℕ) → bytes_eq xs xs ≡ true
bytes_eq-self xs = (bytes_eq-Decides xs xs).1 refl

longer : (p : List ℕ) (b : ℕ) (rest : List ℕ) → p ++ b ∷ rest ≡ p → ⊥
longer p b rest h =
    let same : length (p ++ b ∷ rest) ≡ length p = ap length h in
    let more : length (p ++ b ∷ rest) ≡ length p + length (b ∷ rest) = length-append p (b ∷ rest) in
    omega (arith, same, more)

not_both : (a b : Bool) → (not a && not b) ≡ true → (a ≡ false) × (b ≡ false)
not_both false false h = (refl, refl)
not_both false true h = absurd (false≢true h)
not_both true b h = absurd (false≢true h)

pub is_prefix-self : (xs : List ℕ) → is_prefix xs xs ≡ true
is_prefix-self [] = refl
is_prefix-self (x ∷ xs) = rw (eq-eqb x x refl) (is_prefix-self xs)

pub is_prefix-append : (xs ys : List ℕ) → is_prefix xs (xs ++ ys) ≡ true
is_prefix-append [] ys = refl
is_prefix-append (x ∷ xs) ys = rw (eq-eqb x x refl) (is_prefix-append xs ys)

-- what every element of a list passes, one found in it passes
pub passes : (p q : SymbolCode → Bool) (cs : List SymbolCode) (c : SymbolCode) → list_all p cs ≡ true → find q cs ≡ Some c → p c ≡ true
passes p q [] c all found = absurd (cc found)
passes p q (d ∷ ds) c all found =
    let parts = and_parts (p d) (list_all p ds) all in
    elim (cases_Bool (q d)) [
      | inl hit ↦ let same : d ≡ c = some_injective d c (rw hit at found) in subst (λ (x : SymbolCode). p x ≡ true) same parts.0
      | inr miss ↦ passes p q ds c parts.1 (rw miss at found)
    ]

-- the element that is found passes the test
pub found_passes : (q : SymbolCode → Bool) (cs : List SymbolCode) (c : SymbolCode) → find q cs ≡ Some c → q c ≡ true
found_passes q [] c found = absurd (cc found)
found_passes q (d ∷ ds) c found =
    elim (cases_Bool (q d)) [
      | inl hit ↦ let same : d ≡ c = some_injective d c (rw hit at found) in subst (λ (x : SymbolCode). q x ≡ true) same hit
      | inr miss ↦ found_passes q ds c (rw miss at found)
    ]

bytes_eq-true : (xs ys : List ℕ) → bytes_eq xs ys ≡ true → xs ≡ ys
bytes_eq-true xs ys h = (bytes_eq-Decides xs ys).0 h

bytes_eq-false : (xs ys : List ℕ) → (xs ≡ ys → ⊥) → bytes_eq xs ys ≡ false
bytes_eq-false xs ys h = false_from_ne_true (bytes_eq xs ys) (λ e. h (bytes_eq-true xs ys e))

pub by_bits : (table : List SymbolCode) (s : ℕ) (c : SymbolCode) → is_free table ≡ true → code_for table s ≡ Some c → find (λ d. bytes_eq d.bits c.bits) table ≡ Some c
by_bits [] s c is found = absurd (cc found)
by_bits (d ∷ ds) s c is found =
    let parts = and_parts (list_all (λ e. not (is_prefix d.bits e.bits) && not (is_prefix e.bits d.bits)) ds) (is_free ds) is in
    elim (cases_Bool (d.symbol == s)) [
      | inl hit ↦
          let same : d ≡ c = some_injective d c (rw hit at found) in
          rw (same, bytes_eq-self c.bits) refl
      | inr miss ↦
          let later : code_for ds s ≡ Some c = rw miss at found in
          let apart : is_prefix d.bits c.bits ≡ false = (not_both _ _ (passes (λ e. not (is_prefix d.bits e.bits) && not (is_prefix e.bits d.bits)) (λ e. e.symbol == s) ds c parts.0 later)).0 in
          let unequal : bytes_eq d.bits c.bits ≡ false = bytes_eq-false d.bits c.bits (λ e. true≢false (sym (is_prefix-self d.bits) ∙ ap (λ x. is_prefix d.bits x) e ∙ apart)) in
          rw unequal (by_bits ds s c parts.1 later)
    ]

-- codes with none that is a prefix of some bits are none of the prefixes of these
none_prefix : (p rest : List ℕ) (ds : List SymbolCode) → list_all (λ e. not (is_prefix (p ++ rest) e.bits) && not (is_prefix e.bits (p ++ rest))) ds ≡ true → find (λ d. bytes_eq d.bits p) ds ≡ None
none_prefix p rest [] all = refl
none_prefix p rest (d ∷ ds) all =
    let parts = and_parts (not (is_prefix (p ++ rest) d.bits) && not (is_prefix d.bits (p ++ rest))) (list_all (λ e. not (is_prefix (p ++ rest) e.bits) && not (is_prefix e.bits (p ++ rest))) ds) all in
    let apart : is_prefix d.bits (p ++ rest) ≡ false = (not_both _ _ parts.0).1 in
    let unequal : bytes_eq d.bits p ≡ false = bytes_eq-false d.bits p (λ e. true≢false (sym (is_prefix-append p rest) ∙ ap (λ x. is_prefix x (p ++ rest)) (sym e) ∙ apart)) in
    rw unequal (none_prefix p rest ds parts.1)

-- no code is a prefix of another one
pub no_prefix : (table : List SymbolCode) (s : ℕ) (c : SymbolCode) (p : List ℕ) (b : ℕ) (rest : List ℕ) → is_free table ≡ true → code_for table s ≡ Some c → p ++ b ∷ rest ≡ c.bits → find (λ d. bytes_eq d.bits p) table ≡ None
no_prefix [] s c p b rest is found whole = refl
no_prefix (d ∷ ds) s c p b rest is found whole =
    let parts = and_parts (list_all (λ e. not (is_prefix d.bits e.bits) && not (is_prefix e.bits d.bits)) ds) (is_free ds) is in
    elim (cases_Bool (d.symbol == s)) [
      | inl hit ↦
          let same : d ≡ c = some_injective d c (rw hit at found) in
          let bits : p ++ b ∷ rest ≡ d.bits = whole ∙ ap (λ (x : SymbolCode). x.bits) (sym same) in
          let unequal : bytes_eq d.bits p ≡ false = bytes_eq-false d.bits p (λ e. longer p b rest (bits ∙ e)) in
          rw unequal (none_prefix p (b ∷ rest) ds (subst (λ (x : List ℕ). list_all (λ e. not (is_prefix x e.bits) && not (is_prefix e.bits x)) ds ≡ true) (sym bits) parts.0))
      | inr miss ↦
          let later : code_for ds s ≡ Some c = rw miss at found in
          let apart : is_prefix d.bits c.bits ≡ false = (not_both _ _ (passes (λ e. not (is_prefix d.bits e.bits) && not (is_prefix e.bits d.bits)) (λ e. e.symbol == s) ds c parts.0 later)).0 in
          let unequal : bytes_eq d.bits p ≡ false = bytes_eq-false d.bits p (λ e. true≢false (sym (is_prefix-append d.bits (b ∷ rest)) ∙ ap (λ x. is_prefix d.bits (x ++ b ∷ rest)) e ∙ ap (λ x. is_prefix d.bits x) whole ∙ apart)) in
          rw unequal (no_prefix ds s c p b rest parts.1 later whole)
    ]

pub whole : share symbol_codes ≡ 2 ^ 30
unfolding symbol_codes code_lengths
whole = refl

pub counted : map (λ n. length (of_length n)) (range_with_len 5 26) ≡ code_counts
unfolding code_lengths
counted = refl

pub ends_with_ones : code_of end_of_string ≡ replicate 30 1
unfolding symbol_codes code_lengths
ends_with_ones = refl
