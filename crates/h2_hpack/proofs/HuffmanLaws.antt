-- The plain program reads exactly the texts that the code writes.
use Rattle.std.proofs.Common.{◌≡◌, ℕ, ◌<◌, ◌≤◌, Bool, true, false, cond, ◌&&◌, ◌==◌, nat_le, nat_lt, List, [], ◌∷◌, ◌++◌, length, refl, sym, ◌∙◌, ap, subst, arith, append_assoc, Option, Some, None}
use Rattle.std.specs.Prelude.{option_map, is_some, bytes_eq, flat_map, unwrap_or, replicate}
use Rattle.std.specs.List.{AllByRecursion, list_all}
use Rattle.std.proofs.lemmas.Bool.{agree_below_at, and_parts, false≢true, eqb-true, eqb-false, ltb-true, leb-true, ne_eqb}
use Rattle.std.proofs.lemmas.List.{append-nil}
use Rattle.h2_hpack.specs.Huffman.{SymbolCode, symbol_codes, code_with, code_of, is_padding, before_rest, symbols_from, symbols_of, byte_bits, IsHuffman}
use Rattle.h2_hpack.proofs.CodeLemmas.{code_for, has_own, own, free, each_has_code, is_nothing, padding_reads, passes, found_passes, by_bits, no_prefix}
use Rattle.h2_hpack.proofs.WalkLemmas.{read_on, list_eq}

-- bits with those that are held before them are codes and padding
pub record Reads (held bits symbols : List ℕ) : Type 0 where
  pub padding : ℕ
  pub short : padding ≤ 7
  pub joined : held ++ bits ≡ flat_map code_of symbols ++ replicate padding 1
  pub known : AllByRecursion (λ s. s < 256) symbols

all_ones : (bits : List ℕ) → list_all (λ b. b == 1) bits ≡ true → bits ≡ replicate (length bits) 1
all_ones [] h = refl
all_ones (b ∷ bits) h =
    let parts = and_parts (b == 1) (list_all (λ b. b == 1) bits) h in
    rw (eqb-true b 1 parts.0) (ap (λ x. 1 ∷ x) (all_ones bits parts.1))

sound_end : (held ss : List ℕ) (padded : Bool) → is_padding held ≡ padded → cond padded (Some []) None ≡ Some ss → Reads held [] ss
sound_end held ss false is h = absurd (cc h)
sound_end held [] true is h =
    let parts = and_parts (nat_le (length held) 7) (list_all (λ b. b == 1) held) is in
    record { padding = length held; short = leb-true (length held) 7 parts.0; joined = append-nil held ∙ all_ones held parts.1; known = tt }
sound_end held (s ∷ ss) true is h = absurd (cc h)

-- what a code that was found says
pub record Found (bits : List ℕ) (c : SymbolCode) : Type 0 where
  pub code_is : code_of c.symbol ≡ bits
  pub below : c.symbol < 257

pub found_code : (bits : List ℕ) (c : SymbolCode) → code_with bits ≡ Some c → Found bits c
found_code bits c found =
    let parts = and_parts (nat_lt c.symbol 257) (nat_lt 0 (length c.bits) && bytes_eq (code_of c.symbol) c.bits) (passes (has_own symbol_codes) (λ d. bytes_eq d.bits bits) symbol_codes c own found) in
    let more = and_parts (nat_lt 0 (length c.bits)) (bytes_eq (code_of c.symbol) c.bits) parts.1 in
    record {
      code_is = list_eq (code_of c.symbol) c.bits more.1 ∙ list_eq c.bits bits (found_passes (λ d. bytes_eq d.bits bits) symbol_codes c found);
      below = ltb-true c.symbol 257 parts.0;
    }

pub record Split (s : ℕ) (rest : Option (List ℕ)) (ss : List ℕ) : Type 0 where
  pub others : List ℕ
  pub rest_is : rest ≡ Some others
  pub whole : s ∷ others ≡ ss
  pub no_end : s ≡ 256 → ⊥

split_at : (s : ℕ) (rest : Option (List ℕ)) (ss : List ℕ) (ended : Bool) → (s == 256) ≡ ended → cond ended None (option_map (λ x. s ∷ x) rest) ≡ Some ss → Split s rest ss
split_at s rest ss true is h = absurd (cc h)
split_at s None ss false is h = absurd (cc h)
split_at s (Some others) ss false is h = record { others = others; rest_is = refl; whole = cc h; no_end = eqb-false s 256 is }

sound_on : (bits held ss : List ℕ) (code : Option SymbolCode) → code_with held ≡ code → ((h xs : List ℕ) → symbols_from h bits ≡ Some xs → Reads h bits xs) → read_on held bits code ≡ Some ss → Reads held bits ss
sound_on bits held ss None is rest h = rest held ss h
sound_on bits held ss (Some c) is rest h =
    let split = split_at c.symbol (symbols_from [] bits) ss (c.symbol == 256) refl h in
    let found = found_code held c is in
    let r = rest [] split.others split.rest_is in
    let joined : held ++ bits ≡ (code_of c.symbol ++ flat_map code_of split.others) ++ replicate r.padding 1 =
    rw (found.code_is, append_assoc held (flat_map code_of split.others) (replicate r.padding 1)) (ap (λ x. held ++ x) r.joined) in
    subst (λ xs. Reads held bits xs) split.whole
    (record { padding = r.padding; short = r.short; joined = joined; known = (omega (arith, found.below, split.no_end), r.known) })

pub sound : (bits held ss : List ℕ) → symbols_from held bits ≡ Some ss → Reads held bits ss
sound [] held ss h = sound_end held ss (is_padding held) refl h
sound (b ∷ bits) held ss h =
    let r = sound_on bits (held ++ b ∷ []) ss (code_with (held ++ b ∷ [])) refl (sound bits) h in
    record { padding = r.padding; short = r.short; joined = sym (append_assoc held (b ∷ []) bits) ∙ r.joined; known = r.known }

-- the bits of a code are read as its symbol
pub code_reads : (s : ℕ) (c : SymbolCode) → code_for symbol_codes s ≡ Some c → (more : List ℕ) (b : ℕ) (held rest : List ℕ) → held ++ b ∷ more ≡ c.bits → symbols_from held (b ∷ more ++ rest) ≡ before_rest c.symbol (symbols_from [] rest)
code_reads s c found [] b held rest whole =
    let hit : code_with (held ++ b ∷ []) ≡ Some c = rw whole (by_bits symbol_codes s c free found) in
    ap (read_on (held ++ b ∷ []) rest) hit
code_reads s c found (d ∷ more) b held rest whole =
    let longer : (held ++ b ∷ []) ++ d ∷ more ≡ c.bits = append_assoc held (b ∷ []) (d ∷ more) ∙ whole in
    let miss : code_with (held ++ b ∷ []) ≡ None = no_prefix symbol_codes s c (held ++ b ∷ []) d more free found longer in
    ap (read_on (held ++ b ∷ []) (d ∷ more ++ rest)) miss ∙ code_reads s c found more d (held ++ b ∷ []) rest longer

code_reads_whole : (s : ℕ) (c : SymbolCode) → code_for symbol_codes s ≡ Some c → (bits rest : List ℕ) → bits ≡ c.bits → 0 < length bits → symbols_from [] (bits ++ rest) ≡ before_rest c.symbol (symbols_from [] rest)
code_reads_whole s c found [] rest whole some = absurd (omega (arith, some))
code_reads_whole s c found (b ∷ more) rest whole some = code_reads s c found more b [] rest whole

code_there : (o : Option SymbolCode) → is_some o ≡ true → (c : SymbolCode) × (o ≡ Some c)
code_there None h = absurd (false≢true h)
code_there (Some c) h = (c, refl)

pub symbol_reads : (s : ℕ) (rest : List ℕ) → s < 256 → symbols_from [] (code_of s ++ rest) ≡ option_map (λ ss. s ∷ ss) (symbols_from [] rest)
symbol_reads s rest below =
    let there = code_there (code_for symbol_codes s) (agree_below_at (λ s. is_some (code_for symbol_codes s)) (λ _. true) 256 s each_has_code below) in
    let c = there.0 in
    let symbol_is : c.symbol ≡ s = eqb-true c.symbol s (found_passes (λ d. d.symbol == s) symbol_codes c there.1) in
    let parts = and_parts (nat_lt c.symbol 257) (nat_lt 0 (length c.bits) && bytes_eq (code_of c.symbol) c.bits) (passes (has_own symbol_codes) (λ d. d.symbol == s) symbol_codes c own there.1) in
    let more = and_parts (nat_lt 0 (length c.bits)) (bytes_eq (code_of c.symbol) c.bits) parts.1 in
    let bits_are : code_of s ≡ c.bits = ap (λ o. unwrap_or (option_map (λ (d : SymbolCode). d.bits) o) []) there.1 in
    let unequal : s ≡ 256 → ⊥ = λ e. omega (arith, e, below) in
    let before : before_rest c.symbol (symbols_from [] rest) ≡ option_map (λ ss. s ∷ ss) (symbols_from [] rest) = rw (symbol_is, ne_eqb s 256 unequal) refl in
    rw bits_are (code_reads_whole s c there.1 c.bits rest refl (ltb-true 0 (length c.bits) more.0) ∙ before)

nothing_is : (o : Option (List ℕ)) → is_nothing o ≡ true → o ≡ Some []
nothing_is None h = absurd (false≢true h)
nothing_is (Some []) h = refl
nothing_is (Some (x ∷ xs)) h = absurd (false≢true h)

pub complete : (ss : List ℕ) (padding : ℕ) → AllByRecursion (λ s. s < 256) ss → padding ≤ 7 → symbols_from [] (flat_map code_of ss ++ replicate padding 1) ≡ Some ss
complete [] padding known short =
    nothing_is (symbols_from [] (replicate padding 1)) (agree_below_at (λ p. is_nothing (symbols_from [] (replicate p 1))) (λ _. true) 8 padding padding_reads (omega (arith, short)))
complete (s ∷ ss) padding known short =
    rw (append_assoc (code_of s) (flat_map code_of ss) (replicate padding 1))
    (symbol_reads s (flat_map code_of ss ++ replicate padding 1) known.0 ∙ ap (option_map (λ xs. s ∷ xs)) (complete ss padding known.1 short))

pub symbols_of-sound : (bytes symbols : List ℕ) → symbols_of bytes ≡ Some symbols → IsHuffman bytes symbols
symbols_of-sound bytes symbols h =
    let r = sound (flat_map byte_bits bytes) [] symbols h in
    record { padding = r.padding; short = r.short; joined = r.joined; known = r.known }

pub symbols_of-complete : (bytes symbols : List ℕ) → IsHuffman bytes symbols → symbols_of bytes ≡ Some symbols
symbols_of-complete bytes symbols h = rw h.joined (complete symbols h.padding h.known h.short)
