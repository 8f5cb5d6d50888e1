-- The walk over the states goes down the tree, four bits at a time.
use Rattle.std.proofs.Common.{◌≡◌, ℕ, zero, suc, ◌+◌, ◌*◌, ◌-◌, ◌/◌, ◌%◌, ◌<◌, ◌≤◌, Bool, true, false, cond, ◌&&◌, ◌==◌, nat_le, nat_lt, List, [], ◌∷◌, ◌++◌, length, refl, sym, ◌∙◌, ap, arith, append_assoc, Option, Some, None, inl, inr, lit<, take, drop, get_or}
use Rattle.std.specs.Prelude.{option_map, bytes_eq, flat_map, slice_index}
use Rattle.std.specs.List.{AllByRecursion}
use Rattle.std.proofs.lemmas.List.{append-nil, take_more, take_all, take-append-drop}
use Rattle.std.proofs.lemmas.Grind.{flat_map-append}
use Rattle.std.proofs.lemmas.Bool.{and_parts, eqb-true, ltb-true, cases_lt, lt-ltb, le-ltb, false≢true}
use Rattle.h2_hpack.specs.Huffman.{symbols_of, byte_bits}
use Rattle.h2_hpack.specs.Walk.{Place, next_state, symbol_at, to_state, step, walk, halves, at_end}
use Rattle.h2_hpack.specs.declared.states.TheConstants.{NEXT_STATE, SYMBOL}
use Rattle.h2_hpack.proofs.Tree.{nodes, child_of, to_child, descend}
use Rattle.h2_hpack.proofs.WalkLemmas.{descend_on, list_eq, symbols_of-descend}

abbrev pub four_bits : ℕ → List ℕ
four_bits four = four / 8 % 2 ∷ four / 4 % 2 ∷ four / 2 % 2 ∷ four % 2 ∷ []

-- an entry is where four bits lead
abbrev pub is_entry : Option Place → ℕ → ℕ → Bool
is_entry None symbol state = nat_lt 256 symbol
is_entry (Some place) symbol state = (place.1 == state) && (nat_lt state 256 && cond (nat_lt symbol 256) (bytes_eq place.0 (symbol ∷ [])) ((symbol == 256) && bytes_eq place.0 []))

abbrev pub entries_from : ℕ → List ℕ → List ℕ → Bool
entries_from at [] states = true
entries_from at (symbol ∷ symbols) [] = false
entries_from at (symbol ∷ symbols) (state ∷ states) = is_entry (descend (four_bits (at % 16)) ([], at / 16)) symbol state && entries_from (at + 1) symbols states

pub all_entries : entries_from 0 SYMBOL NEXT_STATE ≡ true
unfolding nodes child_of
all_entries = refl

pub how_many : length SYMBOL ≡ 4096
how_many = refl

entries_at : (symbols states : List ℕ) (at i : ℕ) → entries_from at symbols states ≡ true → i < length symbols → is_entry (descend (four_bits ((at + i) % 16)) ([], (at + i) / 16)) (slice_index symbols i) (slice_index states i) ≡ true
entries_at [] states at i all below = absurd (omega (arith, below))
entries_at (symbol ∷ symbols) [] at i all below = absurd (false≢true all)
entries_at (symbol ∷ symbols) (state ∷ states) at zero all below =
    let same : at + 0 ≡ at = omega arith in
    rw same ((and_parts (is_entry (descend (four_bits (at % 16)) ([], at / 16)) symbol state) (entries_from (at + 1) symbols states) all).0)
entries_at (symbol ∷ symbols) (state ∷ states) at (suc i) all below =
    let same : at + suc i ≡ at + 1 + i = omega arith in
    rw same (entries_at symbols states (at + 1) i ((and_parts (is_entry (descend (four_bits (at % 16)) ([], at / 16)) symbol state) (entries_from (at + 1) symbols states) all).1) (omega (arith, below)))

pub entry_right : (state four : ℕ) → state < 256 → four < 16 → is_entry (descend (four_bits four) ([], state)) (symbol_at state four) (next_state state four) ≡ true
unfolding symbol_at next_state
entry_right state four below small =
    let low : (0 + (state * 16 + four)) % 16 ≡ four = omega (arith, small) in
    let high : (0 + (state * 16 + four)) / 16 ≡ state = omega (arith, small) in
    let there = entries_at SYMBOL NEXT_STATE 0 (state * 16 + four) all_entries (omega (arith, below, small, how_many)) in
    rw (low, high) at there

-- symbols before those of a place
abbrev pub afterwards : List ℕ → Option Place → Option Place
afterwards out o = option_map {U = Place} (λ (p : Place). (out ++ p.0, p.1)) o

to_child-afterwards : (out symbols : List ℕ) (child : ℕ) → to_child (out ++ symbols) child ≡ afterwards out (to_child symbols child)
to_child-afterwards out symbols child =
    elim (cases_lt child 256) [
      | inl node ↦ rw (lt-ltb child 256 node) refl
      | inr symbol ↦ rw (le-ltb child 256 symbol) (elim (cases_lt child 512) [
        | inl there ↦ rw (lt-ltb child 512 there) (ap (λ l. Some (l, 0)) (append_assoc out symbols ((child - 256) ∷ [])))
        | inr none ↦ rw (le-ltb child 512 none) refl
      ])
    ]

descend_on-afterwards : (bits out : List ℕ) → ((symbols : List ℕ) (node : ℕ) → descend bits (out ++ symbols, node) ≡ afterwards out (descend bits (symbols, node))) → (next : Option Place) → descend_on bits (afterwards out next) ≡ afterwards out (descend_on bits next)
descend_on-afterwards bits out more None = refl
descend_on-afterwards bits out more (Some p) = more p.0 p.1

descend-afterwards : (bits out symbols : List ℕ) (node : ℕ) → descend bits (out ++ symbols, node) ≡ afterwards out (descend bits (symbols, node))
descend-afterwards [] out symbols node = refl
descend-afterwards (b ∷ bits) out symbols node =
    ap (descend_on bits) (to_child-afterwards out symbols (child_of node b)) ∙ descend_on-afterwards bits out (descend-afterwards bits out) (to_child symbols (child_of node b))

-- an entry, after what was read before
pub record Stepped (out : List ℕ) (found : Option Place) (symbol state : ℕ) : Type 0 where
  pub same : to_state out symbol state ≡ afterwards out found
  pub below : (p : Place) → found ≡ Some p → p.1 < 256

symbol_after : (out : List ℕ) (p : Place) (symbol state : ℕ) → p.1 ≡ state → cond (nat_lt symbol 256) (bytes_eq p.0 (symbol ∷ [])) ((symbol == 256) && bytes_eq p.0 []) ≡ true → to_state out symbol state ≡ Some (out ++ p.0, p.1)
symbol_after out p symbol state is right =
    elim (cases_lt symbol 256) [
      | inl there ↦
          let symbols : p.0 ≡ symbol ∷ [] = list_eq p.0 (symbol ∷ []) (rw (lt-ltb symbol 256 there) at right) in
          rw (lt-ltb symbol 256 there, symbols, is) refl
      | inr none ↦
          let parts = and_parts (symbol == 256) (bytes_eq p.0 []) (rw (le-ltb symbol 256 none) at right) in
          let value : symbol ≡ 256 = eqb-true symbol 256 parts.0 in
          rw (le-ltb symbol 256 none, lt-ltb symbol 257 (omega (arith, value)), list_eq p.0 [] parts.1, is, append-nil out) refl
    ]

some_place : (p q : Place) → Some p ≡ Some q → p.1 ≡ q.1
some_place p q h = let same : p ≡ q = cc h in ap (λ (x : Place). x.1) same

stepped : (out : List ℕ) (found : Option Place) (symbol state : ℕ) → is_entry found symbol state ≡ true → Stepped out found symbol state
stepped out None symbol state right =
    let above : 256 < symbol = ltb-true 256 symbol right in
    record {
      same = rw (le-ltb symbol 256 (omega (arith, above)), le-ltb symbol 257 (omega (arith, above))) refl;
      below = λ p h. absurd (cc h);
    }
stepped out (Some p) symbol state right =
    let parts = and_parts (p.1 == state) (nat_lt state 256 && cond (nat_lt symbol 256) (bytes_eq p.0 (symbol ∷ [])) ((symbol == 256) && bytes_eq p.0 [])) right in
    let more = and_parts (nat_lt state 256) (cond (nat_lt symbol 256) (bytes_eq p.0 (symbol ∷ [])) ((symbol == 256) && bytes_eq p.0 [])) parts.1 in
    let is : p.1 ≡ state = eqb-true p.1 state parts.0 in
    record {
      same = symbol_after out p symbol state is more.1;
      below = λ q h. omega (arith, some_place p q h, is, ltb-true state 256 more.0);
    }

pub step_descends : (four : ℕ) (out : List ℕ) (state : ℕ) → state < 256 → four < 16 → step four (out, state) ≡ descend (four_bits four) (out, state)
step_descends four out state below small =
    let s = stepped out (descend (four_bits four) ([], state)) (symbol_at state four) (next_state state four) (entry_right state four below small) in
    s.same ∙ sym (descend-afterwards (four_bits four) out [] state) ∙ ap (λ l. descend (four_bits four) (l, state)) (append-nil out)

after_place : (out : List ℕ) (o : Option Place) (p : Place) → ((q : Place) → o ≡ Some q → q.1 < 256) → afterwards out o ≡ Some p → p.1 < 256
after_place out None p below h = absurd (cc h)
after_place out (Some q) p below h = omega (arith, below q refl, some_place (out ++ q.0, q.1) p h)

pub step_below : (four : ℕ) (out : List ℕ) (state : ℕ) (p : Place) → state < 256 → four < 16 → step four (out, state) ≡ Some p → p.1 < 256
step_below four out state p below small h =
    let s = stepped out (descend (four_bits four) ([], state)) (symbol_at state four) (next_state state four) (entry_right state four below small) in
    after_place out (descend (four_bits four) ([], state)) p s.below (sym s.same ∙ h)

descend_on-append : (xs ys : List ℕ) → ((p : Place) → descend (xs ++ ys) p ≡ descend_on ys (descend xs p)) → (next : Option Place) → descend_on (xs ++ ys) next ≡ descend_on ys (descend_on xs next)
descend_on-append xs ys h None = refl
descend_on-append xs ys h (Some p) = h p

descend-append : (xs ys : List ℕ) (p : Place) → descend (xs ++ ys) p ≡ descend_on ys (descend xs p)
descend-append [] ys p = refl
descend-append (x ∷ xs) ys p = descend_on-append xs ys (descend-append xs ys) (to_child p.0 (child_of p.1 x))

-- what follows four bits of the walk
abbrev pub walk_on : List ℕ → Option Place → Option Place
walk_on fours next = elim next [ None ↦ None | Some place ↦ walk fours place ]

on_both : (fours : List ℕ) (next : Option Place) → ((p : Place) → next ≡ Some p → walk fours p ≡ descend (flat_map four_bits fours) p) → walk_on fours next ≡ descend_on (flat_map four_bits fours) next
on_both fours None same = refl
on_both fours (Some p) same = same p refl

walk_descends : (fours : List ℕ) → AllByRecursion (λ f. f < 16) fours → (p : Place) → p.1 < 256 → walk fours p ≡ descend (flat_map four_bits fours) p
walk_descends [] small p below = refl
walk_descends (four ∷ fours) small p below =
    on_both fours (step four p) (λ q h. walk_descends fours small.1 q (step_below four p.0 p.1 q below small.0 h))
    ∙ ap (descend_on (flat_map four_bits fours)) (step_descends four p.0 p.1 below small.0)
    ∙ sym (descend-append (four_bits four) (flat_map four_bits fours) p)

-- four bits and four more are those of the byte
halves_bits : (b : ℕ) → four_bits (b / 16 % 16) ++ four_bits (b % 16) ≡ byte_bits b
halves_bits b =
    let e7 : b / 16 % 16 / 8 % 2 ≡ b / 128 % 2 = omega arith in
    let e6 : b / 16 % 16 / 4 % 2 ≡ b / 64 % 2 = omega arith in
    let e5 : b / 16 % 16 / 2 % 2 ≡ b / 32 % 2 = omega arith in
    let e4 : b / 16 % 16 % 2 ≡ b / 16 % 2 = omega arith in
    let e3 : b % 16 / 8 % 2 ≡ b / 8 % 2 = omega arith in
    let e2 : b % 16 / 4 % 2 ≡ b / 4 % 2 = omega arith in
    let e1 : b % 16 / 2 % 2 ≡ b / 2 % 2 = omega arith in
    let e0 : b % 16 % 2 ≡ b % 2 = omega arith in
    rw (e7, e6, e5, e4, e3, e2, e1, e0) refl

all_bits : (bytes : List ℕ) → flat_map four_bits (flat_map halves bytes) ≡ flat_map byte_bits bytes
all_bits [] = refl
all_bits (b ∷ bytes) =
    ap (λ l. four_bits (b / 16 % 16) ++ l) (ap (λ l. four_bits (b % 16) ++ l) (all_bits bytes))
    ∙ sym (append_assoc (four_bits (b / 16 % 16)) (four_bits (b % 16)) (flat_map byte_bits bytes))
    ∙ ap (λ l. l ++ flat_map byte_bits bytes) (halves_bits b)

small_halves : (bytes : List ℕ) → AllByRecursion (λ f. f < 16) (flat_map halves bytes)
small_halves [] = tt
small_halves (b ∷ bytes) = (omega arith, (omega arith, small_halves bytes))

-- the symbols of a text are those of the walk over all its bytes
pub symbols_of-walk : (bytes : List ℕ) → symbols_of bytes ≡ at_end (walk (flat_map halves bytes) ([], 0))
symbols_of-walk bytes =
    symbols_of-descend bytes ∙ ap at_end (ap (λ l. descend l ([], 0)) (sym (all_bits bytes)) ∙ sym (walk_descends (flat_map halves bytes) (small_halves bytes) ([], 0) (lit< tt)))

walk_on-append : (xs ys : List ℕ) → ((p : Place) → walk (xs ++ ys) p ≡ walk_on ys (walk xs p)) → (next : Option Place) → walk_on (xs ++ ys) next ≡ walk_on ys (walk_on xs next)
walk_on-append xs ys h None = refl
walk_on-append xs ys h (Some p) = h p

walk-append : (xs ys : List ℕ) (p : Place) → walk (xs ++ ys) p ≡ walk_on ys (walk xs p)
walk-append [] ys p = refl
walk-append (x ∷ xs) ys p = walk_on-append xs ys (walk-append xs ys) (step x p)

to_state-afterwards : (out symbols : List ℕ) (symbol state : ℕ) → to_state (out ++ symbols) symbol state ≡ afterwards out (to_state symbols symbol state)
to_state-afterwards out symbols symbol state =
    elim (cases_lt symbol 256) [
      | inl there ↦ rw (lt-ltb symbol 256 there) (ap (λ l. Some (l, state)) (append_assoc out symbols (symbol ∷ [])))
      | inr none ↦ rw (le-ltb symbol 256 none) (elim (cases_lt symbol 257) [
        | inl still ↦ rw (lt-ltb symbol 257 still) refl
        | inr wrong ↦ rw (le-ltb symbol 257 wrong) refl
      ])
    ]

walk_on-afterwards : (fours out : List ℕ) → ((symbols : List ℕ) (state : ℕ) → walk fours (out ++ symbols, state) ≡ afterwards out (walk fours (symbols, state))) → (next : Option Place) → walk_on fours (afterwards out next) ≡ afterwards out (walk_on fours next)
walk_on-afterwards fours out more None = refl
walk_on-afterwards fours out more (Some p) = more p.0 p.1

walk-afterwards : (fours out symbols : List ℕ) (state : ℕ) → walk fours (out ++ symbols, state) ≡ afterwards out (walk fours (symbols, state))
walk-afterwards [] out symbols state = refl
walk-afterwards (four ∷ fours) out symbols state =
    ap (walk_on fours) (to_state-afterwards out symbols (symbol_at state four) (next_state state four)) ∙ walk_on-afterwards fours out (walk-afterwards fours out) (step four (symbols, state))

at_end-afterwards : (out : List ℕ) (o : Option Place) → at_end (afterwards out o) ≡ option_map (λ text. out ++ text) (at_end o)
at_end-afterwards out None = refl
at_end-afterwards out (Some p) = padded (nat_le p.1 7)
  where
    padded : (b : Bool) → cond b (Some (out ++ p.0)) None ≡ option_map (λ text. out ++ text) (cond b (Some p.0) None)
    padded true = refl
    padded false = refl

-- the same after what stood there before
pub text_after : (bytes out : List ℕ) → at_end (walk (flat_map halves bytes) (out, 0)) ≡ option_map (λ text. out ++ text) (symbols_of bytes)
text_after bytes out =
    ap (λ l. at_end (walk (flat_map halves bytes) (l, 0))) (sym (append-nil out)) ∙ ap at_end (walk-afterwards (flat_map halves bytes) out [] 0)
    ∙ at_end-afterwards out (walk (flat_map halves bytes) ([], 0)) ∙ ap (option_map (λ text. out ++ text)) (sym (symbols_of-walk bytes))

-- one byte more
pub walk-byte : (bytes out : List ℕ) (i : ℕ) (p : Place) → i < length bytes → walk (flat_map halves (take i bytes)) (out, 0) ≡ Some p → walk (flat_map halves (take (i + 1) bytes)) (out, 0) ≡ walk (halves (get_or bytes i 0)) p
walk-byte bytes out i p within before =
    rw (take_more bytes i 0 within, flat_map-append halves (take i bytes) (get_or bytes i 0 ∷ []), walk-append (flat_map halves (take i bytes)) (flat_map halves (get_or bytes i 0 ∷ [])) (out, 0), before) refl

-- a byte with which the walk ends
pub walk-bad : (bytes out : List ℕ) (i : ℕ) (p : Place) → i < length bytes → walk (flat_map halves (take i bytes)) (out, 0) ≡ Some p → walk (halves (get_or bytes i 0)) p ≡ None → option_map (λ text. out ++ text) (symbols_of bytes) ≡ None
walk-bad bytes out i p within before bad =
    let ended : walk (flat_map halves (take (i + 1) bytes)) (out, 0) ≡ None = walk-byte bytes out i p within before ∙ bad in
    let whole : walk (flat_map halves (take (i + 1) bytes ++ drop (i + 1) bytes)) (out, 0) ≡ None =
    rw (flat_map-append halves (take (i + 1) bytes) (drop (i + 1) bytes), walk-append (flat_map halves (take (i + 1) bytes)) (flat_map halves (drop (i + 1) bytes)) (out, 0), ended) refl in
    sym (text_after bytes out) ∙ ap at_end (rw (take-append-drop (i + 1) bytes) at whole)

-- the walk over all bytes
pub walk-all : (bytes out : List ℕ) (i : ℕ) (p : Place) → length bytes ≤ i → walk (flat_map halves (take i bytes)) (out, 0) ≡ Some p → option_map (λ text. out ++ text) (symbols_of bytes) ≡ at_end (Some p)
walk-all bytes out i p all before = sym (text_after bytes out) ∙ ap at_end (rw (take_all i bytes all) at before)
