-- The way down the tree gives the symbols of Huffman text.
use Rattle.std.proofs.Common.{◌≡◌, ℕ, zero, suc, ◌+◌, ◌-◌, ◌<◌, ◌≤◌, Bool, true, false, cond, ◌&&◌, ◌==◌, nat_le, nat_lt, List, [], ◌∷◌, ◌++◌, refl, sym, ◌∙◌, ap, arith, append_assoc, Option, Some, None, ◌/◌, ◌%◌, inl, inr, lit<}
use Rattle.std.specs.Prelude.{option_map, is_none, bytes_eq, find, flat_map, slice_index_or, not}
use Rattle.std.specs.List.{AllByRecursion}
use Rattle.std.proofs.lemmas.List.{append-nil}
use Rattle.std.proofs.lemmas.Bool.{agree_below, agree_below_at, and_parts, eqb-true, ltb-true, cases_Bool, false≢true, ne_eqb, eq-eqb, cases_lt, lt-ltb, le-ltb, leb-true}
use Rattle.std.proofs.lemmas.Slice.Eq.{bytes_eq-Decides}
use Rattle.h2_hpack.specs.Huffman.{SymbolCode, symbol_codes, code_lengths, is_padding, before_rest, symbols_from, symbols_of, byte_bits}
use Rattle.h2_hpack.specs.Walk.{at_end, Place}
use Rattle.h2_hpack.proofs.Tree.{child_of, to_child, descend, nodes}
use Rattle.h2_hpack.proofs.Paths.{paths}

unfoldable pub path_of : ℕ → List ℕ
path_of node = slice_index_or paths node []

-- the code of a table that these bits are
abbrev pub code_in : List SymbolCode → List ℕ → Option SymbolCode
code_in table bits = find (λ c. bytes_eq c.bits bits) table

abbrev pub is_child_symbol : ℕ → Option SymbolCode → Bool
is_child_symbol child None = false
is_child_symbol child (Some c) = (c.symbol + 256 == child) && nat_le c.symbol 256

-- a child fits the bits that lead to it
abbrev pub leads : List SymbolCode → List ℕ → ℕ → Bool
leads table bits child =
    cond (nat_lt child 256) (is_none (code_in table bits) && bytes_eq (path_of child) bits) (is_child_symbol child (code_in table bits))

abbrev pub node_is_right : List SymbolCode → ℕ → Bool
node_is_right table n =
    leads table (path_of n ++ 0 ∷ []) (child_of n 0) && (leads table (path_of n ++ 1 ∷ []) (child_of n 1) && cond (is_padding (path_of n)) (nat_le n 7) (not (nat_le n 7)))

pub all_right : agree_below (node_is_right symbol_codes) (λ _. true) 256 ≡ true
unfolding nodes child_of path_of paths symbol_codes code_lengths
all_right = refl

-- what follows a bit of the way
abbrev pub descend_on : List ℕ → Option Place → Option Place
descend_on bits next = elim next [ None ↦ None | Some place ↦ descend bits place ]

-- what follows a bit of the text
abbrev pub read_on : List ℕ → List ℕ → Option SymbolCode → Option (List ℕ)
read_on held bits code = elim code [ None ↦ symbols_from held bits | Some c ↦ before_rest c.symbol (symbols_from [] bits) ]

-- what the rest of the bits gives from any node is known
abbrev pub RestGives : List ℕ → Type 0
RestGives bits = (out : List ℕ) (node : ℕ) → node < 256 → at_end (descend bits (out, node)) ≡ option_map (λ ss. out ++ ss) (symbols_from (path_of node) bits)

pub some_of_not_none : (o : Option SymbolCode) → is_none o ≡ true → o ≡ None
some_of_not_none None h = refl
some_of_not_none (Some c) h = absurd (false≢true h)

pub list_eq : (xs ys : List ℕ) → bytes_eq xs ys ≡ true → xs ≡ ys
list_eq xs ys h = (bytes_eq-Decides xs ys).0 h

pub path_of_root : path_of 0 ≡ []
unfolding path_of paths
path_of_root = refl

pub map_after : (out : List ℕ) (s : ℕ) (o : Option (List ℕ)) → option_map (λ ss. (out ++ s ∷ []) ++ ss) o ≡ option_map (λ ss. out ++ ss) (option_map (λ ss. s ∷ ss) o)
map_after out s None = refl
map_after out s (Some ss) = ap Some (append_assoc out (s ∷ []) ss)

-- a child that is a node
pub to_node : (bits held out : List ℕ) (child : ℕ) → RestGives bits → child < 256 → code_in symbol_codes held ≡ None → path_of child ≡ held → at_end (descend_on bits (Some (out, child))) ≡ option_map (λ ss. out ++ ss) (read_on held bits (code_in symbol_codes held))
to_node bits held out child rest below none is = rw none (rw (← is) (rest out child below))

-- a child that is a symbol
pub to_symbol : (bits out : List ℕ) (child s : ℕ) → RestGives bits → s + 256 ≡ child → s ≤ 256 → at_end (descend_on bits (cond (nat_lt child 512) (Some (out ++ (child - 256) ∷ [], 0)) None)) ≡ option_map (λ ss. out ++ ss) (before_rest s (symbols_from [] bits))
to_symbol bits out child s rest is within =
    elim (cases_lt s 256) [
      | inl small ↦
          let there : child - 256 ≡ s = omega arith in
          let unequal : s ≡ 256 → ⊥ = λ e. omega (arith, e) in
          rw (lt-ltb child 512 (omega arith), ne_eqb s 256 unequal, there)
          ((rw path_of_root at (rest (out ++ s ∷ []) 0 (lit< tt))) ∙ map_after out s (symbols_from [] bits))
      | inr large ↦ rw (le-ltb child 512 (omega arith), eq-eqb s 256 (omega arith)) refl
    ]

on_symbol : (bits held out : List ℕ) (child : ℕ) (code : Option SymbolCode) → RestGives bits → is_child_symbol child code ≡ true → at_end (descend_on bits (cond (nat_lt child 512) (Some (out ++ (child - 256) ∷ [], 0)) None)) ≡ option_map (λ ss. out ++ ss) (read_on held bits code)
on_symbol bits held out child None rest right = absurd (false≢true right)
on_symbol bits held out child (Some c) rest right =
    let parts = and_parts (c.symbol + 256 == child) (nat_le c.symbol 256) right in
    to_symbol bits out child c.symbol rest (eqb-true (c.symbol + 256) child parts.0) (leb-true c.symbol 256 parts.1)

pub one_bit : (bits held out : List ℕ) (child : ℕ) → RestGives bits → leads symbol_codes held child ≡ true → at_end (descend_on bits (to_child out child)) ≡ option_map (λ ss. out ++ ss) (read_on held bits (code_in symbol_codes held))
one_bit bits held out child rest right =
    elim (cases_Bool (nat_lt child 256)) [
      | inl node ↦
          let parts = and_parts (is_none (code_in symbol_codes held)) (bytes_eq (path_of child) held) (rw node at right) in
          rw node (to_node bits held out child rest (ltb-true child 256 node) (some_of_not_none _ parts.0) (list_eq _ _ parts.1))
      | inr symbol ↦ rw symbol (on_symbol bits held out child (code_in symbol_codes held) rest (rw symbol at right))
    ]

end_of_bits : (out : List ℕ) (padded : Bool) → cond padded (Some out) None ≡ option_map (λ ss. out ++ ss) (cond padded (Some []) None)
end_of_bits out true = ap Some (sym (append-nil out))
end_of_bits out false = refl

same_test : (a b : Bool) → cond a b (not b) ≡ true → b ≡ a
same_test true b h = h
same_test false true h = absurd (false≢true h)
same_test false false h = refl

three_parts : (a b c : Bool) → (a && (b && c)) ≡ true → (a ≡ true) × (b ≡ true) × (c ≡ true)
three_parts true true c h = (refl, refl, h)
three_parts true false c h = absurd (false≢true h)
three_parts false b c h = absurd (false≢true h)

pub record Right (node : ℕ) : Type 0 where
  pub left : leads symbol_codes (path_of node ++ 0 ∷ []) (child_of node 0) ≡ true
  pub right : leads symbol_codes (path_of node ++ 1 ∷ []) (child_of node 1) ≡ true
  pub ends : nat_le node 7 ≡ is_padding (path_of node)

right_at : (node : ℕ) → node < 256 → Right node
right_at node below =
    let parts = three_parts (leads symbol_codes (path_of node ++ 0 ∷ []) (child_of node 0)) (leads symbol_codes (path_of node ++ 1 ∷ []) (child_of node 1))
    (cond (is_padding (path_of node)) (nat_le node 7) (not (nat_le node 7)))
    (agree_below_at (node_is_right symbol_codes) (λ _. true) 256 node all_right below) in
    record { left = parts.0; right = parts.1; ends = same_test (is_padding (path_of node)) (nat_le node 7) parts.2 }

child_right : (node b : ℕ) → node < 256 → b < 2 → leads symbol_codes (path_of node ++ b ∷ []) (child_of node b) ≡ true
child_right node zero below bit = (right_at node below).left
child_right node (suc zero) below bit = (right_at node below).right
child_right node (suc (suc b)) below bit = absurd (omega arith)

pub descend-symbols : (bits : List ℕ) → AllByRecursion (λ b. b < 2) bits → RestGives bits
descend-symbols [] small out node below =
    rw ((right_at node below).ends) (end_of_bits out (is_padding (path_of node)))
descend-symbols (b ∷ bits) small out node below =
    one_bit bits (path_of node ++ b ∷ []) out (child_of node b) (descend-symbols bits small.1) (child_right node b below small.0)

all_small-append : (xs ys : List ℕ) → AllByRecursion (λ b. b < 2) xs → AllByRecursion (λ b. b < 2) ys → AllByRecursion (λ b. b < 2) (xs ++ ys)
all_small-append [] ys p q = q
all_small-append (x ∷ xs) ys p q = (p.0, all_small-append xs ys p.1 q)

half : (n : ℕ) → n % 2 < 2
half n = omega arith

pub bits_small : (bytes : List ℕ) → AllByRecursion (λ b. b < 2) (flat_map byte_bits bytes)
bits_small [] = tt
bits_small (b ∷ bytes) =
    all_small-append (byte_bits b) (flat_map byte_bits bytes)
    (half (b / 128), (half (b / 64), (half (b / 32), (half (b / 16), (half (b / 8), (half (b / 4), (half (b / 2), (half b, tt))))))))
    (bits_small bytes)

option_map_same : (o : Option (List ℕ)) → option_map (λ ss. [] ++ ss) o ≡ o
option_map_same None = refl
option_map_same (Some ss) = refl

-- the symbols of a text are those of the way of all its bits
pub symbols_of-descend : (bytes : List ℕ) → symbols_of bytes ≡ at_end (descend (flat_map byte_bits bytes) ([], 0))
symbols_of-descend bytes =
    sym ((rw path_of_root at (descend-symbols (flat_map byte_bits bytes) (bits_small bytes) [] 0 (lit< tt))) ∙ option_map_same (symbols_of bytes))
