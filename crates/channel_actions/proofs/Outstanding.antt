-- Whether an attempt is outstanding on a link, in the channel's set and in the session's attempts.
use Rattle.std.proofs.Common.{◌≡◌, ◌&&◌, ◌||◌, ◌==◌, ◌∷◌, ap, arith, refl, sym, ◌∙◌, Bool, true, false, List, [], Option, None, Some, ℕ, zero, suc, cond, is_some, is_none, slice_get}
use Rattle.std.proofs.lemmas.Bool.{and_parts}
use Rattle.std.proofs.lemmas.Bool.Decides.{nat_tests}
use Rattle.std.specs.List.{find, list_all, list_any}
use Rattle.std.specs.Option.{option_map_or}
use Rattle.std.specs.Prelude.{nat_lt}
use Rattle.attempt_ledger.specs.declared.row.Placed.{Placed}
use Rattle.channel_actions.specs.Sets.{PairsAreExactly, PairsAreRising, is_in_outstanding}
use Rattle.channel_core.specs.Steps.{is_on}
use Rattle.picker_gate.specs.Pairs.{has, comes_after, is_same, next_after}
use Rattle.session_actions.specs.Attempts.{is_outstanding}
use Rattle.session_actions.specs.Links.{link_number}
use Rattle.session_actions.specs.Reading.{is_outstanding_on}
use Rattle.session_actions.specs.Words.{holds, numbered}
use Rattle.session_actions.specs.declared.attempt.Attempt.{Attempt}
use Rattle.session_actions.specs.declared.link.Link.{Link}
use Rattle.session_actions.specs.declared.seen.Seen.{Seen}

-- a pair of this link, of a row
abbrev pub is_of_link : ℕ → ℕ × ℕ → Bool
is_of_link link p = (p.0 == link) && nat_lt 0 p.1

afterwards_of : (link : ℕ) (p : ℕ × ℕ) → comes_after (link, 0) p ≡ true → (p.0 == link) ≡ is_of_link link p
afterwards_of link p h = grind (arith, nat_tests)

before_of : (link : ℕ) (p : ℕ × ℕ) → comes_after (link, 0) p ≡ false → is_of_link link p ≡ false
before_of link p h = grind (arith, nat_tests)

after_of : (link : ℕ) (p q : ℕ × ℕ) → comes_after (link, 0) p ≡ true → (p.0 == link) ≡ false → comes_after p q ≡ true → is_of_link link q ≡ false
after_of link p q h e f = grind (arith, nat_tests)

none_after : (link : ℕ) (p : ℕ × ℕ) (rest : List (ℕ × ℕ)) → comes_after (link, 0) p ≡ true → (p.0 == link) ≡ false → list_all (comes_after p) rest ≡ true
    → list_any (is_of_link link) rest ≡ false
none_after link p [] h e all = refl
none_after link p (q ∷ rest) h e all =
    let both = and_parts (comes_after p q) (list_all (comes_after p) rest) all in
    ap (λ (b : Bool). b || list_any (is_of_link link) rest) (after_of link p q h e both.0) ∙ none_after link p rest h e both.1

on_by : (link : ℕ) (p : ℕ × ℕ) (rest : List (ℕ × ℕ)) (b c : Bool) → comes_after (link, 0) p ≡ b → (p.0 == link) ≡ c → PairsAreRising (p ∷ rest)
    → is_on link (find (comes_after (link, 0)) rest) ≡ list_any (is_of_link link) rest
    → is_on link (find (comes_after (link, 0)) (p ∷ rest)) ≡ list_any (is_of_link link) (p ∷ rest)
on_by link p rest true true e f rising more =
    ap (λ (z : Bool). is_on link (cond z (Some p) (find (comes_after (link, 0)) rest))) e ∙ f
    ∙ sym (ap (λ (z : Bool). z || list_any (is_of_link link) rest) (sym (afterwards_of link p e) ∙ f))
on_by link p rest true false e f rising more =
    ap (λ (z : Bool). is_on link (cond z (Some p) (find (comes_after (link, 0)) rest))) e ∙ f
    ∙ sym (ap (λ (z : Bool). z || list_any (is_of_link link) rest) (sym (afterwards_of link p e) ∙ f) ∙ none_after link p rest e f rising.0)
on_by link p rest false c e f rising more =
    ap (λ (z : Bool). is_on link (cond z (Some p) (find (comes_after (link, 0)) rest))) e ∙ more
    ∙ sym (ap (λ (z : Bool). z || list_any (is_of_link link) rest) (before_of link p e))

pub on_is : (link : ℕ) (pairs : List (ℕ × ℕ)) → PairsAreRising pairs → is_on link (next_after pairs (link, 0)) ≡ list_any (is_of_link link) pairs
on_is link [] rising = refl
on_is link (p ∷ rest) rising = on_by link p rest (comes_after (link, 0) p) (p.0 == link) refl refl rising (on_is link rest rising.1)

-- one that passes a test
pub record Passes {X : Type 0} (test : X → Bool) (xs : List X) : Type 0 where
  pub index : ℕ
  pub one : X
  pub there : slice_get xs index ≡ Some one
  pub passes : test one ≡ true

passes_by : {X : Type 0} (test : X → Bool) (x : X) (xs : List X) (b : Bool) → test x ≡ b → list_any test (x ∷ xs) ≡ true
    → (list_any test xs ≡ true → Passes test xs) → Passes test (x ∷ xs)
passes_by test x xs true e h more = record { index = zero; one = x; there = refl; passes = e }
passes_by test x xs false e h more =
    let rest = more (sym (ap (λ (z : Bool). z || list_any test xs) e) ∙ h) in
    record { index = suc rest.index; one = rest.one; there = rest.there; passes = rest.passes }

pub some_passes : {X : Type 0} (test : X → Bool) (xs : List X) → list_any test xs ≡ true → Passes test xs
some_passes test [] h = absurd (cc)
some_passes test (x ∷ xs) h = passes_by test x xs (test x) refl h (some_passes test xs)

or_true : (a : Bool) → (a || true) ≡ true
or_true true = refl
or_true false = refl

pub any_of : {X : Type 0} (test : X → Bool) (xs : List X) (i : ℕ) (x : X) → slice_get xs i ≡ Some x → test x ≡ true → list_any test xs ≡ true
any_of test [] i x e h = absurd (cc)
any_of test (y ∷ xs) zero x e h =
    let one : y ≡ x = (cc) in ap (λ (z : _). test z || list_any test xs) one ∙ ap (λ (z : Bool). z || list_any test xs) h
any_of test (y ∷ xs) (suc i) x e h = ap (λ (z : Bool). test y || z) (any_of test xs i x e h) ∙ or_true (test y)

-- two tests that pass alike
alike : (a b : Bool) → (a ≡ true → b ≡ true) → (b ≡ true → a ≡ true) → a ≡ b
alike true b f g = sym (f refl)
alike false true f g = absurd (let bad : false ≡ true = g refl in (cc))
alike false false f g = refl

pub same_self : (p : ℕ × ℕ) → is_same p p ≡ true
same_self p = grind (arith, nat_tests)

same_link : (link row : ℕ) (p : ℕ × ℕ) → is_same (link, suc row) p ≡ true → is_of_link link p ≡ true
same_link link row p h = grind (arith, nat_tests)

same_row : (link : ℕ) (p : ℕ × ℕ) → is_of_link link p ≡ true → p.0 ≡ link
same_row link p h = grind (arith, nat_tests)

equal_is : (n m : ℕ) → (n == m) ≡ true → n ≡ m
equal_is n m h = grind (arith, nat_tests)

is_equal : (n m : ℕ) → n ≡ m → (n == m) ≡ true
is_equal n m h = grind (arith, nat_tests)

module _ (s : Seen) (l : Link) (pairs : List (ℕ × ℕ)) (exact : PairsAreExactly pairs (is_in_outstanding s)) where
  -- an attempt that is outstanding on a link of this number
  on_placed : (a : Attempt) (o : Option Placed) → (is_some o && is_none a.row.ended) ≡ true → option_map_or (λ (at : Placed). at.link) o 0 ≡ l.number
      → holds (λ (at : Placed). at.link == l.number) o ≡ true
  on_placed a None out e = absurd (cc)
  on_placed a (Some at) out e = is_equal at.link l.number e

  off_placed : (o : Option Placed) → holds (λ (at : Placed). at.link == l.number) o ≡ true → option_map_or (λ (at : Placed). at.link) o 0 ≡ l.number
  off_placed None e = absurd (cc)
  off_placed (Some at) e = equal_is at.link l.number e

  out_to : (a : Attempt) → is_outstanding a ≡ true → link_number a ≡ l.number → is_outstanding_on l a ≡ true
  out_to a out e = ap (λ (b : Bool). b && holds (λ (at : Placed). at.link == l.number) a.row.placed) out ∙ on_placed a a.row.placed out e

  at_number : (n : ℕ) (a : Attempt) → numbered s.attempts n ≡ Some a → is_outstanding_on l a ≡ true → list_any (is_outstanding_on l) s.attempts ≡ true
  at_number zero a e on = absurd (cc)
  at_number (suc i) a e on = any_of (is_outstanding_on l) s.attempts i a e on

  found_in : (p : ℕ × ℕ) (o : Option Attempt) → numbered s.attempts p.1 ≡ o → holds (λ (a : Attempt). is_outstanding a && (link_number a == p.0)) o ≡ true → p.0 ≡ l.number
      → list_any (is_outstanding_on l) s.attempts ≡ true
  found_in p None e h own = absurd (cc)
  found_in p (Some a) e h own =
      let both = and_parts (is_outstanding a) (link_number a == p.0) h in
      let on : is_outstanding_on l a ≡ true = out_to a both.0 (equal_is (link_number a) p.0 both.1 ∙ own) in
      at_number p.1 a e on

  to_attempts : list_any (is_of_link l.number) pairs ≡ true → list_any (is_outstanding_on l) s.attempts ≡ true
  to_attempts h =
      let p = some_passes (is_of_link l.number) pairs h in
      let in_set : has pairs p.one ≡ true = any_of (is_same p.one) pairs p.index p.one p.there (same_self p.one) in
      found_in p.one (numbered s.attempts p.one.1) refl (sym (exact.exact p.one.0 p.one.1) ∙ in_set) (same_row l.number p.one p.passes)

  to_pairs : list_any (is_outstanding_on l) s.attempts ≡ true → list_any (is_of_link l.number) pairs ≡ true
  to_pairs h =
      let p = some_passes (is_outstanding_on l) s.attempts h in
      let both = and_parts (is_outstanding p.one) (holds (λ (at : Placed). at.link == l.number) p.one.row.placed) p.passes in
      let own : (link_number p.one == l.number) ≡ true = is_equal (link_number p.one) l.number (off_placed p.one.row.placed both.1) in
      let in_test : is_in_outstanding s l.number (suc p.index) ≡ true
      = ap (holds (λ (a : Attempt). is_outstanding a && (link_number a == l.number))) p.there ∙ ap (λ (b : Bool). b && (link_number p.one == l.number)) both.0 ∙ own in
      let q = some_passes (is_same (l.number, suc p.index)) pairs (exact.exact l.number (suc p.index) ∙ in_test) in
      any_of (is_of_link l.number) pairs q.index q.one q.there (same_link l.number p.index q.one q.passes)

  pub outstanding_same : is_on l.number (next_after pairs (l.number, 0)) ≡ list_any (is_outstanding_on l) s.attempts
  outstanding_same =
      on_is l.number pairs exact.rising
      ∙ alike (list_any (is_of_link l.number) pairs) (list_any (is_outstanding_on l) s.attempts) to_attempts to_pairs
