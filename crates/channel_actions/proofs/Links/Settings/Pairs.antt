-- What a set of pairs in rising order has, once a pair is put in or taken out.
use Rattle.std.proofs.Common.{◌≡◌, ◌∙◌, ℕ, Bool, true, false, cond, not, ◌&&◌, ◌||◌, List, [], ◌∷◌, refl, ap, sym, subst, arith}
use Rattle.std.proofs.lemmas.Bool.{and_parts}
use Rattle.std.proofs.lemmas.Bool.Decides.{nat_tests}
use Rattle.std.specs.BTreeSet.{insert_key}
use Rattle.std.specs.List.{list_all, list_any}
use Rattle.std.specs.Ordering.{match_ordering}
use Rattle.std.specs.Set.{remove_key}
use Rattle.std.specs.declared.cmp.Ordering.{Ordering}
use Rattle.std.specs.declared.cmp.Ordering.TheVariants.{Less, Equal, Greater}
use Rattle.channel_actions.specs.Sets.{PairsAreExactly, PairsAreRising}
use Rattle.picker_gate.specs.Pairs.{has, comes_after, is_same, pair_cmp}

-- two pairs
same_first : (p q : ℕ × ℕ) → is_same p q ≡ true → p.0 ≡ q.0
same_first p q h = grind (arith, nat_tests)

same_second : (p q : ℕ × ℕ) → is_same p q ≡ true → p.1 ≡ q.1
same_second p q h = grind (arith, nat_tests)

pub same_is : (p q : ℕ × ℕ) → is_same p q ≡ true → p ≡ q
same_is p q h = ap (λ (a : ℕ). (a, p.1)) (same_first p q h) ∙ ap (λ (b : ℕ). (q.0, b)) (same_second p q h)

pub self_same : (p : ℕ × ℕ) → is_same p p ≡ true
self_same p = grind (arith, nat_tests)

pub same_back : (p q : ℕ × ℕ) → is_same p q ≡ is_same q p
same_back p q = grind (arith, nat_tests)

less_after : (p q : ℕ × ℕ) → pair_cmp p q ≡ Less → comes_after p q ≡ true
less_after p q e = ap Rattle.std.specs.Ordering.is_lt e

equal_same : (p q : ℕ × ℕ) → pair_cmp p q ≡ Equal → is_same p q ≡ true
equal_same p q e = ap Rattle.std.specs.Ordering.is_eq e

greater_after : (p q : ℕ × ℕ) → pair_cmp p q ≡ Greater → comes_after q p ≡ true
greater_after p q e = grind (arith, nat_tests)

after_on : (p q r : ℕ × ℕ) → comes_after p q ≡ true → comes_after q r ≡ true → comes_after p r ≡ true
after_on p q r h k = grind (arith, nat_tests)

after_not : (p q : ℕ × ℕ) → comes_after p q ≡ true → is_same p q ≡ false
after_not p q h = grind (arith, nat_tests)

-- all stand after one that stands after another
pub all_after : (p q : ℕ × ℕ) (pairs : List (ℕ × ℕ)) → comes_after p q ≡ true → list_all (comes_after q) pairs ≡ true → list_all (comes_after p) pairs ≡ true
all_after p q [] h all = refl
all_after p q (r ∷ pairs) h all =
    let both = and_parts (comes_after q r) (list_all (comes_after q) pairs) all in
    ap (λ (b : Bool). b && list_all (comes_after p) pairs) (after_on p q r h both.0) ∙ all_after p q pairs h both.1

-- none that stands after is the same
pub none_afterwards : (p : ℕ × ℕ) (pairs : List (ℕ × ℕ)) → list_all (comes_after p) pairs ≡ true → has pairs p ≡ false
none_afterwards p [] all = refl
none_afterwards p (q ∷ pairs) all =
    let both = and_parts (comes_after p q) (list_all (comes_after p) pairs) all in
    ap (λ (b : Bool). b || has pairs p) (after_not p q both.0) ∙ none_afterwards p pairs both.1

-- put in
or_swap : (a b c : Bool) → (a || (b || c)) ≡ (b || (a || c))
or_swap true true c = refl
or_swap true false c = refl
or_swap false true c = refl
or_swap false false c = refl

or_same : (a b : Bool) → (a || b) ≡ (a || (a || b))
or_same true b = refl
or_same false b = refl

insert_by : (p q r : ℕ × ℕ) (pairs : List (ℕ × ℕ)) (o : Ordering) → pair_cmp p r ≡ o → has (insert_key pair_cmp pairs p) q ≡ (is_same q p || has pairs q)
    → has (match_ordering o (p ∷ r ∷ pairs) (r ∷ pairs) (r ∷ insert_key pair_cmp pairs p)) q ≡ (is_same q p || (is_same q r || has pairs q))
insert_by p q r pairs Less e more = refl
insert_by p q r pairs Equal e more =
    let one : p ≡ r = same_is p r (equal_same p r e) in
    or_same (is_same q r) (has pairs q) ∙ ap (λ (z : ℕ × ℕ). is_same q z || (is_same q r || has pairs q)) (sym one)
insert_by p q r pairs Greater e more = ap (λ (b : Bool). is_same q r || b) more ∙ or_swap (is_same q r) (is_same q p) (has pairs q)

pub has_insert : (pairs : List (ℕ × ℕ)) (p q : ℕ × ℕ) → has (insert_key pair_cmp pairs p) q ≡ (is_same q p || has pairs q)
has_insert [] p q = refl
has_insert (r ∷ pairs) p q = insert_by p q r pairs (pair_cmp p r) refl (has_insert pairs p q)

all_insert_by : (test : ℕ × ℕ → Bool) (p r : ℕ × ℕ) (pairs : List (ℕ × ℕ)) (o : Ordering) → test p ≡ true → (test r && list_all test pairs) ≡ true
    → list_all test (insert_key pair_cmp pairs p) ≡ true → list_all test (match_ordering o (p ∷ r ∷ pairs) (r ∷ pairs) (r ∷ insert_key pair_cmp pairs p)) ≡ true
all_insert_by test p r pairs Less h all more = ap (λ (b : Bool). b && (test r && list_all test pairs)) h ∙ all
all_insert_by test p r pairs Equal h all more = all
all_insert_by test p r pairs Greater h all more =
    ap (λ (b : Bool). b && list_all test (insert_key pair_cmp pairs p)) (and_parts (test r) (list_all test pairs) all).0 ∙ more

all_insert : (test : ℕ × ℕ → Bool) (pairs : List (ℕ × ℕ)) (p : ℕ × ℕ) → test p ≡ true → list_all test pairs ≡ true → list_all test (insert_key pair_cmp pairs p) ≡ true
all_insert test [] p h all = ap (λ (b : Bool). b && true) h
all_insert test (r ∷ pairs) p h all =
    all_insert_by test p r pairs (pair_cmp p r) h all (all_insert test pairs p h (and_parts (test r) (list_all test pairs) all).1)

rising_by : (p r : ℕ × ℕ) (pairs : List (ℕ × ℕ)) (o : Ordering) → pair_cmp p r ≡ o → PairsAreRising (r ∷ pairs) → PairsAreRising (insert_key pair_cmp pairs p)
    → PairsAreRising (match_ordering o (p ∷ r ∷ pairs) (r ∷ pairs) (r ∷ insert_key pair_cmp pairs p))
rising_by p r pairs Less e h more =
    let first : comes_after p r ≡ true = less_after p r e in
    (ap (λ (b : Bool). b && list_all (comes_after p) pairs) first ∙ all_after p r pairs first h.0, h)
rising_by p r pairs Equal e h more = h
rising_by p r pairs Greater e h more = (all_insert (comes_after r) pairs p (greater_after p r e) h.0, more)

pub rising_insert : (pairs : List (ℕ × ℕ)) (p : ℕ × ℕ) → PairsAreRising pairs → PairsAreRising (insert_key pair_cmp pairs p)
rising_insert [] p h = (refl, tt)
rising_insert (r ∷ pairs) p h = rising_by p r pairs (pair_cmp p r) refl h (rising_insert pairs p h.1)

-- taken out
abbrev pub has_other : List (ℕ × ℕ) → ℕ × ℕ → ℕ × ℕ → Bool
has_other pairs p q = has pairs q && not (is_same p q)

and_off : (b : Bool) → (b && false) ≡ false
and_off true = refl
and_off false = refl

and_on : (b : Bool) → (b && true) ≡ b
and_on true = refl
and_on false = refl

same_none : (p q : ℕ × ℕ) (pairs : List (ℕ × ℕ)) (b : Bool) → is_same p q ≡ b → list_all (comes_after p) pairs ≡ true → has pairs q ≡ ((is_same q p || has pairs q) && not b)
same_none p q pairs true e all =
    ap (has pairs) (sym (same_is p q e)) ∙ none_afterwards p pairs all ∙ sym (and_off (is_same q p || has pairs q))
same_none p q pairs false e all =
    sym (ap (λ (b : Bool). (b || has pairs q) && true) (same_back q p ∙ e) ∙ and_on (has pairs q))

not_both : (p q r : ℕ × ℕ) → is_same p r ≡ false → (b : Bool) → is_same q r ≡ b → (is_same p q && b) ≡ false
not_both p q r e true at =
    and_on (is_same p q) ∙ ap (is_same p) (same_is q r at) ∙ e
not_both p q r e false at = and_off (is_same p q)

kept_in : (a b c : Bool) → (b && a) ≡ false → (a || (c && not b)) ≡ ((a || c) && not b)
kept_in true true c e = absurd (cc)
kept_in true false c e = refl
kept_in false b c e = refl

remove_by : (p q r : ℕ × ℕ) (pairs : List (ℕ × ℕ)) (b : Bool) → is_same p r ≡ b → PairsAreRising (r ∷ pairs) → has (remove_key (is_same p) pairs) q ≡ has_other pairs p q
    → has (cond b pairs (r ∷ remove_key (is_same p) pairs)) q ≡ has_other (r ∷ pairs) p q
remove_by p q r pairs true e h more =
    let one : p ≡ r = same_is p r e in
    subst (λ (z : ℕ × ℕ). has pairs q ≡ ((is_same q z || has pairs q) && not (is_same p q))) one
    (same_none p q pairs (is_same p q) refl (subst (λ (z : ℕ × ℕ). list_all (comes_after z) pairs ≡ true) (sym one) h.0))
remove_by p q r pairs false e h more =
    ap (λ (b : Bool). is_same q r || b) more ∙ kept_in (is_same q r) (is_same p q) (has pairs q) (not_both p q r e (is_same q r) refl)

pub has_remove : (pairs : List (ℕ × ℕ)) (p q : ℕ × ℕ) → PairsAreRising pairs → has (remove_key (is_same p) pairs) q ≡ has_other pairs p q
has_remove [] p q h = refl
has_remove (r ∷ pairs) p q h = remove_by p q r pairs (is_same p r) refl h (has_remove pairs p q h.1)

all_remove_by : (test : ℕ × ℕ → Bool) (p r : ℕ × ℕ) (pairs : List (ℕ × ℕ)) (b : Bool) → (test r && list_all test pairs) ≡ true
    → list_all test (remove_key (is_same p) pairs) ≡ true → list_all test (cond b pairs (r ∷ remove_key (is_same p) pairs)) ≡ true
all_remove_by test p r pairs true all more = (and_parts (test r) (list_all test pairs) all).1
all_remove_by test p r pairs false all more =
    ap (λ (b : Bool). b && list_all test (remove_key (is_same p) pairs)) (and_parts (test r) (list_all test pairs) all).0 ∙ more

all_remove : (test : ℕ × ℕ → Bool) (pairs : List (ℕ × ℕ)) (p : ℕ × ℕ) → list_all test pairs ≡ true → list_all test (remove_key (is_same p) pairs) ≡ true
all_remove test [] p all = refl
all_remove test (r ∷ pairs) p all =
    all_remove_by test p r pairs (is_same p r) all (all_remove test pairs p (and_parts (test r) (list_all test pairs) all).1)

lowered : (p r : ℕ × ℕ) (pairs : List (ℕ × ℕ)) (b : Bool) → PairsAreRising (r ∷ pairs) → PairsAreRising (remove_key (is_same p) pairs)
    → PairsAreRising (cond b pairs (r ∷ remove_key (is_same p) pairs))
lowered p r pairs true h more = h.1
lowered p r pairs false h more = (all_remove (comes_after r) pairs p h.0, more)

pub rising_remove : (pairs : List (ℕ × ℕ)) (p : ℕ × ℕ) → PairsAreRising pairs → PairsAreRising (remove_key (is_same p) pairs)
rising_remove [] p h = tt
rising_remove (r ∷ pairs) p h = lowered p r pairs (is_same p r) h (rising_remove pairs p h.1)

-- exactly those that pass another test
pub exactly_by : (pairs : List (ℕ × ℕ)) (test other : ℕ → ℕ → Bool) → PairsAreExactly pairs test → ((a b : ℕ) → test a b ≡ other a b) → PairsAreExactly pairs other
exactly_by pairs test other h same = record { rising = h.rising; exact = λ a b. h.exact a b ∙ same a b }

pub exactly_insert : (pairs : List (ℕ × ℕ)) (test : ℕ → ℕ → Bool) (p : ℕ × ℕ) → PairsAreExactly pairs test
    → PairsAreExactly (insert_key pair_cmp pairs p) (λ a b. is_same (a, b) p || test a b)
exactly_insert pairs test p h = record {
  rising = rising_insert pairs p h.rising;
  exact = λ a b. has_insert pairs p (a, b) ∙ ap (λ (z : Bool). is_same (a, b) p || z) (h.exact a b);
}

pub exactly_remove : (pairs : List (ℕ × ℕ)) (test : ℕ → ℕ → Bool) (p : ℕ × ℕ) → PairsAreExactly pairs test
    → PairsAreExactly (remove_key (is_same p) pairs) (λ a b. test a b && not (is_same p (a, b)))
exactly_remove pairs test p h = record {
  rising = rising_remove pairs p h.rising;
  exact = λ a b. has_remove pairs p (a, b) h.rising ∙ ap (λ (z : Bool). z && not (is_same p (a, b))) (h.exact a b);
}
