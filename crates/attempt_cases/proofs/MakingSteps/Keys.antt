-- The calls that are due, sorted: each of them once, the lowest number first; and the timers of the others.
use Rattle.std.proofs.Common.{◌≡◌, ◌<◌, ◌∙◌, ◌==◌, ◌&&◌, ◌||◌, ◌∷◌, ap, arith, refl, sym, subst, Bool, true, false, not, List, [], ℕ, if◌then◌else◌, nat_le}
use Rattle.std.proofs.lemmas.Bool.{and_parts}
use Rattle.std.proofs.lemmas.Bool.Decides.{nat_tests}
use Rattle.std.specs.BTreeSet.{insert_key}
use Rattle.std.specs.List.{list_all, list_any}
use Rattle.channel_actions.proofs.Links.Settings.Pairs.{has_insert, rising_insert, same_is, self_same}
use Rattle.channel_actions.specs.Sets.{PairsAreRising}
use Rattle.channel_core.specs.Timing.{due_keys, later, sorted_into}
use Rattle.picker_gate.specs.Pairs.{has, comes_after, is_same, pair_cmp}

abbrev pub is_key : List ℕ → ℕ → Bool
is_key keys key = list_any (λ (j : ℕ). j == key) keys

-- a list of numbers that rises
abbrev pub AreAscending : List ℕ → Type 0
AreAscending [] = Unit {0}
AreAscending (n ∷ keys) = ((k : ℕ) → is_key keys k ≡ true → n < k) × AreAscending keys

-- the sorted ones
or_assoc : (a b c : Bool) → ((a || b) || c) ≡ (b || (a || c))
or_assoc true true c = refl
or_assoc true false c = refl
or_assoc false true c = refl
or_assoc false false c = refl

same_zero : (p : ℕ × ℕ) (n : ℕ) → is_same p (0, n) ≡ ((p.0 == 0) && (n == p.1))
same_zero p n = grind (arith, nat_tests)

and_or : (a b c : Bool) → ((a && b) || (a && c)) ≡ (a && (b || c))
and_or true b c = refl
and_or false b c = refl

or_swap : (a b c : Bool) → ((a || b) || c) ≡ (b || (a || c))
or_swap a b c = or_assoc a b c

pub sorted_has : (sorted : List (ℕ × ℕ)) (keys : List ℕ) (p : ℕ × ℕ) → has (sorted_into sorted keys) p ≡ (has sorted p || ((p.0 == 0) && is_key keys p.1))
sorted_has sorted [] p = sym (none (has sorted p) (p.0 == 0))
  where
    none : (a b : Bool) → (a || (b && false)) ≡ a
    none true b = refl
    none false true = refl
    none false false = refl
sorted_has sorted (n ∷ keys) p =
    sorted_has (insert_key pair_cmp sorted (0, n)) keys p
    ∙ ap (λ (b : Bool). b || ((p.0 == 0) && is_key keys p.1)) (has_insert sorted (0, n) p ∙ ap (λ (b : Bool). b || has sorted p) (same_zero p n))
    ∙ or_swap ((p.0 == 0) && (n == p.1)) (has sorted p) ((p.0 == 0) && is_key keys p.1)
    ∙ ap (λ (b : Bool). has sorted p || b) (and_or (p.0 == 0) (n == p.1) (is_key keys p.1))

pub sorted_rising : (sorted : List (ℕ × ℕ)) (keys : List ℕ) → PairsAreRising sorted → PairsAreRising (sorted_into sorted keys)
sorted_rising sorted [] h = h
sorted_rising sorted (n ∷ keys) h = sorted_rising (insert_key pair_cmp sorted (0, n)) keys (rising_insert sorted (0, n) h)

-- pairs that all begin with 0
abbrev pub ArePlain : List (ℕ × ℕ) → Type 0
ArePlain pairs = (p : ℕ × ℕ) → has pairs p ≡ true → p.0 ≡ 0

or_true : (b : Bool) → (b || true) ≡ true
or_true true = refl
or_true false = refl

head_in : (p : ℕ × ℕ) (pairs : List (ℕ × ℕ)) → has (p ∷ pairs) p ≡ true
head_in p pairs = ap (λ (b : Bool). b || has pairs p) (self_same p)

plain_rest : (p : ℕ × ℕ) (pairs : List (ℕ × ℕ)) → ArePlain (p ∷ pairs) → ArePlain pairs
plain_rest p pairs plain q e = plain q (ap (λ (b : Bool). is_same q p || b) e ∙ or_true (is_same q p))

same_key : (k : ℕ) (p : ℕ × ℕ) → p.0 ≡ 0 → is_same (0, k) p ≡ (p.1 == k)
same_key k p e = grind (arith, nat_tests)

zero_le : (n : ℕ) → n ≡ 0 → nat_le n 0 ≡ true
zero_le n e = grind (arith, nat_tests)

pub plain_keys : (pairs : List (ℕ × ℕ)) → ArePlain pairs → (k : ℕ) → is_key (due_keys 0 pairs) k ≡ has pairs (0, k)
plain_keys [] plain k = refl
plain_keys (p ∷ pairs) plain k =
    let zero_ : p.0 ≡ 0 = plain p (head_in p pairs) in
    ap (λ (b : Bool). is_key (if b then p.1 ∷ due_keys 0 pairs else []) k) (zero_le p.0 zero_)
    ∙ ap (λ (b : Bool). (p.1 == k) || b) (plain_keys pairs (plain_rest p pairs plain) k) ∙ ap (λ (b : Bool). b || has pairs (0, k)) (sym (same_key k p zero_))

after_less : (p q : ℕ × ℕ) → p.0 ≡ 0 → comes_after p q ≡ true → q.0 ≡ 0 → p.1 < q.1
after_less p q e f g = grind (arith, nat_tests)

all_has : (p q : ℕ × ℕ) (pairs : List (ℕ × ℕ)) → list_all (comes_after p) pairs ≡ true → has pairs q ≡ true → comes_after p q ≡ true
all_has p q [] all e = absurd (let bad : false ≡ true = e in (cc))
all_has p q (r ∷ pairs) all e =
    let both = and_parts (comes_after p r) (list_all (comes_after p) pairs) all in by_same (is_same q r) refl e both.0 (all_has p q pairs both.1)
  where
    by_same : (b : Bool) → is_same q r ≡ b → (b || has pairs q) ≡ true → comes_after p r ≡ true → (has pairs q ≡ true → comes_after p q ≡ true) → comes_after p q ≡ true
    by_same true is e first rest = ap (comes_after p) (same_is q r is) ∙ first
    by_same false is e first rest = rest e

pub plain_ascending : (pairs : List (ℕ × ℕ)) → ArePlain pairs → PairsAreRising pairs → AreAscending (due_keys 0 pairs)
plain_ascending [] plain h = tt
plain_ascending (p ∷ pairs) plain h =
    let zero_ : p.0 ≡ 0 = plain p (head_in p pairs) in
    let rest : ArePlain pairs = plain_rest p pairs plain in
    subst (λ (b : Bool). AreAscending (if b then p.1 ∷ due_keys 0 pairs else [])) (sym (zero_le p.0 zero_))
    (λ k e. after_less p (0, k) zero_ (all_has p (0, k) pairs h.0 (sym (plain_keys pairs rest k) ∙ e)) refl, plain_ascending pairs rest h.1)

-- of all timers: the calls whose moment has come, and the other timers
stays_after : (p q : ℕ × ℕ) (moment : ℕ) → comes_after p q ≡ true → nat_le p.0 moment ≡ false → nat_le q.0 moment ≡ false
stays_after p q moment e f = grind (arith, nat_tests)

pub self_equal : (n : ℕ) → (n == n) ≡ true
self_equal n = grind (arith, nat_tests)

pub key_of : (moment : ℕ) (timers : List (ℕ × ℕ)) (p : ℕ × ℕ) → PairsAreRising timers → has timers p ≡ true → nat_le p.0 moment ≡ true → is_key (due_keys moment timers) p.1 ≡ true
key_of moment [] p h e past = absurd (let bad : false ≡ true = e in (cc))
key_of moment (t ∷ ts) p h e past = by_past (nat_le t.0 moment) refl (is_same p t) refl e (λ f. key_of moment ts p h.1 f past)
  where
    by_same : (c : Bool) → is_same p t ≡ c → (c || has ts p) ≡ true → (has ts p ≡ true → is_key (due_keys moment ts) p.1 ≡ true) → ((t.1 == p.1) || is_key (due_keys moment ts) p.1) ≡ true
    by_same true is e rest = ap (λ (b : Bool). b || is_key (due_keys moment ts) p.1) (ap (λ (q : ℕ × ℕ). t.1 == q.1) (same_is p t is) ∙ self_equal t.1)
    by_same false is e rest = ap (λ (b : Bool). (t.1 == p.1) || b) (rest e) ∙ or_true (t.1 == p.1)

    not_past : (c : Bool) → is_same p t ≡ c → (c || has ts p) ≡ true → nat_le t.0 moment ≡ false → nat_le p.0 moment ≡ false
    not_past true is e late = ap (λ (q : ℕ × ℕ). nat_le q.0 moment) (same_is p t is) ∙ late
    not_past false is e late = stays_after t p moment (all_has t p ts h.0 e) late

    by_past : (b : Bool) → nat_le t.0 moment ≡ b → (c : Bool) → is_same p t ≡ c → (c || has ts p) ≡ true → (has ts p ≡ true → is_key (due_keys moment ts) p.1 ≡ true)
        → is_key (if b then t.1 ∷ due_keys moment ts else []) p.1 ≡ true
    by_past true now c is e rest = by_same c is e rest
    by_past false now c is e rest = absurd (let bad : false ≡ true = sym (not_past c is e now) ∙ past in (cc))

pub later_rising : (moment : ℕ) (timers : List (ℕ × ℕ)) → PairsAreRising timers → PairsAreRising (later moment timers)
later_rising moment [] h = tt
later_rising moment (t ∷ ts) h = by_past (nat_le t.0 moment) (later_rising moment ts h.1)
  where
    by_past : (b : Bool) → PairsAreRising (later moment ts) → PairsAreRising (if b then later moment ts else t ∷ ts)
    by_past true rest = rest
    by_past false rest = h

and_none : (a : Bool) → (a && false) ≡ false
and_none true = refl
and_none false = refl

pub later_has : (moment : ℕ) (timers : List (ℕ × ℕ)) (p : ℕ × ℕ) → PairsAreRising timers → has (later moment timers) p ≡ (has timers p && not (nat_le p.0 moment))
later_has moment [] p h = refl
later_has moment (t ∷ ts) p h = by_past (nat_le t.0 moment) refl (is_same p t) refl (later_has moment ts p h.1)
  where
    late : (c : Bool) → is_same p t ≡ c → (b : Bool) → has ts p ≡ b → nat_le t.0 moment ≡ false → (c || b) ≡ ((c || b) && not (nat_le p.0 moment))
    late true is b e off =
        sym (ap (λ (z : Bool). true && not z) (ap (λ (q : ℕ × ℕ). nat_le q.0 moment) (same_is p t is) ∙ off))
    late false is true e off = sym (ap (λ (z : Bool). true && not z) (stays_after t p moment (all_has t p ts h.0 e) off))
    late false is false e off = refl

    past : (c : Bool) → is_same p t ≡ c → nat_le t.0 moment ≡ true → (has ts p && not (nat_le p.0 moment)) ≡ ((c || has ts p) && not (nat_le p.0 moment))
    past true is now =
        let gone : not (nat_le p.0 moment) ≡ false = ap not (ap (λ (q : ℕ × ℕ). nat_le q.0 moment) (same_is p t is) ∙ now) in
        ap (λ (z : Bool). has ts p && z) gone ∙ and_none (has ts p) ∙ sym gone
    past false is now = refl

    by_past : (b : Bool) → nat_le t.0 moment ≡ b → (c : Bool) → is_same p t ≡ c → has (later moment ts) p ≡ (has ts p && not (nat_le p.0 moment))
        → has (if b then later moment ts else t ∷ ts) p ≡ ((is_same p t || has ts p) && not (nat_le p.0 moment))
    by_past true now c is rest = rest ∙ past c is now ∙ ap (λ (z : Bool). (z || has ts p) && not (nat_le p.0 moment)) (sym is)
    by_past false now c is rest =
        ap (λ (z : Bool). z || has ts p) is ∙ late c is (has ts p) refl now ∙ ap (λ (z : Bool). (z || has ts p) && not (nat_le p.0 moment)) (sym is)
