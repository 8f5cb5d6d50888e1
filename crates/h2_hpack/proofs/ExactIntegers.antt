-- Integers are read exactly as they are spelled.
use Rattle.std.proofs.Common.{◌≡◌, ◌⊎◌, ℕ, zero, suc, ◌+◌, ◌-◌, ◌*◌, ◌%◌, ◌^◌, ◌<◌, ◌≤◌, List, [], ◌∷◌, ◌++◌, length, refl, sym, ◌∙◌, ap, subst, arith, Option, Some, None, Result, Ok, Err, inl, inr}
use Rattle.std.specs.Prelude.{ok_or, option_map, option_and_then}
use Rattle.std.specs.List.{AllByRecursion}
use Rattle.std.proofs.lemmas.Bool.{cases_lt, lt-ltb, le-ltb, le-leb, lt-leb}
use Rattle.h2_hpack.specs.declared.fault.HpackFault.{HpackFault}
use Rattle.h2_hpack.specs.declared.fault.HpackFault.TheVariants.{BadInteger}
use Rattle.h2_hpack.specs.Blocks.{and_then, index_at}
use Rattle.h2_hpack.specs.Integers.{tail_at, integer_at, within_limit}
use Rattle.h2_hpack.specs.Representations.{Begins, NoneBegins, IsInteger, IsTail, tail_value}

-- a result is good exactly where something holds, and bad exactly where something else does
pub record Exact {C : Type 0} (f : Result C HpackFault) (Good : C → Type 0) (Bad : HpackFault → Type 0) : Type 0 where
  pub good : (x : C) → f ≡ Ok x → Good x
  pub bad : (e : HpackFault) → f ≡ Err e → Bad e
  pub good_back : (x : C) → Good x → f ≡ Ok x
  pub bad_back : (e : HpackFault) → Bad e → f ≡ Err e

-- a value, or one fault where there is none
some_same : {C : Type 0} (e0 : HpackFault) (o : Option C) (x : C) → ok_or o e0 ≡ Ok x → o ≡ Some x
some_same e0 None x h = absurd (cc h)
some_same e0 (Some y) x h = cc h

none_same : {C : Type 0} (e0 e : HpackFault) (o : Option C) → ok_or o e0 ≡ Err e → (e ≡ e0) × (o ≡ None)
none_same e0 e None h = (cc h, refl)
none_same e0 e (Some y) h = absurd (cc h)

no_some : {C : Type 0} (o : Option C) (x : C) → o ≡ None → o ≡ Some x → ⊥
no_some None x h k = cc k
no_some (Some y) x h k = cc h

pub is_none : {C : Type 0} (o : Option C) → ((x : C) → o ≡ Some x → ⊥) → o ≡ None
is_none None h = refl
is_none (Some y) h = absurd (h y refl)

pub exact_option : {C : Type 0} (o : Option C) (e0 : HpackFault) (G : C → Type 0) → ((x : C) → o ≡ Some x → G x) → ((x : C) → G x → o ≡ Some x) → Exact (ok_or o e0) G (λ e. (e ≡ e0) × ((x : C) → G x → ⊥))
exact_option o e0 G there back = record {
  good = λ x h. there x (some_same e0 o x h);
  bad = λ e h. let n = none_same e0 e o h in (n.0, λ x g. no_some o x n.1 (back x g));
  good_back = λ x g. ap (λ y. ok_or y e0) (back x g);
  bad_back = λ e p. ap (λ y. ok_or y e0) (is_none o (λ x h. p.1 x (there x h))) ∙ ap Err (sym p.0);
}

-- one thing after another
pub exact_then : {A B : Type 0} (f : Result A HpackFault) (g : A → Result B HpackFault) (G : A → Type 0) (X : HpackFault → Type 0) (H : A → B → Type 0) (Y : A → HpackFault → Type 0) → Exact f G X → ((x : A) → G x → Exact (g x) (H x) (Y x)) → Exact (and_then f g) (λ y. (x : A) × G x × H x y) (λ e. X e ⊎ ((x : A) × G x × Y x e))
exact_then {A} {B} f g G X H Y first second = record {
  good = λ y h. good_on f refl y h;
  bad = λ e h. bad_on f refl e h;
  good_back = λ y p. ap (λ r. and_then r g) (first.good_back p.0 p.1) ∙ (second p.0 p.1).good_back y p.2;
  bad_back = λ e p. elim p [
    | inl x ↦ ap (λ r. and_then r g) (first.bad_back e x)
    | inr q ↦ ap (λ r. and_then r g) (first.good_back q.0 q.1) ∙ (second q.0 q.1).bad_back e q.2
  ];
}
  where
    good_on : (r : Result A HpackFault) → f ≡ r → (y : B) → and_then r g ≡ Ok y → (x : A) × G x × H x y
    good_on (Ok x) is y h = let there = first.good x is in (x, there, (second x there).good y h)
    good_on (Err e) is y h = absurd (cc h)

    bad_on : (r : Result A HpackFault) → f ≡ r → (e : HpackFault) → and_then r g ≡ Err e → X e ⊎ ((x : A) × G x × Y x e)
    bad_on (Ok x) is e h = let there = first.good x is in inr (x, there, (second x there).bad e h)
    bad_on (Err d) is e h = let same : d ≡ e = cc h in inl (first.bad e (is ∙ ap Err same))

-- the same in other words
pub exact_as : {C : Type 0} (f : Result C HpackFault) (G H : C → Type 0) (X Y : HpackFault → Type 0) → Exact f G X → ((x : C) → G x → H x) → ((x : C) → H x → G x) → ((e : HpackFault) → X e → Y e) → ((e : HpackFault) → Y e → X e) → Exact f H Y
exact_as f G H X Y is to back bad_to bad_back = record {
  good = λ x h. to x (is.good x h);
  bad = λ e h. bad_to e (is.bad e h);
  good_back = λ x h. is.good_back x (back x h);
  bad_back = λ e h. is.bad_back e (bad_back e h);
}

-- a value that is there
pub exact_ok : {C : Type 0} (x : C) → Exact (Ok x) (λ y. x ≡ y) (λ e. ⊥)
exact_ok x = record {
  good = λ y h. cc h;
  bad = λ e h. cc h;
  good_back = λ y h. ap Ok h;
  bad_back = λ e h. absurd h;
}

-- bytes are below 256
abbrev pub AreBytes : List ℕ → Type 0
AreBytes bytes = AllByRecursion (λ b. b < 256) bytes

pub back_bytes : (leading rest : List ℕ) → AreBytes (leading ++ rest) → AreBytes rest
back_bytes [] rest are = are
back_bytes (b ∷ leading) rest are = back_bytes leading rest are.1

pub rest_bytes : {A : Type 0} (Is : List ℕ → A → Type 0) (bytes : List ℕ) (x : A) (rest : List ℕ) → AreBytes bytes → Begins Is bytes x rest → AreBytes rest
rest_bytes Is bytes x rest are p = back_bytes p.0 rest (subst AreBytes p.1 are)

-- the parts of a pair that was found
found_parts : (x y : ℕ × List ℕ) → Some x ≡ Some y → (x.0 ≡ y.0) × (x.1 ≡ y.1)
found_parts x y h =
    let same : x ≡ y = cc h in
    (ap (λ (z : ℕ × List ℕ). z.0) same, ap (λ (z : ℕ × List ℕ). z.1) same)

-- the rest of an integer
pub record TailAt (most : ℕ) (bytes : List ℕ) (n : ℕ) (rest : List ℕ) : Type 0 where
  pub leading : List ℕ
  pub whole : bytes ≡ leading ++ rest
  pub is : IsTail leading
  pub few : length leading ≤ most
  pub value : n ≡ tail_value leading

longer_tail : (most b : ℕ) (bytes : List ℕ) (n : ℕ) (rest : List ℕ) (o : Option (ℕ × List ℕ)) → b < 256 → 128 ≤ b → ((m : ℕ) (r : List ℕ) → o ≡ Some (m, r) → TailAt most bytes m r) → option_map {U = ℕ × List ℕ} (λ t. (b - 128 + 128 * t.0, t.1)) o ≡ Some (n, rest) → TailAt (suc most) (b ∷ bytes) n rest
longer_tail most b bytes n rest None below high more h = absurd (cc h)
longer_tail most b bytes n rest (Some t) below high more h =
    let parts = found_parts (b - 128 + 128 * t.0, t.1) (n, rest) h in
    let value : b - 128 + 128 * t.0 ≡ n = parts.0 in
    let left : t.1 ≡ rest = parts.1 in
    let r = more t.0 t.1 refl in
    record {
      leading = b ∷ r.leading;
      whole = ap (λ x. b ∷ x) (r.whole ∙ ap (λ x. r.leading ++ x) left);
      is = inr (high, r.is);
      few = omega (arith, r.few);
      value = omega (arith, value, r.value, below, high);
    }

pub tail_sound : (most : ℕ) (bytes : List ℕ) (n : ℕ) (rest : List ℕ) → AreBytes bytes → tail_at most bytes ≡ Some (n, rest) → TailAt most bytes n rest
tail_sound zero bytes n rest are h = absurd (cc h)
tail_sound (suc most) [] n rest are h = absurd (cc h)
tail_sound (suc most) (b ∷ bytes) n rest are h =
    elim (cases_lt b 128) [
      | inl low ↦
          let parts = found_parts (b, bytes) (n, rest) (rw (lt-ltb b 128 low) at h) in
          let value : b ≡ n = parts.0 in
          record {
            leading = b ∷ [];
            whole = ap (λ x. b ∷ x) parts.1;
            is = inl (low, refl);
            few = omega arith;
            value = omega (arith, value, low);
          }
      | inr high ↦ longer_tail most b bytes n rest (tail_at most bytes) are.0 high (λ m r k. tail_sound most bytes m r are.1 k) (rw (le-ltb b 128 high) at h)
    ]

pub tail_complete : (most : ℕ) (leading rest : List ℕ) → AreBytes (leading ++ rest) → IsTail leading → length leading ≤ most → tail_at most (leading ++ rest) ≡ Some (tail_value leading, rest)
tail_complete most [] rest are is few = absurd is
tail_complete zero (b ∷ leading) rest are is few = absurd (omega (arith, few))
tail_complete (suc most) (b ∷ leading) rest are (inl p) few =
    let small : b < 128 = p.0 in
    let value : b % 128 + 128 * tail_value [] ≡ b = omega (arith, small) in
    rw (p.1, lt-ltb b 128 small) (ap (λ n. Some (n, rest)) (sym value))
tail_complete (suc most) (b ∷ leading) rest are (inr p) few =
    let large : 128 ≤ b = p.0 in
    let below : b < 256 = are.0 in
    let value : b - 128 + 128 * tail_value leading ≡ b % 128 + 128 * tail_value leading = omega (arith, large, below) in
    rw (le-ltb b 128 large, tail_complete most leading rest are.1 p.1 (omega (arith, few)), value) refl

-- what there is to know of a prefix
pub record Prefix (bits mark : ℕ) : Type 0 where
  pub low : (k : ℕ) → k < 2 ^ bits → (mark + k) % 2 ^ bits ≡ k
  pub some : 1 ≤ 2 ^ bits
  pub few : 2 ^ bits ≤ 128

within_sound : (m : ℕ) (r : List ℕ) (n : ℕ) (rest : List ℕ) → within_limit (m, r) ≡ Some (n, rest) → (m ≡ n) × (r ≡ rest) × (n ≤ 4294967295)
within_sound m r n rest h =
    elim (cases_lt 4294967295 m) [
      | inl above ↦ absurd (no_some None (n, rest) refl (rw (lt-leb m 4294967295 above) at h))
      | inr fits ↦
          let parts = found_parts (m, r) (n, rest) (rw (le-leb m 4294967295 fits) at h) in
          let value : m ≡ n = parts.0 in
          (value, parts.1, omega (arith, value, fits))
    ]

-- a full prefix
full_sound : (bits mark first : ℕ) (bytes : List ℕ) (n : ℕ) (rest : List ℕ) (o : Option (ℕ × List ℕ)) → tail_at 5 bytes ≡ o → AreBytes bytes → mark + (2 ^ bits - 1) ≡ first → option_and_then (λ t. within_limit (2 ^ bits - 1 + t.0, t.1)) o ≡ Some (n, rest) → Begins (IsInteger bits mark) (first ∷ bytes) n rest
full_sound bits mark first bytes n rest None is are whole h = absurd (cc h)
full_sound bits mark first bytes n rest (Some t) is are whole h =
    let r = tail_sound 5 bytes t.0 t.1 are is in
    let w = within_sound (2 ^ bits - 1 + t.0) t.1 n rest h in
    let value : n ≡ (2 ^ bits - 1) + tail_value r.leading = sym w.0 ∙ ap (λ x. 2 ^ bits - 1 + x) r.value in (
      first ∷ r.leading,
      ap (λ x. first ∷ x) (r.whole ∙ ap (λ x. r.leading ++ x) w.1),
      record {
        prefix = 2 ^ bits - 1;
        tail = r.leading;
        bytes_are = ap (λ x. x ∷ r.leading) (sym whole);
        value = inr (refl, r.is, r.few, value);
        within = w.2;
      },
    )

pub integer_sound : (bits mark first : ℕ) (bytes : List ℕ) (n : ℕ) (rest : List ℕ) → Prefix bits mark → mark ≤ first → first < mark + 2 ^ bits → AreBytes bytes → integer_at bits first bytes ≡ Some (n, rest) → Begins (IsInteger bits mark) (first ∷ bytes) n rest
integer_sound bits mark first bytes n rest p least most are h =
    let whole : mark + (first - mark) ≡ first = omega (arith, least) in
    let low : first % 2 ^ bits ≡ first - mark = sym (ap (λ x. x % 2 ^ bits) whole) ∙ p.low (first - mark) (omega (arith, least, most)) in
    elim (cases_lt (first - mark) (2 ^ bits - 1)) [
      | inl small ↦
          let parts = found_parts (first - mark, bytes) (n, rest) (rw (low, lt-ltb (first - mark) (2 ^ bits - 1) small) at h) in
          let value : first - mark ≡ n = parts.0 in (
            first ∷ [],
            ap (λ x. first ∷ x) parts.1,
            record {
              prefix = first - mark;
              tail = [];
              bytes_are = ap (λ x. x ∷ []) (sym whole);
              value = inl (small, refl, sym value);
              within = omega (arith, value, small, p.few);
            },
          )
      | inr full ↦
          let size : mark + (2 ^ bits - 1) ≡ first = omega (arith, least, most, full, p.some) in
          full_sound bits mark first bytes n rest (tail_at 5 bytes) refl are size (rw (low, le-ltb (first - mark) (2 ^ bits - 1) full) at h)
    ]

heads : (a b : ℕ) (xs ys : List ℕ) → a ∷ xs ≡ b ∷ ys → (a ≡ b) × (xs ≡ ys)
heads a b xs ys h = (cc h, cc h)

pub integer_complete : (bits mark first : ℕ) (bytes : List ℕ) (n : ℕ) (rest : List ℕ) → Prefix bits mark → AreBytes bytes → Begins (IsInteger bits mark) (first ∷ bytes) n rest → integer_at bits first bytes ≡ Some (n, rest)
integer_complete bits mark first bytes n rest p are b = on b.2.value
  where
    split : (first ≡ mark + b.2.prefix) × (bytes ≡ b.2.tail ++ rest)
    split = heads first (mark + b.2.prefix) bytes (b.2.tail ++ rest) (b.1 ∙ ap (λ x. x ++ rest) b.2.bytes_are)

    on : ((b.2.prefix < 2 ^ bits - 1) × (b.2.tail ≡ []) × (n ≡ b.2.prefix)) ⊎ ((b.2.prefix ≡ 2 ^ bits - 1) × IsTail b.2.tail × (length b.2.tail ≤ 5) × (n ≡ b.2.prefix + tail_value b.2.tail)) → integer_at bits first bytes ≡ Some (n, rest)
    on (inl q) =
        let low : first % 2 ^ bits ≡ b.2.prefix = ap (λ x. x % 2 ^ bits) split.0 ∙ p.low b.2.prefix (omega (arith, q.0)) in
        let left : bytes ≡ rest = split.1 ∙ ap (λ x. x ++ rest) q.1 in
        rw (low, lt-ltb b.2.prefix (2 ^ bits - 1) q.0, left, q.2) refl
    on (inr q) =
        let low : first % 2 ^ bits ≡ 2 ^ bits - 1 = ap (λ x. x % 2 ^ bits) (split.0 ∙ ap (λ x. mark + x) q.0) ∙ p.low (2 ^ bits - 1) (omega (arith, p.some)) in
        let tail : tail_at 5 bytes ≡ Some (tail_value b.2.tail, rest) = ap (tail_at 5) split.1 ∙ tail_complete 5 b.2.tail rest (subst AreBytes split.1 are) q.1 q.2 in
        let value : (2 ^ bits - 1) + tail_value b.2.tail ≡ n = sym (q.3 ∙ ap (λ x. x + tail_value b.2.tail) q.0) in
        rw (low, le-ltb (2 ^ bits - 1) (2 ^ bits - 1) (omega arith), tail, value, le-leb n 4294967295 b.2.within) refl

pub exact_integer : (bits mark first : ℕ) (bytes : List ℕ) → Prefix bits mark → mark ≤ first → first < mark + 2 ^ bits → AreBytes bytes → Exact (index_at bits first bytes) (λ x. Begins (IsInteger bits mark) (first ∷ bytes) x.0 x.1) (λ e. (e ≡ BadInteger) × NoneBegins (IsInteger bits mark) (first ∷ bytes))
exact_integer bits mark first bytes p least most are =
    exact_as (index_at bits first bytes) (λ x. Begins (IsInteger bits mark) (first ∷ bytes) x.0 x.1) (λ x. Begins (IsInteger bits mark) (first ∷ bytes) x.0 x.1)
    (λ e. (e ≡ BadInteger) × ((x : ℕ × List ℕ) → Begins (IsInteger bits mark) (first ∷ bytes) x.0 x.1 → ⊥)) (λ e. (e ≡ BadInteger) × NoneBegins (IsInteger bits mark) (first ∷ bytes))
    (exact_option (integer_at bits first bytes) BadInteger (λ x. Begins (IsInteger bits mark) (first ∷ bytes) x.0 x.1) (λ x h. integer_sound bits mark first bytes x.0 x.1 p least most are h) (λ x h. integer_complete bits mark first bytes x.0 x.1 p are h))
    (λ x h. h) (λ x h. h) (λ e h. (h.0, λ x rest b. h.1 (x, rest) b)) (λ e h. (h.0, λ x b. h.1 x.0 x.1 b))
