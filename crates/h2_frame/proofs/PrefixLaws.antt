-- Bytes without a fault that are no whole frame can go on to be one.
use Rattle.std.proofs.Common.{◌≡◌, ℕ, zero, suc, ◌+◌, ◌-◌, ◌*◌, ◌%◌, ◌<◌, ◌≤◌, lit<, lit≤, Bool, true, false, cond, List, [], ◌∷◌, ◌++◌, length, take, refl, ap, ◌∙◌, arith, length-append}
use Rattle.std.proofs.lemmas.Bool.Decides.{nat_tests}
use Rattle.std.proofs.lemmas.List.{length-replicate}
use Rattle.std.proofs.lemmas.List.Elements.{All-replicate, recursion_from_All}
use Rattle.std.specs.List.{AllByRecursion}
use Rattle.std.specs.Prelude.{nat_lt, nat_le, ◌&&◌, ◌==◌, replicate}
use Rattle.h2_frame.specs.Frames.{FrameSeen, IsFrame, number_24, number_31, is_overpadded, is_zero_update, is_of_connection, is_padded, fields_size, kind_allows_stream, kind_allows_length, flags_allow_length}
use Rattle.h2_frame.specs.Readings.{Whole, Partial, Fault, IsProperPrefix, reading_of_payload, reading_of}
use Rattle.h2_frame.proofs.FrameLaws.{frame_of, past_else, header_of, no_growth}

abbrev pub AreBytes : List ℕ → Type 0
AreBytes xs = AllByRecursion (λ b. b < 256) xs

copies_are_bytes : (n v : ℕ) → v < 256 → AreBytes (replicate n v)
copies_are_bytes n v h = recursion_from_All (λ b. b < 256) (replicate n v) (All-replicate (λ b. b < 256) n v h)

-- the last byte of a stream's number that suits the frame type
abbrev pub last_of : ℕ → ℕ
last_of kind = cond (is_of_connection kind) 0 1

last_is_byte : (kind : ℕ) → last_of kind < 256
last_is_byte kind = elim (is_of_connection kind) as (λ b. cond b 0 1 < 256) [ true ↦ lit< tt | false ↦ lit< tt ]

pub last_suits : (kind high stream : ℕ) → (is_of_connection kind && nat_lt 0 high) ≡ false → stream ≡ high + last_of kind → kind_allows_stream kind stream ≡ true
last_suits kind high stream test e = grind (arith, nat_tests)

pub last_grows : (kind high stream : ℕ) → (is_of_connection kind && nat_lt 0 high) ≡ false → stream ≡ high + last_of kind → ((kind == 8) && (stream == 0)) ≡ false
last_grows kind high stream test e = grind (arith, nat_tests)

pub no_growth_there : (kind stream : ℕ) → ((kind == 8) && (stream == 0)) ≡ false → (t : List ℕ) → is_zero_update kind stream t ≡ false
no_growth_there kind stream h [] = refl
no_growth_there kind stream h (a ∷ []) = refl
no_growth_there kind stream h (a ∷ b ∷ []) = refl
no_growth_there kind stream h (a ∷ b ∷ c ∷ []) = refl
no_growth_there kind stream h (a ∷ b ∷ c ∷ d ∷ t) = rw h refl

no_padding_fits : (kind flags len : ℕ) → flags_allow_length kind flags len ≡ true → (is_padded kind flags && nat_lt (len - fields_size kind flags) 0) ≡ false
no_padding_fits kind flags len h = grind (arith, nat_tests)

zero_padding : (kind flags len n : ℕ) → flags_allow_length kind flags len ≡ true → is_overpadded kind flags len (replicate n 0) ≡ false
zero_padding kind flags len zero h = refl
zero_padding kind flags len (suc n) h = no_padding_fits kind flags len h

plain_flags : (kind len : ℕ) → flags_allow_length kind 0 len ≡ true
plain_flags kind len = grind (arith, nat_tests)

-- a header that keeps the rules goes on with a payload of zeros
with_zeros : (a b c kind flags p q r s : ℕ) → number_24 a b c ≤ 16384 → kind_allows_length kind (number_24 a b c) ≡ true → flags_allow_length kind flags (number_24 a b c) ≡ true → kind_allows_stream kind (number_31 p q r s) ≡ true → ((kind == 8) && (number_31 p q r s == 0)) ≡ false
    → IsFrame (a ∷ b ∷ c ∷ kind ∷ flags ∷ p ∷ q ∷ r ∷ s ∷ replicate (number_24 a b c) 0) (record { kind = kind; flags = flags; stream = number_31 p q r s; payload = replicate (number_24 a b c) 0 })
with_zeros a b c kind flags p q r s size by_kind by_flags by_stream grows =
    frame_of a b c kind flags p q r s (replicate (number_24 a b c) 0) (length-replicate (number_24 a b c) 0) (record {
      size = size;
      by_kind = by_kind;
      by_flags = by_flags;
      by_stream = by_stream;
      padding = zero_padding kind flags (number_24 a b c) (number_24 a b c) by_flags;
      growth = no_growth_there kind (number_31 p q r s) grows (replicate (number_24 a b c) 0);
    })

no_partial : (code : ℕ) → Fault code ≡ Partial → ⊥
no_partial code e = (cc)

-- five zeros and bytes are bytes
five_zeros : (xs : List ℕ) → AreBytes xs → AreBytes (0 ∷ 0 ∷ 0 ∷ 0 ∷ 0 ∷ xs)
five_zeros xs h = (lit< tt, (lit< tt, (lit< tt, (lit< tt, (lit< tt, h)))))

zeros : (n : ℕ) → AreBytes (replicate n 0)
zeros n = copies_are_bytes n 0 (lit< tt)

pub not_yet : (kind : ℕ) → (is_of_connection kind && nat_lt 0 0) ≡ false
not_yet kind = grind (arith, nat_tests)

-- an unknown frame type has no rule but the limit
unknown : (a b c : ℕ) → number_24 a b c ≤ 16384 → IsFrame (a ∷ b ∷ c ∷ 10 ∷ 0 ∷ 0 ∷ 0 ∷ 0 ∷ 0 ∷ replicate (number_24 a b c) 0) (record { kind = 10; flags = 0; stream = number_31 0 0 0 0; payload = replicate (number_24 a b c) 0 })
unknown a b c size = with_zeros a b c 10 0 0 0 0 0 size refl (plain_flags 10 (number_24 a b c)) refl refl

unknown_bytes : (n : ℕ) → AreBytes (10 ∷ 0 ∷ 0 ∷ 0 ∷ 0 ∷ 0 ∷ replicate n 0)
unknown_bytes n = (lit< tt, five_zeros (replicate n 0) (zeros n))

prefix_0 : IsProperPrefix []
prefix_0 = record {
  next = 0;
  more = 0 ∷ 0 ∷ 10 ∷ 0 ∷ 0 ∷ 0 ∷ 0 ∷ 0 ∷ replicate (number_24 0 0 0) 0;
  are_bytes = (lit< tt, (lit< tt, (lit< tt, unknown_bytes (number_24 0 0 0))));
  frame = record { kind = 10; flags = 0; stream = number_31 0 0 0 0; payload = replicate (number_24 0 0 0) 0 };
  is_frame = unknown 0 0 0 (lit≤ tt);
}

prefix_1 : (a : ℕ) → a * 65536 ≤ 16384 → IsProperPrefix (a ∷ [])
prefix_1 a size = record {
  next = 0;
  more = 0 ∷ 10 ∷ 0 ∷ 0 ∷ 0 ∷ 0 ∷ 0 ∷ replicate (number_24 a 0 0) 0;
  are_bytes = (lit< tt, (lit< tt, unknown_bytes (number_24 a 0 0)));
  frame = record { kind = 10; flags = 0; stream = number_31 0 0 0 0; payload = replicate (number_24 a 0 0) 0 };
  is_frame = unknown a 0 0 (omega arith);
}

prefix_2 : (a b : ℕ) → a * 65536 + b * 256 ≤ 16384 → IsProperPrefix (a ∷ b ∷ [])
prefix_2 a b size = record {
  next = 0;
  more = 10 ∷ 0 ∷ 0 ∷ 0 ∷ 0 ∷ 0 ∷ replicate (number_24 a b 0) 0;
  are_bytes = (lit< tt, unknown_bytes (number_24 a b 0));
  frame = record { kind = 10; flags = 0; stream = number_31 0 0 0 0; payload = replicate (number_24 a b 0) 0 };
  is_frame = unknown a b 0 (omega arith);
}

prefix_3 : (a b c : ℕ) → number_24 a b c ≤ 16384 → IsProperPrefix (a ∷ b ∷ c ∷ [])
prefix_3 a b c size = record {
  next = 10;
  more = 0 ∷ 0 ∷ 0 ∷ 0 ∷ 0 ∷ replicate (number_24 a b c) 0;
  are_bytes = unknown_bytes (number_24 a b c);
  frame = record { kind = 10; flags = 0; stream = number_31 0 0 0 0; payload = replicate (number_24 a b c) 0 };
  is_frame = unknown a b c size;
}

-- a header whose last byte suits the frame type
suited : (a b c kind flags p q r : ℕ) → number_24 a b c ≤ 16384 → kind_allows_length kind (number_24 a b c) ≡ true → flags_allow_length kind flags (number_24 a b c) ≡ true → (is_of_connection kind && nat_lt 0 (p % 128 * 16777216 + q * 65536 + r * 256)) ≡ false
    → IsFrame (a ∷ b ∷ c ∷ kind ∷ flags ∷ p ∷ q ∷ r ∷ last_of kind ∷ replicate (number_24 a b c) 0) (record { kind = kind; flags = flags; stream = number_31 p q r (last_of kind); payload = replicate (number_24 a b c) 0 })
suited a b c kind flags p q r size by_kind by_flags test =
    with_zeros a b c kind flags p q r (last_of kind) size by_kind by_flags
    (last_suits kind (p % 128 * 16777216 + q * 65536 + r * 256) (number_31 p q r (last_of kind)) test refl)
    (last_grows kind (p % 128 * 16777216 + q * 65536 + r * 256) (number_31 p q r (last_of kind)) test refl)

pub suited_bytes : (kind n : ℕ) → AreBytes (last_of kind ∷ replicate n 0)
suited_bytes kind n = (last_is_byte kind, zeros n)

high_test : (kind m n : ℕ) → m ≡ n → (is_of_connection kind && nat_lt 0 m) ≡ false → (is_of_connection kind && nat_lt 0 n) ≡ false
high_test kind m n e h = rw (← e) h

prefix_4 : (a b c kind : ℕ) → number_24 a b c ≤ 16384 → kind_allows_length kind (number_24 a b c) ≡ true → IsProperPrefix (a ∷ b ∷ c ∷ kind ∷ [])
prefix_4 a b c kind size by_kind = record {
  next = 0;
  more = 0 ∷ 0 ∷ 0 ∷ last_of kind ∷ replicate (number_24 a b c) 0;
  are_bytes = (lit< tt, (lit< tt, (lit< tt, (lit< tt, suited_bytes kind (number_24 a b c)))));
  frame = record { kind = kind; flags = 0; stream = number_31 0 0 0 (last_of kind); payload = replicate (number_24 a b c) 0 };
  is_frame = suited a b c kind 0 0 0 0 size by_kind (plain_flags kind (number_24 a b c)) (not_yet kind);
}

prefix_5 : (a b c kind flags : ℕ) → number_24 a b c ≤ 16384 → kind_allows_length kind (number_24 a b c) ≡ true → flags_allow_length kind flags (number_24 a b c) ≡ true → IsProperPrefix (a ∷ b ∷ c ∷ kind ∷ flags ∷ [])
prefix_5 a b c kind flags size by_kind by_flags = record {
  next = 0;
  more = 0 ∷ 0 ∷ last_of kind ∷ replicate (number_24 a b c) 0;
  are_bytes = (lit< tt, (lit< tt, (lit< tt, suited_bytes kind (number_24 a b c))));
  frame = record { kind = kind; flags = flags; stream = number_31 0 0 0 (last_of kind); payload = replicate (number_24 a b c) 0 };
  is_frame = suited a b c kind flags 0 0 0 size by_kind by_flags (not_yet kind);
}

prefix_6 : (a b c kind flags p : ℕ) → number_24 a b c ≤ 16384 → kind_allows_length kind (number_24 a b c) ≡ true → flags_allow_length kind flags (number_24 a b c) ≡ true → (is_of_connection kind && nat_lt 0 (p % 128 * 16777216)) ≡ false → IsProperPrefix (a ∷ b ∷ c ∷ kind ∷ flags ∷ p ∷ [])
prefix_6 a b c kind flags p size by_kind by_flags test = record {
  next = 0;
  more = 0 ∷ last_of kind ∷ replicate (number_24 a b c) 0;
  are_bytes = (lit< tt, (lit< tt, suited_bytes kind (number_24 a b c)));
  frame = record { kind = kind; flags = flags; stream = number_31 p 0 0 (last_of kind); payload = replicate (number_24 a b c) 0 };
  is_frame = suited a b c kind flags p 0 0 size by_kind by_flags (high_test kind (p % 128 * 16777216) (p % 128 * 16777216 + 0 * 65536 + 0 * 256) (omega arith) test);
}

prefix_7 : (a b c kind flags p q : ℕ) → number_24 a b c ≤ 16384 → kind_allows_length kind (number_24 a b c) ≡ true → flags_allow_length kind flags (number_24 a b c) ≡ true → (is_of_connection kind && nat_lt 0 (p % 128 * 16777216 + q * 65536)) ≡ false → IsProperPrefix (a ∷ b ∷ c ∷ kind ∷ flags ∷ p ∷ q ∷ [])
prefix_7 a b c kind flags p q size by_kind by_flags test = record {
  next = 0;
  more = last_of kind ∷ replicate (number_24 a b c) 0;
  are_bytes = (lit< tt, suited_bytes kind (number_24 a b c));
  frame = record { kind = kind; flags = flags; stream = number_31 p q 0 (last_of kind); payload = replicate (number_24 a b c) 0 };
  is_frame = suited a b c kind flags p q 0 size by_kind by_flags (high_test kind (p % 128 * 16777216 + q * 65536) (p % 128 * 16777216 + q * 65536 + 0 * 256) (omega arith) test);
}

prefix_8 : (a b c kind flags p q r : ℕ) → number_24 a b c ≤ 16384 → kind_allows_length kind (number_24 a b c) ≡ true → flags_allow_length kind flags (number_24 a b c) ≡ true → (is_of_connection kind && nat_lt 0 (p % 128 * 16777216 + q * 65536 + r * 256)) ≡ false → IsProperPrefix (a ∷ b ∷ c ∷ kind ∷ flags ∷ p ∷ q ∷ r ∷ [])
prefix_8 a b c kind flags p q r size by_kind by_flags test = record {
  next = last_of kind;
  more = replicate (number_24 a b c) 0;
  are_bytes = suited_bytes kind (number_24 a b c);
  frame = record { kind = kind; flags = flags; stream = number_31 p q r (last_of kind); payload = replicate (number_24 a b c) 0 };
  is_frame = suited a b c kind flags p q r size by_kind by_flags test;
}

-- the byte that fills up a payload: an increment must not be 0
abbrev pub fill_of : ℕ → ℕ
fill_of kind = cond (kind == 8) 1 0

fill_is_byte : (kind : ℕ) → fill_of kind < 256
fill_is_byte kind = elim (kind == 8) as (λ b. cond b 1 0 < 256) [ true ↦ lit< tt | false ↦ lit< tt ]

fill_padding : (kind flags len : ℕ) → flags_allow_length kind flags len ≡ true → (is_padded kind flags && nat_lt (len - fields_size kind flags) (fill_of kind)) ≡ false
fill_padding kind flags len h = grind (arith, nat_tests)

filled_padding : (kind flags len n : ℕ) (t : List ℕ) → flags_allow_length kind flags len ≡ true → is_overpadded kind flags len t ≡ false → is_overpadded kind flags len (t ++ replicate n (fill_of kind)) ≡ false
filled_padding kind flags len zero [] by_flags h = refl
filled_padding kind flags len (suc n) [] by_flags h = fill_padding kind flags len by_flags
filled_padding kind flags len n (x ∷ t) by_flags h = h

update_length : (kind len : ℕ) → (kind == 8) ≡ true → kind_allows_length kind len ≡ true → len ≡ 4
update_length kind len e h = grind (arith, nat_tests)

some_growth : (kind stream a b c d : ℕ) → 1 ≤ d → ((kind == 8) && (stream == 0) && (number_31 a b c d == 0)) ≡ false
some_growth kind stream a b c d h = grind (arith, nat_tests)

ones_grow : (kind stream n : ℕ) (t : List ℕ) → length t + n ≡ 4 → 1 ≤ n → is_zero_update kind stream (t ++ replicate n 1) ≡ false
ones_grow kind stream n [] e more = let n_is : n ≡ 4 = omega arith in rw n_is (some_growth kind stream 1 1 1 1 (lit≤ tt))
ones_grow kind stream n (a ∷ []) e more = let n_is : n ≡ 3 = omega arith in rw n_is (some_growth kind stream a 1 1 1 (lit≤ tt))
ones_grow kind stream n (a ∷ b ∷ []) e more = let n_is : n ≡ 2 = omega arith in rw n_is (some_growth kind stream a b 1 1 (lit≤ tt))
ones_grow kind stream n (a ∷ b ∷ c ∷ []) e more = let n_is : n ≡ 1 = omega arith in rw n_is (some_growth kind stream a b c 1 (lit≤ tt))
ones_grow kind stream n (a ∷ b ∷ c ∷ d ∷ t) e more = let no : ⊥ = omega arith in absurd no

filled_growth : (kind stream len n : ℕ) (t : List ℕ) (b : Bool) → (kind == 8) ≡ b → length t + n ≡ len → 1 ≤ n → kind_allows_length kind len ≡ true → is_zero_update kind stream (t ++ replicate n (cond b 1 0)) ≡ false
filled_growth kind stream len n t true is e more by_kind = ones_grow kind stream n t (e ∙ update_length kind len is by_kind) more
filled_growth kind stream len n t false is e more by_kind = no_growth kind stream is (t ++ replicate n 0)

prefix_9 : (a b c kind flags p q r s m : ℕ) (t : List ℕ) → length t + suc m ≡ number_24 a b c → number_24 a b c ≤ 16384 → kind_allows_length kind (number_24 a b c) ≡ true → flags_allow_length kind flags (number_24 a b c) ≡ true → kind_allows_stream kind (number_31 p q r s) ≡ true → is_overpadded kind flags (number_24 a b c) t ≡ false
    → IsProperPrefix (a ∷ b ∷ c ∷ kind ∷ flags ∷ p ∷ q ∷ r ∷ s ∷ t)
prefix_9 a b c kind flags p q r s m t e size by_kind by_flags by_stream padding =
    let payload : List ℕ = t ++ replicate (suc m) (fill_of kind) in
    let size_is : length (t ++ replicate (suc m) (fill_of kind)) ≡ number_24 a b c =
    length-append t (replicate (suc m) (fill_of kind)) ∙ ap (λ (n : ℕ). length t + n) (length-replicate (suc m) (fill_of kind)) ∙ e in
    record {
      next = fill_of kind;
      more = replicate m (fill_of kind);
      are_bytes = (fill_is_byte kind, copies_are_bytes m (fill_of kind) (fill_is_byte kind));
      frame = record { kind = kind; flags = flags; stream = number_31 p q r s; payload = t ++ replicate (suc m) (fill_of kind) };
      is_frame = frame_of a b c kind flags p q r s (t ++ replicate (suc m) (fill_of kind)) size_is (record {
        size = size;
        by_kind = by_kind;
        by_flags = by_flags;
        by_stream = by_stream;
        padding = filled_padding kind flags (number_24 a b c) (suc m) t by_flags padding;
        growth = filled_growth kind (number_31 p q r s) (number_24 a b c) (suc m) t (kind == 8) refl e (omega arith) by_kind;
      });
    }

pub record Short (len kind flags stream : ℕ) (t : List ℕ) : Type 0 where
  pub padding : is_overpadded kind flags len t ≡ false
  pub short : length t < len

less_than : (m n : ℕ) → nat_le m n ≡ false → n < m
less_than m n h = grind (arith, nat_tests)

no_end : (b : Bool) (f : FrameSeen) (n : ℕ) → cond b (Whole f n) Partial ≡ Partial → b ≡ false
no_end true f n h = (cc)
no_end false f n h = refl

short_of : (len kind flags stream : ℕ) (t : List ℕ) → reading_of_payload len kind flags stream t ≡ Partial → Short len kind flags stream t
short_of len kind flags stream t h =
    let said : FrameSeen = record { kind = kind; flags = flags; stream = stream; payload = take len t } in
    let one = past_else (is_overpadded kind flags len t) (Fault 1) (cond (is_zero_update kind stream t) (Fault 1) (cond (nat_le len (length t)) (Whole said (9 + len)) Partial)) Partial (no_partial 1) h in
    let two = past_else (is_zero_update kind stream t) (Fault 1) (cond (nat_le len (length t)) (Whole said (9 + len)) Partial) Partial (no_partial 1) one.1 in
    record { padding = one.0; short = less_than len (length t) (no_end (nat_le len (length t)) said (9 + len) two.1) }

short_by : (n len : ℕ) → n < len → (m : ℕ) × (n + suc m ≡ len)
short_by n len h = (len - n - 1, omega arith)

-- what is read as less than a frame can go on to be one
pub partial_is_prefix : (t : List ℕ) → reading_of t ≡ Partial → IsProperPrefix t
partial_is_prefix [] h = prefix_0
partial_is_prefix (a ∷ []) h = prefix_1 a (grind (arith, nat_tests))
partial_is_prefix (a ∷ b ∷ []) h = prefix_2 a b (grind (arith, nat_tests))
partial_is_prefix (a ∷ b ∷ c ∷ []) h = prefix_3 a b c (grind (arith, nat_tests))
partial_is_prefix (a ∷ b ∷ c ∷ kind ∷ []) h = prefix_4 a b c kind (grind (arith, nat_tests)) (grind (arith, nat_tests))
partial_is_prefix (a ∷ b ∷ c ∷ kind ∷ flags ∷ []) h = prefix_5 a b c kind flags (grind (arith, nat_tests)) (grind (arith, nat_tests)) (grind (arith, nat_tests))
partial_is_prefix (a ∷ b ∷ c ∷ kind ∷ flags ∷ p ∷ []) h = prefix_6 a b c kind flags p (grind (arith, nat_tests)) (grind (arith, nat_tests)) (grind (arith, nat_tests)) (grind (arith, nat_tests))
partial_is_prefix (a ∷ b ∷ c ∷ kind ∷ flags ∷ p ∷ q ∷ []) h = prefix_7 a b c kind flags p q (grind (arith, nat_tests)) (grind (arith, nat_tests)) (grind (arith, nat_tests)) (grind (arith, nat_tests))
partial_is_prefix (a ∷ b ∷ c ∷ kind ∷ flags ∷ p ∷ q ∷ r ∷ []) h = prefix_8 a b c kind flags p q r (grind (arith, nat_tests)) (grind (arith, nat_tests)) (grind (arith, nat_tests)) (grind (arith, nat_tests))
partial_is_prefix (a ∷ b ∷ c ∷ kind ∷ flags ∷ p ∷ q ∷ r ∷ s ∷ t) h =
    let header = header_of a b c kind flags p q r s t Partial no_partial h in
    let short = short_of (number_24 a b c) kind flags (number_31 p q r s) t header.body in
    let left = short_by (length t) (number_24 a b c) short.short in
    prefix_9 a b c kind flags p q r s left.0 t left.1 header.size header.by_kind header.by_flags header.by_stream short.padding
