-- The digits of the kit's tables are those of the definitions, byte by byte.
use Rattle.std.proofs.Common.{◌≡◌, ℕ, zero, suc, ◌/◌, ◌%◌, ◌<◌, ◌==◌, Bool, true, ◌&&◌, List, [], ◌∷◌, ◌++◌, get_or, refl, sym, ap, ◌∙◌, inl, inr, arith, w64}
use Rattle.std.specs.Int.{to_be_bytes}
use Rattle.std.specs.Prelude.{flat_map, slice_index}
use Rattle.std.specs.Str.{bytes_eq}
use Rattle.std.proofs.lemmas.Bool.{and_parts, cases_lt, cases_Bool, cond-false, eqb-true}
use Rattle.std.proofs.lemmas.Slice.Eq.{bytes_eq-Decides}
use Rattle.std.proofs.lemmas.List.{append-nil}
use Rattle.hex.specs.Hex.{encode_lower, encode_with, lower_digits}
use Rattle.percent_encoding.specs.AsciiSet.{should_percent_encode}
use Rattle.percent_encoding.specs.Percent.{encode_byte, percent_encode, percent_encode_byte}
use Rattle.script_fields.specs.Spelling.{lower_digit, hex_digits, percent_byte, percent_text, word_bytes}
use Rattle.script_fields.specs.declared.write.texts.TheConstants.{ESCAPED}

-- ---- hex

abbrev all_same : ℕ → Bool
all_same zero = true
all_same (suc n) = (slice_index lower_digits n == lower_digit n) && all_same n

all_same-at : (n k : ℕ) → all_same n ≡ true → k < n → slice_index lower_digits k ≡ lower_digit k
all_same-at zero k h lt = absurd (omega arith)
all_same-at (suc n) k h lt =
    let parts = and_parts (slice_index lower_digits n == lower_digit n) (all_same n) h in
    elim (cases_lt k n) [
      | inl below ↦ all_same-at n k parts.1 below
      | inr top ↦
          let e : k ≡ n = omega arith in
          rw e (eqb-true (slice_index lower_digits n) (lower_digit n) parts.0)
    ]

digit_same : (d : ℕ) → d < 16 → slice_index lower_digits d ≡ lower_digit d
digit_same d small = all_same-at 16 d refl small

pub hex_same : (bs : List ℕ) → ((i : ℕ) → get_or bs i 0 < 256) → encode_lower bs ≡ hex_digits bs
unfolding encode_with
hex_same [] small = refl
hex_same (b ∷ bs) small =
    let byte : b < 256 = small 0 in
    let high : slice_index lower_digits (b / 16) ≡ lower_digit (b / 16) = digit_same (b / 16) (omega (arith, byte)) in
    let low : slice_index lower_digits (b % 16) ≡ lower_digit (b % 16) = digit_same (b % 16) (omega arith) in
    let rest : encode_lower bs ≡ hex_digits bs = hex_same bs (λ i. small (suc i)) in
    ap (λ (d : ℕ). d ∷ slice_index lower_digits (b % 16) ∷ encode_lower bs) high
    ∙ ap (λ (d : ℕ). lower_digit (b / 16) ∷ d ∷ encode_lower bs) low
    ∙ ap (λ (t : List ℕ). lower_digit (b / 16) ∷ lower_digit (b % 16) ∷ t) rest

-- ---- percent

abbrev all_escaped : ℕ → Bool
all_escaped zero = true
all_escaped (suc n) = bytes_eq (encode_byte ESCAPED n) (percent_byte n) && all_escaped n

all_escaped-at : (n k : ℕ) → all_escaped n ≡ true → k < n → encode_byte ESCAPED k ≡ percent_byte k
all_escaped-at zero k h lt = absurd (omega arith)
all_escaped-at (suc n) k h lt =
    let parts = and_parts (bytes_eq (encode_byte ESCAPED n) (percent_byte n)) (all_escaped n) h in
    elim (cases_lt k n) [
      | inl below ↦ all_escaped-at n k parts.1 below
      | inr top ↦
          let e : k ≡ n = omega arith in
          rw e ((bytes_eq-Decides (encode_byte ESCAPED n) (percent_byte n)).0 parts.0)
    ]

byte_same : (b : ℕ) → b < 256 → encode_byte ESCAPED b ≡ percent_byte b
unfolding should_percent_encode percent_encode_byte
byte_same b small = all_escaped-at 256 b refl small

pub percent_same : (bs : List ℕ) → ((i : ℕ) → get_or bs i 0 < 256) → percent_encode ESCAPED bs ≡ flat_map percent_byte bs
unfolding percent_encode
percent_same [] small = refl
percent_same (b ∷ bs) small =
    let rest : percent_encode ESCAPED bs ≡ flat_map percent_byte bs = percent_same bs (λ i. small (suc i)) in
    ap (λ (t : List ℕ). t ++ percent_encode ESCAPED bs) (byte_same b (small 0))
    ∙ ap (λ (t : List ℕ). percent_byte b ++ t) rest

-- a text that is neither empty nor a dash
pub percent_plain : (text : List ℕ) → (text ≡ [] → ⊥) → (text ≡ 45 ∷ [] → ⊥) → percent_text text ≡ flat_map percent_byte text
percent_plain [] some other = absurd (some refl)
percent_plain (b ∷ []) some other =
    elim (cases_Bool (b == 45)) [
      | inl dash ↦ absurd (other (ap (λ (x : ℕ). x ∷ []) (eqb-true b 45 dash)))
      | inr plain ↦ cond-false _ _ _ plain ∙ sym (append-nil (percent_byte b))
    ]
percent_plain (b ∷ (c ∷ rest)) some other = refl

-- the bytes of a word
pub word_same : (w : ℕ) → to_be_bytes w64 w ≡ word_bytes w
word_same w = refl
