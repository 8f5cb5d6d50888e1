-- A header that is there whole is read at once.
use Rattle.std.proofs.Common.{◌≡◌, ℕ, ◌+◌, ◌*◌, ◌%◌, ◌<◌, ◌≤◌, Bool, true, false, cond, List, [], ◌∷◌, ◌++◌, length, take, drop, ◌-◌, ◌/◌, ◌^◌, refl, ap, ◌∙◌, arith}
use Rattle.std.proofs.lemmas.Bool.Decides.{nat_tests}
use Rattle.std.proofs.lemmas.Grind.{and_numeral}
use Rattle.std.proofs.lemmas.List.{take_all}
use Rattle.std.specs.Int.{w32, to_be_bytes}
use Rattle.std.specs.Prelude.{nat_lt, ◌&&◌, slice_index_or, bit_and}
use Rattle.h2_frame.specs.Frames.{number_24, number_31, bytes_24, bytes_32, is_of_connection, kind_allows_stream, kind_allows_length, flags_allow_length, payload_limit}
use Rattle.h2_frame.specs.Readings.{Reading, Fault, reading_of_payload, reading_6, reading_3, reading_of}
use Rattle.h2_frame.specs.Steps.{reading_of_header}

-- an earlier test that says what a later one says
reported_before : (b c : Bool) (x y : Reading) → (b ≡ true → c ≡ true) → cond b x (cond c x y) ≡ cond c x y
reported_before true true x y so = refl
reported_before true false x y so = let no : false ≡ true = so refl in absurd (cc)
reported_before false c x y so = refl

reported_before_then : (b c : Bool) (x y : Reading) → (b ≡ true → c ≡ false) → cond b x (cond c y x) ≡ cond c y x
reported_before_then true false x y so = refl
reported_before_then true true x y so = let no : true ≡ false = so refl in absurd (cc)
reported_before_then false c x y so = refl

higher_reports : (part whole : ℕ) → part ≤ whole → nat_lt payload_limit part ≡ true → nat_lt payload_limit whole ≡ true
higher_reports part whole le h = grind (arith, nat_tests)

stream_reports : (kind part whole : ℕ) → part ≤ whole → (is_of_connection kind && nat_lt 0 part) ≡ true → kind_allows_stream kind whole ≡ false
stream_reports kind part whole le h = grind (arith, nat_tests)

afterwards : (b : Bool) (x y z : Reading) → y ≡ z → cond b x y ≡ cond b x z
afterwards b x y z e = ap (λ (r : Reading). cond b x r) e

after_then : (b : Bool) (x y z : Reading) → y ≡ z → cond b y x ≡ cond b z x
after_then b x y z e = ap (λ (r : Reading). cond b r x) e

-- the four bytes of a stream's number
stream_at_once : (len kind flags p q r s : ℕ) (t : List ℕ) → reading_6 len kind flags (p ∷ q ∷ r ∷ s ∷ t) ≡ cond (kind_allows_stream kind (number_31 p q r s)) (reading_of_payload len kind flags (number_31 p q r s) t) (Fault 1)
stream_at_once len kind flags p q r s t =
    let last : Reading = cond (kind_allows_stream kind (number_31 p q r s)) (reading_of_payload len kind flags (number_31 p q r s) t) (Fault 1) in
    let eight = reported_before_then (is_of_connection kind && nat_lt 0 (p % 128 * 16777216 + q * 65536 + r * 256)) (kind_allows_stream kind (number_31 p q r s)) (Fault 1) (reading_of_payload len kind flags (number_31 p q r s) t) (stream_reports kind (p % 128 * 16777216 + q * 65536 + r * 256) (number_31 p q r s) (omega arith)) in
    let seven = reported_before_then (is_of_connection kind && nat_lt 0 (p % 128 * 16777216 + q * 65536)) (kind_allows_stream kind (number_31 p q r s)) (Fault 1) (reading_of_payload len kind flags (number_31 p q r s) t) (stream_reports kind (p % 128 * 16777216 + q * 65536) (number_31 p q r s) (omega arith)) in
    let six = reported_before_then (is_of_connection kind && nat_lt 0 (p % 128 * 16777216)) (kind_allows_stream kind (number_31 p q r s)) (Fault 1) (reading_of_payload len kind flags (number_31 p q r s) t) (stream_reports kind (p % 128 * 16777216) (number_31 p q r s) (omega arith)) in
    afterwards (is_of_connection kind && nat_lt 0 (p % 128 * 16777216)) (Fault 1) _ last
    (afterwards (is_of_connection kind && nat_lt 0 (p % 128 * 16777216 + q * 65536)) (Fault 1) _ last eight ∙ seven) ∙ six

-- and the three of a length
pub header_at_once : (a b c kind flags p q r s : ℕ) (t : List ℕ) → reading_of (a ∷ b ∷ c ∷ kind ∷ flags ∷ p ∷ q ∷ r ∷ s ∷ t) ≡ reading_of_header (number_24 a b c) kind flags (number_31 p q r s) t
header_at_once a b c kind flags p q r s t =
    let body : Reading = cond (kind_allows_stream kind (number_31 p q r s)) (reading_of_payload (number_24 a b c) kind flags (number_31 p q r s) t) (Fault 1) in
    let rules : Reading = cond (kind_allows_length kind (number_24 a b c)) (cond (flags_allow_length kind flags (number_24 a b c)) body (Fault 6)) (Fault 6) in
    let whole : Reading = cond (nat_lt payload_limit (number_24 a b c)) (Fault 6) rules in
    let three : reading_3 (a * 65536 + b * 256) (c ∷ kind ∷ flags ∷ p ∷ q ∷ r ∷ s ∷ t) ≡ whole =
    afterwards (nat_lt payload_limit (number_24 a b c)) (Fault 6) _ rules
    (after_then (kind_allows_length kind (number_24 a b c)) (Fault 6) _ _
    (after_then (flags_allow_length kind flags (number_24 a b c)) (Fault 6) _ _ (stream_at_once (number_24 a b c) kind flags p q r s t))) in
    let two = reported_before (nat_lt payload_limit (a * 65536 + b * 256)) (nat_lt payload_limit (number_24 a b c)) (Fault 6) rules (higher_reports (a * 65536 + b * 256) (number_24 a b c) (omega arith)) in
    let one = reported_before (nat_lt payload_limit (a * 65536)) (nat_lt payload_limit (number_24 a b c)) (Fault 6) rules (higher_reports (a * 65536) (number_24 a b c) (omega arith)) in
    afterwards (nat_lt payload_limit (a * 65536)) (Fault 6) _ whole
    (afterwards (nat_lt payload_limit (a * 65536 + b * 256)) (Fault 6) _ whole three ∙ two) ∙ one

same_reading : (len len' kind flags stream stream' : ℕ) (t t' : List ℕ) → len' ≡ len → stream' ≡ stream → t' ≡ t → reading_of_header len kind flags stream t ≡ reading_of_header len' kind flags stream' t'
same_reading len len' kind flags stream stream' t t' e f g = rw (e, f, g) refl

-- the reserved bit is ignored
number_31_of : (p q r s n : ℕ) → q < 256 → r < 256 → s < 256 → n ≡ p * 16777216 + q * 65536 + r * 256 + s → bit_and n 2147483647 ≡ number_31 p q r s
number_31_of p q r s n q' r' s' e = let low : bit_and n 2147483647 ≡ n % 2147483648 = and_numeral n 2147483646 refl in omega arith

-- nine bytes that are taken out of a list, and what is after them
pub prefix_at_once : (t : List ℕ) (len stream : ℕ) → 9 ≤ length t → ((i : ℕ) → slice_index_or t i 0 < 256)
    → len ≡ 0 + slice_index_or t 0 0 * 65536 + slice_index_or t 1 0 * 256 + slice_index_or t 2 0
    → stream ≡ slice_index_or t 5 0 * 16777216 + slice_index_or t 6 0 * 65536 + slice_index_or t 7 0 * 256 + slice_index_or t 8 0
    → reading_of t ≡ reading_of_header len (slice_index_or t 3 0) (slice_index_or t 4 0) (bit_and stream 2147483647) (take (length t - 9) (drop 9 t))
prefix_at_once (a ∷ b ∷ c ∷ kind ∷ flags ∷ p ∷ q ∷ r ∷ s ∷ t) len stream le bytes len_is stream_is =
    let all : length (a ∷ b ∷ c ∷ kind ∷ flags ∷ p ∷ q ∷ r ∷ s ∷ t) - 9 ≡ length t = omega arith in
    header_at_once a b c kind flags p q r s t
    ∙ same_reading (number_24 a b c) len kind flags (number_31 p q r s) (bit_and stream 2147483647) t (take (length (a ∷ b ∷ c ∷ kind ∷ flags ∷ p ∷ q ∷ r ∷ s ∷ t) - 9) t) (omega (arith, len_is))
    (number_31_of p q r s stream (bytes 6) (bytes 7) (bytes 8) stream_is)
    (ap (λ (n : ℕ). take n t) all ∙ take_all (length t) t (omega arith))
prefix_at_once t len stream le bytes len_is stream_is = let no : ⊥ = omega arith in absurd no

-- the bytes of a header that is written
pub header_written : (len kind flags stream : ℕ) (low high : List ℕ) → low ≡ to_be_bytes w32 len → high ≡ to_be_bytes w32 stream → len ≤ 16384 → stream < 2 ^ 31
    → slice_index_or low 1 0 ∷ slice_index_or low 2 0 ∷ slice_index_or low 3 0 ∷ kind ∷ flags ∷ slice_index_or high 0 0 ∷ slice_index_or high 1 0 ∷ slice_index_or high 2 0 ∷ slice_index_or high 3 0 ∷ [] ≡ bytes_24 len ++ kind ∷ flags ∷ bytes_32 stream
header_written len kind flags stream low high p q size range =
    let a : len / 65536 % 256 ≡ len / 65536 = omega arith in
    let d : stream / 16777216 % 256 ≡ stream / 16777216 = omega arith in
    rw (p, q, a, d) refl
