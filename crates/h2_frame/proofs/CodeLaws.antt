-- The code of a fault is that of the first rule that the bytes break.
use Rattle.std.proofs.Common.{◌≡◌, ℕ, zero, suc, ◌+◌, ◌*◌, ◌%◌, ◌<◌, ◌≤◌, lit<, Bool, true, false, cond, List, [], ◌∷◌, ◌++◌, length, take, refl, ap, sym, ◌∙◌, subst, arith, inl, inr, ◌⊎◌}
use Rattle.std.proofs.lemmas.Bool.Decides.{nat_tests}
use Rattle.std.proofs.lemmas.Bool.{false≢true}
use Rattle.std.proofs.lemmas.List.{length-replicate}
use Rattle.std.specs.Prelude.{nat_lt, nat_le, ◌&&◌, not, IsTrue, replicate}
use Rattle.h2_frame.specs.Frames.{FrameSeen, Spells, keeps_protocol, keeps_sizes, number_24, number_31, is_overpadded, is_zero_update, is_of_connection, kind_allows_stream, kind_allows_length, flags_allow_length, payload_limit}
use Rattle.h2_frame.specs.Readings.{Reading, Whole, Partial, Fault, Breaks, CanKeep, IsCode, is_fault, reading_of_payload, reading_9, reading_8, reading_7, reading_6, reading_5, reading_4, reading_3, reading_2, reading_of}
use Rattle.h2_frame.proofs.FaultLaws.{fault_stays}
use Rattle.h2_frame.proofs.FrameLaws.{stream_so_far, fits_so_far}
use Rattle.h2_frame.proofs.PrefixLaws.{AreBytes, suited_bytes, last_of, last_suits, last_grows, not_yet, no_growth_there}

-- a test whose fault has this code, before a rest with no other
or_rest : (b : Bool) (code : ℕ) (y : Reading) (c : ℕ) → (y ≡ Fault c → c ≡ code) → cond b (Fault code) y ≡ Fault c → c ≡ code
or_rest true code y c rest h = (cc)
or_rest false code y c rest h = rest h

rest_or : (b : Bool) (code : ℕ) (y : Reading) (c : ℕ) → (y ≡ Fault c → c ≡ code) → cond b y (Fault code) ≡ Fault c → c ≡ code
rest_or true code y c rest h = rest h
rest_or false code y c rest h = (cc)

-- a test that does not fail
passed : (b : Bool) (x y : Reading) (c code : ℕ) → b ≡ false → (y ≡ Fault c → c ≡ code) → cond b x y ≡ Fault c → c ≡ code
passed b x y c code e rest h = let h' : y ≡ Fault c = rw e at h in rest h'

passed_then : (b : Bool) (x y : Reading) (c code : ℕ) → b ≡ true → (y ≡ Fault c → c ≡ code) → cond b y x ≡ Fault c → c ≡ code
passed_then b x y c code e rest h = let h' : y ≡ Fault c = rw e at h in rest h'

end_is_none : (b : Bool) (f : FrameSeen) (n c code : ℕ) → cond b (Whole f n) Partial ≡ Fault c → c ≡ code
end_is_none true f n c code h = (cc)
end_is_none false f n c code h = (cc)

-- after the flags every fault is one of the protocol
payload_code : (len kind flags stream : ℕ) (t : List ℕ) (c : ℕ) → reading_of_payload len kind flags stream t ≡ Fault c → c ≡ 1
payload_code len kind flags stream t c =
    or_rest (is_overpadded kind flags len t) 1 _ c (or_rest (is_zero_update kind stream t) 1 _ c (end_is_none (nat_le len (length t)) _ _ c 1))

code_9 : (len kind flags high : ℕ) (t : List ℕ) (c : ℕ) → reading_9 len kind flags high t ≡ Fault c → c ≡ 1
code_9 len kind flags high [] c h = (cc)
code_9 len kind flags high (s ∷ t) c h = rest_or (kind_allows_stream kind (high + s)) 1 _ c (payload_code len kind flags (high + s) t c) h

code_8 : (len kind flags high : ℕ) (t : List ℕ) (c : ℕ) → reading_8 len kind flags high t ≡ Fault c → c ≡ 1
code_8 len kind flags high [] c h = (cc)
code_8 len kind flags high (r ∷ t) c h = or_rest (is_of_connection kind && nat_lt 0 (high + r * 256)) 1 _ c (code_9 len kind flags (high + r * 256) t c) h

code_7 : (len kind flags high : ℕ) (t : List ℕ) (c : ℕ) → reading_7 len kind flags high t ≡ Fault c → c ≡ 1
code_7 len kind flags high [] c h = (cc)
code_7 len kind flags high (q ∷ t) c h = or_rest (is_of_connection kind && nat_lt 0 (high + q * 65536)) 1 _ c (code_8 len kind flags (high + q * 65536) t c) h

code_6 : (len kind flags : ℕ) (t : List ℕ) (c : ℕ) → reading_6 len kind flags t ≡ Fault c → c ≡ 1
code_6 len kind flags [] c h = (cc)
code_6 len kind flags (p ∷ t) c h = or_rest (is_of_connection kind && nat_lt 0 (p % 128 * 16777216)) 1 _ c (code_7 len kind flags (p % 128 * 16777216) t c) h

three_tests : (a b c : Bool) → IsTrue (a && b && c) → (a ≡ true) × (b ≡ true) × (c ≡ true)
three_tests true true true h = (refl, refl, refl)
three_tests a b c h = absurd (false≢true h)

two_negated : (a b c : Bool) → IsTrue (a && not b && not c) → (a ≡ true) × (b ≡ false) × (c ≡ false)
two_negated true false false h = (refl, refl, refl)
two_negated a b c h = absurd (false≢true h)

two_negated_hold : (a b c : Bool) → a ≡ true → b ≡ false → c ≡ false → IsTrue (a && not b && not c)
two_negated_hold a b c p q r = rw (p, q, r) refl

within : (n : ℕ) → nat_le n payload_limit ≡ true → n ≤ 16384
within n h = grind (arith, nat_tests)

-- a whole text that keeps the sizes has no fault but one of the protocol
sizes_kept : (text : List ℕ) (f : FrameSeen) (code : ℕ) → Spells text f → IsTrue (keeps_sizes f) → reading_of text ≡ Fault code → code ≡ 1
sizes_kept (a ∷ b ∷ c ∷ kind ∷ flags ∷ p ∷ q ∷ r ∷ s ∷ payload) f code spells kept h =
    let said : FrameSeen = record { kind = kind; flags = flags; stream = number_31 p q r s; payload = payload } in
    let Kept : FrameSeen → Type 0 = λ g. IsTrue (keeps_sizes g) in
    let kept' : IsTrue (keeps_sizes said) = subst Kept spells.1 kept in
    let three = three_tests (nat_le (length payload) payload_limit) (kind_allows_length kind (length payload)) (flags_allow_length kind flags (length payload)) kept' in
    let Small : ℕ → Type 0 = λ n. nat_le n payload_limit ≡ true in
    let size : number_24 a b c ≤ 16384 = within (number_24 a b c) (subst Small spells.0 three.0) in
    let ByKind : ℕ → Type 0 = λ n. kind_allows_length kind n ≡ true in
    let ByFlags : ℕ → Type 0 = λ n. flags_allow_length kind flags n ≡ true in
    passed (nat_lt payload_limit (a * 65536)) _ _ code 1 (fits_so_far (a * 65536) (number_24 a b c) (omega arith) size)
    (passed (nat_lt payload_limit (a * 65536 + b * 256)) _ _ code 1 (fits_so_far (a * 65536 + b * 256) (number_24 a b c) (omega arith) size)
    (passed (nat_lt payload_limit (number_24 a b c)) _ _ code 1 (fits_so_far (number_24 a b c) (number_24 a b c) (omega arith) size)
    (passed_then (kind_allows_length kind (number_24 a b c)) _ _ code 1 (subst ByKind spells.0 three.1)
    (passed_then (flags_allow_length kind flags (number_24 a b c)) _ _ code 1 (subst ByFlags spells.0 three.2)
    (code_6 (number_24 a b c) kind flags (p ∷ q ∷ r ∷ s ∷ payload) code))))) h
sizes_kept text f code spells kept h = absurd spells

-- a whole text that keeps the protocol has no fault but one of a size
protocol_kept : (text : List ℕ) (f : FrameSeen) (code : ℕ) → Spells text f → IsTrue (keeps_protocol f) → reading_of text ≡ Fault code → code ≡ 6
protocol_kept (a ∷ b ∷ c ∷ kind ∷ flags ∷ p ∷ q ∷ r ∷ s ∷ payload) f code spells kept h =
    let said : FrameSeen = record { kind = kind; flags = flags; stream = number_31 p q r s; payload = payload } in
    let Kept : FrameSeen → Type 0 = λ g. IsTrue (keeps_protocol g) in
    let kept' : IsTrue (keeps_protocol said) = subst Kept spells.1 kept in
    let three = two_negated (kind_allows_stream kind (number_31 p q r s)) (is_overpadded kind flags (length payload) payload) (is_zero_update kind (number_31 p q r s) payload) kept' in
    let Padded : ℕ → Type 0 = λ n. is_overpadded kind flags n payload ≡ false in
    let padding : is_overpadded kind flags (number_24 a b c) payload ≡ false = subst Padded spells.0 three.1 in
    or_rest (nat_lt payload_limit (a * 65536)) 6 _ code
    (or_rest (nat_lt payload_limit (a * 65536 + b * 256)) 6 _ code
    (or_rest (nat_lt payload_limit (number_24 a b c)) 6 _ code
    (rest_or (kind_allows_length kind (number_24 a b c)) 6 _ code
    (rest_or (flags_allow_length kind flags (number_24 a b c)) 6 _ code
    (passed (is_of_connection kind && nat_lt 0 (p % 128 * 16777216)) _ _ code 6 (stream_so_far kind (p % 128 * 16777216) (number_31 p q r s) (omega arith) three.0)
    (passed (is_of_connection kind && nat_lt 0 (p % 128 * 16777216 + q * 65536)) _ _ code 6 (stream_so_far kind (p % 128 * 16777216 + q * 65536) (number_31 p q r s) (omega arith) three.0)
    (passed (is_of_connection kind && nat_lt 0 (p % 128 * 16777216 + q * 65536 + r * 256)) _ _ code 6 (stream_so_far kind (p % 128 * 16777216 + q * 65536 + r * 256) (number_31 p q r s) (omega arith) three.0)
    (passed_then (kind_allows_stream kind (number_31 p q r s)) _ _ code 6 three.0
    (passed (is_overpadded kind flags (number_24 a b c) payload) _ _ code 6 padding
    (passed (is_zero_update kind (number_31 p q r s) payload) _ _ code 6 three.2
    (end_is_none (nat_le (number_24 a b c) (length payload)) _ _ code 6))))))))))) h
protocol_kept text f code spells kept h = absurd spells

one_is_not_six : (m n : ℕ) → m ≡ 1 → n ≡ 6 → m ≡ n → ⊥
one_is_not_six m n one six e = omega arith

breaks_protocol : (t : List ℕ) → reading_of t ≡ Fault 1 → Breaks keeps_protocol t
breaks_protocol t h more f spells kept = one_is_not_six 1 6 refl refl (protocol_kept (t ++ more) f 1 spells kept (fault_stays t more 1 h))

breaks_sizes : (t : List ℕ) → reading_of t ≡ Fault 6 → Breaks keeps_sizes t
breaks_sizes t h more f spells kept = one_is_not_six 1 6 refl refl (sym (sizes_kept (t ++ more) f 6 spells kept (fault_stays t more 6 h)))

-- padding of 0 is never too long
zeros_unpadded : (kind flags len n : ℕ) → is_overpadded kind flags len (replicate n 0) ≡ false
zeros_unpadded kind flags len zero = refl
zeros_unpadded kind flags len (suc n) = grind (arith, nat_tests)

-- whatever its length, a header goes on so that it keeps the protocol
zeros_keep : (a b c kind flags : ℕ) → IsTrue (keeps_protocol (record { kind = kind; flags = flags; stream = number_31 0 0 0 (last_of kind); payload = replicate (number_24 a b c) 0 }))
zeros_keep a b c kind flags =
    two_negated_hold (kind_allows_stream kind (number_31 0 0 0 (last_of kind))) (is_overpadded kind flags (length (replicate (number_24 a b c) 0)) (replicate (number_24 a b c) 0)) (is_zero_update kind (number_31 0 0 0 (last_of kind)) (replicate (number_24 a b c) 0))
    (last_suits kind 0 (number_31 0 0 0 (last_of kind)) (not_yet kind) (omega arith))
    (zeros_unpadded kind flags (length (replicate (number_24 a b c) 0)) (number_24 a b c))
    (no_growth_there kind (number_31 0 0 0 (last_of kind)) (last_grows kind 0 (number_31 0 0 0 (last_of kind)) (not_yet kind) (omega arith)) (replicate (number_24 a b c) 0))

keep_by : (t more : List ℕ) (a b c kind flags : ℕ) → AreBytes more → t ++ more ≡ a ∷ b ∷ c ∷ kind ∷ flags ∷ 0 ∷ 0 ∷ 0 ∷ last_of kind ∷ replicate (number_24 a b c) 0 → CanKeep keeps_protocol t
keep_by t more a b c kind flags bytes e =
    let said : FrameSeen = record { kind = kind; flags = flags; stream = number_31 0 0 0 (last_of kind); payload = replicate (number_24 a b c) 0 } in
    let Says : List ℕ → Type 0 = λ xs. Spells xs said in
    record {
      more = more;
      are_bytes = bytes;
      frame = record { kind = kind; flags = flags; stream = number_31 0 0 0 (last_of kind); payload = replicate (number_24 a b c) 0 };
      spells = subst Says (sym e) (length-replicate (number_24 a b c) 0, refl);
      kept = zeros_keep a b c kind flags;
    }

-- a test that showed no fault is after
quiet_else : (b : Bool) (c : ℕ) (y z : Reading) → is_fault (cond b (Fault c) y) ≡ false → (d : ℕ) → cond b (Fault c) z ≡ Fault d → (is_fault y ≡ false) × (z ≡ Fault d)
quiet_else true c y z quiet d h = absurd (false≢true (sym quiet))
quiet_else false c y z quiet d h = (quiet, h)

quiet_then : (b : Bool) (c : ℕ) (y z : Reading) → is_fault (cond b y (Fault c)) ≡ false → (d : ℕ) → cond b z (Fault c) ≡ Fault d → (is_fault y ≡ false) × (z ≡ Fault d)
quiet_then true c y z quiet d h = (quiet, h)
quiet_then false c y z quiet d h = absurd (false≢true (sym quiet))

-- five bytes show every fault of a size
not_by_size : (a b c kind flags : ℕ) (t : List ℕ) → is_fault (reading_of (a ∷ b ∷ c ∷ kind ∷ flags ∷ [])) ≡ false → (code : ℕ) → reading_of (a ∷ b ∷ c ∷ kind ∷ flags ∷ t) ≡ Fault code → reading_6 (number_24 a b c) kind flags t ≡ Fault code
not_by_size a b c kind flags t quiet code h =
    let one = quiet_else (nat_lt payload_limit (a * 65536)) 6 (reading_2 (a * 65536) (b ∷ c ∷ kind ∷ flags ∷ [])) (reading_2 (a * 65536) (b ∷ c ∷ kind ∷ flags ∷ t)) quiet code h in
    let two = quiet_else (nat_lt payload_limit (a * 65536 + b * 256)) 6 (reading_3 (a * 65536 + b * 256) (c ∷ kind ∷ flags ∷ [])) (reading_3 (a * 65536 + b * 256) (c ∷ kind ∷ flags ∷ t)) one.0 code one.1 in
    let three = quiet_else (nat_lt payload_limit (number_24 a b c)) 6 (reading_4 (number_24 a b c) (kind ∷ flags ∷ [])) (reading_4 (number_24 a b c) (kind ∷ flags ∷ t)) two.0 code two.1 in
    let four = quiet_then (kind_allows_length kind (number_24 a b c)) 6 (reading_5 (number_24 a b c) kind (flags ∷ [])) (reading_5 (number_24 a b c) kind (flags ∷ t)) three.0 code three.1 in
    let five = quiet_then (flags_allow_length kind flags (number_24 a b c)) 6 (reading_6 (number_24 a b c) kind flags []) (reading_6 (number_24 a b c) kind flags t) four.0 code four.1 in
    five.1

can_keep_early : (t : List ℕ) → reading_of t ≡ Fault 6 → ((n : ℕ) → n < length t → is_fault (reading_of (take n t)) ≡ false) → CanKeep keeps_protocol t
can_keep_early [] h quiet = keep_by [] (0 ∷ 0 ∷ 0 ∷ 10 ∷ 0 ∷ 0 ∷ 0 ∷ 0 ∷ last_of 10 ∷ replicate (number_24 0 0 0) 0) 0 0 0 10 0 (lit< tt, (lit< tt, (lit< tt, (lit< tt, (lit< tt, (lit< tt, (lit< tt, (lit< tt, suited_bytes 10 (number_24 0 0 0))))))))) refl
can_keep_early (a ∷ []) h quiet = keep_by (a ∷ []) (0 ∷ 0 ∷ 10 ∷ 0 ∷ 0 ∷ 0 ∷ 0 ∷ last_of 10 ∷ replicate (number_24 a 0 0) 0) a 0 0 10 0 (lit< tt, (lit< tt, (lit< tt, (lit< tt, (lit< tt, (lit< tt, (lit< tt, suited_bytes 10 (number_24 a 0 0)))))))) refl
can_keep_early (a ∷ b ∷ []) h quiet = keep_by (a ∷ b ∷ []) (0 ∷ 10 ∷ 0 ∷ 0 ∷ 0 ∷ 0 ∷ last_of 10 ∷ replicate (number_24 a b 0) 0) a b 0 10 0 (lit< tt, (lit< tt, (lit< tt, (lit< tt, (lit< tt, (lit< tt, suited_bytes 10 (number_24 a b 0))))))) refl
can_keep_early (a ∷ b ∷ c ∷ []) h quiet = keep_by (a ∷ b ∷ c ∷ []) (10 ∷ 0 ∷ 0 ∷ 0 ∷ 0 ∷ last_of 10 ∷ replicate (number_24 a b c) 0) a b c 10 0 (lit< tt, (lit< tt, (lit< tt, (lit< tt, (lit< tt, suited_bytes 10 (number_24 a b c)))))) refl
can_keep_early (a ∷ b ∷ c ∷ kind ∷ []) h quiet = keep_by (a ∷ b ∷ c ∷ kind ∷ []) (0 ∷ 0 ∷ 0 ∷ 0 ∷ last_of kind ∷ replicate (number_24 a b c) 0) a b c kind 0 (lit< tt, (lit< tt, (lit< tt, (lit< tt, suited_bytes kind (number_24 a b c))))) refl
can_keep_early (a ∷ b ∷ c ∷ kind ∷ flags ∷ []) h quiet = keep_by (a ∷ b ∷ c ∷ kind ∷ flags ∷ []) (0 ∷ 0 ∷ 0 ∷ last_of kind ∷ replicate (number_24 a b c) 0) a b c kind flags (lit< tt, (lit< tt, (lit< tt, suited_bytes kind (number_24 a b c)))) refl
can_keep_early (a ∷ b ∷ c ∷ kind ∷ flags ∷ p ∷ t) h quiet =
    let early : reading_6 (number_24 a b c) kind flags (p ∷ t) ≡ Fault 6 = not_by_size a b c kind flags (p ∷ t) (quiet 5 (omega arith)) 6 h in
    absurd (one_is_not_six 1 6 refl refl (sym (code_6 (number_24 a b c) kind flags (p ∷ t) 6 early)))

abbrev HasCode : ℕ → Type 0
HasCode code = (code ≡ 1) ⊎ (code ≡ 6)

or_size : (b : Bool) (y : Reading) (c : ℕ) → (y ≡ Fault c → HasCode c) → cond b (Fault 6) y ≡ Fault c → HasCode c
or_size true y c rest h = inr (cc)
or_size false y c rest h = rest h

size_or : (b : Bool) (y : Reading) (c : ℕ) → (y ≡ Fault c → HasCode c) → cond b y (Fault 6) ≡ Fault c → HasCode c
size_or true y c rest h = rest h
size_or false y c rest h = inr (cc)

two_codes_5 : (len kind : ℕ) (t : List ℕ) (c : ℕ) → reading_5 len kind t ≡ Fault c → HasCode c
two_codes_5 len kind [] c h = inl (cc)
two_codes_5 len kind (flags ∷ t) c h = size_or (flags_allow_length kind flags len) _ c (λ e. inl (code_6 len kind flags t c e)) h

two_codes_4 : (len : ℕ) (t : List ℕ) (c : ℕ) → reading_4 len t ≡ Fault c → HasCode c
two_codes_4 len [] c h = inl (cc)
two_codes_4 len (kind ∷ t) c h = size_or (kind_allows_length kind len) _ c (two_codes_5 len kind t c) h

two_codes_3 : (high : ℕ) (t : List ℕ) (c : ℕ) → reading_3 high t ≡ Fault c → HasCode c
two_codes_3 high [] c h = inl (cc)
two_codes_3 high (o ∷ t) c h = or_size (nat_lt payload_limit (high + o)) _ c (two_codes_4 (high + o) t c) h

two_codes_2 : (high : ℕ) (t : List ℕ) (c : ℕ) → reading_2 high t ≡ Fault c → HasCode c
two_codes_2 high [] c h = inl (cc)
two_codes_2 high (b ∷ t) c h = or_size (nat_lt payload_limit (high + b * 256)) _ c (two_codes_3 (high + b * 256) t c) h

-- every fault has one of two codes
two_codes : (t : List ℕ) (code : ℕ) → reading_of t ≡ Fault code → HasCode code
two_codes [] code h = inl (cc)
two_codes (a ∷ t) code h = or_size (nat_lt payload_limit (a * 65536)) _ code (two_codes_2 (a * 65536) t code) h

code_by : (t : List ℕ) (code : ℕ) → reading_of t ≡ Fault code → ((n : ℕ) → n < length t → is_fault (reading_of (take n t)) ≡ false) → (code ≡ 1) ⊎ (code ≡ 6) → IsCode t code
code_by t code h quiet (inl one) =
    let h' : reading_of t ≡ Fault 1 = h ∙ ap Fault one in inl (one, breaks_protocol t h')
code_by t code h quiet (inr six) =
    let h' : reading_of t ≡ Fault 6 = h ∙ ap Fault six in inr (six, breaks_sizes t h', can_keep_early t h' quiet)

-- a fault that shorter bytes do not show has the code of the first rule that is broken
pub code_of : (t : List ℕ) (code : ℕ) → reading_of t ≡ Fault code → ((n : ℕ) → n < length t → is_fault (reading_of (take n t)) ≡ false) → IsCode t code
code_of t code h quiet = code_by t code h quiet (two_codes t code h)

-- no bytes have two codes
pub one_code : (t : List ℕ) (c d : ℕ) → IsCode t c → IsCode t d → c ≡ d
one_code t c d (inl one) (inl also) = one.0 ∙ sym also.0
one_code t c d (inl one) (inr six) = absurd (one.1 six.2.more six.2.frame six.2.spells six.2.kept)
one_code t c d (inr six) (inl one) = absurd (one.1 six.2.more six.2.frame six.2.spells six.2.kept)
one_code t c d (inr six) (inr also) = six.0 ∙ sym also.0
