-- A fault stays, whatever follows.
use Rattle.std.proofs.Common.{◌≡◌, ℕ, ◌+◌, ◌*◌, ◌%◌, Bool, true, false, cond, List, [], ◌∷◌, ◌++◌, length, refl}
use Rattle.std.specs.Prelude.{nat_lt, nat_le, ◌&&◌}
use Rattle.h2_frame.specs.Frames.{FrameSeen, is_overpadded, is_zero_update, is_of_connection, kind_allows_stream, kind_allows_length, flags_allow_length, payload_limit}
use Rattle.h2_frame.specs.Readings.{Reading, Whole, Partial, Fault, reading_of_payload, reading_9, reading_8, reading_7, reading_6, reading_5, reading_4, reading_3, reading_2, reading_of}

-- the rest of a reading keeps its fault, so the reading does
after_else : (b : Bool) (x y y' : Reading) (c : ℕ) → (y ≡ Fault c → y' ≡ Fault c) → cond b x y ≡ Fault c → cond b x y' ≡ Fault c
after_else true x y y' c keeps h = h
after_else false x y y' c keeps h = keeps h

after_then : (b : Bool) (x y y' : Reading) (c : ℕ) → (y ≡ Fault c → y' ≡ Fault c) → cond b y x ≡ Fault c → cond b y' x ≡ Fault c
after_then true x y y' c keeps h = keeps h
after_then false x y y' c keeps h = h

-- a payload's end is no fault
no_fault : (b : Bool) (f : FrameSeen) (n c : ℕ) → cond b (Whole f n) Partial ≡ Fault c → ⊥
no_fault true f n c h = (cc)
no_fault false f n c h = (cc)

-- two tests that stay true
both_stay : (o o' z z' : Bool) (x e e' : Reading) (c : ℕ) → (o ≡ true → o' ≡ true) → (z ≡ true → z' ≡ true) → (e ≡ Fault c → ⊥) → cond o x (cond z x e) ≡ Fault c → cond o' x (cond z' x e') ≡ Fault c
both_stay true o' z z' x e e' c over zero whole h = let o_is : o' ≡ true = over refl in rw o_is h
both_stay false true true z' x e e' c over zero whole h = h
both_stay false false true z' x e e' c over zero whole h = let z_is : z' ≡ true = zero refl in rw z_is h
both_stay false o' false z' x e e' c over zero whole h = absurd (whole h)

overpadded_stays : (kind flags len : ℕ) (rest more : List ℕ) → is_overpadded kind flags len rest ≡ true → is_overpadded kind flags len (rest ++ more) ≡ true
overpadded_stays kind flags len [] more h = (cc)
overpadded_stays kind flags len (x ∷ rest) more h = h

zero_update_stays : (kind stream : ℕ) (rest more : List ℕ) → is_zero_update kind stream rest ≡ true → is_zero_update kind stream (rest ++ more) ≡ true
zero_update_stays kind stream [] more h = (cc)
zero_update_stays kind stream (a ∷ []) more h = (cc)
zero_update_stays kind stream (a ∷ b ∷ []) more h = (cc)
zero_update_stays kind stream (a ∷ b ∷ c ∷ []) more h = (cc)
zero_update_stays kind stream (a ∷ b ∷ c ∷ d ∷ rest) more h = h

payload_stays : (len kind flags stream : ℕ) (rest more : List ℕ) (c : ℕ) → reading_of_payload len kind flags stream rest ≡ Fault c → reading_of_payload len kind flags stream (rest ++ more) ≡ Fault c
payload_stays len kind flags stream rest more c h =
    both_stay (is_overpadded kind flags len rest) (is_overpadded kind flags len (rest ++ more)) (is_zero_update kind stream rest) (is_zero_update kind stream (rest ++ more)) _ _ _ c
    (overpadded_stays kind flags len rest more) (zero_update_stays kind stream rest more) (no_fault (nat_le len (length rest)) _ _ c) h

stays_9 : (len kind flags high : ℕ) (t more : List ℕ) (c : ℕ) → reading_9 len kind flags high t ≡ Fault c → reading_9 len kind flags high (t ++ more) ≡ Fault c
stays_9 len kind flags high [] more c h = (cc)
stays_9 len kind flags high (s ∷ t) more c h =
    after_then (kind_allows_stream kind (high + s)) _ _ _ c (payload_stays len kind flags (high + s) t more c) h

stays_8 : (len kind flags high : ℕ) (t more : List ℕ) (c : ℕ) → reading_8 len kind flags high t ≡ Fault c → reading_8 len kind flags high (t ++ more) ≡ Fault c
stays_8 len kind flags high [] more c h = (cc)
stays_8 len kind flags high (r ∷ t) more c h =
    after_else (is_of_connection kind && nat_lt 0 (high + r * 256)) _ _ _ c (stays_9 len kind flags (high + r * 256) t more c) h

stays_7 : (len kind flags high : ℕ) (t more : List ℕ) (c : ℕ) → reading_7 len kind flags high t ≡ Fault c → reading_7 len kind flags high (t ++ more) ≡ Fault c
stays_7 len kind flags high [] more c h = (cc)
stays_7 len kind flags high (q ∷ t) more c h =
    after_else (is_of_connection kind && nat_lt 0 (high + q * 65536)) _ _ _ c (stays_8 len kind flags (high + q * 65536) t more c) h

stays_6 : (len kind flags : ℕ) (t more : List ℕ) (c : ℕ) → reading_6 len kind flags t ≡ Fault c → reading_6 len kind flags (t ++ more) ≡ Fault c
stays_6 len kind flags [] more c h = (cc)
stays_6 len kind flags (p ∷ t) more c h =
    after_else (is_of_connection kind && nat_lt 0 (p % 128 * 16777216)) _ _ _ c (stays_7 len kind flags (p % 128 * 16777216) t more c) h

stays_5 : (len kind : ℕ) (t more : List ℕ) (c : ℕ) → reading_5 len kind t ≡ Fault c → reading_5 len kind (t ++ more) ≡ Fault c
stays_5 len kind [] more c h = (cc)
stays_5 len kind (flags ∷ t) more c h =
    after_then (flags_allow_length kind flags len) _ _ _ c (stays_6 len kind flags t more c) h

stays_4 : (len : ℕ) (t more : List ℕ) (c : ℕ) → reading_4 len t ≡ Fault c → reading_4 len (t ++ more) ≡ Fault c
stays_4 len [] more c h = (cc)
stays_4 len (kind ∷ t) more c h = after_then (kind_allows_length kind len) _ _ _ c (stays_5 len kind t more c) h

stays_3 : (high : ℕ) (t more : List ℕ) (c : ℕ) → reading_3 high t ≡ Fault c → reading_3 high (t ++ more) ≡ Fault c
stays_3 high [] more c h = (cc)
stays_3 high (o ∷ t) more c h = after_else (nat_lt payload_limit (high + o)) _ _ _ c (stays_4 (high + o) t more c) h

stays_2 : (high : ℕ) (t more : List ℕ) (c : ℕ) → reading_2 high t ≡ Fault c → reading_2 high (t ++ more) ≡ Fault c
stays_2 high [] more c h = (cc)
stays_2 high (b ∷ t) more c h = after_else (nat_lt payload_limit (high + b * 256)) _ _ _ c (stays_3 (high + b * 256) t more c) h

-- what is a fault stays that fault
pub fault_stays : (t more : List ℕ) (c : ℕ) → reading_of t ≡ Fault c → reading_of (t ++ more) ≡ Fault c
fault_stays [] more c h = (cc)
fault_stays (a ∷ t) more c h = after_else (nat_lt payload_limit (a * 65536)) _ _ _ c (stays_2 (a * 65536) t more c) h
