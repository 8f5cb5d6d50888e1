-- A frame is read as that frame, whatever follows.
use Rattle.std.proofs.Common.{◌≡◌, ℕ, zero, suc, lit<, ◌+◌, ◌*◌, ◌%◌, ◌<◌, ◌≤◌, Bool, true, false, cond, List, [], ◌∷◌, ◌++◌, length, take, refl, ap, sym, ◌∙◌, subst, arith, length-append}
use Rattle.std.proofs.lemmas.Bool.Decides.{nat_tests}
use Rattle.std.proofs.lemmas.Bool.{false≢true}
use Rattle.std.proofs.Math.Seq.{take-append_seam}
use Rattle.std.proofs.lemmas.List.{length-take-le}
use Rattle.std.specs.Prelude.{nat_lt, nat_le, ◌&&◌, ◌==◌, not, IsTrue}
use Rattle.h2_frame.specs.Frames.{FrameSeen, IsFrame, is_allowed, number_24, number_31, is_overpadded, is_zero_update, is_of_connection, is_padded, kind_allows_stream, kind_allows_length, flags_allow_length, payload_limit}
use Rattle.h2_frame.specs.Readings.{Reading, Whole, Partial, Fault, reading_of_payload, reading_9, reading_8, reading_7, reading_6, reading_5, reading_4, reading_3, reading_2, reading_of}

-- the rules that a frame keeps, one by one
pub record Rules (kind flags stream len : ℕ) (payload : List ℕ) : Type 0 where
  pub size : len ≤ 16384
  pub by_kind : kind_allows_length kind len ≡ true
  pub by_flags : flags_allow_length kind flags len ≡ true
  pub by_stream : kind_allows_stream kind stream ≡ true
  pub padding : is_overpadded kind flags len payload ≡ false
  pub growth : is_zero_update kind stream payload ≡ false

all_six : (a b c d e g : Bool) → IsTrue ((a && not b && not c) && (d && e && g)) → (a ≡ true) × (b ≡ false) × (c ≡ false) × (d ≡ true) × (e ≡ true) × (g ≡ true)
all_six true false false true true true h = (refl, refl, refl, refl, refl, refl)
all_six a b c d e g h = absurd (false≢true h)

six_hold : (a b c d e g : Bool) → a ≡ true → b ≡ false → c ≡ false → d ≡ true → e ≡ true → g ≡ true → IsTrue ((a && not b && not c) && (d && e && g))
six_hold a b c d e g p q r s t u = rw (p, q, r, s, t, u) refl

size_of : (n : ℕ) → nat_le n payload_limit ≡ true → n ≤ 16384
size_of n h = grind (arith, nat_tests)

pub size_test : (n : ℕ) → n ≤ 16384 → nat_le n payload_limit ≡ true
size_test n h = grind (arith, nat_tests)

-- a frame keeps each of the rules
pub rules_of : (kind flags stream : ℕ) (payload : List ℕ) → IsTrue (is_allowed (record { kind = kind; flags = flags; stream = stream; payload = payload })) → Rules kind flags stream (length payload) payload
rules_of kind flags stream payload h =
    let six : (kind_allows_stream kind stream ≡ true) × (is_overpadded kind flags (length payload) payload ≡ false) × (is_zero_update kind stream payload ≡ false) × (nat_le (length payload) payload_limit ≡ true) × (kind_allows_length kind (length payload) ≡ true) × (flags_allow_length kind flags (length payload) ≡ true) =
    all_six (kind_allows_stream kind stream) (is_overpadded kind flags (length payload) payload) (is_zero_update kind stream payload) (nat_le (length payload) payload_limit) (kind_allows_length kind (length payload)) (flags_allow_length kind flags (length payload)) h in
    record { size = size_of (length payload) six.3; by_kind = six.4; by_flags = six.5; by_stream = six.0; padding = six.1; growth = six.2 }

-- what keeps each of the rules is allowed
pub allowed_by : (kind flags stream : ℕ) (payload : List ℕ) → Rules kind flags stream (length payload) payload → IsTrue (is_allowed (record { kind = kind; flags = flags; stream = stream; payload = payload }))
allowed_by kind flags stream payload rules =
    six_hold (kind_allows_stream kind stream) (is_overpadded kind flags (length payload) payload) (is_zero_update kind stream payload) (nat_le (length payload) payload_limit) (kind_allows_length kind (length payload)) (flags_allow_length kind flags (length payload))
    rules.by_stream rules.padding rules.growth (size_test (length payload) rules.size) rules.by_kind rules.by_flags

not_padded : (kind flags : ℕ) → flags_allow_length kind flags 0 ≡ true → is_padded kind flags ≡ false
not_padded kind flags h = grind (arith, nat_tests)

pub no_update : (kind len : ℕ) → len < 4 → kind_allows_length kind len ≡ true → (kind == 8) ≡ false
no_update kind len short h = grind (arith, nat_tests)

pub no_growth : (kind stream : ℕ) → (kind == 8) ≡ false → (t : List ℕ) → is_zero_update kind stream t ≡ false
no_growth kind stream h [] = refl
no_growth kind stream h (a ∷ []) = refl
no_growth kind stream h (a ∷ b ∷ []) = refl
no_growth kind stream h (a ∷ b ∷ c ∷ []) = refl
no_growth kind stream h (a ∷ b ∷ c ∷ d ∷ t) = rw h refl

pub no_padding : (kind flags len : ℕ) → is_padded kind flags ≡ false → (t : List ℕ) → is_overpadded kind flags len t ≡ false
no_padding kind flags len h [] = refl
no_padding kind flags len h (x ∷ t) = rw h refl

-- what follows a payload is not taken for its padding
padding_prefix : (kind flags len : ℕ) (payload more : List ℕ) → length payload ≡ len → flags_allow_length kind flags len ≡ true → is_overpadded kind flags len payload ≡ false → is_overpadded kind flags len (payload ++ more) ≡ false
padding_prefix kind flags len [] more e by_flags h =
    let P : ℕ → Type 0 = λ n. flags_allow_length kind flags n ≡ true in
    no_padding kind flags len (not_padded kind flags (subst P (sym e) by_flags)) more
padding_prefix kind flags len (x ∷ payload) more e by_flags h = h

-- nor for an increment
growth_prefix : (kind stream len : ℕ) (payload more : List ℕ) → length payload ≡ len → kind_allows_length kind len ≡ true → is_zero_update kind stream payload ≡ false → is_zero_update kind stream (payload ++ more) ≡ false
growth_prefix kind stream len [] more e by_kind h = no_growth kind stream (no_update kind len (omega arith) by_kind) more
growth_prefix kind stream len (a ∷ []) more e by_kind h = no_growth kind stream (no_update kind len (omega arith) by_kind) (a ∷ more)
growth_prefix kind stream len (a ∷ b ∷ []) more e by_kind h = no_growth kind stream (no_update kind len (omega arith) by_kind) (a ∷ b ∷ more)
growth_prefix kind stream len (a ∷ b ∷ c ∷ []) more e by_kind h = no_growth kind stream (no_update kind len (omega arith) by_kind) (a ∷ b ∷ c ∷ more)
growth_prefix kind stream len (a ∷ b ∷ c ∷ d ∷ payload) more e by_kind h = h

whole_end : (o z b : Bool) (x : Reading) (f g : FrameSeen) (n : ℕ) → o ≡ false → z ≡ false → b ≡ true → f ≡ g → cond o x (cond z x (cond b (Whole f n) Partial)) ≡ Whole g n
whole_end o z b x f g n p q r s = rw (p, q, r, s) refl

payload_read : (kind flags stream len : ℕ) (payload more : List ℕ) → length payload ≡ len → Rules kind flags stream len payload → reading_of_payload len kind flags stream (payload ++ more) ≡ Whole (record { kind = kind; flags = flags; stream = stream; payload = payload }) (9 + len)
payload_read kind flags stream len payload more e rules =
    let prefix : take len (payload ++ more) ≡ payload = ap (λ (n : ℕ). take n (payload ++ more)) (sym e) ∙ take-append_seam payload more in
    let there : nat_le len (length (payload ++ more)) ≡ true = grind (arith, nat_tests, length-append payload more) in
    whole_end (is_overpadded kind flags len (payload ++ more)) (is_zero_update kind stream (payload ++ more)) (nat_le len (length (payload ++ more))) _ _ _ (9 + len)
    (padding_prefix kind flags len payload more e rules.by_flags rules.padding)
    (growth_prefix kind stream len payload more e rules.by_kind rules.growth)
    there
    (ap (λ (p : List ℕ). record { kind = kind; flags = flags; stream = stream; payload = p }) prefix)

-- no test of a higher byte fails where the whole number passes
pub fits_so_far : (part whole : ℕ) → part ≤ whole → whole ≤ 16384 → nat_lt payload_limit part ≡ false
fits_so_far part whole h k = grind (arith, nat_tests)

pub stream_so_far : (kind part whole : ℕ) → part ≤ whole → kind_allows_stream kind whole ≡ true → (is_of_connection kind && nat_lt 0 part) ≡ false
stream_so_far kind part whole h k = grind (arith, nat_tests)

header_read : (a b c kind flags p q r s : ℕ) (t : List ℕ) → number_24 a b c ≤ 16384 → kind_allows_length kind (number_24 a b c) ≡ true → flags_allow_length kind flags (number_24 a b c) ≡ true → kind_allows_stream kind (number_31 p q r s) ≡ true → reading_of (a ∷ b ∷ c ∷ kind ∷ flags ∷ p ∷ q ∷ r ∷ s ∷ t) ≡ reading_of_payload (number_24 a b c) kind flags (number_31 p q r s) t
header_read a b c kind flags p q r s t size by_kind by_flags by_stream =
    let one : nat_lt payload_limit (a * 65536) ≡ false = fits_so_far (a * 65536) (number_24 a b c) (omega arith) size in
    let two : nat_lt payload_limit (a * 65536 + b * 256) ≡ false = fits_so_far (a * 65536 + b * 256) (number_24 a b c) (omega arith) size in
    let three : nat_lt payload_limit (a * 65536 + b * 256 + c) ≡ false = fits_so_far (number_24 a b c) (number_24 a b c) (omega arith) size in
    let six : (is_of_connection kind && nat_lt 0 (p % 128 * 16777216)) ≡ false = stream_so_far kind (p % 128 * 16777216) (number_31 p q r s) (omega arith) by_stream in
    let seven : (is_of_connection kind && nat_lt 0 (p % 128 * 16777216 + q * 65536)) ≡ false = stream_so_far kind (p % 128 * 16777216 + q * 65536) (number_31 p q r s) (omega arith) by_stream in
    let eight : (is_of_connection kind && nat_lt 0 (p % 128 * 16777216 + q * 65536 + r * 256)) ≡ false = stream_so_far kind (p % 128 * 16777216 + q * 65536 + r * 256) (number_31 p q r s) (omega arith) by_stream in
    rw (one, two, three, by_kind, by_flags, six, seven, eight, by_stream) refl

-- a frame is read as that frame, whatever follows
pub frame_is_read : (text more : List ℕ) (f : FrameSeen) → IsFrame text f → reading_of (text ++ more) ≡ Whole f (length text)
frame_is_read (a ∷ b ∷ c ∷ kind ∷ flags ∷ p ∷ q ∷ r ∷ s ∷ payload) more f frame =
    let said : FrameSeen = record { kind = kind; flags = flags; stream = number_31 p q r s; payload = payload } in
    let len_is : length payload ≡ number_24 a b c = frame.spells.0 in
    let f_is : f ≡ said = frame.spells.1 in
    let Allowed : FrameSeen → Type 0 = λ g. IsTrue (is_allowed g) in
    let Keeps : ℕ → Type 0 = λ n. Rules kind flags (number_31 p q r s) n payload in
    let rules : Rules kind flags (number_31 p q r s) (number_24 a b c) payload =
    subst Keeps len_is (rules_of kind flags (number_31 p q r s) payload (subst Allowed f_is frame.allowed)) in
    let header : reading_of (a ∷ b ∷ c ∷ kind ∷ flags ∷ p ∷ q ∷ r ∷ s ∷ (payload ++ more)) ≡ reading_of_payload (number_24 a b c) kind flags (number_31 p q r s) (payload ++ more) =
    header_read a b c kind flags p q r s (payload ++ more) rules.size rules.by_kind rules.by_flags rules.by_stream in
    let body : reading_of_payload (number_24 a b c) kind flags (number_31 p q r s) (payload ++ more) ≡ Whole said (9 + number_24 a b c) =
    payload_read kind flags (number_31 p q r s) (number_24 a b c) payload more len_is rules in
    let size : 9 + number_24 a b c ≡ length (a ∷ b ∷ c ∷ kind ∷ flags ∷ p ∷ q ∷ r ∷ s ∷ payload) = omega arith in
    let same : Whole said (9 + number_24 a b c) ≡ Whole f (length (a ∷ b ∷ c ∷ kind ∷ flags ∷ p ∷ q ∷ r ∷ s ∷ payload)) =
    ap (λ (n : ℕ). Whole said n) size ∙ ap (λ (g : FrameSeen). Whole g (length (a ∷ b ∷ c ∷ kind ∷ flags ∷ p ∷ q ∷ r ∷ s ∷ payload))) (sym f_is) in
    header ∙ body ∙ same
frame_is_read text more f frame = absurd frame.spells

-- a test that led past a fault
pub past_else : (b : Bool) (x y g : Reading) → (x ≡ g → ⊥) → cond b x y ≡ g → (b ≡ false) × (y ≡ g)
past_else true x y g other h = absurd (other h)
past_else false x y g other h = (refl, h)

pub past_then : (b : Bool) (x y g : Reading) → (x ≡ g → ⊥) → cond b y x ≡ g → (b ≡ true) × (y ≡ g)
past_then true x y g other h = (refl, h)
past_then false x y g other h = absurd (other h)

-- a header without a fault
pub record Header (len kind flags stream : ℕ) (payload : List ℕ) (g : Reading) : Type 0 where
  pub size : len ≤ 16384
  pub by_kind : kind_allows_length kind len ≡ true
  pub by_flags : flags_allow_length kind flags len ≡ true
  pub by_stream : kind_allows_stream kind stream ≡ true
  pub body : reading_of_payload len kind flags stream payload ≡ g

pub size_passed : (n : ℕ) → nat_lt payload_limit n ≡ false → n ≤ 16384
size_passed n h = grind (arith, nat_tests)

pub header_of : (a b c kind flags p q r s : ℕ) (t : List ℕ) (g : Reading) → ((code : ℕ) → Fault code ≡ g → ⊥) → reading_of (a ∷ b ∷ c ∷ kind ∷ flags ∷ p ∷ q ∷ r ∷ s ∷ t) ≡ g → Header (number_24 a b c) kind flags (number_31 p q r s) t g
header_of a b c kind flags p q r s t g other h =
    let one = past_else (nat_lt payload_limit (a * 65536)) (Fault 6) (reading_2 (a * 65536) (b ∷ c ∷ kind ∷ flags ∷ p ∷ q ∷ r ∷ s ∷ t)) g (other 6) h in
    let two = past_else (nat_lt payload_limit (a * 65536 + b * 256)) (Fault 6) (reading_3 (a * 65536 + b * 256) (c ∷ kind ∷ flags ∷ p ∷ q ∷ r ∷ s ∷ t)) g (other 6) one.1 in
    let three = past_else (nat_lt payload_limit (number_24 a b c)) (Fault 6) (reading_4 (number_24 a b c) (kind ∷ flags ∷ p ∷ q ∷ r ∷ s ∷ t)) g (other 6) two.1 in
    let four = past_then (kind_allows_length kind (number_24 a b c)) (Fault 6) (reading_5 (number_24 a b c) kind (flags ∷ p ∷ q ∷ r ∷ s ∷ t)) g (other 6) three.1 in
    let five = past_then (flags_allow_length kind flags (number_24 a b c)) (Fault 6) (reading_6 (number_24 a b c) kind flags (p ∷ q ∷ r ∷ s ∷ t)) g (other 6) four.1 in
    let six = past_else (is_of_connection kind && nat_lt 0 (p % 128 * 16777216)) (Fault 1) (reading_7 (number_24 a b c) kind flags (p % 128 * 16777216) (q ∷ r ∷ s ∷ t)) g (other 1) five.1 in
    let seven = past_else (is_of_connection kind && nat_lt 0 (p % 128 * 16777216 + q * 65536)) (Fault 1) (reading_8 (number_24 a b c) kind flags (p % 128 * 16777216 + q * 65536) (r ∷ s ∷ t)) g (other 1) six.1 in
    let eight = past_else (is_of_connection kind && nat_lt 0 (p % 128 * 16777216 + q * 65536 + r * 256)) (Fault 1) (reading_9 (number_24 a b c) kind flags (p % 128 * 16777216 + q * 65536 + r * 256) (s ∷ t)) g (other 1) seven.1 in
    let nine = past_then (kind_allows_stream kind (number_31 p q r s)) (Fault 1) (reading_of_payload (number_24 a b c) kind flags (number_31 p q r s) t) g (other 1) eight.1 in
    record { size = size_passed (number_24 a b c) three.0; by_kind = four.0; by_flags = five.0; by_stream = nine.0; body = nine.1 }

pub record Body (len kind flags stream : ℕ) (t : List ℕ) (f : FrameSeen) (n : ℕ) : Type 0 where
  pub padding : is_overpadded kind flags len t ≡ false
  pub growth : is_zero_update kind stream t ≡ false
  pub there : nat_le len (length t) ≡ true
  pub said : record { kind = kind; flags = flags; stream = stream; payload = take len t } ≡ f
  pub size : 9 + len ≡ n

no_whole : (f : FrameSeen) (n : ℕ) → Partial ≡ Whole f n → ⊥
no_whole f n h = (cc)

body_of : (len kind flags stream : ℕ) (t : List ℕ) (f : FrameSeen) (n : ℕ) → reading_of_payload len kind flags stream t ≡ Whole f n → Body len kind flags stream t f n
body_of len kind flags stream t f n h =
    let said : FrameSeen = record { kind = kind; flags = flags; stream = stream; payload = take len t } in
    let no_code : Fault 1 ≡ Whole f n → ⊥ = λ e. (cc) in
    let one = past_else (is_overpadded kind flags len t) (Fault 1) (cond (is_zero_update kind stream t) (Fault 1) (cond (nat_le len (length t)) (Whole said (9 + len)) Partial)) (Whole f n) no_code h in
    let two = past_else (is_zero_update kind stream t) (Fault 1) (cond (nat_le len (length t)) (Whole said (9 + len)) Partial) (Whole f n) no_code one.1 in
    let three = past_then (nat_le len (length t)) Partial (Whole said (9 + len)) (Whole f n) (no_whole f n) two.1 in
    let same : Whole said (9 + len) ≡ Whole f n = three.1 in
    record { padding = one.0; growth = two.0; there = three.0; said = (cc); size = (cc) }

-- what is read as a frame is that frame
take_after_nine : (a b c d e g h i j n len : ℕ) (t : List ℕ) → 9 + len ≡ n → take n (a ∷ b ∷ c ∷ d ∷ e ∷ g ∷ h ∷ i ∷ j ∷ t) ≡ a ∷ b ∷ c ∷ d ∷ e ∷ g ∷ h ∷ i ∷ j ∷ take len t
take_after_nine a b c d e g h i j n len t e' =
    let same : n ≡ suc (suc (suc (suc (suc (suc (suc (suc (suc len)))))))) = omega arith in
    rw same refl

padding_take : (kind flags n len : ℕ) (t : List ℕ) → is_overpadded kind flags n t ≡ false → is_overpadded kind flags n (take len t) ≡ false
padding_take kind flags n zero t h = refl
padding_take kind flags n (suc len) [] h = refl
padding_take kind flags n (suc len) (x ∷ t) h = h

growth_take : (kind stream len : ℕ) (t : List ℕ) → kind_allows_length kind len ≡ true → is_zero_update kind stream t ≡ false → is_zero_update kind stream (take len t) ≡ false
growth_take kind stream zero t by_kind h = refl
growth_take kind stream (suc zero) t by_kind h = no_growth kind stream (no_update kind 1 (lit< tt) by_kind) (take 1 t)
growth_take kind stream (suc (suc zero)) t by_kind h = no_growth kind stream (no_update kind 2 (lit< tt) by_kind) (take 2 t)
growth_take kind stream (suc (suc (suc zero))) t by_kind h = no_growth kind stream (no_update kind 3 (lit< tt) by_kind) (take 3 t)
growth_take kind stream (suc (suc (suc (suc len)))) [] by_kind h = refl
growth_take kind stream (suc (suc (suc (suc len)))) (a ∷ []) by_kind h = refl
growth_take kind stream (suc (suc (suc (suc len)))) (a ∷ b ∷ []) by_kind h = refl
growth_take kind stream (suc (suc (suc (suc len)))) (a ∷ b ∷ c ∷ []) by_kind h = refl
growth_take kind stream (suc (suc (suc (suc len)))) (a ∷ b ∷ c ∷ d ∷ t) by_kind h = h

-- nine bytes and a payload that keep the rules are a frame
pub frame_of : (a b c kind flags p q r s : ℕ) (payload : List ℕ) → length payload ≡ number_24 a b c → Rules kind flags (number_31 p q r s) (number_24 a b c) payload → IsFrame (a ∷ b ∷ c ∷ kind ∷ flags ∷ p ∷ q ∷ r ∷ s ∷ payload) (record { kind = kind; flags = flags; stream = number_31 p q r s; payload = payload })
frame_of a b c kind flags p q r s payload e rules =
    let Keeps : ℕ → Type 0 = λ n. Rules kind flags (number_31 p q r s) n payload in
    record { spells = (e, refl); allowed = allowed_by kind flags (number_31 p q r s) payload (subst Keeps (sym e) rules) }

there_so : (m n : ℕ) → nat_le m n ≡ true → m ≤ n
there_so m n h = grind (arith, nat_tests)

-- what is read as a frame is that frame
pub whole_is_frame : (t : List ℕ) (f : FrameSeen) (n : ℕ) → reading_of t ≡ Whole f n → (n ≤ length t) × IsFrame (take n t) f
whole_is_frame (a ∷ b ∷ c ∷ kind ∷ flags ∷ p ∷ q ∷ r ∷ s ∷ t) f n h =
    let len : ℕ = number_24 a b c in
    let header = header_of a b c kind flags p q r s t (Whole f n) (λ code e. (cc)) h in
    let body = body_of (number_24 a b c) kind flags (number_31 p q r s) t f n header.body in
    let room : number_24 a b c ≤ length t = there_so (number_24 a b c) (length t) body.there in
    let size : length (take (number_24 a b c) t) ≡ number_24 a b c = length-take-le (number_24 a b c) t room in
    let rules : Rules kind flags (number_31 p q r s) (number_24 a b c) (take (number_24 a b c) t) = record {
      size = header.size;
      by_kind = header.by_kind;
      by_flags = header.by_flags;
      by_stream = header.by_stream;
      padding = padding_take kind flags (number_24 a b c) (number_24 a b c) t body.padding;
      growth = growth_take kind (number_31 p q r s) (number_24 a b c) t header.by_kind body.growth;
    } in
    let frame = frame_of a b c kind flags p q r s (take (number_24 a b c) t) size rules in
    let prefix = take_after_nine a b c kind flags p q r s n (number_24 a b c) t body.size in
    let P : FrameSeen → Type 0 = λ g. IsFrame (a ∷ b ∷ c ∷ kind ∷ flags ∷ p ∷ q ∷ r ∷ s ∷ take (number_24 a b c) t) g in
    let Q : List ℕ → Type 0 = λ xs. IsFrame xs f in
    let fits : n ≤ length (a ∷ b ∷ c ∷ kind ∷ flags ∷ p ∷ q ∷ r ∷ s ∷ t) = omega (arith, body.size) in
    (fits, subst Q (sym prefix) (subst P body.said frame))
whole_is_frame t f n h = let no : ⊥ = grind (arith, nat_tests) in absurd no
