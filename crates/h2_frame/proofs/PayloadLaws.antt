-- What payloads say and what is sent.
use Rattle.std.proofs.Common.{◌≡◌, ℕ, zero, suc, ◌+◌, ◌-◌, ◌*◌, ◌/◌, ◌%◌, ◌<◌, ◌≤◌, ◌^◌, Bool, true, false, List, [], ◌∷◌, ◌++◌, length, take, drop, refl, ap, sym, ◌∙◌, subst, arith, inl, inr, append_assoc, length-append}
use Rattle.std.proofs.lemmas.Bool.{false≢true, cases_lt}
use Rattle.std.proofs.lemmas.List.{take_all}
use Rattle.std.specs.Int.{w64, to_be_bytes}
use Rattle.std.proofs.lemmas.Bool.Decides.{nat_tests}
use Rattle.std.specs.Prelude.{◌==◌, IsTrue, slice_index_or}
use Rattle.h2_frame.specs.declared.payload.Setting.{Setting}
use Rattle.h2_frame.specs.Frames.{FrameSeen, IsFrame, header_bytes, is_allowed, number_31, written}
use Rattle.h2_frame.specs.Sent.{settings_frame}
use Rattle.h2_frame.specs.Payloads.{bytes_64, settings_bytes, settings_in}
use Rattle.h2_frame.specs.Readings.{IsFault, IsProperPrefix, fault_place, fault_place_from, is_fault, reading_of}
use Rattle.h2_frame.proofs.FrameLaws.{allowed_by, no_growth, no_padding, rules_of}
use Rattle.h2_frame.proofs.PlaceLaws.{at_place, prefix_is_partial}

-- a frame has at most a header and a payload of 16,384 bytes
pub frame_size : (t : List ℕ) (f : FrameSeen) → IsFrame t f → length t ≤ 16393
frame_size (a ∷ b ∷ c ∷ kind ∷ flags ∷ p ∷ q ∷ r ∷ s ∷ payload) f frame =
    let Allowed : FrameSeen → Type 0 = λ g. IsTrue (is_allowed g) in
    let rules = rules_of kind flags (number_31 p q r s) payload (subst Allowed frame.spells.1 frame.allowed) in
    omega (arith, rules.size)
frame_size t f frame = absurd frame.spells

pub prefix_size : (t : List ℕ) → IsProperPrefix t → length t ≤ 16392
prefix_size t prefix =
    omega (arith, frame_size (t ++ prefix.next ∷ prefix.more) prefix.frame prefix.is_frame, length-append t (prefix.next ∷ prefix.more))

-- the bytes of a number of 64 bits
pub word_bytes : (n : ℕ) (bytes : List ℕ) → n < 2 ^ 64 → bytes ≡ to_be_bytes w64 n → bytes ≡ bytes_64 n
word_bytes n bytes range e =
    let e0 : n / 72057594037927936 % 256 ≡ n / 4294967296 / 16777216 = omega arith in
    let e1 : n / 281474976710656 % 256 ≡ n / 4294967296 / 65536 % 256 = omega arith in
    let e2 : n / 1099511627776 % 256 ≡ n / 4294967296 / 256 % 256 = omega arith in
    let e3 : n / 4294967296 % 256 ≡ n / 4294967296 % 256 = refl in
    let e4 : n / 16777216 % 256 ≡ n % 4294967296 / 16777216 = omega arith in
    let e5 : n / 65536 % 256 ≡ n % 4294967296 / 65536 % 256 = omega arith in
    let e6 : n / 256 % 256 ≡ n % 4294967296 / 256 % 256 = omega arith in
    let e7 : n % 256 ≡ n % 4294967296 % 256 = omega arith in
    e ∙ rw (e0, e1, e2, e4, e5, e6, e7) refl

-- the first of some settings
pub prefix_setting : (t : List ℕ) (identifier value : ℕ) → 6 ≤ length t
    → identifier ≡ slice_index_or t 0 0 * 256 + slice_index_or t 1 0
    → value ≡ slice_index_or t 2 0 * 16777216 + slice_index_or t 3 0 * 65536 + slice_index_or t 4 0 * 256 + slice_index_or t 5 0
    → settings_in t ≡ record { identifier = identifier; value = value } ∷ settings_in (take (length t - 6) (drop 6 t))
prefix_setting (a ∷ b ∷ c ∷ d ∷ e ∷ f ∷ t) identifier value le p q =
    let rest : take (length (a ∷ b ∷ c ∷ d ∷ e ∷ f ∷ t) - 6) t ≡ t = take_all (length (a ∷ b ∷ c ∷ d ∷ e ∷ f ∷ t) - 6) t (omega arith) in
    rw (p, q, rest) refl
prefix_setting t identifier value le p q = let no : ⊥ = omega arith in absurd no

-- six bytes each
pub settings_size : (settings : List Setting) → length (settings_bytes settings) ≡ 6 * length settings
settings_size [] = refl
settings_size (s ∷ settings) = let rest = settings_size settings in omega (arith, rest)

-- the fewest first bytes that are at fault are the place of the fault
place_step : (fault : Bool) (more place k : ℕ) (t : List ℕ) → is_fault (reading_of (take place t)) ≡ fault → place ≤ k → k ≤ place + suc more
    → ((n : ℕ) → n < k → is_fault (reading_of (take n t)) ≡ false) → is_fault (reading_of (take k t)) ≡ true
    → (suc place ≤ k → k ≤ suc place + more → fault_place_from more (suc place) t ≡ k)
    → fault_place_from (suc more) place t ≡ k
place_step true more place k t e low high quiet shown rest =
    let here : place ≡ k = elim (cases_lt place k) [
      | inl less ↦ absurd (false≢true (sym (quiet place less) ∙ e))
      | inr not_less ↦ (omega arith)
    ] in
    rw e here
place_step false more place k t e low high quiet shown rest =
    let less : place < k = elim (cases_lt place k) [
      | inl less ↦ less
      | inr not_less ↦ (let same : place ≡ k = omega arith in absurd (false≢true (sym e ∙ ap (λ (n : ℕ). is_fault (reading_of (take n t))) same ∙ shown)))
    ] in
    rw e (rest (omega arith) (omega arith))

place_found : (more place k : ℕ) (t : List ℕ) → place ≤ k → k ≤ place + more
    → ((n : ℕ) → n < k → is_fault (reading_of (take n t)) ≡ false) → is_fault (reading_of (take k t)) ≡ true
    → fault_place_from more place t ≡ k
place_found zero place k t low high quiet shown = (omega arith)
place_found (suc more) place k t low high quiet shown =
    place_step (is_fault (reading_of (take place t))) more place k t refl low high quiet shown
    (λ low' high'. place_found more (suc place) k t low' high' quiet shown)

pub place_is : (t : List ℕ) (code : ℕ) → (fault : IsFault t code) → fault_place t ≡ fault.place
place_is t code fault =
    place_found (length t) 0 fault.place t (omega arith) (omega (arith, fault.within))
    (λ n less. ap is_fault (prefix_is_partial (take n t) (fault.earliest n less)))
    (ap is_fault (at_place t code fault (reading_of (take fault.place t)) refl))

-- a search among the first bytes ends at a fault, and goes on where there is none
pub stops_here : (more place : ℕ) (t : List ℕ) → 0 < more → is_fault (reading_of (take place t)) ≡ true → fault_place_from more place t ≡ place
stops_here zero place t some e = let no : ⊥ = omega arith in absurd no
stops_here (suc more) place t some e = rw e refl

goes_on : (more place : ℕ) (t : List ℕ) → is_fault (reading_of (take place t)) ≡ false → fault_place_from (suc more) place t ≡ fault_place_from more (suc place) t
goes_on more place t e = rw e refl

pub goes_by : (n place : ℕ) (t : List ℕ) → place < n → is_fault (reading_of (take place t)) ≡ false → fault_place_from (n - place) place t ≡ fault_place_from (n - (place + 1)) (place + 1) t
goes_by n place t less e =
    let left : n - place ≡ suc (n - (place + 1)) = omega arith in
    let next : suc place ≡ place + 1 = omega arith in
    ap (λ (m : ℕ). fault_place_from m place t) left
    ∙ goes_on (n - (place + 1)) place t e
    ∙ ap (λ (m : ℕ). fault_place_from (n - (place + 1)) m t) next

-- all settings are written
pub settings_written : (out old : List ℕ) (settings : List Setting) (n : ℕ) → length settings ≤ n
    → out ≡ old ++ header_bytes (length settings * 6) 4 0 0 ++ settings_bytes (take n settings)
    → out ≡ old ++ written (settings_frame settings)
settings_written out old settings n all e =
    let size : length settings * 6 ≡ length (settings_bytes settings) = omega (arith, settings_size settings) in
    let whole : take n settings ≡ settings = take_all n settings all in
    e ∙ ap (λ (xs : List Setting). old ++ header_bytes (length settings * 6) 4 0 0 ++ settings_bytes xs) whole
    ∙ ap (λ (len : ℕ). old ++ header_bytes len 4 0 0 ++ settings_bytes settings) size
    ∙ append_assoc old (header_bytes (length (settings_bytes settings)) 4 0 0) (settings_bytes settings)

sixes : (len n : ℕ) → len ≡ 6 * n → (len % 6 == 0) ≡ true
sixes len n e = grind (arith, nat_tests)

pub settings_allowed : (settings : List Setting) → length settings ≤ 2730 → IsTrue (is_allowed (settings_frame settings))
settings_allowed settings few =
    let size = settings_size settings in
    allowed_by 4 0 0 (settings_bytes settings)
    (record {
      size = omega (arith, size);
      by_kind = sixes (length (settings_bytes settings)) (length settings) size;
      by_flags = refl;
      by_stream = refl;
      padding = no_padding 4 0 (length (settings_bytes settings)) refl (settings_bytes settings);
      growth = no_growth 4 0 refl (settings_bytes settings);
    })
