-- Each text has one reading, whatever pieces it comes in.
use Rattle.std.proofs.Common.{◌≡◌, ℕ, zero, suc, ◌/◌, ◌%◌, ◌^◌, ◌<◌, ◌≤◌, Option, Some, None, List, [], ◌∷◌, ◌++◌, length, take, drop, refl, ap, sym, ◌∙◌, subst, arith, append_assoc, length-drop, MatchOption}
use Rattle.std.proofs.lemmas.List.{take-append-drop, append-nil, length-take-le}
use Rattle.std.proofs.Math.Seq.{drop-append_seam}
use Rattle.std.specs.Prelude.{◌↔◌, IsTrue}
use Rattle.h2_frame.specs.Frames.{FrameSeen, IsFrame, is_allowed, number_24, number_31, written}
use Rattle.h2_frame.specs.Readings.{Reading, Whole, Partial, Fault, IsProperPrefix, IsFault, reading_of, AreFrames, IsReading, frames_after, frames_within, rest_after, rest_within, frames_of, rest_of, fault_of, fault_reported}
use Rattle.h2_frame.proofs.FaultLaws.{fault_stays}
use Rattle.h2_frame.proofs.FrameLaws.{frame_is_read, whole_is_frame}
use Rattle.h2_frame.proofs.PrefixLaws.{partial_is_prefix}
use Rattle.h2_frame.proofs.PlaceLaws.{prefix_is_partial, fault_is_reported, reported_fault}

-- a frame before is read, whatever follows
read_prefix : (bytes : List ℕ) (f : FrameSeen) (len : ℕ) → (len ≤ length bytes) × IsFrame (take len bytes) f → reading_of bytes ≡ Whole f len
read_prefix bytes f len h =
    let P : List ℕ → Type 0 = λ xs. reading_of xs ≡ Whole f (length (take len bytes)) in
    subst P (take-append-drop len bytes) (frame_is_read (take len bytes) (drop len bytes) f h.1) ∙ ap (λ (n : ℕ). Whole f n) (length-take-le len bytes h.0)

-- the grammar and the table are one
pub whole_is : (bytes : List ℕ) (f : FrameSeen) (len : ℕ) → (reading_of bytes ≡ Whole f len) ↔ ((len ≤ length bytes) × IsFrame (take len bytes) f)
whole_is bytes f len = (whole_is_frame bytes f len, read_prefix bytes f len)

pub partial_is : (bytes : List ℕ) → (reading_of bytes ≡ Partial) ↔ IsProperPrefix bytes
partial_is bytes = (partial_is_prefix bytes, prefix_is_partial bytes)

pub fault_is : (bytes : List ℕ) (code : ℕ) → (reading_of bytes ≡ Fault code) ↔ IsFault bytes code
fault_is bytes code = (fault_is_reported bytes code, reported_fault bytes code)

-- what is written is that frame
pub written_is_frame : (f : FrameSeen) → f.stream < 2 ^ 31 → IsTrue (is_allowed f) → IsFrame (written f) f
written_is_frame f range allowed =
    let len_is : length f.payload ≡ number_24 (length f.payload / 65536) (length f.payload / 256 % 256) (length f.payload % 256) = omega arith in
    let stream_is : f.stream ≡ number_31 (f.stream / 16777216) (f.stream / 65536 % 256) (f.stream / 256 % 256) (f.stream % 256) = omega arith in
    record { spells = (len_is, ap (λ (s : ℕ). record f { stream = s }) stream_is); allowed = allowed }

pub written_is_read : (f : FrameSeen) (more : List ℕ) → f.stream < 2 ^ 31 → IsTrue (is_allowed f) → reading_of (written f ++ more) ≡ Whole f (length (written f))
written_is_read f more range allowed = frame_is_read (written f) more f (written_is_frame f range allowed)

-- a frame takes bytes
some_bytes : (text : List ℕ) (f : FrameSeen) → IsFrame text f → 1 ≤ length text
some_bytes [] f frame = absurd frame.spells
some_bytes (a ∷ text) f frame = omega arith

-- the end of a reading, by what its rest is
abbrev Ends : List ℕ → Option ℕ → Type 0
Ends rest fault = MatchOption fault (IsProperPrefix rest) (λ code. IsFault rest code)

ends_by : (rest : List ℕ) (r : Reading) → reading_of rest ≡ r → ((f : FrameSeen) (n : ℕ) → r ≡ Whole f n → ⊥) → Ends rest (fault_reported r)
ends_by rest (Whole f n) e none = absurd (none f n refl)
ends_by rest Partial e none = partial_is_prefix rest e
ends_by rest (Fault code) e none = fault_is_reported rest code e

-- what ends a reading begins with no frame
no_frame_there : (rest : List ℕ) (fault : Option ℕ) → Ends rest fault → (f : FrameSeen) (n : ℕ) → reading_of rest ≡ Whole f n → ⊥
no_frame_there rest None end f n e = let p : reading_of rest ≡ Partial = prefix_is_partial rest end in (cc)
no_frame_there rest (Some code) end f n e = let p : reading_of rest ≡ Fault code = reported_fault rest code end in (cc)

no_whole_partial : (f : FrameSeen) (n : ℕ) → Partial ≡ Whole f n → ⊥
no_whole_partial f n e = (cc)

no_whole_fault : (c : ℕ) (f : FrameSeen) (n : ℕ) → Fault c ≡ Whole f n → ⊥
no_whole_fault c f n e = (cc)

-- the functions give a reading
reading_by : (bound : ℕ) (bytes : List ℕ) (r : Reading) → reading_of bytes ≡ r
    → ((n : ℕ) → (1 ≤ n) → (n ≤ length bytes) → IsReading (drop n bytes) (frames_within bound (drop n bytes)) (rest_within bound (drop n bytes)) (fault_of (rest_within bound (drop n bytes))))
    → IsReading bytes (frames_after r (λ n. frames_within bound (drop n bytes))) (rest_after r bytes (λ n. rest_within bound (drop n bytes))) (fault_of (rest_after r bytes (λ n. rest_within bound (drop n bytes))))
reading_by bound bytes (Whole f n) e afterwards =
    let prefix = whole_is_frame bytes f n e in
    let size : length (take n bytes) ≡ n = length-take-le n bytes prefix.0 in
    let some : 1 ≤ length (take n bytes) = some_bytes (take n bytes) f prefix.1 in
    let rest = afterwards n (omega arith) prefix.0 in
    record { prefix = (take n bytes, drop n bytes, sym (take-append-drop n bytes), prefix.1, rest.prefix); back = rest.back }
reading_by bound bytes Partial e afterwards =
    record { prefix = refl; back = ends_by bytes (reading_of bytes) refl (λ f n w. no_whole_partial f n (sym e ∙ w)) }
reading_by bound bytes (Fault code) e afterwards =
    record { prefix = refl; back = ends_by bytes (reading_of bytes) refl (λ f n w. no_whole_fault code f n (sym e ∙ w)) }

reading_within : (bound : ℕ) (bytes : List ℕ) → length bytes ≤ bound → IsReading bytes (frames_within bound bytes) (rest_within bound bytes) (fault_of (rest_within bound bytes))
reading_within zero [] h = record { prefix = refl; back = partial_is_prefix [] refl }
reading_within zero (b ∷ bytes) h = let no : ⊥ = omega arith in absurd no
reading_within (suc bound) bytes h =
    reading_by bound bytes (reading_of bytes) refl (λ n some inside. reading_within bound (drop n bytes) (omega (arith, length-drop n bytes)))

pub has_reading : (bytes : List ℕ) → IsReading bytes (frames_of bytes) (rest_of bytes) (fault_of (rest_of bytes))
has_reading bytes = reading_within (length bytes) bytes (omega arith)

-- no text has two
same_frame : (r : Reading) (f g : FrameSeen) (m n : ℕ) → r ≡ Whole f m → r ≡ Whole g n → (f ≡ g) × (m ≡ n)
same_frame r f g m n p q = let e : Whole f m ≡ Whole g n = sym p ∙ q in ((cc), (cc))

same_end : (rest : List ℕ) (c d : Option ℕ) → Ends rest c → Ends rest d → c ≡ d
same_end rest None None p q = refl
same_end rest None (Some d) p q =
    let one : reading_of rest ≡ Partial = prefix_is_partial rest p in
    let two : reading_of rest ≡ Fault d = reported_fault rest d q in (cc)
same_end rest (Some c) None p q =
    let one : reading_of rest ≡ Fault c = reported_fault rest c p in
    let two : reading_of rest ≡ Partial = prefix_is_partial rest q in (cc)
same_end rest (Some c) (Some d) p q =
    let one : reading_of rest ≡ Fault c = reported_fault rest c p in
    let two : reading_of rest ≡ Fault d = reported_fault rest d q in (cc)

prefix_is_read : (bytes text afterwards : List ℕ) (f : FrameSeen) → bytes ≡ text ++ afterwards → IsFrame text f → reading_of bytes ≡ Whole f (length text)
prefix_is_read bytes text afterwards f e frame = ap reading_of e ∙ frame_is_read text afterwards f frame

same_prefix : (bytes text afterwards text' afterwards' : List ℕ) → bytes ≡ text ++ afterwards → bytes ≡ text' ++ afterwards' → length text ≡ length text' → afterwards ≡ afterwards'
same_prefix bytes text afterwards text' afterwards' e e' len =
    sym (drop-append_seam text afterwards) ∙ ap (drop (length text)) (sym e ∙ e') ∙ ap (λ (n : ℕ). drop n (text' ++ afterwards')) len ∙ drop-append_seam text' afterwards'

pub one_reading : (bytes : List ℕ) (fs gs : List FrameSeen) (r s : List ℕ) (c d : Option ℕ) → AreFrames bytes fs r → Ends r c → AreFrames bytes gs s → Ends s d → (fs ≡ gs) × (r ≡ s) × (c ≡ d)
one_reading bytes [] [] r s c d p p' q q' =
    let same : r ≡ s = sym p ∙ q in
    let P : List ℕ → Type 0 = λ xs. Ends xs c in
    (refl, same, same_end s c d (subst P same p') q')
one_reading bytes [] (g ∷ gs) r s c d p p' q q' =
    let P : List ℕ → Type 0 = λ xs. Ends xs c in
    absurd (no_frame_there bytes c (subst P (sym p) p') g (length q.0) (prefix_is_read bytes q.0 q.1 g q.2 q.3))
one_reading bytes (f ∷ fs) [] r s c d p p' q q' =
    let P : List ℕ → Type 0 = λ xs. Ends xs d in
    absurd (no_frame_there bytes d (subst P (sym q) q') f (length p.0) (prefix_is_read bytes p.0 p.1 f p.2 p.3))
one_reading bytes (f ∷ fs) (g ∷ gs) r s c d p p' q q' =
    let same = same_frame (reading_of bytes) f g (length p.0) (length q.0) (prefix_is_read bytes p.0 p.1 f p.2 p.3) (prefix_is_read bytes q.0 q.1 g q.2 q.3) in
    let afterwards : p.1 ≡ q.1 = same_prefix bytes p.0 p.1 q.0 q.1 p.2 q.2 same.1 in
    let P : List ℕ → Type 0 = λ xs. AreFrames xs fs r in
    let rest = one_reading q.1 fs gs r s c d (subst P afterwards p.4) p' q.4 q' in
    (ap (λ (h : FrameSeen). h ∷ fs) same.0 ∙ ap (λ (hs : List FrameSeen). g ∷ hs) rest.0, rest.1, rest.2)

pub no_two_readings : (bytes : List ℕ) (fs gs : List FrameSeen) (r s : List ℕ) (c d : Option ℕ) → IsReading bytes fs r c → IsReading bytes gs s d → (fs ≡ gs) × (r ≡ s) × (c ≡ d)
no_two_readings bytes fs gs r s c d p q = one_reading bytes fs gs r s c d p.prefix p.back q.prefix q.back

-- frames of a text that comes in two pieces
joined : (a b : List ℕ) (fs gs : List FrameSeen) (r s : List ℕ) → AreFrames a fs r → AreFrames (r ++ b) gs s → AreFrames (a ++ b) (fs ++ gs) s
joined a b [] gs r s p q = let P : List ℕ → Type 0 = λ xs. AreFrames (xs ++ b) gs s in subst P (sym p) q
joined a b (f ∷ fs) gs r s p q =
    (p.0, p.1 ++ b, ap (λ (xs : List ℕ). xs ++ b) p.2 ∙ append_assoc p.0 p.1 b, p.3, joined p.1 b fs gs r s p.4 q)

pub pieces_join : (a b : List ℕ) (fs gs : List FrameSeen) (r s : List ℕ) (c : Option ℕ) → IsReading a fs r None → IsReading (r ++ b) gs s c → IsReading (a ++ b) (fs ++ gs) s c
pieces_join a b fs gs r s c p q = record { prefix = joined a b fs gs r s p.prefix q.prefix; back = q.back }

pub fault_ends : (a b : List ℕ) (fs : List FrameSeen) (r : List ℕ) (c : ℕ) → IsReading a fs r (Some c) → IsReading (a ++ b) fs (r ++ b) (Some c)
fault_ends a b fs r c p =
    let all : AreFrames (a ++ b) (fs ++ []) (r ++ b) = joined a b fs [] r (r ++ b) p.prefix refl in
    let P : List FrameSeen → Type 0 = λ hs. AreFrames (a ++ b) hs (r ++ b) in
    record { prefix = subst P (append-nil fs) all; back = fault_is_reported (r ++ b) c (fault_stays r b c (reported_fault r c p.back)) }
