-- A fault is reported at the first byte that shows it.
use Rattle.std.proofs.Common.{◌≡◌, ℕ, zero, suc, ◌<◌, ◌≤◌, Bool, true, false, List, [], ◌∷◌, ◌++◌, length, take, drop, refl, ap, sym, ◌∙◌, subst, arith, inl, inr, ◌⊎◌, append_assoc, length-append}
use Rattle.std.proofs.lemmas.Bool.{false≢true, cases_lt}
use Rattle.std.proofs.lemmas.List.{take-append-drop, append-nil, take_all, length-take-le}
use Rattle.std.proofs.Math.Seq.{take-take}
use Rattle.h2_frame.specs.Frames.{FrameSeen, IsFrame}
use Rattle.h2_frame.specs.Readings.{Reading, Whole, Partial, Fault, IsProperPrefix, IsDead, IsFault, is_fault, reading_of}
use Rattle.h2_frame.proofs.FaultLaws.{fault_stays}
use Rattle.h2_frame.proofs.FrameLaws.{frame_is_read, whole_is_frame}
use Rattle.h2_frame.proofs.PrefixLaws.{partial_is_prefix}
use Rattle.h2_frame.proofs.CodeLaws.{code_of, one_code}

-- a frame alone is read as that frame
pub frame_alone : (t : List ℕ) (f : FrameSeen) → IsFrame t f → reading_of t ≡ Whole f (length t)
frame_alone t f frame =
    let P : List ℕ → Type 0 = λ xs. reading_of xs ≡ Whole f (length t) in
    subst P (append-nil t) (frame_is_read t [] f frame)

-- what is read as a frame is so whatever follows
pub whole_stays : (t more : List ℕ) (f : FrameSeen) (n : ℕ) → reading_of t ≡ Whole f n → reading_of (t ++ more) ≡ Whole f n
whole_stays t more f n h =
    let leading = whole_is_frame t f n h in
    let regrouped : take n t ++ (drop n t ++ more) ≡ t ++ more =
    sym (append_assoc (take n t) (drop n t) more) ∙ ap (λ (xs : List ℕ). xs ++ more) (take-append-drop n t) in
    let P : List ℕ → Type 0 = λ xs. reading_of xs ≡ Whole f (length (take n t)) in
    subst P regrouped (frame_is_read (take n t) (drop n t ++ more) f leading.1) ∙ ap (λ (k : ℕ). Whole f k) (length-take-le n t leading.0)

pub fault_is_dead : (t : List ℕ) (c : ℕ) → reading_of t ≡ Fault c → IsDead t
fault_is_dead t c h more f frame =
    let one : reading_of (t ++ more) ≡ Fault c = fault_stays t more c h in
    let two : reading_of (t ++ more) ≡ Whole f (length (t ++ more)) = frame_alone (t ++ more) f frame in
    (cc)

one_size : (r : Reading) (f g : FrameSeen) (m n : ℕ) → r ≡ Whole f m → r ≡ Whole g n → m ≡ n
one_size r f g m n p q = let e : Whole f m ≡ Whole g n = sym p ∙ q in (cc)

same_code : (r : Reading) (c d : ℕ) → r ≡ Fault c → r ≡ Fault d → c ≡ d
same_code r c d p q = let e : Fault c ≡ Fault d = sym p ∙ q in (cc)

quiet_fault : (r : Reading) (c : ℕ) → r ≡ Fault c → is_fault r ≡ false → ⊥
quiet_fault r c e h = false≢true (sym h ∙ ap is_fault e)

quiet_within : (t : List ℕ) (n k : ℕ) → n < k → is_fault (reading_of (take n t)) ≡ false → is_fault (reading_of (take n (take k t))) ≡ false
quiet_within t n k less h = let le : n ≤ k = omega arith in rw (take-take n k t le) h

-- a proper prefix of a frame is read as less than a frame
prefix_by : (t : List ℕ) → IsProperPrefix t → (r : Reading) → reading_of t ≡ r → r ≡ Partial
prefix_by t prefix (Whole f n) e =
    let leading = whole_is_frame t f n e in
    let one : reading_of (t ++ prefix.next ∷ prefix.more) ≡ Whole f n = whole_stays t (prefix.next ∷ prefix.more) f n e in
    let two : reading_of (t ++ prefix.next ∷ prefix.more) ≡ Whole prefix.frame (length (t ++ prefix.next ∷ prefix.more)) =
    frame_alone (t ++ prefix.next ∷ prefix.more) prefix.frame prefix.is_frame in
    let same : n ≡ length (t ++ prefix.next ∷ prefix.more) = one_size (reading_of (t ++ prefix.next ∷ prefix.more)) f prefix.frame n (length (t ++ prefix.next ∷ prefix.more)) one two in
    let no : ⊥ = omega (arith, leading.0, same, length-append t (prefix.next ∷ prefix.more)) in
    absurd no
prefix_by t prefix Partial e = refl
prefix_by t prefix (Fault c) e = absurd (fault_is_dead t c e (prefix.next ∷ prefix.more) prefix.frame prefix.is_frame)

pub prefix_is_partial : (t : List ℕ) → IsProperPrefix t → reading_of t ≡ Partial
prefix_is_partial t prefix = prefix_by t prefix (reading_of t) refl

-- the first place where a test succeeds
first_here : (test : ℕ → Bool) (n : ℕ) (b : Bool) → test n ≡ b → ((m : ℕ) → m < n → test m ≡ false) → ((m : ℕ) → m < suc n → test m ≡ false) ⊎ ((k : ℕ) × (k < suc n) × (test k ≡ true) × ((m : ℕ) → m < k → test m ≡ false))
first_here test n true e none = inr (n, omega arith, e, none)
first_here test n false e none = inl (λ m h. elim (cases_lt m n) [
  | inl less ↦ none m less
  | inr more ↦ (let same : m ≡ n = omega arith in ap test same ∙ e)
])

first_place : (test : ℕ → Bool) (n : ℕ) → ((m : ℕ) → m < n → test m ≡ false) ⊎ ((k : ℕ) × (k < n) × (test k ≡ true) × ((m : ℕ) → m < k → test m ≡ false))
first_place test zero = inl (λ m h. absurd (let no : ⊥ = omega arith in no))
first_place test (suc n) = elim (first_place test n) [
  | inl none ↦ first_here test n (test n) refl none
  | inr found ↦ inr (found.0, omega (arith, found.1), found.2, found.3)
]

fault_of_true : (r : Reading) → is_fault r ≡ true → (c : ℕ) × (r ≡ Fault c)
fault_of_true (Whole f n) h = absurd (false≢true h)
fault_of_true Partial h = absurd (false≢true h)
fault_of_true (Fault c) h = (c, refl)

-- shorter bytes than a fault's place are a proper prefix of a frame
quiet_is_partial : (t : List ℕ) (c m : ℕ) → reading_of t ≡ Fault c → (r : Reading) → reading_of (take m t) ≡ r → is_fault r ≡ false → r ≡ Partial
quiet_is_partial t c m h (Whole f n) e quiet =
    let stays : reading_of (take m t ++ drop m t) ≡ Whole f n = whole_stays (take m t) (drop m t) f n e in
    let P : List ℕ → Type 0 = λ xs. reading_of xs ≡ Whole f n in
    let whole : reading_of t ≡ Whole f n = subst P (take-append-drop m t) stays in
    (cc)
quiet_is_partial t c m h Partial e quiet = refl
quiet_is_partial t c m h (Fault d) e quiet = absurd (false≢true (sym quiet))

-- the place of a fault, once it is found
reported_at : (t : List ℕ) (c k : ℕ) → reading_of t ≡ Fault c → k ≤ length t → is_fault (reading_of (take k t)) ≡ true → ((m : ℕ) → m < k → is_fault (reading_of (take m t)) ≡ false) → IsFault t c
reported_at t c k h inside shown quiet =
    let here = fault_of_true (reading_of (take k t)) shown in
    let stays : reading_of (take k t ++ drop k t) ≡ Fault here.0 = fault_stays (take k t) (drop k t) here.0 here.1 in
    let P : List ℕ → Type 0 = λ xs. reading_of xs ≡ Fault here.0 in
    let same : reading_of t ≡ Fault here.0 = subst P (take-append-drop k t) stays in
    let code : here.0 ≡ c = same_code (reading_of t) here.0 c same h in
    let there : reading_of (take k t) ≡ Fault c = here.1 ∙ ap Fault code in
    let size : length (take k t) ≡ k = length-take-le k t inside in
    record {
      place = k;
      within = inside;
      earliest = λ n less. partial_is_prefix (take n t) (quiet_is_partial t c n h (reading_of (take n t)) refl (quiet n less));
      dead = fault_is_dead (take k t) c there;
      code_is = code_of (take k t) c there (λ n less. let lt : n < k = omega arith in quiet_within t n k lt (quiet n lt));
    }

-- what is read as a fault is one
pub fault_is_reported : (t : List ℕ) (c : ℕ) → reading_of t ≡ Fault c → IsFault t c
fault_is_reported t c h = elim (first_place (λ n. is_fault (reading_of (take n t))) (suc (length t))) [
  | inl none ↦ (
      let quiet : is_fault (reading_of (take (length t) t)) ≡ false = none (length t) (omega arith) in
      let P : List ℕ → Type 0 = λ xs. is_fault (reading_of xs) ≡ false in
      let all : is_fault (reading_of t) ≡ false = subst P (take_all (length t) t (omega arith)) quiet in
      absurd (quiet_fault (reading_of t) c h all))
  | inr found ↦ reported_at t c found.0 h (omega (arith, found.1)) found.2 found.3
]

-- no frame stands before the place of a fault, nor at it
earlier_frame : (t : List ℕ) (c : ℕ) → (fault : IsFault t c) → (f : FrameSeen) (n : ℕ) → n < fault.place → IsFrame (take n (take fault.place t)) f → ⊥
earlier_frame t c fault f n less frame =
    let le : n ≤ fault.place = omega arith in
    let P : List ℕ → Type 0 = λ xs. IsFrame xs f in
    let there : IsFrame (take n t) f = subst P (take-take n fault.place t le) frame in
    let one : reading_of (take n t) ≡ Whole f (length (take n t)) = frame_alone (take n t) f there in
    let two : reading_of (take n t) ≡ Partial = prefix_is_partial (take n t) (fault.earliest n less) in
    (cc)

place_is_frame : (t : List ℕ) (c : ℕ) → (fault : IsFault t c) → (f : FrameSeen) (n : ℕ) → fault.place ≤ n → IsFrame (take n (take fault.place t)) f → ⊥
place_is_frame t c fault f n more frame =
    let size : length (take fault.place t) ≡ fault.place = length-take-le fault.place t fault.within in
    let P : List ℕ → Type 0 = λ xs. IsFrame xs f in
    let all : IsFrame (take fault.place t) f = subst P (take_all n (take fault.place t) (omega arith)) frame in
    fault.dead [] f (subst P (sym (append-nil (take fault.place t))) all)

-- and what is one is read so
pub at_place : (t : List ℕ) (c : ℕ) → (fault : IsFault t c) → (r : Reading) → reading_of (take fault.place t) ≡ r → r ≡ Fault c
at_place t c fault (Whole f n) e =
    let leading = whole_is_frame (take fault.place t) f n e in
    absurd (elim (cases_lt n fault.place) [
      | inl less ↦ earlier_frame t c fault f n less leading.1
      | inr more ↦ place_is_frame t c fault f n more leading.1
    ])
at_place t c fault Partial e =
    let prefix = partial_is_prefix (take fault.place t) e in
    absurd (fault.dead (prefix.next ∷ prefix.more) prefix.frame prefix.is_frame)
at_place t c fault (Fault d) e =
    let size : length (take fault.place t) ≡ fault.place = length-take-le fault.place t fault.within in
    let quiet : (n : ℕ) → n < length (take fault.place t) → is_fault (reading_of (take n (take fault.place t))) ≡ false =
    λ n less. let lt : n < fault.place = omega arith in quiet_within t n fault.place lt (ap is_fault (prefix_is_partial (take n t) (fault.earliest n lt))) in
    ap Fault (one_code (take fault.place t) d c (code_of (take fault.place t) d e quiet) fault.code_is)

pub reported_fault : (t : List ℕ) (c : ℕ) → IsFault t c → reading_of t ≡ Fault c
reported_fault t c fault =
    let here : reading_of (take fault.place t) ≡ Fault c = at_place t c fault (reading_of (take fault.place t)) refl in
    let P : List ℕ → Type 0 = λ xs. reading_of xs ≡ Fault c in
    subst P (take-append-drop fault.place t) (fault_stays (take fault.place t) (drop fault.place t) c here)
