-- What is at the start of some bytes stays, whatever follows.
use Rattle.std.proofs.Common.{◌≡◌, ◌≢◌, ℕ, ◌<◌, ◌≤◌, ◌+◌, ◌-◌, Bool, true, false, List, [], ◌++◌, length, take, drop, refl, sym, ◌∙◌, ap, subst, Some, None, arith, length-append, append_assoc, inl, inr}
use Rattle.std.specs.Prelude.{Option, min, ◌⊎◌, if◌then◌else◌}
use Rattle.std.proofs.lemmas.List.{take-append-drop, take-append-le, take_all, length-take-le}
use Rattle.std.proofs.lemmas.Bool.{cases_eq, cases_lt}
use Rattle.h2_frame.specs.Frames.{IsFrame}
use Rattle.h2_frame.specs.Readings.{Reading, Whole, Partial, Fault, IsFault, IsProperPrefix, IsDead, IsCode, reading_of, fault_place}
use Rattle.h2_frame.proofs.PlaceLaws.{fault_is_reported, reported_fault, whole_stays}
use Rattle.h2_frame.proofs.PayloadLaws.{place_is, prefix_size}
use Rattle.h2_frame.proofs.PrefixLaws.{partial_is_prefix}
use Rattle.h2_frame.proofs.TextLaws.{whole_is}
use Rattle.h2_server.specs.Received.{agreed, frame_by, frame_prefix, prefix_of, IsPart, preface_by, preface_bytes, preface_prefix}
use Rattle.h2_server.specs.Steps.{broke}
use Rattle.h2_server.specs.Wire.{Wire, Report}
use Rattle.h2_server.proofs.Agreeing.{agreed_all, agreed_differs, agreed_full, agreed_most, agreed_within, by_full, by_less, by_other}

-- a fault, at the same place, after more bytes
fault_on : (x y : List ℕ) (code : ℕ) → IsFault x code → IsFault (x ++ y) code
fault_on x y code f =
    let prefix : take f.place (x ++ y) ≡ take f.place x = take-append-le f.place x y f.within in
    let D : List ℕ → Type 0 = λ t. IsDead t in
    let C : List ℕ → Type 0 = λ t. IsCode t code in
    record {
      place = f.place;
      within = omega (arith, length-append x y, f.within);
      earliest = λ n h. let P : List ℕ → Type 0 = λ t. IsProperPrefix t in subst P (sym (take-append-le n x y (omega (arith, f.within, h)))) (f.earliest n h);
      dead = subst D (sym prefix) f.dead;
      code_is = subst C (sym prefix) f.code_is;
    }

-- and the other way round, where it lies within the prefix
fault_back : (x y : List ℕ) (code : ℕ) → (f : IsFault (x ++ y) code) → f.place ≤ length x → IsFault x code
fault_back x y code f h =
    let prefix : take f.place (x ++ y) ≡ take f.place x = take-append-le f.place x y h in
    let D : List ℕ → Type 0 = λ t. IsDead t in
    let C : List ℕ → Type 0 = λ t. IsCode t code in
    record {
      place = f.place;
      within = h;
      earliest = λ n k. let P : List ℕ → Type 0 = λ t. IsProperPrefix t in subst P (take-append-le n x y (omega (arith, h, k))) (f.earliest n k);
      dead = subst D prefix f.dead;
      code_is = subst C prefix f.code_is;
    }

frame_stays_by : (w : Wire) (x y : List ℕ) (v : ℕ × Report) (r : Reading) → reading_of x ≡ r → frame_by w x r ≡ Some v → frame_prefix w (x ++ y) ≡ Some v
unfolding fault_on
frame_stays_by w x y v (Whole f n) e h = rw (whole_stays x y f n e) h
frame_stays_by w x y v Partial e h = absurd (cc)
frame_stays_by w x y v (Fault code) e h =
    let fault = fault_is_reported x code e in
    let on = fault_on x y code fault in
    let places : fault_place (x ++ y) ≡ fault_place x = place_is (x ++ y) code on ∙ sym (place_is x code fault) in
    rw (reported_fault (x ++ y) code on) (ap (λ n. Some (n, broke code)) places ∙ h)

preface_stays_by : (w : Wire) (size more same next : ℕ) (v : ℕ × Report) → same ≤ size → size ≤ more → (same ≡ 24 → next ≡ 24) → (same < size → next ≡ same) → preface_by w size same ≡ Some v → preface_by w more next ≡ Some v
preface_stays_by w size more same next v le grow full other h =
    elim (cases_eq same 24) [
      | inl a ↦ by_full w more next (full a) ∙ (sym (by_full w size same a) ∙ h)
      | inr a ↦
          elim (cases_eq same size) [
            | inl b ↦ (let none = by_less w size same a b in absurd (cc))
            | inr b ↦
                let lt : same < size = omega (arith, le, b) in
                let e : next ≡ same = other lt in
                ap (preface_by w more) e ∙ (by_other w more same a (λ c. omega (arith, c, grow, lt)) ∙ (sym (by_other w size same a b) ∙ h))
          ]
    ]

preface_stays : (w : Wire) (x y : List ℕ) (v : ℕ × Report) → preface_prefix w x ≡ Some v → preface_prefix w (x ++ y) ≡ Some v
preface_stays w x y v h =
    preface_stays_by w (length x) (length (x ++ y)) (agreed preface_bytes x) (agreed preface_bytes (x ++ y)) v (agreed_within preface_bytes x) (omega (arith, length-append x y)) (agreed_full preface_bytes x y) (agreed_differs preface_bytes x y) h

stays_by : (w : Wire) (x y : List ℕ) (v : ℕ × Report) (b : Bool) → (if b then frame_prefix w x else preface_prefix w x) ≡ Some v → (if b then frame_prefix w (x ++ y) else preface_prefix w (x ++ y)) ≡ Some v
stays_by w x y v true h = frame_stays_by w x y v (reading_of x) refl h
stays_by w x y v false h = preface_stays w x y v h

pub stays : (g : Bool) (w : Wire) (x y : List ℕ) (v : ℕ × Report) → prefix_of g w x ≡ Some v → prefix_of g w (x ++ y) ≡ Some v
stays g w x y v h = stays_by w x y v g h

frame_none_by : (w : Wire) (x : List ℕ) (r : Reading) → reading_of x ≡ r → frame_by w x r ≡ None → reading_of x ≡ Partial
frame_none_by w x (Whole f n) e h = absurd (cc)
frame_none_by w x Partial e h = e
frame_none_by w x (Fault code) e h = absurd (cc)

frame_none : (w : Wire) (x : List ℕ) → frame_prefix w x ≡ None → reading_of x ≡ Partial
frame_none w x h = frame_none_by w x (reading_of x) refl h

preface_none : (w : Wire) (size same : ℕ) → preface_by w size same ≡ None → same ≡ size
preface_none w size same h =
    elim (cases_eq same 24) [
      | inl a ↦ (let some = by_full w size same a in absurd (cc))
      | inr a ↦
          elim (cases_eq same size) [
            | inl b ↦ b
            | inr b ↦ (let some = by_other w size same a b in absurd (cc))
          ]
    ]

preface_less : (w : Wire) (size same : ℕ) → preface_by w size same ≡ None → same ≢ 24
preface_less w size same h = λ a. let some = by_full w size same a in absurd (cc)

none_size_by : (w : Wire) (x : List ℕ) (b : Bool) → (if b then frame_prefix w x else preface_prefix w x) ≡ None → length x ≤ 16392
none_size_by w x true h = prefix_size x (partial_is_prefix x (frame_none w x h))
none_size_by w x false h =
    let same = preface_none w (length x) (agreed preface_bytes x) h in omega (arith, same, agreed_most preface_bytes x)

pub none_size : (g : Bool) (w : Wire) (x : List ℕ) → prefix_of g w x ≡ None → length x ≤ 16392
none_size g w x h = none_size_by w x g h

frame_within_by : (w : Wire) (x : List ℕ) (v : ℕ × Report) (r : Reading) → reading_of x ≡ r → frame_by w x r ≡ Some v → v.0 ≤ length x
frame_within_by w x v (Whole f n) e h =
    let k : n ≤ length x = ((whole_is x f n).0 e).0 in
    let same : n ≡ v.0 = cc in omega arith
frame_within_by w x v Partial e h = absurd (cc)
frame_within_by w x v (Fault code) e h =
    let fault = fault_is_reported x code e in
    let place : fault_place x ≡ fault.place = place_is x code fault in
    let k : fault.place ≤ length x = fault.within in
    let same : fault_place x ≡ v.0 = cc in omega arith

-- a preface, or another byte after those that agree
preface_shown : (w : Wire) (size same : ℕ) (v : ℕ × Report) → same ≤ size → preface_by w size same ≡ Some v → ((same ≡ 24) × (v.0 ≡ 24)) ⊎ ((same < size) × (v.0 ≡ same + 1))
preface_shown w size same v le h =
    elim (cases_eq same 24) [
      | inl a ↦ (let some = by_full w size same a in inl (a, cc))
      | inr a ↦
          elim (cases_eq same size) [
            | inl b ↦ (let none = by_less w size same a b in absurd (cc))
            | inr b ↦ (let some = by_other w size same a b in inr (omega (arith, le, b), cc))
          ]
    ]

preface_within : (w : Wire) (x : List ℕ) (v : ℕ × Report) → preface_prefix w x ≡ Some v → v.0 ≤ length x
preface_within w x v h =
    let le = agreed_within preface_bytes x in
    elim (preface_shown w (length x) (agreed preface_bytes x) v le h) [
      | inl a ↦ omega (arith, a.0, a.1, le)
      | inr a ↦ omega (arith, a.0, a.1)
    ]

within_by : (w : Wire) (x : List ℕ) (v : ℕ × Report) (b : Bool) → (if b then frame_prefix w x else preface_prefix w x) ≡ Some v → v.0 ≤ length x
within_by w x v true h = frame_within_by w x v (reading_of x) refl h
within_by w x v false h = preface_within w x v h

pub within : (g : Bool) (w : Wire) (x : List ℕ) (v : ℕ × Report) → prefix_of g w x ≡ Some v → v.0 ≤ length x
within g w x v h = within_by w x v g h

frame_after_by : (w : Wire) (x y : List ℕ) (v : ℕ × Report) (r : Reading) → reading_of x ≡ Partial → reading_of (x ++ y) ≡ r → frame_by w (x ++ y) r ≡ Some v → length x < v.0
frame_after_by w x y v (Whole f n) p e h =
    let same : n ≡ v.0 = cc in
    elim (cases_lt (length x) n) [
      | inl k ↦ omega arith
      | inr k ↦
          let whole = (whole_is (x ++ y) f n).0 e in
          let F : List ℕ → Type 0 = λ t. IsFrame t f in
          let here : reading_of x ≡ Whole f n = (whole_is x f n).1 (k, subst F (take-append-le n x y k) whole.1) in
          absurd (cc)
    ]
frame_after_by w x y v Partial p e h = absurd (cc)
frame_after_by w x y v (Fault code) p e h =
    let fault = fault_is_reported (x ++ y) code e in
    let place : fault_place (x ++ y) ≡ fault.place = place_is (x ++ y) code fault in
    let same : fault_place (x ++ y) ≡ v.0 = cc in
    elim (cases_lt (length x) fault.place) [
      | inl k ↦ omega arith
      | inr k ↦ let here : reading_of x ≡ Fault code = reported_fault x code (fault_back x y code fault k) in absurd (cc)
    ]

preface_after : (w : Wire) (x y : List ℕ) (v : ℕ × Report) → preface_prefix w x ≡ None → preface_prefix w (x ++ y) ≡ Some v → length x < v.0
preface_after w x y v p h =
    let same = preface_none w (length x) (agreed preface_bytes x) p in
    let on = agreed_all preface_bytes x y same in
    let less : agreed preface_bytes x ≢ 24 = preface_less w (length x) (agreed preface_bytes x) p in
    let most = agreed_most preface_bytes x in
    elim (preface_shown w (length (x ++ y)) (agreed preface_bytes (x ++ y)) v (agreed_within preface_bytes (x ++ y)) h) [
      | inl a ↦ omega (arith, same, less, most, a.1)
      | inr a ↦ omega (arith, on, a.1)
    ]

afterwards_by : (w : Wire) (x y : List ℕ) (v : ℕ × Report) (b : Bool) → (if b then frame_prefix w x else preface_prefix w x) ≡ None → (if b then frame_prefix w (x ++ y) else preface_prefix w (x ++ y)) ≡ Some v → length x < v.0
afterwards_by w x y v true p h = frame_after_by w x y v (reading_of (x ++ y)) (frame_none w x p) refl h
afterwards_by w x y v false p h = preface_after w x y v p h

-- a prefix after less than one is longer than that
pub afterwards : (g : Bool) (w : Wire) (x y : List ℕ) (v : ℕ × Report) → prefix_of g w x ≡ None → prefix_of g w (x ++ y) ≡ Some v → length x < v.0
afterwards g w x y v p h = afterwards_by w x y v g p h

-- as many bytes as the longest frame needs show what all show
enough_by : (g : Bool) (w : Wire) (x y : List ℕ) (m : ℕ) → length x ≤ 16392 → m ≡ min (length y) (16393 - length x) → (o : Option (ℕ × Report)) → prefix_of g w (x ++ take m y) ≡ o → prefix_of g w (x ++ y) ≡ o
enough_by g w x y m short e None h =
    let size : length (x ++ take m y) ≤ 16392 = none_size g w (x ++ take m y) h in
    let le : m ≤ length y = omega (arith, e) in
    let all : length y ≤ m = omega (arith, size, length-append x (take m y), length-take-le m y le, e, short) in
    subst (λ (t : List ℕ). prefix_of g w (x ++ t) ≡ None) (take_all m y all) h
enough_by g w x y m short e (Some v) h =
    let more = stays g w (x ++ take m y) (drop m y) v h in
    let joined : (x ++ take m y) ++ drop m y ≡ x ++ y = append_assoc x (take m y) (drop m y) ∙ ap (λ (t : List ℕ). x ++ t) (take-append-drop m y) in
    subst (λ (t : List ℕ). prefix_of g w t ≡ Some v) joined more

pub enough : (g : Bool) (w : Wire) (x y : List ℕ) (m : ℕ) → length x ≤ 16392 → m ≡ min (length y) (16393 - length x) → prefix_of g w (x ++ take m y) ≡ prefix_of g w (x ++ y)
enough g w x y m short e = sym (enough_by g w x y m short e (prefix_of g w (x ++ take m y)) refl)

-- the fault of some bytes is shown within them
pub shown_within : (x : List ℕ) (code place : ℕ) → IsFault x code → ((code : ℕ) (fault : IsFault x code) → place ≡ fault.place) → place ≤ length x
shown_within x code place fault same =
    let at : place ≡ fault.place = same code fault in
    let k : fault.place ≤ length x = fault.within in omega arith

-- bytes that show nothing yet are a part, and the other way round
part_by : (w : Wire) (x : List ℕ) (g : Bool) → (if g then frame_prefix w x else preface_prefix w x) ≡ None → IsPart g x
part_by w x true h = frame_none w x h
part_by w x false h =
    let same = preface_none w (length x) (agreed preface_bytes x) h in
    let less = preface_less w (length x) (agreed preface_bytes x) h in
    (same, omega (arith, same, less, agreed_most preface_bytes x))

pub none_is_part : (g : Bool) (w : Wire) (x : List ℕ) → prefix_of g w x ≡ None → IsPart g x
none_is_part g w x h = part_by w x g h

none_by : (w : Wire) (x : List ℕ) (g : Bool) → IsPart g x → (if g then frame_prefix w x else preface_prefix w x) ≡ None
none_by w x true h = ap (frame_by w x) h
none_by w x false h = by_less w (length x) (agreed preface_bytes x) (λ e. omega (arith, e, h.0, h.1)) h.0

pub part_is_none : (g : Bool) (w : Wire) (x : List ℕ) → IsPart g x → prefix_of g w x ≡ None
part_is_none g w x h = none_by w x g h

pub part_size : (g : Bool) (w : Wire) (x : List ℕ) → IsPart g x → length x ≤ 16392
part_size g w x h = none_size g w x (part_is_none g w x h)

pub nothing_is_part : (g : Bool) → IsPart g []
nothing_is_part true = refl
nothing_is_part false = (refl, omega arith)
