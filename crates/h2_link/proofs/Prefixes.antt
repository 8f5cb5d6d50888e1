-- What is at the start of some bytes stays, whatever follows.
use Rattle.std.proofs.Common.{◌≡◌, ℕ, ◌<◌, ◌≤◌, ◌-◌, List, ◌++◌, length, take, drop, refl, sym, ◌∙◌, ap, subst, Some, None, arith, length-append, append_assoc, inl, inr}
use Rattle.std.specs.Prelude.{Option, min}
use Rattle.std.proofs.lemmas.List.{take-append-drop, take-append-le, take_all, length-take-le}
use Rattle.std.proofs.lemmas.Bool.{cases_lt}
use Rattle.h2_frame.specs.Frames.{IsFrame}
use Rattle.h2_frame.specs.Readings.{Reading, Whole, Partial, Fault, IsFault, IsProperPrefix, IsDead, IsCode, reading_of, fault_place}
use Rattle.h2_frame.proofs.PlaceLaws.{fault_is_reported, reported_fault, whole_stays}
use Rattle.h2_frame.proofs.PayloadLaws.{place_is, prefix_size}
use Rattle.h2_frame.proofs.PrefixLaws.{partial_is_prefix}
use Rattle.h2_frame.proofs.TextLaws.{whole_is}
use Rattle.h2_link.specs.Received.{prefix_as, prefix_of}
use Rattle.h2_link.specs.Steps.{broke}
use Rattle.h2_link.specs.Wire.{Wire, Report}

-- a fault, at the same place, after more bytes
fault_on : (x y : List ℕ) (code : ℕ) → IsFault x code → IsFault (x ++ y) code
fault_on x y code f =
    let prefix : take f.place (x ++ y) ≡ take f.place x = take-append-le f.place x y f.within in
    let D : List ℕ → Type 0 = λ t. IsDead t in
    let C : List ℕ → Type 0 = λ t. IsCode t code in
    record {
      place = f.place;
      within = omega (arith, length-append x y, f.within);
      earliest = λ n h. let P : List ℕ → Type 0 = λ t. IsProperPrefix t in subst P (sym (take-append-le n x y (omega (arith, f.within, h)))) (f.earliest n h);
      dead = subst D (sym prefix) f.dead;
      code_is = subst C (sym prefix) f.code_is;
    }

-- and the other way round, where it lies within the prefix
fault_back : (x y : List ℕ) (code : ℕ) → (f : IsFault (x ++ y) code) → f.place ≤ length x → IsFault x code
fault_back x y code f h =
    let prefix : take f.place (x ++ y) ≡ take f.place x = take-append-le f.place x y h in
    let D : List ℕ → Type 0 = λ t. IsDead t in
    let C : List ℕ → Type 0 = λ t. IsCode t code in
    record {
      place = f.place;
      within = h;
      earliest = λ n k. let P : List ℕ → Type 0 = λ t. IsProperPrefix t in subst P (take-append-le n x y (omega (arith, h, k))) (f.earliest n k);
      dead = subst D prefix f.dead;
      code_is = subst C prefix f.code_is;
    }

stays_as : (w : Wire) (x y : List ℕ) (v : ℕ × Report) (r : Reading) → reading_of x ≡ r → prefix_as w x r ≡ Some v → prefix_of w (x ++ y) ≡ Some v
unfolding fault_on
stays_as w x y v (Whole f n) e h = rw (whole_stays x y f n e) h
stays_as w x y v Partial e h = absurd (cc)
stays_as w x y v (Fault code) e h =
    let fault = fault_is_reported x code e in
    let on = fault_on x y code fault in
    let places : fault_place (x ++ y) ≡ fault_place x = place_is (x ++ y) code on ∙ sym (place_is x code fault) in
    rw (reported_fault (x ++ y) code on) (ap (λ n. Some (n, broke w code)) places ∙ h)

pub stays : (w : Wire) (x y : List ℕ) (v : ℕ × Report) → prefix_of w x ≡ Some v → prefix_of w (x ++ y) ≡ Some v
stays w x y v h = stays_as w x y v (reading_of x) refl h

short_as : (w : Wire) (x : List ℕ) (r : Reading) → reading_of x ≡ r → prefix_as w x r ≡ None → reading_of x ≡ Partial
short_as w x (Whole f n) e h = absurd (cc)
short_as w x Partial e h = e
short_as w x (Fault code) e h = absurd (cc)

pub none_is_partial : (w : Wire) (x : List ℕ) → prefix_of w x ≡ None → reading_of x ≡ Partial
none_is_partial w x h = short_as w x (reading_of x) refl h

pub partial_is_none : (w : Wire) (x : List ℕ) → reading_of x ≡ Partial → prefix_of w x ≡ None
partial_is_none w x h = ap (prefix_as w x) h

pub partial_size : (x : List ℕ) → reading_of x ≡ Partial → length x ≤ 16392
partial_size x h = prefix_size x (partial_is_prefix x h)

within_as : (w : Wire) (x : List ℕ) (v : ℕ × Report) (r : Reading) → reading_of x ≡ r → prefix_as w x r ≡ Some v → v.0 ≤ length x
within_as w x v (Whole f n) e h =
    let k : n ≤ length x = ((whole_is x f n).0 e).0 in
    let same : n ≡ v.0 = cc in omega arith
within_as w x v Partial e h = absurd (cc)
within_as w x v (Fault code) e h =
    let fault = fault_is_reported x code e in
    let place : fault_place x ≡ fault.place = place_is x code fault in
    let k : fault.place ≤ length x = fault.within in
    let same : fault_place x ≡ v.0 = cc in omega arith

pub within : (w : Wire) (x : List ℕ) (v : ℕ × Report) → prefix_of w x ≡ Some v → v.0 ≤ length x
within w x v h = within_as w x v (reading_of x) refl h

after_as : (w : Wire) (x y : List ℕ) (v : ℕ × Report) (r : Reading) → reading_of x ≡ Partial → reading_of (x ++ y) ≡ r → prefix_as w (x ++ y) r ≡ Some v → length x < v.0
after_as w x y v (Whole f n) p e h =
    let same : n ≡ v.0 = cc in
    elim (cases_lt (length x) n) [
      | inl k ↦ omega arith
      | inr k ↦
          let whole = (whole_is (x ++ y) f n).0 e in
          let F : List ℕ → Type 0 = λ t. IsFrame t f in
          let here : reading_of x ≡ Whole f n = (whole_is x f n).1 (k, subst F (take-append-le n x y k) whole.1) in
          absurd (cc)
    ]
after_as w x y v Partial p e h = absurd (cc)
after_as w x y v (Fault code) p e h =
    let fault = fault_is_reported (x ++ y) code e in
    let place : fault_place (x ++ y) ≡ fault.place = place_is (x ++ y) code fault in
    let same : fault_place (x ++ y) ≡ v.0 = cc in
    elim (cases_lt (length x) fault.place) [
      | inl k ↦ omega arith
      | inr k ↦ let here : reading_of x ≡ Fault code = reported_fault x code (fault_back x y code fault k) in absurd (cc)
    ]

-- a prefix after less than a frame is longer than that
pub afterwards : (w : Wire) (x y : List ℕ) (v : ℕ × Report) → reading_of x ≡ Partial → prefix_of w (x ++ y) ≡ Some v → length x < v.0
afterwards w x y v p h = after_as w x y v (reading_of (x ++ y)) p refl h

-- as many bytes as the longest frame needs show what all show
enough_as : (w : Wire) (x y : List ℕ) (m : ℕ) → length x ≤ 16392 → m ≡ min (length y) (16393 - length x) → (o : Option (ℕ × Report)) → prefix_of w (x ++ take m y) ≡ o → prefix_of w (x ++ y) ≡ o
enough_as w x y m short e None h =
    let size : length (x ++ take m y) ≤ 16392 = partial_size (x ++ take m y) (none_is_partial w (x ++ take m y) h) in
    let le : m ≤ length y = omega (arith, e) in
    let all : length y ≤ m = omega (arith, size, length-append x (take m y), length-take-le m y le, e, short) in
    subst (λ (t : List ℕ). prefix_of w (x ++ t) ≡ None) (take_all m y all) h
enough_as w x y m short e (Some v) h =
    let more = stays w (x ++ take m y) (drop m y) v h in
    let joined : (x ++ take m y) ++ drop m y ≡ x ++ y = append_assoc x (take m y) (drop m y) ∙ ap (λ (t : List ℕ). x ++ t) (take-append-drop m y) in
    subst (λ (t : List ℕ). prefix_of w t ≡ Some v) joined more

pub enough : (w : Wire) (x y : List ℕ) (m : ℕ) → length x ≤ 16392 → m ≡ min (length y) (16393 - length x) → prefix_of w (x ++ take m y) ≡ prefix_of w (x ++ y)
enough w x y m short e = sym (enough_as w x y m short e (prefix_of w (x ++ take m y)) refl)

-- the fault of some bytes is shown within them
pub shown_within : (x : List ℕ) (code place : ℕ) → IsFault x code → ((code : ℕ) (fault : IsFault x code) → place ≡ fault.place) → place ≤ length x
shown_within x code place fault same =
    let at : place ≡ fault.place = same code fault in
    let k : fault.place ≤ length x = fault.within in omega arith
