-- The client's preface at the start of some bytes.
use Rattle.std.proofs.Common.{◌≡◌, ℕ, zero, suc, ◌<◌, ◌≤◌, ◌+◌, Bool, true, false, List, [], ◌∷◌, ◌++◌, length, refl, sym, ◌∙◌, ap, Some, None, arith, length-append}
use Rattle.std.specs.Prelude.{◌==◌, if◌then◌else◌}
use Rattle.std.proofs.lemmas.Bool.{eq-eqb, ne_eqb}
use Rattle.grpc_base.specs.ErrorCodes.{protocol_error}
use Rattle.h2_server.specs.Received.{agreed, preface_by, preface_bytes, preface_prefix}
use Rattle.h2_server.specs.Steps.{broke}
use Rattle.h2_server.specs.Wire.{Wire, Report}

within_by : (same size : ℕ) (b : Bool) → same ≤ size → (if b then suc same else 0) ≤ suc size
within_by same size true h = omega (arith, h)
within_by same size false h = omega arith

-- no more bytes agree than there are
pub agreed_within : (text bytes : List ℕ) → agreed text bytes ≤ length bytes
agreed_within [] bytes = omega arith
agreed_within (t ∷ text) [] = omega arith
agreed_within (t ∷ text) (b ∷ bytes) = within_by (agreed text bytes) (length bytes) (b == t) (agreed_within text bytes)

pub agreed_most : (text bytes : List ℕ) → agreed text bytes ≤ length text
agreed_most [] bytes = omega arith
agreed_most (t ∷ text) [] = omega arith
agreed_most (t ∷ text) (b ∷ bytes) = within_by (agreed text bytes) (length text) (b == t) (agreed_most text bytes)

differs_by : (same size more : ℕ) (b : Bool) → (same < size → more ≡ same) → (if b then suc same else 0) < suc size → (if b then suc more else 0) ≡ (if b then suc same else 0)
differs_by same size more true p h = ap suc (p (omega (arith, h)))
differs_by same size more false p h = refl

-- a byte that is another stays so, whatever follows
pub agreed_differs : (text bytes more : List ℕ) → agreed text bytes < length bytes → agreed text (bytes ++ more) ≡ agreed text bytes
agreed_differs [] bytes more h = refl
agreed_differs (t ∷ text) [] more h = absurd (omega (arith, h))
agreed_differs (t ∷ text) (b ∷ bytes) more h =
    differs_by (agreed text bytes) (length bytes) (agreed text (bytes ++ more)) (b == t) (agreed_differs text bytes more) h

all_by : (same size more : ℕ) (b : Bool) → (same ≡ size → size ≤ more) → (if b then suc same else 0) ≡ suc size → suc size ≤ (if b then suc more else 0)
all_by same size more true p e = (let le : size ≤ more = p (omega (arith, e)) in omega (arith, le))
all_by same size more false p e = absurd (omega (arith, e))

-- bytes that agree go on to do so
pub agreed_all : (text bytes more : List ℕ) → agreed text bytes ≡ length bytes → length bytes ≤ agreed text (bytes ++ more)
agreed_all text [] more e = omega arith
agreed_all [] (b ∷ bytes) more e = absurd (omega (arith, e))
agreed_all (t ∷ text) (b ∷ bytes) more e =
    all_by (agreed text bytes) (length bytes) (agreed text (bytes ++ more)) (b == t) (agreed_all text bytes more) e

full_by : (same length_of next : ℕ) (b : Bool) → (same ≡ length_of → next ≡ length_of) → (if b then suc same else 0) ≡ suc length_of → (if b then suc next else 0) ≡ suc length_of
full_by same length_of next true p e = ap suc (p (omega (arith, e)))
full_by same length_of next false p e = absurd (omega (arith, e))

-- a text that is there whole stays so
pub agreed_full : (text bytes more : List ℕ) → agreed text bytes ≡ length text → agreed text (bytes ++ more) ≡ length text
agreed_full [] bytes more e = refl
agreed_full (t ∷ text) [] more e = absurd (omega (arith, e))
agreed_full (t ∷ text) (b ∷ bytes) more e =
    full_by (agreed text bytes) (length text) (agreed text (bytes ++ more)) (b == t) (agreed_full text bytes more) e

-- the three answers of a prefix
pub by_full : (w : Wire) (size same : ℕ) → same ≡ 24 → preface_by w size same ≡ Some (24, record { wire = w; news = None })
by_full w size same e = rw e refl

pub by_less : (w : Wire) (size same : ℕ) → (same ≡ 24 → ⊥) → same ≡ size → preface_by w size same ≡ None
by_less w size same n e = rw (ne_eqb same 24 n) (rw (eq-eqb same size e) refl)

pub by_other : (w : Wire) (size same : ℕ) → (same ≡ 24 → ⊥) → (same ≡ size → ⊥) → preface_by w size same ≡ Some (same + 1, broke protocol_error)
by_other w size same n e = rw (ne_eqb same 24 n) (rw (ne_eqb same size e) refl)
