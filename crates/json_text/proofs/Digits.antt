-- What has been read of a number is the prefix of one, byte by byte.
use Rattle.std.proofs.Common.{◌≡◌, ℕ, List, [], ◌∷◌, ◌++◌, true, false, refl, ap, ap₂, inl, inr}
use Rattle.std.specs.Prelude.{◌==◌}
use Rattle.json_text.specs.Numbers.{is_digit, is_e, is_sign, number_byte, after_whole}
use Rattle.json_text.specs.Grammar.{AreDigits, IsDigits, IsMinus, IsInteger, IsPlain, HasExponent}
use Rattle.json_text.specs.declared.number.Part.{Part}
use Rattle.json_text.specs.declared.number.Part.TheVariants as part
use Rattle.json_text.specs.declared.number.NumberByte.{NumberByte}
use Rattle.json_text.specs.declared.number.NumberByte.TheVariants as byte
use Rattle.json_text.proofs.Tools.{by_if, same, snoc2}

-- the prefix of a number up to a part of it
abbrev pub IsPart : Part → List ℕ → Type 0
IsPart part.Minus t = t ≡ 45 ∷ []
IsPart part.Zero t = (minus : List ℕ) × (t ≡ minus ++ 48 ∷ []) × IsMinus minus
IsPart part.Whole t =
    (minus : List ℕ) × (d : ℕ) × (ds : List ℕ) × (t ≡ minus ++ d ∷ ds) × IsMinus minus
    × ((d == 48) ≡ false) × (is_digit d ≡ true) × AreDigits ds
IsPart part.Point t = (prefix : List ℕ) × (t ≡ prefix ++ 46 ∷ []) × IsInteger prefix
IsPart part.Fraction t = (prefix digits : List ℕ) × (t ≡ prefix ++ 46 ∷ digits) × IsInteger prefix × IsDigits digits
IsPart part.Mark t = (prefix : List ℕ) × (e : ℕ) × (t ≡ prefix ++ e ∷ []) × IsPlain prefix × (is_e e ≡ true)
IsPart part.Sign t =
    (prefix : List ℕ) × (e s : ℕ) × (t ≡ prefix ++ e ∷ s ∷ []) × IsPlain prefix × (is_e e ≡ true) × (is_sign s ≡ true)

-- what one byte more makes of it
abbrev pub PartGoes : List ℕ → ℕ → NumberByte → Type 0
PartGoes t b (byte.Inside p) = IsPart p (t ++ b ∷ [])
PartGoes t b byte.After = IsPlain t
PartGoes t b byte.Exponent = HasExponent (t ++ b ∷ [])
PartGoes t b byte.Wrong = Unit {0}

digits_snoc : (ds : List ℕ) (b : ℕ) → AreDigits ds → is_digit b ≡ true → AreDigits (ds ++ b ∷ [])
digits_snoc [] b h y = (y, tt)
digits_snoc (d ∷ ds) b h y = (h.0, digits_snoc ds b h.1 y)

some_digits_snoc : (ds : List ℕ) (b : ℕ) → IsDigits ds → is_digit b ≡ true → IsDigits (ds ++ b ∷ [])
some_digits_snoc [] b h y = absurd h
some_digits_snoc (d ∷ ds) b h y = (h.0, digits_snoc ds b h.1 y)

afterwards : (t : List ℕ) (b : ℕ) → IsInteger t → PartGoes t b (after_whole b)
afterwards t b whole =
    by_if (PartGoes t b) (b == 46) _ _
    (λ y. (t, ap (λ (x : ℕ). t ++ x ∷ []) (same b 46 y), whole))
    (λ n. by_if (PartGoes t b) (is_e b) _ _ (λ y. (t, b, refl, inl whole, y)) (λ m. inl whole))

pub part_goes : (p : Part) (t : List ℕ) (b : ℕ) → IsPart p t → PartGoes t b (number_byte p b)
part_goes part.Minus t b h =
    by_if (PartGoes t b) (b == 48) _ _
    (λ y. (45 ∷ [], ap₂ (λ (x : List ℕ) (z : ℕ). x ++ z ∷ []) h (same b 48 y), refl))
    (λ n. by_if (PartGoes t b) (is_digit b) _ _
    (λ y. (45 ∷ [], b, [], ap (λ (x : List ℕ). x ++ b ∷ []) h, refl, n, y, tt))
    (λ m. tt))
part_goes part.Zero t b h = afterwards t b (h.0, 48 ∷ [], h.1, h.2, inl (refl, refl))
part_goes part.Whole t b h =
    by_if (PartGoes t b) (is_digit b) _ _
    (λ y. (h.0, h.1, h.2 ++ b ∷ [], snoc2 t h.0 (h.1 ∷ h.2) b h.3, h.4, h.5, h.6, digits_snoc h.2 b h.7 y))
    (λ n. afterwards t b (h.0, h.1 ∷ h.2, h.3, h.4, inr (h.5, h.6, h.7)))
part_goes part.Point t b h =
    by_if (PartGoes t b) (is_digit b) _ _
    (λ y. (h.0, b ∷ [], snoc2 t h.0 (46 ∷ []) b h.1, h.2, (y, tt)))
    (λ n. tt)
part_goes part.Fraction t b h =
    by_if (PartGoes t b) (is_digit b) _ _
    (λ y. (h.0, h.1 ++ b ∷ [], snoc2 t h.0 (46 ∷ h.1) b h.2, h.3, some_digits_snoc h.1 b h.4 y))
    (λ n. by_if (PartGoes t b) (is_e b) _ _
    (λ y. (t, b, refl, inr h, y))
    (λ m. inr h))
part_goes part.Mark t b h =
    by_if (PartGoes t b) (is_sign b) _ _
    (λ y. (h.0, h.1, b, snoc2 t h.0 (h.1 ∷ []) b h.2, h.3, h.4, y))
    (λ n. by_if (PartGoes t b) (is_digit b) _ _
    (λ y. (h.0, h.1, [], b ∷ [], snoc2 t h.0 (h.1 ∷ []) b h.2, h.3, h.4, tt, (y, tt)))
    (λ m. tt))
part_goes part.Sign t b h =
    by_if (PartGoes t b) (is_digit b) _ _
    (λ y. (h.0, h.1, h.2 ∷ [], b ∷ [], snoc2 t h.0 (h.1 ∷ h.2 ∷ []) b h.3, h.4, h.5, h.6, (y, tt)))
    (λ n. tt)
