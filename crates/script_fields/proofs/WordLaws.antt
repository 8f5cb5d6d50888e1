-- The eight bytes of a word in sixteen digits.
use Rattle.std.proofs.Common.{◌≡◌, ℕ, zero, suc, ◌+◌, ◌/◌, ◌%◌, ◌<◌, List, [], ◌∷◌, length, get_or, drop, refl, sym, ap, ◌∙◌, arith, w64}
use Rattle.std.specs.Int.{from_be_bytes}
use Rattle.std.specs.List.{AllByRecursion}
use Rattle.std.proofs.Math.Seq.{drop-cons}
use Rattle.std.proofs.lemmas.List.{drop_all}
use Rattle.std.proofs.lemmas.Nat.{be_bytes_8}
use Rattle.script_fields.specs.Spelling.{hex_digits, lower_digit, word_bytes}
use Rattle.script_fields.proofs.Digits.{word_same}

-- so many bytes from a place on
abbrev bytes_from_place : ℕ → ℕ → List ℕ → List ℕ
bytes_from_place zero k bs = []
bytes_from_place (suc n) k bs = get_or bs k 0 ∷ bytes_from_place n (suc k) bs

from_place : (n k : ℕ) (bs : List ℕ) → k + n ≡ length bs → bytes_from_place n k bs ≡ drop k bs
from_place zero k bs e = sym (drop_all k bs (omega (arith, e)))
from_place (suc n) k bs e =
    let rest : bytes_from_place n (suc k) bs ≡ drop (suc k) bs = from_place n (suc k) bs (omega (arith, e)) in
    ap (λ (t : List ℕ). get_or bs k 0 ∷ t) rest ∙ sym (drop-cons bs k 0 (omega (arith, e)))

sixteen : (bs : List ℕ) → length bs ≡ 16 → bs ≡ get_or bs 0 0 ∷ get_or bs 1 0 ∷ get_or bs 2 0 ∷ get_or bs 3 0 ∷ get_or bs 4 0 ∷ get_or bs 5 0 ∷ get_or bs 6 0 ∷ get_or bs 7 0 ∷ get_or bs 8 0 ∷ get_or bs 9 0 ∷ get_or bs 10 0 ∷ get_or bs 11 0 ∷ get_or bs 12 0 ∷ get_or bs 13 0 ∷ get_or bs 14 0 ∷ get_or bs 15 0 ∷ []
sixteen bs e = sym (from_place 16 0 bs (omega (arith, e)))

below_at : (bs : List ℕ) → AllByRecursion (λ b. b < 256) bs → (i : ℕ) → get_or bs i 0 < 256
below_at [] h i = omega arith
below_at (b ∷ bs) h zero = h.0
below_at (b ∷ bs) h (suc i) = below_at bs h.1 i

-- two digits of a byte
abbrev pub IsByteAt : List ℕ → ℕ → ℕ → Type 0
IsByteAt text k b = (get_or text k 0 ≡ lower_digit (b / 16)) × (get_or text (k + 1) 0 ≡ lower_digit (b % 16))

pub word_spelled : (text : List ℕ) (a b c d e f g h w : ℕ) → length text ≡ 16 → AllByRecursion (λ x. x < 256) (a ∷ b ∷ c ∷ d ∷ e ∷ f ∷ g ∷ h ∷ []) → IsByteAt text 0 a → IsByteAt text 2 b → IsByteAt text 4 c → IsByteAt text 6 d → IsByteAt text 8 e → IsByteAt text 10 f → IsByteAt text 12 g → IsByteAt text 14 h → w ≡ from_be_bytes w64 (a ∷ b ∷ c ∷ d ∷ e ∷ f ∷ g ∷ h ∷ []) → text ≡ hex_digits (word_bytes w)
word_spelled text a b c d e f g h w size small p q r s t u v x is =
    let bytes : word_bytes w ≡ a ∷ b ∷ c ∷ d ∷ e ∷ f ∷ g ∷ h ∷ [] =
    sym (word_same w) ∙ be_bytes_8 (a ∷ b ∷ c ∷ d ∷ e ∷ f ∷ g ∷ h ∷ []) w refl (below_at (a ∷ b ∷ c ∷ d ∷ e ∷ f ∷ g ∷ h ∷ []) small) is in
    let spelled : text ≡ hex_digits (a ∷ b ∷ c ∷ d ∷ e ∷ f ∷ g ∷ h ∷ []) =
    sixteen text size ∙ (λ i. p.0 i ∷ p.1 i ∷ q.0 i ∷ q.1 i ∷ r.0 i ∷ r.1 i ∷ s.0 i ∷ s.1 i ∷ t.0 i ∷ t.1 i ∷ u.0 i ∷ u.1 i ∷ v.0 i ∷ v.1 i ∷ x.0 i ∷ x.1 i ∷ []) in
    spelled ∙ ap hex_digits (sym bytes)
