-- What has been read of a string is the prefix of one, byte by byte.
use Rattle.std.proofs.Common.{◌≡◌, ℕ, zero, suc, ◌+◌, ◌-◌, ◌*◌, ◌%◌, ◌<◌, List, [], ◌∷◌, ◌++◌, Bool, true, false, Option, Some, None, refl, ap, sym, subst, ◌∙◌, inl, inr, append_assoc, arith}
use Rattle.std.specs.Prelude.{◌==◌, ◌||◌, if◌then◌else◌, nat_lt}
use Rattle.std.proofs.lemmas.Bool.Decides.{nat_tests}
use Rattle.std.specs.Char.{digit_value}
use Rattle.json_text.specs.Strings.{is_between, hex_digit, string_byte, lead_byte, tail_byte, escaped_byte, hex_byte, settled, with_byte, with_unit, next_by, opened_quote}
use Rattle.json_text.specs.Grammar.{standing, escape, unicode, escape_value, IsStanding, hex_value, spelling, Chars, no_chars, char_after, IsString}
use Rattle.json_text.specs.declared.string.Spot.{Spot}
use Rattle.json_text.specs.declared.string.Spot.TheVariants as spot
use Rattle.json_text.specs.declared.string.StringByte.{StringByte}
use Rattle.json_text.specs.declared.string.StringByte.TheVariants as byte
use Rattle.json_text.specs.declared.string.Read.{Read}
use Rattle.json_text.specs.declared.string.QuotedNext.{QuotedNext}
use Rattle.json_text.specs.declared.string.QuotedNext.TheVariants as next
use Rattle.json_text.proofs.Tools.{by_if, same, snoc2}

-- a next byte in this range, and so many further ones, complete the character
abbrev pub Fits : ℕ → ℕ → ℕ → List ℕ → Type 0
Fits low high zero part = (b : ℕ) → is_between low high b ≡ true → IsStanding (part ++ b ∷ [])
Fits low high (suc m) part = (b : ℕ) → is_between low high b ≡ true → Fits 128 191 m (part ++ b ∷ [])

-- a next digit, and so many further ones, complete the escape
abbrev pub HexFits : ℕ → ℕ → List ℕ → Type 0
HexFits zero value part =
    (b d : ℕ) → hex_digit b ≡ Some d
    → (x y z : ℕ) × (part ++ b ∷ [] ≡ 92 ∷ 117 ∷ x ∷ y ∷ z ∷ b ∷ []) × (hex_value x y z b ≡ Some ((value * 16 + d) % 65536))
HexFits (suc m) value part = (b d : ℕ) → hex_digit b ≡ Some d → HexFits m ((value * 16 + d) % 65536) (part ++ b ∷ [])

-- the prefix of a string, after its opening quote
abbrev pub InQuoted : Spot → Read → List ℕ → Type 0
InQuoted spot.Between r t = Chars t r
InQuoted (spot.Tail low high more) r t =
    (u part : List ℕ) × (q : Read) × (t ≡ u ++ part) × Chars u q
    × (r ≡ record { text = settled q ++ part; high = None }) × (is_between low high low ≡ true) × Fits low high more part
InQuoted spot.Escape r t = (u : List ℕ) × (t ≡ u ++ 92 ∷ []) × Chars u r
InQuoted (spot.Hex left value) r t = (u part : List ℕ) × (t ≡ u ++ part) × Chars u r × HexFits left value part

-- what one byte more makes of it
abbrev pub QuotedGoes : List ℕ → ℕ → QuotedNext → Type 0
QuotedGoes t b (next.Continues q) = InQuoted q.spot q.read (t ++ b ∷ [])
QuotedGoes t b (next.Closed s) = IsString s (34 ∷ (t ++ b ∷ []))
QuotedGoes t b next.Wrong = Unit {0}

pub chars_as : (t u : List ℕ) (r s : Read) → t ≡ u → r ≡ s → Chars u s → Chars t r
chars_as t u r s e f h = subst (λ (x : List ℕ). Chars x r) (sym e) (subst (λ (q : Read). Chars u q) (sym f) h)

-- a byte that stands for itself between two characters
begins : (r : Read) (t : List ℕ) (b : ℕ) (low high more : ℕ) → Chars t r → is_between low high low ≡ true → Fits low high more (b ∷ [])
    → QuotedGoes t b (next_by r b (byte.Plain (spot.Tail low high more)))
begins r t b low high more h first fits = (t, b ∷ [], r, refl, h, refl, first, fits)

lead : (r : Read) (t : List ℕ) (b : ℕ) → Chars t r → QuotedGoes t b (next_by r b (lead_byte b))
lead r t b h =
    let P : StringByte → Type 0 = λ s. QuotedGoes t b (next_by r b s) in
    by_if P (is_between 194 223 b) _ _ (λ y. begins r t b 128 191 0 h refl (λ c hc. (y, hc))) (λ n₁.
    by_if P (b == 224) _ _ (λ y. begins r t b 160 191 1 h refl (λ c hc d hd. (inl (same b 224 y, hc), hd))) (λ n₂.
    by_if P (b == 237) _ _ (λ y. begins r t b 128 159 1 h refl (λ c hc d hd. (inr (inr (same b 237 y, hc)), hd))) (λ n₃.
    by_if P (is_between 225 239 b) _ _ (λ y. begins r t b 128 191 1 h refl (λ c hc d hd. (inr (inl (y, n₃, hc)), hd))) (λ n₄.
    by_if P (b == 240) _ _ (λ y. begins r t b 144 191 2 h refl (λ c hc d hd e he. (inl (same b 240 y, hc), hd, he))) (λ n₅.
    by_if P (is_between 241 243 b) _ _ (λ y. begins r t b 128 191 2 h refl (λ c hc d hd e he. (inr (inl (y, hc)), hd, he))) (λ n₆.
    by_if P (b == 244) _ _ (λ y. begins r t b 128 143 2 h refl (λ c hc d hd e he. (inr (inr (same b 244 y, hc)), hd, he))) (λ n₇. tt)))))))

visible : (b : ℕ) → nat_lt b 32 ≡ false → nat_lt b 128 ≡ true → is_between 32 127 b ≡ true
visible b n y = grind (arith, nat_tests)

-- the four digits of an escape
pub hex_below : (b d : ℕ) → hex_digit b ≡ Some d → d < 16
hex_below b d h =
    by_if (λ (o : Option ℕ). o ≡ Some d → d < 16) (nat_lt (digit_value b) 16) _ _ (λ y e. let f : digit_value b ≡ d = cc in subst (λ (x : ℕ). x < 16) f (below_as (digit_value b) y)) (λ n e. cc) h
  where
    below_as : (v : ℕ) → nat_lt v 16 ≡ true → v < 16
    below_as v y = grind (arith, nat_tests)

pub four : (b₁ d₁ : ℕ) → hex_digit b₁ ≡ Some d₁ → (b₂ d₂ : ℕ) → hex_digit b₂ ≡ Some d₂ → (b₃ d₃ : ℕ) → hex_digit b₃ ≡ Some d₃ → (b₄ d₄ : ℕ) → hex_digit b₄ ≡ Some d₄
    → hex_value b₁ b₂ b₃ b₄ ≡ Some (((((((0 * 16 + d₁) % 65536) * 16 + d₂) % 65536) * 16 + d₃) % 65536 * 16 + d₄) % 65536)
four b₁ d₁ h₁ b₂ d₂ h₂ b₃ d₃ h₃ b₄ d₄ h₄ =
    let l₁ = hex_below b₁ d₁ h₁ in
    let l₂ = hex_below b₂ d₂ h₂ in
    let l₃ = hex_below b₃ d₃ h₃ in
    let l₄ = hex_below b₄ d₄ h₄ in
    let value : (((0 * 16 + d₁) * 16 + d₂) * 16 + d₃) * 16 + d₄ ≡ ((((((0 * 16 + d₁) % 65536) * 16 + d₂) % 65536) * 16 + d₃) % 65536 * 16 + d₄) % 65536 = omega arith in
    rw h₁ (rw h₂ (rw h₃ (rw h₄ (ap (λ (x : ℕ). Some x) value))))

hex_begins : HexFits 3 0 (92 ∷ 117 ∷ [])
hex_begins b₁ d₁ h₁ b₂ d₂ h₂ b₃ d₃ h₃ b₄ d₄ h₄ = (b₁, b₂, b₃, refl, four b₁ d₁ h₁ b₂ d₂ h₂ b₃ d₃ h₃ b₄ d₄ h₄)

-- a letter after a backslash
pub letter : (r : Read) (t u : List ℕ) (b unit : ℕ) → t ≡ u ++ 92 ∷ [] → Chars u r → escape_value b ≡ Some unit → Chars (t ++ b ∷ []) (with_unit r unit)
letter r t u b unit e h is =
    chars_as (t ++ b ∷ []) (u ++ spelling (escape b)) (with_unit r unit) (with_unit r unit) (snoc2 t u (92 ∷ []) b e) refl
    (char_after h (escape b) (with_unit r unit) (unit, refl, is))

pub by_both : {A B : Type 0} (P : A → B → Type 0) (c : Bool) (x y : A) (v w : B) → (c ≡ true → P x v) → (c ≡ false → P y w)
    → P (if c then x else y) (if c then v else w)
by_both P true x y v w f g = f refl
by_both P false x y v w f g = g refl

escaped : (r : Read) (t u : List ℕ) (b : ℕ) → t ≡ u ++ 92 ∷ [] → Chars u r → QuotedGoes t b (next_by r b (escaped_byte b))
escaped r t u b e h =
    let P : StringByte → Option ℕ → Type 0 = λ s o. escape_value b ≡ o → QuotedGoes t b (next_by r b s) in
    by_both P ((b == 34) || (b == 92) || (b == 47)) _ _ _ _ (λ _ is. letter r t u b b e h is) (λ _.
    by_both P (b == 98) _ _ _ _ (λ _ is. letter r t u b 8 e h is) (λ _.
    by_both P (b == 102) _ _ _ _ (λ _ is. letter r t u b 12 e h is) (λ _.
    by_both P (b == 110) _ _ _ _ (λ _ is. letter r t u b 10 e h is) (λ _.
    by_both P (b == 114) _ _ _ _ (λ _ is. letter r t u b 13 e h is) (λ _.
    by_both P (b == 116) _ _ _ _ (λ _ is. letter r t u b 9 e h is) (λ _ is.
    by_if (λ (s : StringByte). QuotedGoes t b (next_by r b s)) (b == 117) _ _
    (λ y. (u, 92 ∷ 117 ∷ [], snoc2 t u (92 ∷ []) b e ∙ ap (λ (x : ℕ). u ++ 92 ∷ x ∷ []) (same b 117 y), h, hex_begins))
    (λ n. tt))))))) refl

tail_read : (q r : Read) (part : List ℕ) (b : ℕ) → r ≡ record { text = settled q ++ part; high = None }
    → with_byte r b ≡ record { text = settled q ++ (part ++ b ∷ []); high = None }
tail_read q r part b e =
    let A : Read = record { text = settled q ++ part; high = None } in
    let one : with_byte r b ≡ with_byte A b = ap (λ (x : Read). with_byte x b) e in
    let two : with_byte A b ≡ record { text = settled q ++ (part ++ b ∷ []); high = None } = ap (λ (x : List ℕ). let v : Read = record { text = x; high = None } in v) (append_assoc (settled q) part (b ∷ [])) in
    one ∙ two

tail_goes : (low high more : ℕ) (r : Read) (t : List ℕ) (b : ℕ) → InQuoted (spot.Tail low high more) r t
    → QuotedGoes t b (next_by r b (tail_byte low high more b))
tail_goes low high zero r t b h =
    by_if (λ (s : StringByte). QuotedGoes t b (next_by r b s)) (is_between low high b) _ _
    (λ y. chars_as (t ++ b ∷ []) (h.0 ++ (h.1 ++ b ∷ [])) (with_byte r b) _ (snoc2 t h.0 h.1 b h.3) (tail_read h.2 r h.1 b h.5)
    (char_after h.4 (standing (h.1 ++ b ∷ [])) _ (refl, h.7 b y)))
    (λ n. tt)
tail_goes low high (suc m) r t b h =
    by_if (λ (s : StringByte). QuotedGoes t b (next_by r b s)) (is_between low high b) _ _
    (λ y. by_if (λ (s : StringByte). QuotedGoes t b (next_by r b s)) (suc m == 0) _ _
    (λ z. absurd (grind (arith, nat_tests)))
    (λ n. let less : m ≡ suc m - 1 = omega arith in
    subst (λ (k : ℕ). QuotedGoes t b (next_by r b (byte.Plain (spot.Tail 128 191 k)))) less
    (h.0, h.1 ++ b ∷ [], h.2, snoc2 t h.0 h.1 b h.3, h.4, tail_read h.2 r h.1 b h.5, refl, h.7 b y)))
    (λ n. tt)

hex_goes : (left value : ℕ) (r : Read) (t : List ℕ) (b : ℕ) (o : Option ℕ) → hex_digit b ≡ o → InQuoted (spot.Hex left value) r t
    → QuotedGoes t b (next_by r b (hex_byte left value o))
hex_goes left value r t b None is h = tt
hex_goes zero value r t b (Some d) is h =
    let last = h.4 b d is in
    chars_as (t ++ b ∷ []) (h.0 ++ spelling (unicode last.0 last.1 last.2 b)) _ _
    (snoc2 t h.0 h.1 b h.2 ∙ ap (λ (x : List ℕ). h.0 ++ x) last.3) refl
    (char_after h.3 (unicode last.0 last.1 last.2 b) _ ((value * 16 + d) % 65536, refl, last.4))
hex_goes (suc m) value r t b (Some d) is h =
    by_if (λ (s : StringByte). QuotedGoes t b (next_by r b s)) (suc m == 0) _ _
    (λ z. absurd (grind (arith, nat_tests)))
    (λ n. let less : m ≡ suc m - 1 = omega arith in
    subst (λ (k : ℕ). QuotedGoes t b (next_by r b (byte.Inside (spot.Hex k ((value * 16 + d) % 65536))))) less
    (h.0, h.1 ++ b ∷ [], snoc2 t h.0 h.1 b h.2, h.3, h.4 b d is))

pub quoted_goes : (s : Spot) (r : Read) (t : List ℕ) (b : ℕ) → InQuoted s r t → QuotedGoes t b (next_by r b (string_byte s b))
quoted_goes spot.Between r t b h =
    let P : StringByte → Type 0 = λ s. QuotedGoes t b (next_by r b s) in
    by_if P (b == 34) _ _ (λ y. (t, r, ap (λ (x : ℕ). 34 ∷ (t ++ x ∷ [])) (same b 34 y), refl, h)) (λ n₁.
    by_if P (b == 92) _ _ (λ y. (t, ap (λ (x : ℕ). t ++ x ∷ []) (same b 92 y), h)) (λ n₂.
    by_if P (nat_lt b 32) _ _ (λ y. tt) (λ n₃.
    by_if P (nat_lt b 128) _ _ (λ y. char_after h (standing (b ∷ [])) _ (refl, (visible b n₃ y, n₁, n₂))) (λ n₄. lead r t b h))))
quoted_goes (spot.Tail low high more) r t b h = tail_goes low high more r t b h
quoted_goes spot.Escape r t b h = escaped r t h.0 b h.1 h.2
quoted_goes (spot.Hex left value) r t b h = hex_goes left value r t b (hex_digit b) refl h

pub opened_is : InQuoted opened_quote.spot opened_quote.read []
opened_is = no_chars
