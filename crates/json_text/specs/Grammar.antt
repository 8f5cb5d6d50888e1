-- The texts of a JSON value (RFC 8259): its grammar, as a relation between a value and a text.
use Rattle.std.specs.Prelude.{◌≡◌, ◌⊎◌, ℕ, ◌+◌, ◌*◌, Bool, true, false, ◌==◌, ◌||◌, if◌then◌else◌, List, [], ◌∷◌, ◌++◌, Option, Some, None, option_and_then, option_map}
use Rattle.json_text.specs.Tree.{Tree, null, boolean, number, string, list, object, Items, no_items, item_after, Members, no_members, member_after}
use Rattle.json_text.specs.Numbers.{is_digit, is_e, is_sign}
use Rattle.json_text.specs.Strings.{is_between, hex_digit, settled, with_unit, nothing_read}
use Rattle.json_text.specs.declared.string.Read.{Read}

-- Blanks (section 2).
abbrev pub is_blank : ℕ → Bool
is_blank b = (b == 32) || (b == 9) || (b == 10) || (b == 13)

abbrev pub IsBlank : List ℕ → Type 0
IsBlank [] = Unit {0}
IsBlank (b ∷ w) = (is_blank b ≡ true) × IsBlank w

-- Numbers (section 6).
abbrev pub AreDigits : List ℕ → Type 0
AreDigits [] = Unit {0}
AreDigits (d ∷ ds) = (is_digit d ≡ true) × AreDigits ds

-- one digit or more
abbrev pub IsDigits : List ℕ → Type 0
IsDigits [] = ⊥
IsDigits (d ∷ ds) = (is_digit d ≡ true) × AreDigits ds

-- a minus, or nothing
abbrev pub IsMinus : List ℕ → Type 0
IsMinus [] = Unit {0}
IsMinus (s ∷ []) = s ≡ 45
IsMinus (s ∷ t ∷ ts) = ⊥

-- a 0, or digits that begin with another
abbrev pub IsWhole : List ℕ → Type 0
IsWhole [] = ⊥
IsWhole (d ∷ ds) = ((d ≡ 48) × (ds ≡ [])) ⊎ (((d == 48) ≡ false) × (is_digit d ≡ true) × AreDigits ds)

abbrev pub IsInteger : List ℕ → Type 0
IsInteger t = (minus whole : List ℕ) × (t ≡ minus ++ whole) × IsMinus minus × IsWhole whole

-- a number without an exponent
abbrev pub IsPlain : List ℕ → Type 0
IsPlain t = IsInteger t ⊎ ((prefix digits : List ℕ) × (t ≡ prefix ++ 46 ∷ digits) × IsInteger prefix × IsDigits digits)

-- the sign of an exponent, or nothing
abbrev pub IsPlusMinus : List ℕ → Type 0
IsPlusMinus [] = Unit {0}
IsPlusMinus (s ∷ []) = is_sign s ≡ true
IsPlusMinus (s ∷ t ∷ ts) = ⊥

abbrev pub HasExponent : List ℕ → Type 0
HasExponent t =
    (prefix : List ℕ) × (e : ℕ) × (sign digits : List ℕ) × (t ≡ prefix ++ e ∷ (sign ++ digits))
    × IsPlain prefix × (is_e e ≡ true) × IsPlusMinus sign × IsDigits digits

abbrev pub IsNumber : List ℕ → Type 0
IsNumber t = IsPlain t ⊎ HasExponent t

-- Strings (section 7). A character of a string: as it stands, a backslash and a letter, or four digits.
pub data Char : Type 0 where
  standing : List ℕ → Char
  escape : ℕ → Char
  unicode : ℕ → ℕ → ℕ → ℕ → Char

-- the character that a letter after a backslash stands for
abbrev pub escape_value : ℕ → Option ℕ
escape_value b =
    if (b == 34) || (b == 92) || (b == 47) then Some b
    else if b == 98 then Some 8
    else if b == 102 then Some 12
    else if b == 110 then Some 10
    else if b == 114 then Some 13
    else if b == 116 then Some 9
    else None

-- a byte of a character of several bytes, but for its first two
abbrev pub IsTail : ℕ → Type 0
IsTail b = is_between 128 191 b ≡ true

-- a character in UTF-8 (RFC 3629, section 4), but for a quote, a backslash and control characters
abbrev pub IsStanding : List ℕ → Type 0
IsStanding [] = ⊥
IsStanding (a ∷ []) = (is_between 32 127 a ≡ true) × ((a == 34) ≡ false) × ((a == 92) ≡ false)
IsStanding (a ∷ b ∷ []) = (is_between 194 223 a ≡ true) × IsTail b
IsStanding (a ∷ b ∷ c ∷ []) =
    (((a ≡ 224) × (is_between 160 191 b ≡ true)) ⊎ (((is_between 225 239 a ≡ true) × ((a == 237) ≡ false) × IsTail b)
    ⊎ ((a ≡ 237) × (is_between 128 159 b ≡ true)))) × IsTail c
IsStanding (a ∷ b ∷ c ∷ d ∷ []) =
    (((a ≡ 240) × (is_between 144 191 b ≡ true)) ⊎ (((is_between 241 243 a ≡ true) × IsTail b)
    ⊎ ((a ≡ 244) × (is_between 128 143 b ≡ true)))) × IsTail c × IsTail d
IsStanding (a ∷ b ∷ c ∷ d ∷ e ∷ t) = ⊥

-- the code unit of four hexadecimal digits
abbrev pub hex_more : ℕ → ℕ → Option ℕ
hex_more value b = option_map (λ d. value * 16 + d) (hex_digit b)

abbrev pub hex_value : ℕ → ℕ → ℕ → ℕ → Option ℕ
hex_value a b c d =
    option_and_then (λ x. option_and_then (λ y. option_and_then (λ z. hex_more z d) (hex_more y c)) (hex_more x b)) (hex_more 0 a)

-- how a character is spelled
abbrev pub spelling : Char → List ℕ
spelling (standing bytes) = bytes
spelling (escape b) = 92 ∷ b ∷ []
spelling (unicode a b c d) = 92 ∷ 117 ∷ a ∷ b ∷ c ∷ d ∷ []

-- What is read of a string when a character follows what was read before it. An escaped first half of a
-- pair right before an escaped second half is one character with it, and any other half reads as U+FFFD.
abbrev pub Reads : Char → Read → Read → Type 0
Reads (standing bytes) before after = (after ≡ record { text = settled before ++ bytes; high = None }) × IsStanding bytes
Reads (escape b) before after = (unit : ℕ) × (after ≡ with_unit before unit) × (escape_value b ≡ Some unit)
Reads (unicode a b c d) before after = (unit : ℕ) × (after ≡ with_unit before unit) × (hex_value a b c d ≡ Some unit)

-- characters, the last one outermost, with what is read of them
pub data Chars : List ℕ → Read → Type 0 where
  no_chars : Chars [] nothing_read
  char_after : {t : List ℕ} {r : Read} → Chars t r → (c : Char) (s : Read) → Reads c r s → Chars (t ++ spelling c) s

abbrev pub IsString : List ℕ → List ℕ → Type 0
IsString s t = (inner : List ℕ) × (r : Read) × (t ≡ 34 ∷ (inner ++ 34 ∷ [])) × (s ≡ settled r) × Chars inner r

-- Lists and objects (sections 4 and 5), with blanks round each of their brackets, commas and colons.
-- a value after what stands before it, and blanks
abbrev pub Ended : (List ℕ → Type 0) → (List ℕ → Type 0) → List ℕ → Type 0
Ended Before Value t = (f u w : List ℕ) × (t ≡ f ++ (u ++ w)) × Before f × Value u × IsBlank w

-- a comma after that, and blanks
abbrev pub Comma : (List ℕ → Type 0) → List ℕ → Type 0
Comma Before t = (f w : List ℕ) × (t ≡ f ++ 44 ∷ w) × Before f × IsBlank w

-- a name after what stands before it, and a colon
abbrev pub Named : (List ℕ → Type 0) → List ℕ → List ℕ → Type 0
Named Before name t =
    (f s w x : List ℕ) × (t ≡ f ++ (s ++ (w ++ 58 ∷ x))) × Before f × IsString name s × IsBlank w × IsBlank x

abbrev mutual
  pub IsValue : Tree → List ℕ → Type 0
  IsValue null t = t ≡ 110 ∷ 117 ∷ 108 ∷ 108 ∷ []
  IsValue (boolean true) t = t ≡ 116 ∷ 114 ∷ 117 ∷ 101 ∷ []
  IsValue (boolean false) t = t ≡ 102 ∷ 97 ∷ 108 ∷ 115 ∷ 101 ∷ []
  IsValue (number n) t = (t ≡ n) × IsNumber n
  IsValue (string s) t = IsString s t
  IsValue (list items) t = (inner : List ℕ) × (t ≡ 91 ∷ (inner ++ 93 ∷ [])) × InList items inner
  IsValue (object members) t = (inner : List ℕ) × (t ≡ 123 ∷ (inner ++ 125 ∷ [])) × InObject members inner

  -- what stands between the brackets of a list
  pub InList : Items → List ℕ → Type 0
  InList no_items t = IsBlank t
  InList (item_after items v) t = Ended (λ f. BeforeItem items f) (λ u. IsValue v u) t

  -- what stands there before a further value
  pub BeforeItem : Items → List ℕ → Type 0
  BeforeItem no_items t = IsBlank t
  BeforeItem (item_after items v) t = Comma (λ f. Ended (λ g. BeforeItem items g) (λ u. IsValue v u) f) t

  -- what stands between the brackets of an object
  pub InObject : Members → List ℕ → Type 0
  InObject no_members t = IsBlank t
  InObject (member_after members name v) t =
      Ended (λ f. Named (λ g. BeforeName members g) name f) (λ u. IsValue v u) t

  -- what stands there before a further name
  pub BeforeName : Members → List ℕ → Type 0
  BeforeName no_members t = IsBlank t
  BeforeName (member_after members name v) t =
      Comma (λ f. Ended (λ g. Named (λ h. BeforeName members h) name g) (λ u. IsValue v u) f) t

abbrev pub IsObject : Tree → Type 0
IsObject (object ms) = Unit {0}
IsObject v = ⊥

-- A JSON text with an object at its top.
abbrev pub IsText : Tree → List ℕ → Type 0
IsText v t = Ended IsBlank (IsValue v) t × IsObject v

-- A prefix of a JSON text: some further bytes make one of these.
abbrev pub CanEnd : List ℕ → Type 0
CanEnd p = (more : List ℕ) × (v : Tree) × IsText v (p ++ more)
