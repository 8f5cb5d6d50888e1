-- Numbers of any length.
use Rattle.std.proofs.Common.{◌≡◌, ℕ, zero, suc, ◌<◌, ◌≤◌, ◌^◌, List, length, get_or, true, sym, subst, ap, ◌∙◌, arith, rules, Option, Some, None, inl, inr, refl}
use Rattle.std.specs.Prelude.{decimal, IfSome, IsTrue}
use Rattle.std.specs.List.{list_all}
use Rattle.std.specs.Char.{is_ascii_digit}
use Rattle.std.specs.Str.Parse.{digits_value}
use Rattle.std.proofs.lemmas.Bool.{cases_lt}
use Rattle.std.proofs.lemmas.Bool.Decides.{nat_tests}
use Rattle.std.proofs.lemmas.Fmt.{decimal_digit, decimal_is_IsNumeral, decimal_nonempty, decimal-digits_value, first_decimal}
use Rattle.std.proofs.lemmas.Str.Parse.{IsNumeralModel, numerals_by_value}
use Rattle.grpc_base.specs.Numbers.{is_number, number_of}
use Rattle.script_fields.specs.Reading.{SpellsNumber, SpellsNumberOrDash}
use Rattle.script_fields.specs.Spelling.{number_or_dash}

own : IsNumeralModel (λ ds. list_all is_ascii_digit ds ≡ true) (digits_value 10)
own = numerals_by_value _ (search rules)

both_tests : (text : List ℕ) → 0 < length text → list_all is_ascii_digit text ≡ true → is_number text ≡ true
both_tests text some digits = grind (arith, nat_tests)

digits_of_number : (text : List ℕ) → is_number text ≡ true → list_all is_ascii_digit text ≡ true
digits_of_number text digits = grind (arith, nat_tests)

some_of_number : (text : List ℕ) → is_number text ≡ true → 0 < length text
some_of_number text digits = grind (arith, nat_tests)

-- the one spelling of a number below 2^64
pub number_spelled : (n : ℕ) → n < 2 ^ 64 → SpellsNumber (decimal n) n
number_spelled zero small = record { digits = both_tests (decimal 0) (decimal_nonempty 0 small) (own.from (decimal 0) (decimal_is_IsNumeral 0 small).0.1); no_zero_first = λ e. ap length (decimal_digit 0 (omega arith)); value = (decimal_is_IsNumeral 0 small).1 }
number_spelled (suc n) small =
    let first : 48 < get_or (decimal (suc n)) 0 0 = first_decimal (suc n) (omega arith) small in
    record { digits = both_tests (decimal (suc n)) (decimal_nonempty (suc n) small) (own.from (decimal (suc n)) (decimal_is_IsNumeral (suc n) small).0.1); no_zero_first = λ e. absurd (omega (arith, first, e)); value = (decimal_is_IsNumeral (suc n) small).1 }

-- such a text is the spelling of its number, where that is below 2^64
pub canonical_decimal : (text : List ℕ) → SpellsNumber text (number_of text) → number_of text < 2 ^ 64 → text ≡ decimal (number_of text)
canonical_decimal text spelled small = sym (decimal-digits_value own text (digits_of_number text spelled.digits) (some_of_number text spelled.digits) spelled.no_zero_first small)

pub decimal_canonical : (text : List ℕ) (n : ℕ) → n < 2 ^ 64 → text ≡ decimal n → SpellsNumber text (number_of text) × (number_of text ≡ n)
decimal_canonical text n small e =
    let is : SpellsNumber text n = subst (λ t. SpellsNumber t n) (sym e) (number_spelled n small) in
    (record { digits = is.digits; no_zero_first = is.no_zero_first; value = refl }, is.value)

-- such a text whose number is 2^64 or more is no spelling of one below
pub large_number : (text : List ℕ) → SpellsNumber text (number_of text) → (IsTrue (is_number text) → 2 ^ 64 ≤ number_of text) → (n : ℕ) → n < 2 ^ 64 → text ≡ decimal n → ⊥
large_number text spelled large n small e =
    let same : number_of text ≡ n = (decimal_canonical text n small e).1 in
    let above : 2 ^ 64 ≤ number_of text = large spelled.digits in
    omega (arith, small, same, above)

-- a number that is none up to a limit is above it
pub number_above : (text : List ℕ) (most : ℕ) → most < 2 ^ 64 → SpellsNumber text (number_of text) → ((n : ℕ) → n ≤ most → text ≡ decimal n → ⊥) → most < number_of text
number_above text most small spelled none =
    elim (cases_lt most (number_of text)) [
      | inl above ↦ above
      | inr within ↦ (
          let is : text ≡ decimal (number_of text) = canonical_decimal text spelled (omega (arith, small, within)) in
          absurd (none (number_of text) within is)
          )
    ]
