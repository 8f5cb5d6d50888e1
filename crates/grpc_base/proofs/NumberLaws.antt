-- What `parse` and `from_utf8` answer at a text of digits.
use Rattle.std.proofs.Common.{◌≡◌, ℕ, ◌<◌, ◌≤◌, ◌^◌, List, length, get_or, true, sym, arith, rules, Result, Ok, Err, IfSome, IfNone, inl, inr}
use Rattle.std.proofs.lemmas.Bool.Decides.{nat_tests}
use Rattle.std.proofs.lemmas.Bool.{cases_lt}
use Rattle.std.specs.Result.{OkIff, result_ok}
use Rattle.std.specs.List.{list_all}
use Rattle.std.specs.Char.{is_ascii_digit}
use Rattle.std.specs.Str.{IsUtf8}
use Rattle.std.specs.Str.Parse.{ParsesUnsigned, digits_value}
use Rattle.std.proofs.lemmas.List.Sums.{AllPass-from_list_all}
use Rattle.std.proofs.lemmas.List.{get_or_past}
use Rattle.std.proofs.lemmas.Str.{IsUtf8-from_ascii}
use Rattle.std.proofs.lemmas.Str.Parse.{IsNumeralModel, numerals_by_value, parse_digits}
use Rattle.grpc_base.specs.Numbers.{is_number, number_of}

own : IsNumeralModel (λ ds. list_all is_ascii_digit ds ≡ true) (digits_value 10)
own = numerals_by_value _ (search rules)

-- the two halves of the test
are_digits : (text : List ℕ) → is_number text ≡ true → list_all is_ascii_digit text ≡ true
are_digits text digits = grind (arith, nat_tests)

not_empty : (text : List ℕ) → is_number text ≡ true → 0 < length text
not_empty text digits = grind (arith, nat_tests)

-- digits are read as the number that they write, where it is below 2^64
pub parsed_some : {E : Type 0} (text : List ℕ) (r : Result ℕ E) → is_number text ≡ true → OkIff r ((0 < length text) × (number_of text < 2 ^ 64)) (number_of text) → IfSome (result_ok r) (λ n. number_of text ≡ n)
parsed_some text (Ok n) digits reads = sym reads.1
parsed_some text (Err e) digits reads = tt

pub parsed_none : {E : Type 0} (text : List ℕ) (r : Result ℕ E) → is_number text ≡ true → OkIff r ((0 < length text) × (number_of text < 2 ^ 64)) (number_of text) → IfNone (result_ok r) (2 ^ 64 ≤ number_of text)
parsed_none text (Ok n) digits reads = tt
parsed_none text (Err e) digits reads =
    elim (cases_lt (number_of text) (2 ^ 64)) [ inl small ↦ absurd (reads (not_empty text digits, small)) | inr large ↦ large ]

pub parsed : {E : Type 0} (text : List ℕ) (r : Result ℕ E) → is_number text ≡ true → ParsesUnsigned 64 10 text r → OkIff r ((0 < length text) × (number_of text < 2 ^ 64)) (number_of text)
parsed text r digits reads = parse_digits own 64 text r reads (are_digits text digits)

digit_is_ascii : (c : ℕ) → is_ascii_digit c ≡ true → c < 128
digit_is_ascii c digit = grind (arith, nat_tests)

-- a digit is ASCII, and so is what stands past the end
ascii_at : (text : List ℕ) (i : ℕ) → list_all is_ascii_digit text ≡ true → get_or text i 0 < 128
ascii_at text i digits = elim (cases_lt i (length text)) [
  | inl within ↦ (let digit : is_ascii_digit (get_or text i 0) ≡ true = AllPass-from_list_all is_ascii_digit text digits i 0 within in digit_is_ascii _ digit)
  | inr past ↦ (let zero : get_or text i 0 ≡ 0 = get_or_past text i 0 past in omega arith)
]

-- digits are UTF-8
pub digits_are_utf8 : (text : List ℕ) → is_number text ≡ true → IsUtf8 text
digits_are_utf8 text digits = IsUtf8-from_ascii text (λ i. ascii_at text i (are_digits text digits))
