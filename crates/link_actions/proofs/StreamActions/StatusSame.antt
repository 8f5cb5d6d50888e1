-- The HTTP status of a header list is the same for a link and for a session.
use Rattle.std.proofs.Common.{◌≡◌, ◌∷◌, ◌||◌, ◌&&◌, ◌==◌, ap, arith, refl, sym, ◌∙◌, Bool, true, false, List, [], Option, None, Some, ℕ, ◌+◌, ◌-◌, ◌*◌, suc, cond, filter, if◌then◌else◌, length, map, nat_le, nat_lt}
use Rattle.std.specs.Char.{digit_value, is_ascii_digit}
use Rattle.std.specs.List.{list_all, list_any}
use Rattle.std.specs.Prelude.{codes}
use Rattle.std.proofs.lemmas.Bool.Decides.{nat_tests}
use Rattle.grpc_base.specs.Numbers.{number_of}
use Rattle.grpc_base.specs.declared.fields.Field.{Field}
use Rattle.grpc_meta.specs.ResponseFields.{values_of}
use Rattle.h2_link.specs.Status as link
use Rattle.link_actions.proofs.Lists.{if_false, if_true}
use Rattle.session_actions.specs.Responses.{http_status, is_interim, three_digits}

-- three digits
digit_of : (b : ℕ) → nat_lt b 48 ≡ false → nat_lt b 58 ≡ true → digit_value b ≡ b - 48
digit_of b low high =
    let other : ℕ = 36 in
    if_false (nat_lt b 48) other _ low ∙ if_true (nat_lt b 58) (b - 48) _ high

digit_by : (b : ℕ) (low high : Bool) → nat_le 48 b ≡ low → nat_le b 57 ≡ high → (low && high) ≡ true → digit_value b ≡ b - 48
digit_by b true true low high e =
    let not_low : nat_lt b 48 ≡ false = grind (arith, nat_tests, low) in
    let below : nat_lt b 58 ≡ true = grind (arith, nat_tests, high) in
    digit_of b not_low below
digit_by b true false low high e = absurd (cc)
digit_by b false high_ low high e = absurd (cc)

digits_are : (a b c x y z : ℕ) → x ≡ a → y ≡ b → z ≡ c → a * 100 + b * 10 + c ≡ ((0 * 10 + x) * 10 + y) * 10 + z
digits_are a b c x y z e h i = omega (arith, e, h, i)

digit_is : (b : ℕ) → link.is_digit b ≡ true → digit_value b ≡ b - 48
digit_is b e = digit_by b (nat_le 48 b) (nat_le b 57) refl refl e

three : (a b c : ℕ) (p q r : Bool) → link.is_digit a ≡ p → link.is_digit b ≡ q → link.is_digit c ≡ r
    → (if p && q && r then Some ((a - 48) * 100 + (b - 48) * 10 + (c - 48)) else None)
    ≡ (if p && (q && (r && true)) then Some (((0 * 10 + digit_value a) * 10 + digit_value b) * 10 + digit_value c) else None)
three a b c true true true x y z =
    ap (λ (n : ℕ). Some n) (digits_are (a - 48) (b - 48) (c - 48) (digit_value a) (digit_value b) (digit_value c) (digit_is a x) (digit_is b y) (digit_is c z))
three a b c true true false x y z = refl
three a b c true false r x y z = refl
three a b c false q r x y z = refl

more_than_three : (n : ℕ) → (suc (suc (suc (suc n))) == 3) ≡ false
more_than_three n = grind (arith, nat_tests)

three_same : (value : List ℕ) → link.three_digits value ≡ three_digits (value ∷ [])
three_same [] = refl
three_same (a ∷ []) = refl
three_same (a ∷ b ∷ []) = refl
three_same (a ∷ b ∷ c ∷ []) = three a b c (link.is_digit a) (link.is_digit b) (link.is_digit c) refl refl refl
three_same (a ∷ b ∷ c ∷ d ∷ value) =
    sym (ap (λ (t : Bool). if t && list_all is_ascii_digit (a ∷ b ∷ c ∷ d ∷ value) then Some (number_of (a ∷ b ∷ c ∷ d ∷ value)) else None) (more_than_three (length value)))

-- the one `:status`
abbrev statuses : List Field → List (List ℕ)
statuses fields = values_of (codes ":status") fields

abbrev is_any : List (List ℕ) → Bool
is_any [] = false
is_any (v ∷ vs) = true

any_by : (f : Field) (ys : List Field) (b : Bool) (c : Bool) → c ≡ is_any (map (λ (x : Field). x.value) ys)
    → (b || c) ≡ is_any (map (λ (x : Field). x.value) (cond b (f ∷ ys) ys))
any_by f ys true c e = refl
any_by f ys false c e = e

any_same : (fields : List Field) → list_any link.is_status fields ≡ is_any (statuses fields)
any_same [] = refl
any_same (f ∷ fields) = any_by f (filter link.is_status fields) (link.is_status f) (list_any link.is_status fields) (any_same fields)

one_by : (v : List ℕ) (vs : List (List ℕ)) → three_digits (v ∷ vs) ≡ (if is_any vs then None else link.three_digits v)
one_by v [] = sym (three_same v)
one_by v (u ∷ vs) = refl

status_by : (f : Field) (fields : List Field) (b : Bool) → three_digits (statuses fields) ≡ link.http_status fields
    → three_digits (map (λ (x : Field). x.value) (cond b (f ∷ filter link.is_status fields) (filter link.is_status fields)))
    ≡ (if b then (if list_any link.is_status fields then None else link.three_digits f.value) else link.http_status fields)
status_by f fields true e =
    one_by f.value (statuses fields) ∙ ap (λ (b : Bool). if b then None else link.three_digits f.value) (sym (any_same fields))
status_by f fields false e = e

pub status_same : (fields : List Field) → http_status fields ≡ link.http_status fields
status_same [] = refl
status_same (f ∷ fields) = status_by f fields (link.is_status f) (status_same fields)

pub interim_same : (o : Option ℕ) → is_interim o ≡ link.is_interim o
interim_same None = refl
interim_same (Some n) = refl
