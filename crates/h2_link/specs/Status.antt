-- The HTTP status of a header list (RFC 9110, section 15).
use Rattle.std.specs.Prelude.{ℕ, ◌+◌, ◌-◌, ◌*◌, Bool, false, nat_le, nat_lt, ◌&&◌, if◌then◌else◌, Option, Some, None, List, [], ◌∷◌, bytes_eq, codes}
use Rattle.std.specs.List.{list_any}
use Rattle.grpc_base.specs.declared.fields.Field.{Field}

abbrev pub is_status : Field → Bool
is_status f = bytes_eq f.name (codes ":status")

abbrev pub is_digit : ℕ → Bool
is_digit b = nat_le 48 b && nat_le b 57

-- the number of three digits
abbrev pub three_digits : List ℕ → Option ℕ
three_digits (a ∷ b ∷ c ∷ []) =
    if is_digit a && is_digit b && is_digit c then Some ((a - 48) * 100 + (b - 48) * 10 + (c - 48)) else None
three_digits _ = None

-- that of the one `:status`, if there is just one and it has three digits
abbrev pub http_status : List Field → Option ℕ
http_status [] = None
http_status (f ∷ fields) =
    if is_status f then (if list_any is_status fields then None else three_digits f.value) else http_status fields

-- whether it is that of an interim response (section 15.2)
abbrev pub is_interim : Option ℕ → Bool
is_interim None = false
is_interim (Some status) = nat_le 100 status && nat_lt status 200
