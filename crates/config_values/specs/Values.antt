-- How the value of a field is read; None where it is of the wrong kind or out of range (gRFC A6, "Service Config
-- Changes"; service_config.proto; durations and 64-bit numbers as JSON: protobuf, "ProtoJSON Format").
use Rattle.std.specs.Prelude.{ℕ, ◌*◌, Bool, ◌&&◌, ◌||◌, ◌==◌, nat_le, nat_lt, if◌then◌else◌, List, Option, Some, None, option_and_then, min}
use Rattle.std.specs.List.{list_all}
use Rattle.json_text.specs.Tree.{Tree, number, string}
use Rattle.grpc_base.specs.Numbers.{is_number, number_of}
use Rattle.json_text.specs.Decimals.{parts_of, milli_of, nanos_of}
use Rattle.json_text.specs.Parts.{text_in, number_in}

-- a duration in nanoseconds: a string of seconds
abbrev pub duration : Tree → Option ℕ
duration v = option_and_then nanos_of (text_in v)

abbrev pub above_zero : ℕ → Option ℕ
above_zero n = if nat_lt 0 n then Some n else None

-- a wait before a retry
abbrev pub backoff : Tree → Option ℕ
backoff v = option_and_then above_zero (duration v)

-- a whole number: digits alone
abbrev pub whole : List ℕ → Option ℕ
whole text = if is_number text then Some (number_of text) else None

abbrev pub up_to : ℕ → ℕ → Option ℕ
up_to most n = if nat_le n most then Some n else None

abbrev pub size_of : List ℕ → Option ℕ
size_of text = option_and_then (up_to 4294967295) (whole text)

-- a limit on messages: a number or a string of digits, within 32 bits
abbrev pub size : Tree → Option ℕ
size (number text) = size_of text
size (string text) = size_of text
size v = None

-- how many attempts: at least 2, and above 5 as 5
abbrev pub attempts_of : ℕ → Option ℕ
attempts_of n = if nat_le 2 n then Some (min n 5) else None

abbrev pub attempts : Tree → Option ℕ
attempts v = option_and_then attempts_of (option_and_then whole (number_in v))

-- the growth of the wait, in thousandths
abbrev pub multiplier : Tree → Option ℕ
multiplier v = option_and_then milli_of (number_in v)

-- the tokens of a full bucket: 1 to 1,000, in thousandths
abbrev pub tokens_of : ℕ → Option ℕ
tokens_of n = if nat_le 1 n && nat_le n 1000 then Some (n * 1000) else None

abbrev pub tokens : Tree → Option ℕ
tokens v = option_and_then tokens_of (option_and_then whole (number_in v))

-- what one success adds: as a multiplier, and as written at most 1,000
abbrev pub within_thousand : List ℕ → Option (List ℕ) → Bool
within_thousand digits None = nat_le (number_of digits) 1000
within_thousand digits (Some fraction) = nat_lt (number_of digits) 1000 || ((number_of digits == 1000) && list_all (λ d. d == 48) fraction)

abbrev pub ratio_of : List ℕ → Option ℕ
ratio_of text = if within_thousand (parts_of text).0 (parts_of text).1 then milli_of text else None

abbrev pub ratio : Tree → Option ℕ
ratio v = option_and_then ratio_of (number_in v)
