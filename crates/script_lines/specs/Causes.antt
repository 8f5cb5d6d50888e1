-- Why a line of a script is bad: numbers from 1 to 12, and what it is to be the first cause in the order of the tests.
use Rattle.std.specs.Prelude.{◌≡◌, ◌⊎◌, ℕ}

-- the first line of a channel's script is no channel line
abbrev pub no_channel : ℕ
no_channel = 1

-- a line has more than 8,400,000 bytes
abbrev pub too_long : ℕ
too_long = 2

-- a byte is not printable ASCII, or no line feed ends the line
abbrev pub not_text : ℕ
not_text = 3

-- a number has another spelling than its own, or it is out of its range
abbrev pub bad_number : ℕ
bad_number = 4

-- a name that this kind of script does not have, or a wait that is none
abbrev pub unknown_kind : ℕ
unknown_kind = 5

-- the number of fields does not fit
abbrev pub bad_count : ℕ
bad_count = 6

-- bytes are not in lower-case hex
abbrev pub bad_hex : ℕ
bad_hex = 7

-- a path is none
abbrev pub bad_path : ℕ
bad_path = 8

-- metadata is not what a request may send
abbrev pub bad_metadata : ℕ
bad_metadata = 9

-- an address or a target is none
abbrev pub bad_address : ℕ
bad_address = 10

-- a value is well spelled and past its limit
abbrev pub past_limit : ℕ
past_limit = 11

-- a line stands past the last one that a script may have
abbrev pub too_many : ℕ
too_many = 12

-- a test that stands before others: it fails with its cause, or it passes and one of the others fails with c
abbrev pub Before : Type 0 → ℕ → ℕ → Type 0 → Type 0
Before passes cause c others = ((passes → ⊥) × (c ≡ cause)) ⊎ (passes × others)
