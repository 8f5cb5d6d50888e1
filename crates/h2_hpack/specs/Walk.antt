-- What the decoder of Huffman text computes: a walk over the states of the code, four bits at a time. No meaning rests
-- on it; that it gives the symbols of the text is proved.
use Rattle.std.specs.Prelude.{ℕ, ◌+◌, ◌*◌, ◌/◌, ◌%◌, nat_lt, nat_le, if◌then◌else◌, List, [], ◌∷◌, ◌++◌, slice_index, Option, Some, None}
use Rattle.h2_hpack.specs.declared.states.TheConstants.{NEXT_STATE, SYMBOL}

-- the symbols so far, and the state
abbrev pub Place : Type 0
Place = List ℕ × ℕ

unfoldable pub next_state : ℕ → ℕ → ℕ
next_state state four = slice_index NEXT_STATE (state * 16 + four)

unfoldable pub symbol_at : ℕ → ℕ → ℕ
symbol_at state four = slice_index SYMBOL (state * 16 + four)

-- the next place, by the symbol that ended and the next state
abbrev pub to_state : List ℕ → ℕ → ℕ → Option Place
to_state symbols symbol state =
    if nat_lt symbol 256 then Some (symbols ++ symbol ∷ [], state)
    else if nat_lt symbol 257 then Some (symbols, state)
    else None

abbrev pub step : ℕ → Place → Option Place
step four place = to_state place.0 (symbol_at place.1 four) (next_state place.1 four)

abbrev pub walk : List ℕ → Place → Option Place
walk [] place = Some place
walk (four ∷ more) place =
    elim (step four place) [
      | None ↦ None
      | Some next ↦ walk more next
    ]

-- a byte, four bits at a time
abbrev pub halves : ℕ → List ℕ
halves byte = byte / 16 % 16 ∷ byte % 16 ∷ []

-- the symbols at the end, where the bits since the last one are padding
abbrev pub at_end : Option Place → Option (List ℕ)
at_end None = None
at_end (Some place) = if nat_le place.1 7 then Some place.0 else None
