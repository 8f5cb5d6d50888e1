-- What is kept while the script of a relay is read.
use Rattle.std.specs.Prelude.{◌≡◌, ◌⊎◌, ℕ, ◌+◌, true, List}
use Rattle.script_fields.specs.Spelling.{fields}
use Rattle.script_lines.specs.declared.reader.BadLine.{BadLine}
use Rattle.script_lines.specs.declared.reader.BadLine.TheVariants as bad
use Rattle.script_lines.specs.Causes.{unknown_kind}
use Rattle.script_lines.specs.Reader.{IsLineFault}
use Rattle.script_input.specs.declared.relay.RelayLines.{RelayLines}
use Rattle.script_input.specs.LivesTaken.{HasTakenLive}
use Rattle.script_input.specs.Relays.{IsCallAt, NoneCalls}

-- these lines were taken
pub record HasTakenRelay (s : RelayLines) (texts : List (List ℕ)) : Type 0 where
  pub taken : HasTakenLive s.live texts
  pub calls : NoneCalls 1 texts

-- a line is refused: it makes a call, or the reader refuses it
abbrev pub RefusesRelay : RelayLines → List ℕ → BadLine → Type 0
RefusesRelay s text (bad.At n cause) =
    (n ≡ s.live.reader.lines + 1)
    × ((IsCallAt n (fields text) × (cause ≡ unknown_kind)) ⊎ ((IsCallAt n (fields text) → ⊥) × IsLineFault s.live.reader text true cause))
RefusesRelay s text bad.NoMemory = Unit {0}
