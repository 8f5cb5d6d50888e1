-- What is kept while a live script is read.
use Rattle.std.specs.Prelude.{◌≡◌, ℕ, true, Option, Some, None, List, [], ◌∷◌, ◌++◌, length, map}
use Rattle.script_lines.specs.declared.line.ScriptLine.{ScriptLine}
use Rattle.script_lines.specs.declared.line.ScriptLine.TheVariants as line
use Rattle.script_lines.specs.declared.reader.BadLine.{BadLine}
use Rattle.script_lines.specs.declared.reader.BadLine.TheVariants as bad
use Rattle.script_lines.specs.declared.reader.ScriptKind.TheVariants as script
use Rattle.script_lines.specs.Causes.{no_channel}
use Rattle.script_lines.specs.Reader.{IsBadLine}
use Rattle.script_input.specs.declared.fault.InputFault.{InputFault}
use Rattle.script_input.specs.declared.fault.InputFault.TheVariants as fault
use Rattle.script_input.specs.declared.live_lines.LiveLines.{LiveLines}
use Rattle.script_input.specs.declared.live_script.LiveScript.{LiveScript}
use Rattle.script_input.specs.declared.live_script.Named.{Named}
use Rattle.script_input.specs.declared.live_script.WorkerLine.{WorkerLine}
use Rattle.script_input.specs.Lives.{AreLiveLines, config_reads}

-- what the lines so far say, where the first of them is there
abbrev pub reads_of : Option Named → Option (List ℕ) → List WorkerLine → List ScriptLine
reads_of None config calls = []
reads_of (Some named) config calls = line.Channel named.target named.value ∷ config_reads config ++ map (λ c. line.Call c.worker c.line) calls

-- these lines were taken
pub record HasTakenLive (s : LiveLines) (texts : List (List ℕ)) : Type 0 where
  pub lines : AreLiveLines 1 texts (reads_of s.named s.config s.calls.items)
  pub kind : s.reader.kind ≡ script.Live
  pub count : s.reader.lines ≡ length texts
  pub none_yet : s.named ≡ None → (s.config ≡ None) × (s.calls.items ≡ [])

-- a line is refused by the reader
abbrev pub RefusesLive : LiveLines → List ℕ → BadLine → Type 0
RefusesLive s text e = IsBadLine s.reader text true e

-- what is kept of a line
abbrev pub IsKeptLive : Option Named → Option (List ℕ) → List WorkerLine → ScriptLine → Option Named → Option (List ℕ) → List WorkerLine → Type 0
IsKeptLive named config calls (line.Channel target value) named' config' calls' =
    (named' ≡ Some (record { target = target; value = value })) × (config' ≡ config) × (calls' ≡ calls)
IsKeptLive named config calls (line.Config text) named' config' calls' = (named' ≡ named) × (config' ≡ Some text) × (calls' ≡ calls)
IsKeptLive named config calls (line.Call worker call) named' config' calls' =
    (named' ≡ named) × (config' ≡ config) × (calls' ≡ calls ++ record { worker = worker; line = call } ∷ [])
IsKeptLive named config calls read named' config' calls' = ⊥

-- a script has all that the lines say
pub record IsNamed (lines : LiveLines) (script : LiveScript) : Type 0 where
  pub named : lines.named ≡ Some (record { target = script.target; value = script.value })
  pub config : script.config ≡ lines.config
  pub calls : script.calls ≡ lines.calls

-- there was no line
abbrev pub IsUnnamed : LiveLines → InputFault → Type 0
IsUnnamed lines e = (lines.named ≡ None) × (e ≡ fault.BadLine 1 no_channel)
