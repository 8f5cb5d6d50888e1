-- What is kept while a script is read, and what the next bytes do to it.
use Rattle.std.specs.Prelude.{◌≡◌, ◌≤◌, ℕ, ◌+◌, ◌-◌, ◌*◌, Bool, true, false, Option, Some, None, List, [], ◌∷◌, ◌++◌, length, map}
use Rattle.grpc_base.specs.declared.event.Stamped.{Stamped}
use Rattle.grpc_base.specs.Limits.{line_limit}
use Rattle.grpc_base.specs.Pieces.{pieces}
use Rattle.script_lines.specs.declared.line.ScriptLine.{ScriptLine}
use Rattle.script_lines.specs.declared.line.ScriptLine.TheVariants as line
use Rattle.script_lines.specs.declared.reader.BadLine.{BadLine}
use Rattle.script_lines.specs.declared.reader.BadLine.TheVariants as bad
use Rattle.script_lines.specs.declared.reader.ScriptKind.TheVariants as script
use Rattle.script_lines.specs.Lines.{IsRawFault, IsRawLine, script_limit}
use Rattle.script_lines.specs.Reader.{IsStateAfter, ReaderSeen}
use Rattle.script_input.specs.declared.collected.Channel.{Channel}
use Rattle.script_input.specs.declared.collected.Collected.{Collected}
use Rattle.script_input.specs.declared.fault.InputFault.{InputFault}
use Rattle.script_input.specs.declared.fault.InputFault.TheVariants as fault
use Rattle.script_input.specs.declared.form.Form.{Form}
use Rattle.script_input.specs.declared.script.Script.{Script}
use Rattle.script_input.specs.Scripts.{AreLines, AreRecords, IsFaultAt, IsFirstBad, IsRecord, IsScript, SaysAt, script_reads}

-- what the lines so far say
abbrev pub reads_of : Option Channel → List Stamped → List ScriptLine
reads_of None events = map (λ s. line.Event s) events
reads_of (Some channel) events = script_reads channel.target channel.value events

-- these bytes were read: whole lines, and the prefix of another
pub record HasRead (input : List ℕ) (s : Collected) : Type 0 where
  pub texts : List (List ℕ)
  pub recorded : List (List ℕ)
  pub parts : pieces 10 input ≡ (texts ++ recorded) ++ s.line.items ∷ []
  pub lines : AreLines s.form 1 texts (reads_of s.channel s.events.items)
  pub afterwards : AreRecords s.form (length texts + 1) recorded
  pub kind : s.reader.kind ≡ script.Replay
  pub count : s.reader.lines ≡ length texts
  pub counted : s.records ≡ length recorded
  pub few : length texts + length recorded ≤ script_limit
  pub short : length s.line.items ≤ line_limit

-- what is so before each piece
abbrev pub IsReady : Collected → Type 0
IsReady s = (s.reader.kind ≡ script.Replay) × (s.records ≤ script_limit)

-- how many bytes a script may still have, at most
abbrev pub room_of : Collected → ℕ
room_of s = (script_limit + 1 - (s.reader.lines + s.records)) * (line_limit + 1) - length s.line.items

-- these bytes are read after any others
pub record HasTaken (input piece : List ℕ) (old new : Collected) : Type 0 where
  pub read : HasRead (input ++ piece) new
  pub room : room_of new + length piece ≤ room_of old
  pub form : new.form ≡ old.form

abbrev pub Leads : Collected → Collected → List ℕ → Type 0
Leads old new piece = (input : List ℕ) → HasRead input old → HasTaken input piece old new

-- a fault that names the first bad line of a text, or out of memory
abbrev pub IsBadInput : Form → List ℕ → InputFault → Type 0
IsBadInput f input (fault.BadLine n cause) = IsFirstBad f input n cause
IsBadInput f input fault.NoMemory = Unit {0}
IsBadInput f input e = ⊥

-- after these bytes it is the fault, whatever follows
abbrev pub IsDecided : Collected → List ℕ → InputFault → Type 0
IsDecided old piece e = (input : List ℕ) → HasRead input old → (more : List ℕ) → IsBadInput old.form ((input ++ piece) ++ more) e

-- what a line of a replay script may say
abbrev pub IsReplayRead : ScriptLine → Type 0
IsReplayRead (line.Channel target value) = Unit {0}
IsReplayRead (line.Event s) = Unit {0}
IsReplayRead read = ⊥

-- the next line, after so many that stand after the entries: one of the script, or one more after the entries
abbrev pub IsRead : Form → ReaderSeen → ℕ → List ℕ → Option ScriptLine → ReaderSeen → Type 0
IsRead f r records text None r' = IsRawLine (r.lines + records + 1) text true × IsRecord f (r.lines + records + 1) text × (r' ≡ r)
IsRead f r records text (Some read) r' = (records ≡ 0) × SaysAt f (r.lines + 1) text read × IsStateAfter r read r'

-- what a line said is kept
abbrev pub IsKeptLine : Option Channel → List Stamped → ScriptLine → Option Channel → List Stamped → Type 0
IsKeptLine channel events (line.Channel target value) channel' events' =
    (channel' ≡ Some (record { target = target; value = value })) × (events' ≡ events)
IsKeptLine channel events (line.Event s) channel' events' = (channel' ≡ channel) × (events' ≡ events ++ s ∷ [])
IsKeptLine channel events read channel' events' = ⊥

abbrev pub IsKept : Option Channel → List Stamped → ℕ → Option ScriptLine → Option Channel → List Stamped → ℕ → Type 0
IsKept channel events records None channel' events' records' = (channel' ≡ channel) × (events' ≡ events) × (records' ≡ records + 1)
IsKept channel events records (Some read) channel' events' records' = IsKeptLine channel events read channel' events' × (records' ≡ records)

-- the fault for a bad line
abbrev pub input_fault : BadLine → InputFault
input_fault (bad.At n cause) = fault.BadLine n cause
input_fault bad.NoMemory = fault.NoMemory

-- a fault that names the next line and its first cause, or out of memory
abbrev pub IsReported : Form → ReaderSeen → ℕ → List ℕ → Bool → InputFault → Type 0
IsReported f r records text closed (fault.BadLine n cause) = (n ≡ r.lines + records + 1) × IsFaultAt f records n text closed cause
IsReported f r records text closed fault.NoMemory = Unit {0}
IsReported f r records text closed e = ⊥

-- the same of a line that no line feed ended
abbrev pub IsReportedOpen : ReaderSeen → ℕ → List ℕ → InputFault → Type 0
IsReportedOpen r records text (fault.BadLine n cause) = (n ≡ r.lines + records + 1) × IsRawFault n text false cause
IsReportedOpen r records text fault.NoMemory = Unit {0}
IsReportedOpen r records text e = ⊥

-- the script of these bytes, which are the whole input
abbrev pub IsFinished : Collected → Script → Type 0
IsFinished s script = (input : List ℕ) → HasRead input s → IsScript s.form input script.target script.value script.events.items

-- why there is none
abbrev pub IsUnscript : Form → List ℕ → InputFault → Type 0
IsUnscript f input fault.Empty = input ≡ []
IsUnscript f input e = IsBadInput f input e

abbrev pub IsUnfinished : Collected → InputFault → Type 0
IsUnfinished s e = (input : List ℕ) → HasRead input s → IsUnscript s.form input e
