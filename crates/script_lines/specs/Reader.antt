-- What a reader of a script keeps from line to line, and what it says of each.
use Rattle.std.specs.Prelude.{◌≡◌, ◌⊎◌, ℕ, ◌+◌, Bool, if◌then◌else◌, nat_eq, List}
use Rattle.std.specs.Cmp.Lexicographic.{pointwise}
use Rattle.grpc_base.specs.Scripts.{IsAnswer}
use Rattle.script_fields.specs.Spelling.{fields}
use Rattle.script_lines.specs.declared.line.ScriptLine.{ScriptLine}
use Rattle.script_lines.specs.declared.line.ScriptLine.TheVariants as line
use Rattle.script_lines.specs.declared.reader.BadLine.{BadLine}
use Rattle.script_lines.specs.declared.reader.BadLine.TheVariants as bad
use Rattle.script_lines.specs.declared.reader.ScriptKind.{ScriptKind}
use Rattle.script_lines.specs.declared.reader.ScriptKind.TheVariants as script
use Rattle.script_lines.specs.Answers.{Answered, IsAnswerFault, IsAnswerText, count_of}
use Rattle.script_lines.specs.Lines.{IsLiveFault, IsLiveLine, IsRawFault, IsRawLine, IsReplayFault, IsReplayLine}

-- what a reader keeps: the kind of script, how many lines it has read, and the paths answered, with their counts
pub record ReaderSeen : Type 0 where
  pub kind : ScriptKind
  pub lines : ℕ
  pub answered : Answered

-- a line of a script by its kind, its number and the answers before it, and its first fault
abbrev pub IsKindLine : ScriptKind → ℕ → Answered → List (List ℕ) → ScriptLine → Type 0
IsKindLine script.Replay n answered texts read = IsReplayLine n texts read
IsKindLine script.Live n answered texts read = IsLiveLine n texts read
IsKindLine script.Server n answered texts (line.Answer answer) = IsAnswerText answered texts answer
IsKindLine script.Server n answered texts read = ⊥

abbrev pub IsKindFault : ScriptKind → ℕ → Answered → List (List ℕ) → ℕ → Type 0
IsKindFault script.Replay n answered texts c = IsReplayFault n texts c
IsKindFault script.Live n answered texts c = IsLiveFault n texts c
IsKindFault script.Server n answered texts c = IsAnswerFault answered texts c

-- the next line of a script, be it ended by a line feed or not
abbrev pub IsLine : ReaderSeen → List ℕ → Bool → ScriptLine → Type 0
IsLine r text closed read = IsRawLine (r.lines + 1) text closed × IsKindLine r.kind (r.lines + 1) r.answered (fields text) read

-- an answer keeps the rules of a server script as data
abbrev pub KeepsRules : ScriptLine → Type 0
KeepsRules (line.Answer answer) = IsAnswer answer
KeepsRules read = Unit {0}

-- no other line is spelled so
abbrev pub IsOnlyLine : ReaderSeen → List ℕ → Bool → ScriptLine → Type 0
IsOnlyLine r text closed read = (other : ScriptLine) → IsLine r text closed other → other ≡ read

-- the first cause why a line is none: the tests of every line, and after them those of the kind
abbrev pub IsNumberedFault : ScriptKind → ℕ → Answered → List ℕ → Bool → ℕ → Type 0
IsNumberedFault kind n answered text closed c =
    IsRawFault n text closed c ⊎ (IsRawLine n text closed × IsKindFault kind n answered (fields text) c)

abbrev pub IsLineFault : ReaderSeen → List ℕ → Bool → ℕ → Type 0
IsLineFault r text closed c = IsNumberedFault r.kind (r.lines + 1) r.answered text closed c

-- a fault that names the line and its first cause, or out of memory
abbrev pub IsBadLine : ReaderSeen → List ℕ → Bool → BadLine → Type 0
IsBadLine r text closed (bad.At number cause) = (number ≡ r.lines + 1) × IsLineFault r text closed cause
IsBadLine r text closed bad.NoMemory = Unit {0}

-- where a line and its cause are reported, no line is spelled so
abbrev pub IsNoLine : ReaderSeen → List ℕ → Bool → BadLine → Type 0
IsNoLine r text closed (bad.At number cause) = (read : ScriptLine) → IsLine r text closed read → ⊥
IsNoLine r text closed bad.NoMemory = Unit {0}

-- one answer more of a path, where a line is one
abbrev pub answer_count : ScriptLine → List ℕ → ℕ
answer_count (line.Answer answer) path = if pointwise nat_eq answer.path path then 1 else 0
answer_count read path = 0

-- what a reader keeps after a line
pub record IsStateAfter (before : ReaderSeen) (read : ScriptLine) (after : ReaderSeen) : Type 0 where
  pub kind : after.kind ≡ before.kind
  pub lines : after.lines ≡ before.lines + 1
  pub answered : (path : List ℕ) → count_of after.answered path ≡ count_of before.answered path + answer_count read path

-- what it keeps where it read none
pub record IsSame (before after : ReaderSeen) : Type 0 where
  pub kind : after.kind ≡ before.kind
  pub lines : after.lines ≡ before.lines
  pub answered : (path : List ℕ) → count_of after.answered path ≡ count_of before.answered path
