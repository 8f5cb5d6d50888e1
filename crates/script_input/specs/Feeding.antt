-- The lines of an input, given one after another to what takes them.
use Rattle.std.specs.Prelude.{◌≡◌, ◌≢◌, ◌<◌, ◌≤◌, ◌⊎◌, ℕ, ◌+◌, ◌-◌, ◌*◌, Bool, false, Option, List, [], ◌∷◌, ◌++◌, length}
use Rattle.grpc_base.specs.Limits.{line_limit}
use Rattle.grpc_base.specs.Pieces.{pieces}
use Rattle.gate_io.specs.Outside.{IsAtEnd, Rises, Takes}
use Rattle.script_lines.specs.declared.reader.BadLine.{BadLine}
use Rattle.script_lines.specs.declared.reader.BadLine.TheVariants as bad
use Rattle.script_lines.specs.Lines.{IsRawFault, IsRawLine, script_limit}
use Rattle.script_input.specs.declared.fault.InputFault.{InputFault}
use Rattle.script_input.specs.declared.fault.InputFault.TheVariants as fault
use Rattle.script_input.specs.declared.feed.Feed.{Feed}
use Rattle.script_input.specs.Scripts.{is_closed}

-- these bytes were read: whole lines, which were taken, and the prefix of another
pub record HasFed {T : Type 0} (taken : T → List (List ℕ) → Type 0) (input : List ℕ) (feed : Feed) (lines : T) : Type 0 where
  pub texts : List (List ℕ)
  pub parts : pieces 10 input ≡ texts ++ feed.line.items ∷ []
  pub taken_are : taken lines texts
  pub count : feed.count ≡ length texts
  pub short : length feed.line.items ≤ line_limit

-- how many bytes a script may still have, at most
abbrev pub room_of : Feed → ℕ
room_of feed = (script_limit + 1 - feed.count) * (line_limit + 1) - length feed.line.items

-- these bytes are read after any others
pub record FeedsAfter {T : Type 0} (taken : T → List (List ℕ) → Type 0) (input piece : List ℕ) (old new : Feed) (lines : T) : Type 0 where
  pub read : HasFed taken (input ++ piece) new lines
  pub room : room_of new + length piece ≤ room_of old

abbrev pub LeadsBy : {T : Type 0} → (T → List (List ℕ) → Type 0) → Feed → T → Feed → T → List ℕ → Type 0
LeadsBy taken old lines new lines' piece = (input : List ℕ) → HasFed taken input old lines → FeedsAfter taken input piece old new lines'

-- the first bad line of a text, by its number, and its cause: lines before it were taken, and it fails a test that each line of each
-- script passes first, or is refused. What stands after the last line feed is a line where it has a byte
pub record RefusesLine {T : Type 0} (taken : T → List (List ℕ) → Type 0) (refuses : T → List ℕ → BadLine → Type 0) (input : List ℕ) (n cause : ℕ) : Type 0 where
  pub lines : T
  pub texts : List (List ℕ)
  pub text : List ℕ
  pub afterwards : List (List ℕ)
  pub parts : pieces 10 input ≡ texts ++ text ∷ afterwards
  pub taken_are : taken lines texts
  pub there : afterwards ≡ [] → text ≢ []
  pub fault : ((n ≡ length texts + 1) × IsRawFault n text (is_closed afterwards) cause)
      ⊎ (IsRawLine (length texts + 1) text (is_closed afterwards) × refuses lines text (bad.At n cause))

abbrev pub IsBadBy : {T : Type 0} → (T → List (List ℕ) → Type 0) → (T → List ℕ → BadLine → Type 0) → List ℕ → InputFault → Type 0
IsBadBy taken refuses input (fault.BadLine n cause) = RefusesLine taken refuses input n cause
IsBadBy taken refuses input fault.NoMemory = Unit {0}
IsBadBy taken refuses input e = ⊥

-- after these bytes it is the fault, whatever follows
abbrev pub IsDecidedBy : {T : Type 0} → (T → List (List ℕ) → Type 0) → (T → List ℕ → BadLine → Type 0) → Feed → T → List ℕ → InputFault → Type 0
IsDecidedBy taken refuses old lines piece e = (input : List ℕ) → HasFed taken input old lines → (more : List ℕ) → IsBadBy taken refuses ((input ++ piece) ++ more) e

-- why the line after so many others is bad
abbrev pub IsReportedFor : ℕ → List ℕ → Bool → InputFault → Type 0
IsReportedFor count text closed (fault.BadLine n cause) = (n ≡ count + 1) × IsRawFault n text closed cause
IsReportedFor count text closed fault.NoMemory = Unit {0}
IsReportedFor count text closed e = ⊥

-- the same of one that is too long already
abbrev pub IsTooLong : ℕ → List ℕ → InputFault → Type 0
IsTooLong count text (fault.BadLine n cause) = (n ≡ count + 1) × (line_limit < length text) × IsRawFault n text false cause
IsTooLong count text fault.NoMemory = Unit {0}
IsTooLong count text e = ⊥

-- the input was read to its end: all its lines were taken, and after the last line feed there is nothing
pub record ReadsLines {T : Type 0} (taken : T → List (List ℕ) → Type 0) (left left' : Option (List ℕ)) (lines : T) : Type 0 where
  pub input : List ℕ
  pub texts : List (List ℕ)
  pub read : Takes left left' input
  pub at_end : IsAtEnd left'
  pub parts : pieces 10 input ≡ texts ++ [] ∷ []
  pub taken_are : taken lines texts

-- the first bad line of the bytes that were read: they are all that there are, or that line stays the first bad one whatever follows
pub record FindsLine {T : Type 0} (taken : T → List (List ℕ) → Type 0) (refuses : T → List ℕ → BadLine → Type 0) (left left' : Option (List ℕ)) (n cause : ℕ) : Type 0 where
  pub input : List ℕ
  pub read : Takes left left' input
  pub bad : (IsAtEnd left' × RefusesLine taken refuses input n cause) ⊎ ((more : List ℕ) → RefusesLine taken refuses (input ++ more) n cause)

-- a read failed after lines that were taken and the prefix of another
pub record StopsLines {T : Type 0} (taken : T → List (List ℕ) → Type 0) (left left' : Option (List ℕ)) (faults faults' : ℕ) : Type 0 where
  pub input : List ℕ
  pub lines : T
  pub texts : List (List ℕ)
  pub rest : List ℕ
  pub read : Takes left left' input
  pub failed : Rises faults faults'
  pub parts : pieces 10 input ≡ texts ++ rest ∷ []
  pub taken_are : taken lines texts
  pub short : length rest ≤ line_limit

-- why the reading of a source stopped before its end
abbrev pub StopsBy : {T : Type 0} → (T → List (List ℕ) → Type 0) → (T → List ℕ → BadLine → Type 0) → Option (List ℕ) → Option (List ℕ) → ℕ → ℕ → InputFault → Type 0
StopsBy taken refuses left left' faults faults' (fault.BadLine n cause) = FindsLine taken refuses left left' n cause
StopsBy taken refuses left left' faults faults' fault.ReadFailed = StopsLines taken left left' faults faults'
StopsBy taken refuses left left' faults faults' fault.NoMemory = Unit {0}
StopsBy taken refuses left left' faults faults' fault.Empty = ⊥
