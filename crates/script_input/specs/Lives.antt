-- Live scripts as whole texts: what their lines say, and the first bad line; and what the reading of one took from its source.
use Rattle.std.specs.Prelude.{◌≡◌, ◌≢◌, ◌≤◌, ◌⊎◌, ℕ, ◌+◌, true, Option, Some, None, List, [], ◌∷◌, ◌++◌, length, map}
use Rattle.grpc_base.specs.Limits.{line_limit}
use Rattle.grpc_base.specs.Pieces.{pieces}
use Rattle.gate_io.specs.Outside.{IsAtEnd, Rises, Takes}
use Rattle.script_fields.specs.Spelling.{fields}
use Rattle.script_lines.specs.declared.line.ScriptLine.{ScriptLine}
use Rattle.script_lines.specs.declared.line.ScriptLine.TheVariants as line
use Rattle.script_lines.specs.Causes.{no_channel}
use Rattle.script_lines.specs.Lines.{IsLiveFault, IsLiveLine, IsRawFault, IsRawLine}
use Rattle.script_input.specs.declared.fault.InputFault.{InputFault}
use Rattle.script_input.specs.declared.fault.InputFault.TheVariants as fault
use Rattle.script_input.specs.declared.live_script.LiveScript.{LiveScript}
use Rattle.script_input.specs.Scripts.{is_closed}

-- what the line of a service config says, where there is one
abbrev pub config_reads : Option (List ℕ) → List ScriptLine
config_reads None = []
config_reads (Some config) = line.Config config ∷ []

-- what the lines of a live script say: the channel line, the service config where there is one, and the calls
abbrev pub live_reads : LiveScript → List ScriptLine
live_reads s = line.Channel s.target s.value ∷ config_reads s.config ++ map (λ c. line.Call c.worker c.line) s.calls.items

-- lines one after another, and what each says; n is the number of the first
abbrev pub AreLiveLines : ℕ → List (List ℕ) → List ScriptLine → Type 0
AreLiveLines n [] [] = Unit {0}
AreLiveLines n (text ∷ texts) (read ∷ reads) = (IsRawLine n text true × IsLiveLine n (fields text) read) × AreLiveLines (n + 1) texts reads
AreLiveLines n texts reads = ⊥

-- a live script: what stands between its line feeds are its lines, and after the last line feed there is nothing
pub record IsLive (input : List ℕ) (script : LiveScript) : Type 0 where
  pub texts : List (List ℕ)
  pub parts : pieces 10 input ≡ texts ++ [] ∷ []
  pub lines : AreLiveLines 1 texts (live_reads script)

-- nothing else is spelled so
abbrev pub IsOnlyLive : List ℕ → LiveScript → Type 0
IsOnlyLive input script = (other : LiveScript) → IsLive input other → live_reads other ≡ live_reads script

-- the first bad line of a text, by its number, and its cause; what stands after the last line feed is a line where it has a byte
pub record IsFirstBadLive (input : List ℕ) (n cause : ℕ) : Type 0 where
  pub before : List (List ℕ)
  pub reads : List ScriptLine
  pub text : List ℕ
  pub afterwards : List (List ℕ)
  pub parts : pieces 10 input ≡ before ++ text ∷ afterwards
  pub lines : AreLiveLines 1 before reads
  pub number : n ≡ length before + 1
  pub there : afterwards ≡ [] → text ≢ []
  pub fault : IsRawFault n text (is_closed afterwards) cause ⊎ (IsRawLine n text (is_closed afterwards) × IsLiveFault n (fields text) cause)

-- no bytes have no channel line
abbrev pub IsNothing : List ℕ → ℕ → ℕ → Type 0
IsNothing input n cause = (input ≡ []) × (n ≡ 1) × (cause ≡ no_channel)

-- good lines, and after them the prefix of a line that is not too long yet
pub record IsLivePrefix (input : List ℕ) : Type 0 where
  pub texts : List (List ℕ)
  pub reads : List ScriptLine
  pub rest : List ℕ
  pub parts : pieces 10 input ≡ texts ++ rest ∷ []
  pub lines : AreLiveLines 1 texts reads
  pub short : length rest ≤ line_limit

-- a live script with nothing left over it, and its bytes spell nothing else
pub record ReadsLive (left left' : Option (List ℕ)) (script : LiveScript) : Type 0 where
  pub input : List ℕ
  pub read : Takes left left' input
  pub at_end : IsAtEnd left'
  pub live : IsLive input script
  pub only : IsOnlyLive input script

-- the first bad line of the bytes that were read: they are all that there are, or that line stays the first bad one whatever follows
pub record FindsBadLive (left left' : Option (List ℕ)) (n cause : ℕ) : Type 0 where
  pub input : List ℕ
  pub read : Takes left left' input
  pub bad : (IsAtEnd left' × (IsFirstBadLive input n cause ⊎ IsNothing input n cause)) ⊎ ((more : List ℕ) → IsFirstBadLive (input ++ more) n cause)

-- a read failed after good lines and the prefix of another
pub record StopsInLive (left left' : Option (List ℕ)) (faults faults' : ℕ) : Type 0 where
  pub input : List ℕ
  pub read : Takes left left' input
  pub failed : Rises faults faults'
  pub prefix : IsLivePrefix input

-- why the reading of a source gave no live script
abbrev pub GivesNoLive : Option (List ℕ) → Option (List ℕ) → ℕ → ℕ → InputFault → Type 0
GivesNoLive left left' faults faults' (fault.BadLine n cause) = FindsBadLive left left' n cause
GivesNoLive left left' faults faults' fault.ReadFailed = StopsInLive left left' faults faults'
GivesNoLive left left' faults faults' fault.NoMemory = Unit {0}
GivesNoLive left left' faults faults' fault.Empty = ⊥

-- what a line of a live script may say
abbrev pub IsLiveRead : ScriptLine → Type 0
IsLiveRead (line.Channel target value) = Unit {0}
IsLiveRead (line.Config config) = Unit {0}
IsLiveRead (line.Call worker call) = Unit {0}
IsLiveRead read = ⊥
