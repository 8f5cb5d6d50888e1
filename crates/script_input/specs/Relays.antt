-- The script of a relay: a live script without calls; its first bad line; and what the reading of one took from its source.
use Rattle.std.specs.Prelude.{◌≡◌, ◌≢◌, ◌≤◌, ◌⊎◌, ℕ, ◌+◌, Option, List, [], ◌∷◌, ◌++◌, codes, length}
use Rattle.grpc_base.specs.Limits.{line_limit}
use Rattle.grpc_base.specs.Pieces.{pieces}
use Rattle.gate_io.specs.Outside.{IsAtEnd, Rises, Takes}
use Rattle.script_fields.specs.Spelling.{fields}
use Rattle.script_lines.specs.declared.line.ScriptLine.{ScriptLine}
use Rattle.script_lines.specs.Causes.{unknown_kind}
use Rattle.script_lines.specs.Lines.{IsLiveFault, IsRawFault, IsRawLine}
use Rattle.script_input.specs.declared.fault.InputFault.{InputFault}
use Rattle.script_input.specs.declared.fault.InputFault.TheVariants as fault
use Rattle.script_input.specs.declared.live_script.LiveScript.{LiveScript}
use Rattle.script_input.specs.Lives.{AreLiveLines, IsNothing, ReadsLive}
use Rattle.script_input.specs.Scripts.{is_closed}

-- a line is named as those that make calls
abbrev pub IsNamedCall : List (List ℕ) → Type 0
IsNamedCall [] = ⊥
IsNamedCall (name ∷ others) = name ≡ codes "call"

-- a line of this number makes a call: the first line is of the channel, however it is named
abbrev pub IsCallAt : ℕ → List (List ℕ) → Type 0
IsCallAt n texts = (n ≢ 1) × IsNamedCall texts

-- none of these lines makes a call; n is the number of the first
abbrev pub NoneCalls : ℕ → List (List ℕ) → Type 0
NoneCalls n [] = Unit {0}
NoneCalls n (text ∷ texts) = (IsCallAt n (fields text) → ⊥) × NoneCalls (n + 1) texts

-- the first fault of a line: one that makes a call has a name that this kind of script doesn't have; the others are those of a live script
abbrev pub IsRelayFault : ℕ → List (List ℕ) → ℕ → Type 0
IsRelayFault n texts c = (IsCallAt n texts × (c ≡ unknown_kind)) ⊎ ((IsCallAt n texts → ⊥) × IsLiveFault n texts c)

-- the first bad line of a text, by its number, and its cause; what stands after the last line feed is a line where it has a byte
pub record IsFirstBadRelay (input : List ℕ) (n cause : ℕ) : Type 0 where
  pub before : List (List ℕ)
  pub reads : List ScriptLine
  pub text : List ℕ
  pub afterwards : List (List ℕ)
  pub parts : pieces 10 input ≡ before ++ text ∷ afterwards
  pub lines : AreLiveLines 1 before reads
  pub calls : NoneCalls 1 before
  pub number : n ≡ length before + 1
  pub there : afterwards ≡ [] → text ≢ []
  pub fault : IsRawFault n text (is_closed afterwards) cause ⊎ (IsRawLine n text (is_closed afterwards) × IsRelayFault n (fields text) cause)

-- good lines, and after them the prefix of a line that is not too long yet
pub record IsRelayPrefix (input : List ℕ) : Type 0 where
  pub texts : List (List ℕ)
  pub reads : List ScriptLine
  pub rest : List ℕ
  pub parts : pieces 10 input ≡ texts ++ rest ∷ []
  pub lines : AreLiveLines 1 texts reads
  pub calls : NoneCalls 1 texts
  pub short : length rest ≤ line_limit

-- a live script without calls, with nothing left over it
pub record ReadsRelay (left left' : Option (List ℕ)) (script : LiveScript) : Type 0 where
  pub live : ReadsLive left left' script
  pub none : script.calls.items ≡ []

-- the first bad line of the bytes that were read: they are all that there are, or that line stays the first bad one whatever follows
pub record FindsBadRelay (left left' : Option (List ℕ)) (n cause : ℕ) : Type 0 where
  pub input : List ℕ
  pub read : Takes left left' input
  pub bad : (IsAtEnd left' × (IsFirstBadRelay input n cause ⊎ IsNothing input n cause)) ⊎ ((more : List ℕ) → IsFirstBadRelay (input ++ more) n cause)

-- a read failed after good lines and the prefix of another
pub record StopsInRelay (left left' : Option (List ℕ)) (faults faults' : ℕ) : Type 0 where
  pub input : List ℕ
  pub read : Takes left left' input
  pub failed : Rises faults faults'
  pub prefix : IsRelayPrefix input

-- why the reading of a source gave no script of a relay
abbrev pub GivesNoRelay : Option (List ℕ) → Option (List ℕ) → ℕ → ℕ → InputFault → Type 0
GivesNoRelay left left' faults faults' (fault.BadLine n cause) = FindsBadRelay left left' n cause
GivesNoRelay left left' faults faults' fault.ReadFailed = StopsInRelay left left' faults faults'
GivesNoRelay left left' faults faults' fault.NoMemory = Unit {0}
GivesNoRelay left left' faults faults' fault.Empty = ⊥
