-- Server scripts as whole texts: their answers, and the first bad line; and what the reading of one took from its source.
use Rattle.std.specs.Prelude.{◌≡◌, ◌≢◌, ◌≤◌, ◌⊎◌, ℕ, ◌+◌, true, Option, List, [], ◌∷◌, ◌++◌, length}
use Rattle.grpc_base.specs.declared.script.AnswerLine.{AnswerLine}
use Rattle.grpc_base.specs.Limits.{line_limit}
use Rattle.grpc_base.specs.Pieces.{pieces}
use Rattle.gate_io.specs.Outside.{IsAtEnd, Rises, Takes}
use Rattle.script_fields.specs.Spelling.{fields}
use Rattle.script_lines.specs.declared.line.ScriptLine.{ScriptLine}
use Rattle.script_lines.specs.declared.line.ScriptLine.TheVariants as line
use Rattle.script_lines.specs.Answers.{Answered, IsAnswerFault, IsAnswerText}
use Rattle.script_lines.specs.Lines.{IsRawFault, IsRawLine}
use Rattle.script_input.specs.declared.fault.InputFault.{InputFault}
use Rattle.script_input.specs.declared.fault.InputFault.TheVariants as fault
use Rattle.script_input.specs.Scripts.{is_closed}

-- how often each path was answered after these answers: the number of its last one
abbrev pub answered_by : Answered → List AnswerLine → Answered
answered_by answered [] = answered
answered_by answered (answer ∷ answers) = answered_by ((answer.path, answer.n) ∷ answered) answers

-- lines one after another, and the answer of each; n is the number of the first
abbrev pub AreAnswers : Answered → ℕ → List (List ℕ) → List AnswerLine → Type 0
AreAnswers answered n [] [] = Unit {0}
AreAnswers answered n (text ∷ texts) (answer ∷ answers) =
    (IsRawLine n text true × IsAnswerText answered (fields text) answer) × AreAnswers ((answer.path, answer.n) ∷ answered) (n + 1) texts answers
AreAnswers answered n texts answers = ⊥

-- a server script: what stands between its line feeds are its lines, and after the last line feed there is nothing
pub record IsServer (input : List ℕ) (answers : List AnswerLine) : Type 0 where
  pub texts : List (List ℕ)
  pub parts : pieces 10 input ≡ texts ++ [] ∷ []
  pub lines : AreAnswers [] 1 texts answers

-- no other answers are spelled so
abbrev pub IsOnlyServer : List ℕ → List AnswerLine → Type 0
IsOnlyServer input answers = (others : List AnswerLine) → IsServer input others → others ≡ answers

-- the first bad line of a text, by its number, and its cause; what stands after the last line feed is a line where it has a byte
pub record IsFirstBadAnswer (input : List ℕ) (n cause : ℕ) : Type 0 where
  pub before : List (List ℕ)
  pub answers : List AnswerLine
  pub text : List ℕ
  pub afterwards : List (List ℕ)
  pub parts : pieces 10 input ≡ before ++ text ∷ afterwards
  pub lines : AreAnswers [] 1 before answers
  pub number : n ≡ length before + 1
  pub there : afterwards ≡ [] → text ≢ []
  pub fault : IsRawFault n text (is_closed afterwards) cause
      ⊎ (IsRawLine n text (is_closed afterwards) × IsAnswerFault (answered_by [] answers) (fields text) cause)

-- good lines, and after them the prefix of a line that is not too long yet
pub record IsServerPrefix (input : List ℕ) : Type 0 where
  pub texts : List (List ℕ)
  pub answers : List AnswerLine
  pub rest : List ℕ
  pub parts : pieces 10 input ≡ texts ++ rest ∷ []
  pub lines : AreAnswers [] 1 texts answers
  pub short : length rest ≤ line_limit

-- a server script with nothing left over it; its bytes spell these answers and no others
pub record ReadsServer (left left' : Option (List ℕ)) (answers : List AnswerLine) : Type 0 where
  pub input : List ℕ
  pub read : Takes left left' input
  pub at_end : IsAtEnd left'
  pub script : IsServer input answers
  pub only : IsOnlyServer input answers

-- the first bad line of the bytes that were read: they are all that there are, or that line stays the first bad one whatever follows
pub record FindsBadAnswer (left left' : Option (List ℕ)) (n cause : ℕ) : Type 0 where
  pub input : List ℕ
  pub read : Takes left left' input
  pub bad : (IsAtEnd left' × IsFirstBadAnswer input n cause) ⊎ ((more : List ℕ) → IsFirstBadAnswer (input ++ more) n cause)

-- a read failed after good lines and the prefix of another
pub record StopsInAnswers (left left' : Option (List ℕ)) (faults faults' : ℕ) : Type 0 where
  pub input : List ℕ
  pub read : Takes left left' input
  pub failed : Rises faults faults'
  pub prefix : IsServerPrefix input

-- why the reading of a source gave no server script
abbrev pub GivesNoServer : Option (List ℕ) → Option (List ℕ) → ℕ → ℕ → InputFault → Type 0
GivesNoServer left left' faults faults' (fault.BadLine n cause) = FindsBadAnswer left left' n cause
GivesNoServer left left' faults faults' fault.ReadFailed = StopsInAnswers left left' faults faults'
GivesNoServer left left' faults faults' fault.NoMemory = Unit {0}
GivesNoServer left left' faults faults' fault.Empty = ⊥

-- what a line of a server script may say, and what is kept of it
abbrev pub IsAnswerRead : ScriptLine → Type 0
IsAnswerRead (line.Answer answer) = Unit {0}
IsAnswerRead read = ⊥

abbrev pub IsKeptAnswer : List AnswerLine → ScriptLine → List AnswerLine → Type 0
IsKeptAnswer answers (line.Answer answer) answers' = answers' ≡ answers ++ answer ∷ []
IsKeptAnswer answers read answers' = ⊥
