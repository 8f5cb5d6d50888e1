-- What the mode `serve` reads, and the text that it makes of it, by its status.
use Rattle.std.specs.Prelude.{◌≡◌, ◌⊎◌, ℕ, Option, List, [], ◌∷◌, ◌++◌, codes, decimal}
use Rattle.grpc_base.specs.declared.script.AnswerLine.{AnswerLine}
use Rattle.gate_io.specs.Outside.{one_more}
use Rattle.script_input.specs.Servers.{FindsBadAnswer, ReadsServer, StopsInAnswers}
use Rattle.session_text.specs.Sessions.{line_fault_text}

-- the line that reports how many links were served
abbrev pub served_text : ℕ → List ℕ
served_text links = codes "served " ++ decimal links ++ 10 ∷ []

-- status 0: the input was read to its end and is a server script, and the text reports how many links were served
pub record IsServed (links : ℕ) (left left' : Option (List ℕ)) (text : List ℕ) : Type 0 where
  pub answers : List AnswerLine
  pub script : ReadsServer left left' answers
  pub text_is : text ≡ served_text links

-- status 3: the text reports the first bad line
pub record ReportsBadAnswer (left left' : Option (List ℕ)) (text : List ℕ) : Type 0 where
  pub line : ℕ
  pub cause : ℕ
  pub bad : FindsBadAnswer left left' line cause
  pub text_is : text ≡ line_fault_text line cause

-- the output of the mode
abbrev pub IsServeText : ℕ → Option (List ℕ) → Option (List ℕ) → List ℕ → Type 0
IsServeText links left left' text = IsServed links left left' text ⊎ ReportsBadAnswer left left' text

-- status 4: a read failed before the input's end and before its first bad line; nothing was written
pub record StopsInServer (left left' taken taken' : Option (List ℕ)) (faults faults' : ℕ) : Type 0 where
  pub stops : StopsInAnswers left left' faults faults'
  pub written : taken' ≡ taken

-- status 8: after a server script one call of the listener failed, and none was made after it; nothing was written
pub record EndsNotListening (left left' taken taken' : Option (List ℕ)) (faults faults' : ℕ) : Type 0 where
  pub answers : List AnswerLine
  pub script : ReadsServer left left' answers
  pub failed : faults' ≡ one_more faults
  pub written : taken' ≡ taken
