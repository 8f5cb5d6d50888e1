-- What is kept while a server script is read.
use Rattle.std.specs.Prelude.{◌≡◌, ℕ, true, List, [], length, All}
use Rattle.grpc_base.specs.Scripts.{IsAnswer}
use Rattle.script_fields.specs.Spelling.{fields}
use Rattle.script_lines.specs.declared.reader.BadLine.{BadLine}
use Rattle.script_lines.specs.declared.reader.BadLine.TheVariants as bad
use Rattle.script_lines.specs.declared.reader.ScriptKind.TheVariants as script
use Rattle.script_lines.specs.Answers.{IsAnswerFault, count_of}
use Rattle.script_lines.specs.Reader.{IsBadLine}
use Rattle.script_input.specs.declared.server.AnswerLines.{AnswerLines}
use Rattle.script_input.specs.Servers.{AreAnswers, answered_by}

-- these lines were taken
pub record HasTakenAnswers (s : AnswerLines) (texts : List (List ℕ)) : Type 0 where
  pub lines : AreAnswers [] 1 texts s.answers
  pub kind : s.reader.kind ≡ script.Server
  pub count : s.reader.lines ≡ length texts
  pub counts : (path : List ℕ) → count_of s.reader.answered path ≡ count_of (answered_by [] s.answers) path
  pub rules : All IsAnswer s.answers

-- a line is refused by the reader
abbrev pub RefusesAnswer : AnswerLines → List ℕ → BadLine → Type 0
RefusesAnswer s text e = IsBadLine s.reader text true e
