-- A line that has a fault is none.
use Rattle.std.proofs.Common.{ℕ, ◌+◌, ◌≤◌, Bool, List, length, inl, inr}
use Rattle.script_fields.specs.Spelling.{fields}
use Rattle.grpc_base.specs.Limits.{line_limit}
use Rattle.script_lines.specs.declared.line.ScriptLine.{ScriptLine}
use Rattle.script_lines.specs.declared.line.ScriptLine.TheVariants as line
use Rattle.script_lines.specs.declared.reader.BadLine.{BadLine}
use Rattle.script_lines.specs.declared.reader.BadLine.TheVariants as bad
use Rattle.script_lines.specs.declared.reader.ScriptKind.{ScriptKind}
use Rattle.script_lines.specs.declared.reader.ScriptKind.TheVariants as script
use Rattle.script_lines.specs.Answers.{Answered}
use Rattle.script_lines.specs.Causes.{Before, not_text, too_long}
use Rattle.script_lines.specs.Lines.{IsRawFault, IsRawLine, IsTextLine}
use Rattle.script_lines.specs.Reader.{IsBadLine, IsKindFault, IsKindLine, IsLine, IsLineFault, IsNoLine, ReaderSeen}
use Rattle.script_lines.proofs.AnswerLaws.{read_answer}
use Rattle.script_lines.proofs.GrammarLaws.{read_live, read_replay}

pub read_raw : (n : ℕ) (text : List ℕ) (closed : Bool) (c : ℕ) → IsRawLine n text closed → IsRawFault n text closed c → ⊥
read_raw n text closed c t (inl f) = f.0 t.0
read_raw n text closed c t (inr f) = long f.1
  where
    ended : Before (IsTextLine text closed) not_text c ⊥ → ⊥
    ended (inl h) = h.0 t.2
    ended (inr h) = h.1

    long : Before (length text ≤ line_limit) too_long c (Before (IsTextLine text closed) not_text c ⊥) → ⊥
    long (inl h) = h.0 t.1
    long (inr h) = ended h.1

read_kind : (kind : ScriptKind) (n : ℕ) (answered : Answered) (texts : List (List ℕ)) (read : ScriptLine) (c : ℕ) → IsKindLine kind n answered texts read → IsKindFault kind n answered texts c → ⊥
read_kind script.Replay n answered texts read c t f = read_replay n texts read c t f
read_kind script.Live n answered texts read c t f = read_live n texts read c t f
read_kind script.Server n answered texts (line.Answer answer) c t f = read_answer answered texts answer c t f
read_kind script.Server n answered texts read c t f = t

-- what is spelled so is read
pub read_line : (r : ReaderSeen) (text : List ℕ) (closed : Bool) (read : ScriptLine) (c : ℕ) → IsLine r text closed read → IsLineFault r text closed c → ⊥
read_line r text closed read c t (inl f) = read_raw (r.lines + 1) text closed c t.0 f
read_line r text closed read c t (inr f) = read_kind r.kind (r.lines + 1) r.answered (fields text) read c t.1 f.1
