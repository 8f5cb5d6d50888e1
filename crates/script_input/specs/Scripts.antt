-- Replay scripts as whole texts: what their lines say, and the first bad one; and the reports that hold a script.
use Rattle.std.specs.Prelude.{◌≡◌, ◌≢◌, ◌≤◌, ◌⊎◌, ℕ, ◌+◌, Bool, true, false, ◌||◌, ◌==◌, nat_eq, if◌then◌else◌, IsTrue, List, [], ◌∷◌, ◌++◌, codes, length, map}
use Rattle.std.specs.List.{starts_with}
use Rattle.grpc_base.specs.declared.event.Stamped.{Stamped}
use Rattle.grpc_base.specs.Limits.{line_limit}
use Rattle.grpc_base.specs.Pieces.{pieces}
use Rattle.resolver_core.specs.declared.any_target.Target.{Target}
use Rattle.script_fields.specs.Spelling.{fields}
use Rattle.script_lines.specs.declared.line.ScriptLine.{ScriptLine}
use Rattle.script_lines.specs.declared.line.ScriptLine.TheVariants as line
use Rattle.script_lines.specs.Causes.{unknown_kind}
use Rattle.script_lines.specs.Lines.{IsRawFault, IsRawLine, IsReplayFault, IsReplayLine}
use Rattle.script_input.specs.declared.form.Form.{Form}
use Rattle.script_input.specs.declared.form.Form.TheVariants as form

-- whether a text begins with another
unfoldable pub begins : List ℕ → List ℕ → Bool
begins text word = starts_with nat_eq text word

-- what stands before the first ` = `, which parts an event from its reply, or all
abbrev pub before_sign : List ℕ → List ℕ
before_sign [] = []
before_sign (b ∷ text) = if begins (b ∷ text) (codes " = ") then [] else b ∷ before_sign text

-- what is read of the line of a number: all of it; of a line of a report after the first, what stands before the first ` = `
abbrev pub read_part : Form → ℕ → List ℕ → List ℕ
read_part form.Script n text = text
read_part form.Report n text = if n == 1 then text else before_sign text

-- how the lines after the entries of a report begin: rows, the end, or a fault; a script has none
abbrev pub is_record : List ℕ → Bool
is_record text = begins text (codes "row ") || begins text (codes "end ") || begins text (codes "fault ")

abbrev pub IsRecord : Form → ℕ → List ℕ → Type 0
IsRecord form.Script n text = ⊥
IsRecord form.Report n text = (n ≢ 1) × IsTrue (is_record text)

-- the line of a number, which a line feed ended, and what it says
abbrev pub SaysAt : Form → ℕ → List ℕ → ScriptLine → Type 0
SaysAt f n text read = IsRawLine n text true × (IsRecord f n text → ⊥) × IsReplayLine n (fields (read_part f n text)) read

-- lines one after another, and what each says; n is the number of the first
abbrev pub AreLines : Form → ℕ → List (List ℕ) → List ScriptLine → Type 0
AreLines f n [] [] = Unit {0}
AreLines f n (text ∷ texts) (read ∷ reads) = SaysAt f n text read × AreLines f (n + 1) texts reads
AreLines f n texts reads = ⊥

-- lines after the entries, which say nothing of the script
abbrev pub AreRecords : Form → ℕ → List (List ℕ) → Type 0
AreRecords f n [] = Unit {0}
AreRecords f n (text ∷ texts) = (IsRawLine n text true × IsRecord f n text) × AreRecords f (n + 1) texts

-- the first cause why the line of a number is bad, after so many lines that stand after the entries: it has to be one too, where
-- there is one before it
abbrev pub IsFaultAt : Form → ℕ → ℕ → List ℕ → Bool → ℕ → Type 0
IsFaultAt f records n text closed c =
    IsRawFault n text closed c
    ⊎ (IsRawLine n text closed × (IsRecord f n text → ⊥)
    × (((records ≡ 0) × IsReplayFault n (fields (read_part f n text)) c) ⊎ ((records ≢ 0) × (c ≡ unknown_kind))))

-- what the lines of a script say: the channel line first, and events after it
abbrev pub script_reads : List ℕ → Target → List Stamped → List ScriptLine
script_reads target value events = line.Channel target value ∷ map (λ s. line.Event s) events

-- a script, or the report that holds it: what stands between its line feeds are its lines, and after the last line feed there is
-- nothing
pub record IsScript (f : Form) (input target : List ℕ) (value : Target) (events : List Stamped) : Type 0 where
  pub texts : List (List ℕ)
  pub records : List (List ℕ)
  pub parts : pieces 10 input ≡ (texts ++ records) ++ [] ∷ []
  pub lines : AreLines f 1 texts (script_reads target value events)
  pub afterwards : AreRecords f (length texts + 1) records

-- no other script is spelled so
abbrev pub IsOnlyScript : Form → List ℕ → List ℕ → Target → List Stamped → Type 0
IsOnlyScript f input target value events =
    (other : List ℕ) (another : Target) (more : List Stamped) → IsScript f input other another more
    → (other ≡ target) × (another ≡ value) × (more ≡ events)

-- whether a line feed stands after a line: another part follows
abbrev pub is_closed : List (List ℕ) → Bool
is_closed [] = false
is_closed (part ∷ parts) = true

-- the first bad line of a text, by its number, and its cause; what stands after the last line feed is a line where it has a byte
pub record IsFirstBad (f : Form) (input : List ℕ) (n cause : ℕ) : Type 0 where
  pub before : List (List ℕ)
  pub records : List (List ℕ)
  pub reads : List ScriptLine
  pub text : List ℕ
  pub afterwards : List (List ℕ)
  pub parts : pieces 10 input ≡ (before ++ records) ++ text ∷ afterwards
  pub lines : AreLines f 1 before reads
  pub recorded : AreRecords f (length before + 1) records
  pub number : n ≡ length before + length records + 1
  pub there : afterwards ≡ [] → text ≢ []
  pub fault : IsFaultAt f (length records) n text (is_closed afterwards) cause

-- good lines, and after them the prefix of a line that is not too long yet
pub record IsPrefix (f : Form) (input : List ℕ) : Type 0 where
  pub texts : List (List ℕ)
  pub records : List (List ℕ)
  pub reads : List ScriptLine
  pub rest : List ℕ
  pub parts : pieces 10 input ≡ (texts ++ records) ++ rest ∷ []
  pub lines : AreLines f 1 texts reads
  pub recorded : AreRecords f (length texts + 1) records
  pub short : length rest ≤ line_limit
