-- What the mode `migrate` reads, and the text that it makes of it, by its status.
use Rattle.std.specs.Prelude.{◌≡◌, ◌⊎◌, ℕ, Option, List, []}
use Rattle.grpc_base.specs.declared.event.Stamped.{Stamped}
use Rattle.gate_io.specs.Outside.{IsAtEnd, Takes}
use Rattle.resolver_core.specs.declared.any_target.Target.{Target}
use Rattle.script_input.specs.declared.form.Form.TheVariants as form
use Rattle.script_input.specs.Reading.{FindsBad, StopsReading}
use Rattle.script_input.specs.Scripts.{IsOnlyScript, IsScript}
use Rattle.script_lines.specs.Spelling.{script_of}
use Rattle.session_text.specs.Sessions.{line_fault_text}
use Rattle.channel_top.specs.Top.{IsScriptAgain}

-- the bytes are a script, or the report that holds it, of one target and one list of events, and the text is that script, of
-- version 2; it is read as the same target and events
pub record Migrates (input text : List ℕ) : Type 0 where
  pub target : List ℕ
  pub value : Target
  pub events : List Stamped
  pub script : IsScript form.Report input target value events
  pub only : IsOnlyScript form.Report input target value events
  pub text_is : text ≡ script_of target events
  pub again : IsScriptAgain target value events

-- status 0: the input was read to its end; no bytes give no text, and any others a script with their target and their events
pub record IsMigrated (left left' : Option (List ℕ)) (text : List ℕ) : Type 0 where
  pub input : List ℕ
  pub read : Takes left left' input
  pub at_end : IsAtEnd left'
  pub done : ((input ≡ []) × (text ≡ [])) ⊎ ((input ≡ [] → ⊥) × Migrates input text)

-- status 3: the text reports the first bad line
pub record ReportsBadReport (left left' : Option (List ℕ)) (text : List ℕ) : Type 0 where
  pub line : ℕ
  pub cause : ℕ
  pub bad : FindsBad form.Report left left' line cause
  pub text_is : text ≡ line_fault_text line cause

-- the output of the mode
abbrev pub IsMigrateText : Option (List ℕ) → Option (List ℕ) → List ℕ → Type 0
IsMigrateText left left' text = IsMigrated left left' text ⊎ ReportsBadReport left left' text

-- status 4: a read failed before the input's end and before its first bad line; nothing was written
pub record StopsInReport (left left' taken taken' : Option (List ℕ)) (faults faults' : ℕ) : Type 0 where
  pub stops : StopsReading form.Report left left' faults faults'
  pub written : taken' ≡ taken
