-- What the program reads, and the text that it makes of it, by its status.
use Rattle.std.specs.Prelude.{List, Option, [], codes, length, take, ℕ, ◌++◌, ◌<◌, ◌∷◌, ◌≡◌, ◌⊎◌}
use Rattle.attempt_ledger.specs.declared.journal.Journal.{Journal}
use Rattle.attempt_ledger.specs.declared.ledger.Ledger.{Ledger}
use Rattle.gate_io.specs.Outside.{IsAtEnd, Takes}
use Rattle.grpc_base.specs.declared.event.Stamped.{Stamped}
use Rattle.grpc_base.specs.declared.kind.Kind.TheVariants as kind
use Rattle.resolver_core.specs.AnyTargets.{authority_of}
use Rattle.resolver_core.specs.declared.any_target.Target.{Target}
use Rattle.script_input.specs.Reading.{FindsBad, ReadsScript, StopsReading}
use Rattle.script_input.specs.declared.form.Form.{Form}
use Rattle.script_text.specs.Report.{report_of}
use Rattle.session_actions.specs.declared.seen.Setup.{Setup}
use Rattle.session_text.specs.Sessions.{line_fault_text}
use Rattle.slow_session.specs.Plays.{IsSessionOf}

-- what the channel of a target is made with: one load balancing policy of each kind; a tier of `priority` has eight addresses
abbrev pub setup_of : Target → Setup
setup_of value = record {
  authority = authority_of value;
  policies = record { kind = kind.PickFirst; width = 1 } ∷ record { kind = kind.RoundRobin; width = 1 } ∷ record { kind = kind.Priority; width = 8 } ∷ [];
}

-- the text is the report of the session of these events: of the journal and the ledger of a list of actions, each of which is the next one, in
-- which these events were posted and no others
pub record IsReport (target : List ℕ) (value : Target) (events : List Stamped) (text : List ℕ) : Type 0 where
  pub journal : Journal
  pub ledger : Ledger
  pub session : IsSessionOf (setup_of value) events journal.entries ledger
  pub text_is : text ≡ report_of target journal ledger

-- the line after the report of the first events, where there are more than are computed
abbrev pub stopped_text : List ℕ
stopped_text = codes "stopped after 4096 entries" ++ 10 ∷ []

-- more events than are computed: the text is the report of the first of them, and that line
pub record IsFirstReport (target : List ℕ) (value : Target) (events : List Stamped) (text : List ℕ) : Type 0 where
  pub long : 4096 < length events
  pub prefix : List ℕ
  pub report : IsReport target value (take 4096 events) prefix
  pub text_is : text ≡ prefix ++ stopped_text

-- what is written of a script
abbrev pub IsScriptReport : List ℕ → Target → List Stamped → List ℕ → Type 0
IsScriptReport target value events text = IsReport target value events text ⊎ IsFirstReport target value events text

-- the input was read to its end, and has no bytes
abbrev pub IsEmpty : Option (List ℕ) → Option (List ℕ) → Type 0
IsEmpty left left' = Takes left left' [] × IsAtEnd left'

-- the input was read to its end: it is a script, or the report that holds it, and the text is its report
pub record Reports (f : Form) (left left' : Option (List ℕ)) (text : List ℕ) : Type 0 where
  pub target : List ℕ
  pub value : Target
  pub events : List Stamped
  pub script : ReadsScript f left left' target value events
  pub report : IsReport target value events text

-- status 0: no bytes give no text, and any others the report of their session
abbrev pub IsDone : Form → Option (List ℕ) → Option (List ℕ) → List ℕ → Type 0
IsDone f left left' text = (IsEmpty left left' × (text ≡ [])) ⊎ Reports f left left' text

-- status 7: the script has more events than are computed, and the text is the report of the first ones, and says so
pub record StopsLong (f : Form) (left left' : Option (List ℕ)) (text : List ℕ) : Type 0 where
  pub target : List ℕ
  pub value : Target
  pub events : List Stamped
  pub script : ReadsScript f left left' target value events
  pub report : IsFirstReport target value events text

-- status 3: the text reports the first bad line
pub record ReportsBadLine (f : Form) (left left' : Option (List ℕ)) (text : List ℕ) : Type 0 where
  pub line : ℕ
  pub cause : ℕ
  pub bad : FindsBad f left left' line cause
  pub text_is : text ≡ line_fault_text line cause

-- the output of the program: that of status 0, 7 or 3
abbrev pub IsOutput : Form → Option (List ℕ) → Option (List ℕ) → List ℕ → Type 0
IsOutput f left left' text = (IsDone f left left' text ⊎ StopsLong f left left' text) ⊎ ReportsBadLine f left left' text

-- status 4: a read failed before the input's end and before its first bad line; nothing was written
pub record StopsAtRead (f : Form) (left left' taken taken' : Option (List ℕ)) (faults faults' : ℕ) : Type 0 where
  pub stops : StopsReading f left left' faults faults'
  pub written : taken' ≡ taken

-- the script that was read has more events than are computed
pub record IsLong (f : Form) (left left' : Option (List ℕ)) : Type 0 where
  pub target : List ℕ
  pub value : Target
  pub events : List Stamped
  pub script : ReadsScript f left left' target value events
  pub long : 4096 < length events
