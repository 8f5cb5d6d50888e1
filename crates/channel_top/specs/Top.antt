-- What the mode `replay` reads and runs, and the text that it makes of it, by its status.
use Rattle.std.specs.Prelude.{◌≡◌, ◌≤◌, ◌⊎◌, ℕ, Option, List, [], ◌∷◌, ◌++◌, length, map, All}
use Rattle.grpc_base.specs.declared.event.Stamped.{Stamped}
use Rattle.grpc_base.specs.Limits.{line_limit}
use Rattle.grpc_base.specs.Posts.{HasNoRoom}
use Rattle.attempt_ledger.specs.Journals.{stamped_of}
use Rattle.attempt_ledger.specs.declared.journal.Journal.{Journal}
use Rattle.attempt_ledger.specs.declared.ledger.Ledger.{Ledger}
use Rattle.gate_io.specs.Outside.{IsAtEnd, Takes}
use Rattle.channel_core.specs.Sizes.{journal_bytes}
use Rattle.lb_policy.specs.Table.{PolicySeen}
use Rattle.session_text.specs.declared.ran.Ran.{Ran}
use Rattle.session_text.specs.declared.ran.Ran.TheVariants as ran
use Rattle.session_text.specs.Sessions.{IsSession, line_fault_text, session_full_text}
use Rattle.channel_top.specs.Promise.{KeepsThePromise}
use Rattle.script_input.specs.Reading.{FindsBad, StopsReading}
use Rattle.script_input.specs.Scripts.{IsOnlyScript, IsScript}
use Rattle.script_input.specs.declared.form.Form.TheVariants as form
use Rattle.resolver_core.specs.AnyTargets.{authority_of}
use Rattle.resolver_core.specs.declared.any_target.Target.{Target}
use Rattle.script_lines.specs.Spelling.{script_of, stamped_text}
use Rattle.script_text.specs.Report.{report_of}

-- the script of these events is read as them, where none of its lines is too long for a script
abbrev pub IsScriptAgain : List ℕ → Target → List Stamped → Type 0
IsScriptAgain target value events =
    All (λ s. length (stamped_text s) ≤ line_limit) events → IsScript form.Script (script_of target events) target value events

-- the text is the report of a session by these policies, whose requests have the authority of the target and whose journal had room for
-- each event; its journal and its ledger keep the promise
pub record IsReport (policies : List PolicySeen) (target : List ℕ) (value : Target) (events : List Stamped) (text : List ℕ) : Type 0 where
  pub journal : Journal
  pub ledger : Ledger
  pub session : IsSession (authority_of value) policies events journal ledger
  pub promise : KeepsThePromise (authority_of value) policies events journal ledger
  pub text_is : text ≡ report_of target journal ledger

-- the text is the report of a session of the first of these events, which keeps the promise too, and the line that says that the journal has
-- no room for the next
pub record IsFullReport (policies : List PolicySeen) (target : List ℕ) (value : Target) (events : List Stamped) (text : List ℕ) : Type 0 where
  pub prefix : List Stamped
  pub next : Stamped
  pub afterwards : List Stamped
  pub parts : events ≡ prefix ++ next ∷ afterwards
  pub journal : Journal
  pub ledger : Ledger
  pub session : IsSession (authority_of value) policies prefix journal ledger
  pub promise : KeepsThePromise (authority_of value) policies prefix journal ledger
  pub full : HasNoRoom (length journal.entries) (journal_bytes journal.entries) next.event
  pub text_is : text ≡ report_of target journal ledger ++ session_full_text

-- the text of a script that was run to its end, or up to a full journal
abbrev pub IsReportBy : Ran → List PolicySeen → List ℕ → Target → List Stamped → List ℕ → Type 0
IsReportBy ran.Whole policies target value events text = IsReport policies target value events text
IsReportBy ran.Full policies target value events text = IsFullReport policies target value events text

abbrev pub IsRunReport : List PolicySeen → List ℕ → Target → List Stamped → List ℕ → Type 0
IsRunReport policies target value events text = (ran : Ran) × IsReportBy ran policies target value events text

-- the bytes spell one script, and the text is the report of its session; the report's lines of entries are, up to each ` = `, a
-- script again
pub record Reports (policies : List PolicySeen) (input text : List ℕ) : Type 0 where
  pub target : List ℕ
  pub value : Target
  pub events : List Stamped
  pub script : IsScript form.Script input target value events
  pub only : IsOnlyScript form.Script input target value events
  pub report : IsReport policies target value events text
  pub again : IsScriptAgain target value (map stamped_of report.journal.entries)

-- status 0: the input was read to its end; no bytes give no text, and any others are a script and give its report
pub record IsDone (policies : List PolicySeen) (left left' : Option (List ℕ)) (text : List ℕ) : Type 0 where
  pub input : List ℕ
  pub read : Takes left left' input
  pub at_end : IsAtEnd left'
  pub done : ((input ≡ []) × (text ≡ [])) ⊎ ((input ≡ [] → ⊥) × Reports policies input text)

-- status 7: the input was read to its end and spells one script, and the journal of its session has no room for an event
pub record EndsFull (policies : List PolicySeen) (left left' : Option (List ℕ)) (text : List ℕ) : Type 0 where
  pub input : List ℕ
  pub target : List ℕ
  pub value : Target
  pub events : List Stamped
  pub read : Takes left left' input
  pub at_end : IsAtEnd left'
  pub script : IsScript form.Script input target value events
  pub only : IsOnlyScript form.Script input target value events
  pub report : IsFullReport policies target value events text

-- status 3: the text reports the first bad line
pub record ReportsBadLine (left left' : Option (List ℕ)) (text : List ℕ) : Type 0 where
  pub line : ℕ
  pub cause : ℕ
  pub bad : FindsBad form.Script left left' line cause
  pub text_is : text ≡ line_fault_text line cause

-- the output of the mode
abbrev pub IsReplayText : List PolicySeen → Option (List ℕ) → Option (List ℕ) → List ℕ → Type 0
IsReplayText policies left left' text = (IsDone policies left left' text ⊎ EndsFull policies left left' text) ⊎ ReportsBadLine left left' text

-- status 4: a read failed before the input's end and before its first bad line; nothing was written
pub record StopsAtRead (left left' taken taken' : Option (List ℕ)) (faults faults' : ℕ) : Type 0 where
  pub stops : StopsReading form.Script left left' faults faults'
  pub written : taken' ≡ taken
