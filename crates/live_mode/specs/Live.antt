-- What the mode `live` reads and runs, and the text that it makes of it, by its status.
use Rattle.std.specs.Prelude.{◌≡◌, ◌⊎◌, ℕ, Option, List}
use Rattle.grpc_base.specs.declared.event.Stamped.{Stamped}
use Rattle.attempt_ledger.specs.declared.journal.Journal.{Journal}
use Rattle.attempt_ledger.specs.declared.ledger.Ledger.{Ledger}
use Rattle.resolver_core.specs.AnyTargets.{authority_of}
use Rattle.script_input.specs.Lives.{FindsBadLive, ReadsLive, StopsInLive}
use Rattle.script_input.specs.declared.live_script.LiveScript.{LiveScript}
use Rattle.session_text.specs.declared.ran.Ran.{Ran}
use Rattle.session_text.specs.declared.ran.Ran.TheVariants as ran
use Rattle.session_text.specs.Sessions.{IsSession, line_fault_text, run_text}
use Rattle.shared_channel.specs.Histories.{IsNearlyFull}
use Rattle.lb_policy.specs.Table.{PolicySeen}
use Rattle.live_channel.specs.Held.{ComeAsHeld}
use Rattle.live_channel.specs.Report.{ReportsTarget}
use Rattle.live_mode.specs.Made.{CarriesCalls}

-- the text is the report of the one channel of a live run. It was a new channel, whose requests have the authority of the script's target, and
-- which has these policies, and was given exactly the events of this journal, one after another. The journal begins with what the channel is
-- given first, and has the calls of the script, as each worker made them, and the Shutdown after them. What came on its links is as the
-- dialers held it. Where the session was stopped it is nearly full
pub record IsLiveReport (policies : List PolicySeen) (held : List (Option (List (List ℕ)))) (r : Ran) (script : LiveScript) (text : List ℕ) : Type 0 where
  pub events : List Stamped
  pub journal : Journal
  pub ledger : Ledger
  pub session : IsSession (authority_of script.value) policies events journal ledger
  pub reported : ReportsTarget script.value script.config journal.entries
  pub calls : CarriesCalls r script.calls.items journal.entries
  pub come : ComeAsHeld held script.config journal.entries
  pub full : r ≡ ran.Full → IsNearlyFull journal.entries
  pub text_is : text ≡ run_text r script.target journal ledger

abbrev pub IsAnyLiveReport : List PolicySeen → List (Option (List (List ℕ))) → LiveScript → List ℕ → Type 0
IsAnyLiveReport policies held script text = (r : Ran) × IsLiveReport policies held r script text

-- status 0: the input was read to its end and is a live script, and the text is the report of its run
pub record IsLived (policies : List PolicySeen) (held : List (Option (List (List ℕ)))) (left left' : Option (List ℕ)) (text : List ℕ) : Type 0 where
  pub script : LiveScript
  pub read : ReadsLive left left' script
  pub report : IsLiveReport policies held ran.Whole script text

-- status 7: the same of a run that was stopped, since a worker was notified that the session had no room for its event, as the text says
-- after the report. Of that no more is said here than that the journal that is reported is nearly full: it has 1,048,576 entries, or its
-- bytes and 4,194,368, those of the largest event of a live run, pass 268,435,456
pub record EndsLiveFull (policies : List PolicySeen) (held : List (Option (List (List ℕ)))) (left left' : Option (List ℕ)) (text : List ℕ) : Type 0 where
  pub script : LiveScript
  pub read : ReadsLive left left' script
  pub report : IsLiveReport policies held ran.Full script text

-- status 3: the text reports the first bad line
pub record ReportsBadCall (left left' : Option (List ℕ)) (text : List ℕ) : Type 0 where
  pub line : ℕ
  pub cause : ℕ
  pub bad : FindsBadLive left left' line cause
  pub text_is : text ≡ line_fault_text line cause

-- the output of the mode
abbrev pub IsLiveText : List PolicySeen → List (Option (List (List ℕ))) → Option (List ℕ) → Option (List ℕ) → List ℕ → Type 0
IsLiveText policies held left left' text = (IsLived policies held left left' text ⊎ EndsLiveFull policies held left left' text) ⊎ ReportsBadCall left left' text

-- status 4: a read failed before the input's end and before its first bad line; nothing was written
pub record StopsInCalls (left left' taken taken' : Option (List ℕ)) (faults faults' : ℕ) : Type 0 where
  pub stops : StopsInLive left left' faults faults'
  pub written : taken' ≡ taken
