-- What the mode `relay` reads and runs, and the text that it makes of it, by its status.
use Rattle.std.specs.Prelude.{◌≡◌, ◌⊎◌, ℕ, Option, List, length}
use Rattle.std.specs.List.{AllByRecursion}
use Rattle.grpc_base.specs.Counts.{one_more}
use Rattle.grpc_base.specs.declared.event.Entry.{Entry}
use Rattle.grpc_base.specs.declared.event.Stamped.{Stamped}
use Rattle.attempt_ledger.specs.declared.journal.Journal.{Journal}
use Rattle.attempt_ledger.specs.declared.ledger.Ledger.{Ledger}
use Rattle.lb_policy.specs.Table.{PolicySeen}
use Rattle.live_channel.specs.Held.{ComeAsHeld}
use Rattle.live_channel.specs.Sharing.{IsOfCall, SharesOut}
use Rattle.live_channel.specs.Report.{ReportsTarget}
use Rattle.resolver_core.specs.AnyTargets.{authority_of}
use Rattle.script_input.specs.Relays.{FindsBadRelay, ReadsRelay, StopsInRelay}
use Rattle.script_input.specs.declared.live_script.LiveScript.{LiveScript}
use Rattle.session_text.specs.declared.ran.Ran.{Ran}
use Rattle.session_text.specs.declared.ran.Ran.TheVariants as ran
use Rattle.session_text.specs.Sessions.{IsSession, line_fault_text, run_text}
use Rattle.shared_channel.specs.Histories.{IsNearlyFull}
use Rattle.session_text.specs.Writing.{WritesAll}
use Rattle.turn_lock.specs.History.{Ascends, Stands}
use Rattle.relay_mode.specs.declared.session.Relayed.{Relayed}
use Rattle.relay_mode.specs.declared.session.Relayed.TheVariants as relayed

-- entries with their places, which stand there in this order; each is of an application
pub record IsWorkOfLink (entries : List Entry) (own : List (ℕ × Entry)) : Type 0 where
  pub stands : Stands entries own
  pub ascends : Ascends 0 own
  pub calls : AllByRecursion (λ p. IsOfCall p.1.event) own

-- So many links made their entries in a prefix of the journal: no entry is of two of them, and each entry of an application is of one of
-- them. Where all went well a Shutdown stands next after that prefix, and in any case nowhere else
pub record CarriesLinks (r : Ran) (links : ℕ) (entries : List Entry) : Type 0 where
  pub prefix : List Entry
  pub rest : List Entry
  pub owns : List (List (ℕ × Entry))
  pub count : length owns ≡ links
  pub made : AllByRecursion (IsWorkOfLink prefix) owns
  pub shares : SharesOut r owns prefix rest entries

-- the text is the report of the one channel of a relay: a new channel, whose requests have the authority of the script's target, and which
-- has these policies, was given exactly the events of this journal, one after another. The journal begins with the event that the channel
-- is given first, and has the entries of the links, and the Shutdown after them; what came on the channel's links is as the dialers held it. Where
-- the session was stopped it is nearly full
pub record IsRelayReport (policies : List PolicySeen) (held : List (Option (List (List ℕ)))) (r : Ran) (links : ℕ) (script : LiveScript) (text : List ℕ) : Type 0 where
  pub events : List Stamped
  pub journal : Journal
  pub ledger : Ledger
  pub session : IsSession (authority_of script.value) policies events journal ledger
  pub reported : ReportsTarget script.value script.config journal.entries
  pub carries : CarriesLinks r links journal.entries
  pub come : ComeAsHeld held script.config journal.entries
  pub full : r ≡ ran.Full → IsNearlyFull journal.entries
  pub text_is : text ≡ run_text r script.target journal ledger

abbrev pub IsAnyRelayReport : List PolicySeen → List (Option (List (List ℕ))) → ℕ → LiveScript → List ℕ → Type 0
IsAnyRelayReport policies held links script text = (r : Ran) × IsRelayReport policies held r links script text

-- how a relay ended: its report was written, and each link was accepted; or one was not, and nothing was written
abbrev pub ReportsRelayed : List PolicySeen → List (Option (List (List ℕ))) → Relayed → ℕ → LiveScript → Option (List ℕ) → Option (List ℕ) → ℕ → ℕ → Type 0
ReportsRelayed policies held (relayed.Report r) links script taken taken' faults faults' = WritesAll (IsRelayReport policies held r links script) taken taken' × (faults' ≡ faults)
ReportsRelayed policies held relayed.NotListening links script taken taken' faults faults' = (taken' ≡ taken) × (faults' ≡ one_more faults)

-- status 0: the input was read to its end and is a live script without calls, and the text is the report of its relay
pub record IsRelayed (policies : List PolicySeen) (held : List (Option (List (List ℕ)))) (links : ℕ) (left left' : Option (List ℕ)) (text : List ℕ) : Type 0 where
  pub script : LiveScript
  pub read : ReadsRelay left left' script
  pub report : IsRelayReport policies held ran.Whole links script text

-- status 7: the same of a run that was stopped, since a worker was notified that the session had no room for its event, as the text says
-- after the report. The journal that is reported is nearly full: it has 1,048,576 entries, or its bytes and 4,194,368, those of the
-- largest event of a live run, pass 268,435,456
pub record EndsRelayFull (policies : List PolicySeen) (held : List (Option (List (List ℕ)))) (links : ℕ) (left left' : Option (List ℕ)) (text : List ℕ) : Type 0 where
  pub script : LiveScript
  pub read : ReadsRelay left left' script
  pub report : IsRelayReport policies held ran.Full links script text

-- status 3: the text reports the first bad line; one that makes a call is bad
pub record ReportsBadRelay (left left' : Option (List ℕ)) (text : List ℕ) : Type 0 where
  pub line : ℕ
  pub cause : ℕ
  pub bad : FindsBadRelay left left' line cause
  pub text_is : text ≡ line_fault_text line cause

-- the output of the mode
abbrev pub IsRelayText : List PolicySeen → List (Option (List (List ℕ))) → ℕ → Option (List ℕ) → Option (List ℕ) → List ℕ → Type 0
IsRelayText policies held links left left' text = (IsRelayed policies held links left left' text ⊎ EndsRelayFull policies held links left left' text) ⊎ ReportsBadRelay left left' text

-- status 4: a read failed before the input's end and before its first bad line; nothing was written
pub record StopsAtRelay (left left' taken taken' : Option (List ℕ)) (faults faults' : ℕ) : Type 0 where
  pub stops : StopsInRelay left left' faults faults'
  pub written : taken' ≡ taken

-- status 8: after a script one call of the listener failed, and none was made after it; nothing was written
pub record EndsUnrelayed (left left' taken taken' : Option (List ℕ)) (faults faults' : ℕ) : Type 0 where
  pub script : LiveScript
  pub read : ReadsRelay left left' script
  pub failed : faults' ≡ one_more faults
  pub written : taken' ≡ taken
