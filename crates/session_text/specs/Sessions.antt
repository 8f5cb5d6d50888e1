-- A session of a new channel, and the texts that a mode makes of it, or of a bad line.
use Rattle.std.specs.Prelude.{◌≡◌, ℕ, List, [], ◌∷◌, ◌++◌, map, max, codes, decimal}
use Rattle.grpc_base.specs.declared.event.Stamped.{Stamped}
use Rattle.attempt_ledger.specs.declared.journal.Journal.{Journal}
use Rattle.attempt_ledger.specs.declared.ledger.Ledger.{Ledger}
use Rattle.channel_core.specs.Core.{CoreSeen, ledger_in}
use Rattle.journal_room.specs.Runs.{HasRunBy}
use Rattle.lb_policy.specs.Table.{PolicySeen}
use Rattle.script_text.specs.Report.{report_of}
use Rattle.session_text.specs.declared.ran.Ran.{Ran}
use Rattle.session_text.specs.declared.ran.Ran.TheVariants as ran

-- the line that reports the first bad line of a script
abbrev pub line_fault_text : ℕ → ℕ → List ℕ
line_fault_text line cause = codes "fault line " ++ decimal line ++ codes " cause " ++ decimal cause ++ 10 ∷ []

-- moments that never fall: each the highest so far
abbrev pub highest_so_far : ℕ → List ℕ → List ℕ
highest_so_far last [] = []
highest_so_far last (m ∷ moments) = max m last ∷ highest_so_far (max m last) moments

-- the line after the report of a session whose journal is full
abbrev pub session_full_text : List ℕ
session_full_text = codes "fault session full" ++ 10 ∷ []

-- what journal and ledger say of events that a new channel was given in order, and nothing else: each with its word and at the later
-- of its moment and the last step's
pub record AreEntriesOf (events : List Stamped) (journal : Journal) : Type 0 where
  pub events_are : map (λ e. e.event) journal.entries ≡ map (λ s. s.event) events
  pub words_are : map (λ e. e.word) journal.entries ≡ map (λ s. s.word) events
  pub moments_are : map (λ e. e.moment) journal.entries ≡ highest_so_far 0 (map (λ s. s.moment) events)

-- a session: a channel that was new with this authority and policies that look like these was given these events and no other, each where there was room, and this
-- is its journal and ledger
pub record IsSession (authority : List ℕ) (policies : List PolicySeen) (events : List Stamped) (journal : Journal) (ledger : Ledger) : Type 0 where
  pub core : CoreSeen
  pub run : HasRunBy authority policies events core
  pub journal_is : journal ≡ core.journal
  pub ledger_is : ledger ≡ ledger_in core
  pub entries : AreEntriesOf events journal

-- what is written of a channel that was given events
abbrev pub run_text : Ran → List ℕ → Journal → Ledger → List ℕ
run_text ran.Whole target journal ledger = report_of target journal ledger
run_text ran.Full target journal ledger = report_of target journal ledger ++ session_full_text
