-- What is promised of every session that the program reports.
-- Example: `replay` with `pick_first` runs a script of one Tick. Its journal has one entry with reply Done and state IDLE, and its ledger is empty. They are those of
-- the actions EntryOpens, EventAnswered, SettlingBegins, EntryCloses, in which the Tick was posted, and of no others.
use Rattle.std.specs.Prelude.{◌≡◌, ℕ, List, map}
use Rattle.attempt_ledger.specs.declared.journal.Journal.{Journal}
use Rattle.attempt_ledger.specs.declared.ledger.Ledger.{Ledger}
use Rattle.channel_core.specs.Core.{CoreSeen, ledger_in}
use Rattle.grpc_base.specs.declared.event.Entry.{Entry}
use Rattle.grpc_base.specs.declared.event.Stamped.{Stamped}
use Rattle.journal_room.specs.Runs.{HasRunBy}
use Rattle.lb_policy.specs.Table.{PolicySeen}
use Rattle.session_actions.specs.Laws.{posted_in}
use Rattle.session_actions.specs.Sessions.{IsConsistent}
use Rattle.session_actions.specs.declared.seen.Setup.{Setup}

-- what a session of this authority and these policies is made with
abbrev pub setup_of : List ℕ → List PolicySeen → Setup
setup_of authority policies = record { authority = authority; policies = map (λ p. record { kind = p.kind; width = p.width }) policies }

-- Journal and ledger are those of a list of actions of the definition, each of which is the next one, from the empty history of this
-- authority and these policies. What was posted in them is these events, in order, and nothing else. No other journal and no other
-- ledger is of such a list
pub record KeepsThePromise (authority : List ℕ) (policies : List PolicySeen) (events : List Stamped) (journal : Journal) (ledger : Ledger) : Type 0 where
  pub consistent : IsConsistent (setup_of authority policies) journal.entries ledger
  pub posted : posted_in consistent.actions ≡ events
  pub only : (entries : List Entry) (other : Ledger) (that : IsConsistent (setup_of authority policies) entries other)
      → posted_in that.actions ≡ events → (entries ≡ journal.entries) × (other ≡ ledger)

-- every channel that was new, and was given events where there was room, keeps it
abbrev pub ChannelsKeepThePromise : Type 0
ChannelsKeepThePromise =
    (authority : List ℕ) (policies : List PolicySeen) (events : List Stamped) (core : CoreSeen)
    → HasRunBy authority policies events core → KeepsThePromise authority policies events core.journal (ledger_in core)
