-- What the mode `relay` writes where its session was reported: the report is that of a session that keeps the promise.
use Rattle.std.specs.Prelude.{◌⊎◌, ℕ, Option, List}
use Rattle.lb_policy.specs.Table.{PolicySeen}
use Rattle.relay_mode.specs.Relayed.{EndsRelayFull, IsRelayed, ReportsBadRelay}
use Rattle.resolver_core.specs.AnyTargets.{authority_of}
use Rattle.channel_top.specs.Promise.{KeepsThePromise}

-- status 0: the input was read to its end and is a live script without calls. The text is the report of the relay's channel, whose
-- journal and ledger keep the promise, for the authority of the script's target and these policies
pub record IsRelayedAsPromised (policies : List PolicySeen) (held : List (Option (List (List ℕ)))) (links : ℕ) (left left' : Option (List ℕ)) (text : List ℕ) : Type 0 where
  pub relayed : IsRelayed policies held links left left' text
  pub promise : KeepsThePromise (authority_of relayed.script.value) policies relayed.report.events relayed.report.journal relayed.report.ledger

-- status 7: the same of the report of a run that was stopped, whose journal is nearly full
pub record EndsRelayAsPromised (policies : List PolicySeen) (held : List (Option (List (List ℕ)))) (links : ℕ) (left left' : Option (List ℕ)) (text : List ℕ) : Type 0 where
  pub ends : EndsRelayFull policies held links left left' text
  pub promise : KeepsThePromise (authority_of ends.script.value) policies ends.report.events ends.report.journal ends.report.ledger

-- the output of the mode: such a report, or the line that names the first bad line
abbrev pub IsPromisedRelayText : List PolicySeen → List (Option (List (List ℕ))) → ℕ → Option (List ℕ) → Option (List ℕ) → List ℕ → Type 0
IsPromisedRelayText policies held links left left' text =
    (IsRelayedAsPromised policies held links left left' text ⊎ EndsRelayAsPromised policies held links left left' text) ⊎ ReportsBadRelay left left' text
