-- What the mode `live` writes where its session was reported: the report is that of a session that keeps the promise.
use Rattle.std.specs.Prelude.{◌⊎◌, ℕ, Option, List}
use Rattle.lb_policy.specs.Table.{PolicySeen}
use Rattle.live_mode.specs.Live.{EndsLiveFull, IsLived, ReportsBadCall}
use Rattle.resolver_core.specs.AnyTargets.{authority_of}
use Rattle.channel_top.specs.Promise.{KeepsThePromise}

-- status 0: the input was read to its end and is a live script, and the text is the report of its run, whose journal and ledger keep the
-- promise, for the authority of the script's target and these policies
pub record IsLivedAsPromised (policies : List PolicySeen) (held : List (Option (List (List ℕ)))) (left left' : Option (List ℕ)) (text : List ℕ) : Type 0 where
  pub lived : IsLived policies held left left' text
  pub promise : KeepsThePromise (authority_of lived.script.value) policies lived.report.events lived.report.journal lived.report.ledger

-- status 7: the same of the report of a run that was stopped, whose journal is nearly full
pub record EndsFullAsPromised (policies : List PolicySeen) (held : List (Option (List (List ℕ)))) (left left' : Option (List ℕ)) (text : List ℕ) : Type 0 where
  pub ends : EndsLiveFull policies held left left' text
  pub promise : KeepsThePromise (authority_of ends.script.value) policies ends.report.events ends.report.journal ends.report.ledger

-- the output of the mode: such a report, or the line that reports the first bad line
abbrev pub IsPromisedLiveText : List PolicySeen → List (Option (List (List ℕ))) → Option (List ℕ) → Option (List ℕ) → List ℕ → Type 0
IsPromisedLiveText policies held left left' text =
    (IsLivedAsPromised policies held left left' text ⊎ EndsFullAsPromised policies held left left' text) ⊎ ReportsBadCall left left' text
