-- What the mode `load` writes, by its status. It reads nothing.
use Rattle.std.specs.Prelude.{◌≡◌, ◌⊎◌, true, false, ℕ, List, [], ◌∷◌, ◌++◌}
use Rattle.grpc_base.specs.Kinds.{KindsSeen, has_kind}
use Rattle.grpc_base.specs.declared.kind.Kind.TheVariants as kind
use Rattle.lb_policy.specs.Table.{PolicySeen}
use Rattle.load_plan.specs.Lines.{summary_line}
use Rattle.load_plan.specs.Plan.{authority}
use Rattle.load_plan.specs.declared.load.Load.{Load}
use Rattle.load_plan.specs.declared.summary.LoadSummary.{LoadSummary}
use Rattle.load_session.specs.Session.{GetsFull, SumsUp}
use Rattle.policy_rack.specs.Kinds.{kinds_of}
use Rattle.session_text.specs.Sessions.{session_full_text}
use Rattle.channel_top.specs.Promise.{KeepsThePromise}
use Rattle.channel_top.specs.Words.{words_fault_text}

-- a session of a load wants `round_robin`
abbrev pub LacksKind : KindsSeen → Type 0
LacksKind kinds = has_kind kinds kind.RoundRobin ≡ false

-- status 0: the session of the load was played, with these policies, its journal and its ledger keep the promise, and the text is its line
pub record IsLoadDone (policies : List PolicySeen) (load : Load) (text : List ℕ) : Type 0 where
  pub wanted : has_kind (kinds_of policies) kind.RoundRobin ≡ true
  pub summary : LoadSummary
  pub sums : SumsUp load policies summary
  pub promise : KeepsThePromise authority policies sums.session.events sums.journal sums.ledger
  pub text_is : text ≡ summary_line summary ++ 10 ∷ []

-- status 2: `round_robin` is not among the policies, and the text is that of wrong words
abbrev pub RefusesLoad : KindsSeen → List ℕ → Type 0
RefusesLoad kinds text = LacksKind kinds × (text ≡ words_fault_text)

-- status 7: the journal of the session has no room for an event
abbrev pub FillsLoad : List PolicySeen → Load → List ℕ → Type 0
FillsLoad policies load text = GetsFull load policies × (text ≡ session_full_text)

-- the output of the mode
abbrev pub IsLoadText : List PolicySeen → Load → List ℕ → Type 0
IsLoadText policies load text = IsLoadDone policies load text ⊎ (RefusesLoad (kinds_of policies) text ⊎ FillsLoad policies load text)
