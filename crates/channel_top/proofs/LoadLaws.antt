-- The session of a load keeps the promise.
use Rattle.std.proofs.Common.{List}
use Rattle.lb_policy.specs.Table.{PolicySeen}
use Rattle.load_plan.specs.Plan.{authority}
use Rattle.load_plan.specs.declared.load.Load.{Load}
use Rattle.load_plan.specs.declared.summary.LoadSummary.{LoadSummary}
use Rattle.load_session.specs.Session.{IsSession, SumsUp}
use Rattle.channel_top.specs.Promise.{ChannelsKeepThePromise, KeepsThePromise}
use Rattle.channel_top.proofs.Promised.{named_promise}

pub load_promise : ChannelsKeepThePromise → (load : Load) (policies : List PolicySeen) (summary : LoadSummary) (sums : SumsUp load policies summary)
    → KeepsThePromise authority policies sums.session.events sums.journal sums.ledger
load_promise keep load policies summary sums =
    let s : IsSession load policies sums.journal sums.ledger = sums.session in
    named_promise keep authority policies s.events s.end.channel sums.journal sums.ledger s.run s.journal_is s.ledger_is
