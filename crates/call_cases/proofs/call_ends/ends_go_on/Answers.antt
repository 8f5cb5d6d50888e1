use Rattle.call_cases.proofs.CallEnds.Linked.{ends_agree}
use Rattle.call_cases.proofs.CallEnds.On.{ends_go_on}
use Rattle.call_cases.proofs.call_ends.ends_go_on.Goals as goal

pub returns-clause-on : goal.returns-clause-on
returns-clause-on c = ends_go_on

pub returns-clause-agree : goal.returns-clause-agree
returns-clause-agree c = ends_agree
