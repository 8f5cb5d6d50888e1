use Rattle.call_actions.proofs.Dues.{attempts_are_due, hedges_are_tested}
use Rattle.call_actions.proofs.Report.{hedges_are_withheld, requests_finish}
use Rattle.call_actions.proofs.laws.calls_go_on_alike.Goals as goal

pub returns-clause-finished : goal.returns-clause-finished
returns-clause-finished c = requests_finish

pub returns-clause-due : goal.returns-clause-due
returns-clause-due c = attempts_are_due

pub returns-clause-tested : goal.returns-clause-tested
returns-clause-tested c = hedges_are_tested

pub returns-clause-withheld : goal.returns-clause-withheld
returns-clause-withheld c = hedges_are_withheld
