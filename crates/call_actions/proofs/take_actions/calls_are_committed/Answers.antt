use Rattle.call_actions.proofs.TakeActions.Commits.{commits_cut_others}
use Rattle.call_actions.proofs.TakeActions.Heads.{heads_commit}
use Rattle.call_actions.proofs.TakeActions.Overflows.{sends_overflow}
use Rattle.call_actions.proofs.take_actions.calls_are_committed.Goals as goal

pub returns-clause-cuts : goal.returns-clause-cuts
returns-clause-cuts c = commits_cut_others

pub returns-clause-head : goal.returns-clause-head
returns-clause-head c = heads_commit

pub returns-clause-overflow : goal.returns-clause-overflow
returns-clause-overflow c = sends_overflow
