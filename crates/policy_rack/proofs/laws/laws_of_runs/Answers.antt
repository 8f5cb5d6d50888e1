use Rattle.policy_rack.proofs.RunLaws.{rack-keeps}
use Rattle.policy_rack.proofs.NoteLaws.{noting-again}
use Rattle.policy_rack.proofs.LiveKinds.{live-kinds-differ}
use Rattle.policy_rack.proofs.laws.laws_of_runs.Goals as goal

pub returns-clause-kept : goal.returns-clause-kept
returns-clause-kept c = rack-keeps

pub returns-clause-kinds : goal.returns-clause-kinds
returns-clause-kinds c = live-kinds-differ

pub returns-clause-noting : goal.returns-clause-noting
returns-clause-noting c = noting-again
