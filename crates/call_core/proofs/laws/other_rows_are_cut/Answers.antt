use Rattle.call_core.proofs.Cuts.{cut_by_commit, cut_by_end}
use Rattle.call_core.proofs.laws.other_rows_are_cut.Goals as goal

pub returns-clause-committed : goal.returns-clause-committed
returns-clause-committed c = cut_by_commit

pub returns-clause-ended : goal.returns-clause-ended
returns-clause-ended c = cut_by_end
