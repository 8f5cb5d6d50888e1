use Rattle.session_order.proofs.AtRest.{entries_begin_quiescent, entries_end_at_rest, new_ones_rest}
use Rattle.session_order.proofs.laws.entries_rest.Goals as goal

pub returns-clause-fresh : goal.returns-clause-fresh
returns-clause-fresh c = new_ones_rest

pub returns-clause-begin : goal.returns-clause-begin
returns-clause-begin c = entries_begin_quiescent

pub returns-clause-end : goal.returns-clause-end
returns-clause-end c = entries_end_at_rest
