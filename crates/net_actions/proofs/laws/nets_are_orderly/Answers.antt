use Rattle.net_actions.proofs.Orders.{clocks_keep_order, nets_are_orderly, take_overs_keep_order, wishes_keep_order}
use Rattle.net_actions.proofs.laws.nets_are_orderly.Goals as goal

pub returns-clause-nets : goal.returns-clause-nets
returns-clause-nets c = nets_are_orderly

pub returns-clause-clock : goal.returns-clause-clock
returns-clause-clock c = clocks_keep_order

pub returns-clause-over : goal.returns-clause-over
returns-clause-over c = take_overs_keep_order

pub returns-clause-wish : goal.returns-clause-wish
returns-clause-wish c = wishes_keep_order
