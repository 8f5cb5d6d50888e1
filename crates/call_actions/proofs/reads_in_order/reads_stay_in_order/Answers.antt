use Rattle.call_actions.proofs.ReadsInOrder.Order.{frames_come_after, reads_begin, reads_stay}
use Rattle.call_actions.proofs.reads_in_order.reads_stay_in_order.Goals as goal

pub returns-clause-begins : goal.returns-clause-begins
returns-clause-begins c = reads_begin

pub returns-clause-stays : goal.returns-clause-stays
returns-clause-stays c = reads_stay

pub returns-clause-comes : goal.returns-clause-comes
returns-clause-comes c = frames_come_after
