use Rattle.call_actions.proofs.ReadsInOrder.Numbers.{links_begin, links_stay, next_reads_on}
use Rattle.call_actions.proofs.reads_in_order.links_have_their_numbers.Goals as goal

pub returns-clause-begins : goal.returns-clause-begins
returns-clause-begins c = links_begin

pub returns-clause-stays : goal.returns-clause-stays
returns-clause-stays c = links_stay

pub returns-clause-next : goal.returns-clause-next
returns-clause-next c = next_reads_on
