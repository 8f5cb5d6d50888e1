use Rattle.call_actions.proofs.CallsApart.Seen.{ledgers_are_shared, others_are_in_order, others_are_in_turn, others_are_seen}
use Rattle.call_actions.proofs.calls_apart.others_agree.Goals as goal

pub returns-clause-seen : goal.returns-clause-seen
returns-clause-seen c = others_are_seen

pub returns-clause-order : goal.returns-clause-order
returns-clause-order c = others_are_in_order

pub returns-clause-turn : goal.returns-clause-turn
returns-clause-turn c = others_are_in_turn

pub returns-clause-ledger : goal.returns-clause-ledger
returns-clause-ledger c = ledgers_are_shared
