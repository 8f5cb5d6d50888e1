use Rattle.call_core.specs.Numbering.{IsNumbered}
use Rattle.call_core.specs.Parts.{pick_end}
use Rattle.call_core.specs.RowChains.{RowsAreChained}
use Rattle.call_core.specs.Rows.{IsApart}
use Rattle.call_core.proofs.Moves.{moves_closed_by, moves_configured, moves_due, moves_ended_at, moves_news, moves_placed, moves_sent, moves_timed_out}
use Rattle.call_core.proofs.RowLaws.Chains.{chained_elsewhere, chained_moves, chained_new, counted_once}
use Rattle.call_core.proofs.row_laws.rows_are_chained.Goals as goal

pub returns-clause-counted : goal.returns-clause-counted
returns-clause-counted c = counted_once

pub returns-clause-begun : goal.returns-clause-begun
returns-clause-begun c = chained_new

pub returns-clause-elsewhere : goal.returns-clause-elsewhere
returns-clause-elsewhere c = chained_elsewhere

pub returns-clause-configured : goal.returns-clause-configured
returns-clause-configured c = λ chosen moment s numbered apart old. moves_configured (λ chosen. Unit {0}) (λ s row reported. Unit {0}) (λ moment s t. IsNumbered s → IsApart s → RowsAreChained s → RowsAreChained t) chained_moves chosen moment s tt numbered apart old

pub returns-clause-sent : goal.returns-clause-sent
returns-clause-sent c = λ message moment s numbered apart old. moves_sent (λ chosen. Unit {0}) (λ s row reported. Unit {0}) (λ moment s t. IsNumbered s → IsApart s → RowsAreChained s → RowsAreChained t) chained_moves message moment s numbered apart old

pub returns-clause-closed : goal.returns-clause-closed
returns-clause-closed c = λ why moment s by numbered apart old. moves_closed_by (λ chosen. Unit {0}) (λ s row reported. Unit {0}) (λ moment s t. IsNumbered s → IsApart s → RowsAreChained s → RowsAreChained t) chained_moves why moment s by numbered apart old

pub returns-clause-timed_out : goal.returns-clause-timed_out
returns-clause-timed_out c = λ moment s numbered apart old. moves_timed_out (λ chosen. Unit {0}) (λ s row reported. Unit {0}) (λ moment s t. IsNumbered s → IsApart s → RowsAreChained s → RowsAreChained t) chained_moves moment s numbered apart old

pub returns-clause-placed : goal.returns-clause-placed
returns-clause-placed c = λ row at s e numbered apart old. moves_placed (λ chosen. Unit {0}) (λ s row reported. Unit {0}) (λ moment s t. IsNumbered s → IsApart s → RowsAreChained s → RowsAreChained t) chained_moves row at s e numbered apart old

pub returns-clause-failed : goal.returns-clause-failed
returns-clause-failed c = λ row moment word s numbered apart old. moves_ended_at (λ chosen. Unit {0}) (λ s row reported. Unit {0}) (λ moment s t. IsNumbered s → IsApart s → RowsAreChained s → RowsAreChained t) chained_moves row pick_end moment word s (λ live e. tt) numbered apart old

pub returns-clause-handled : goal.returns-clause-handled
returns-clause-handled c = λ row reported moment word s numbered apart old. moves_news (λ chosen. Unit {0}) (λ s row reported. Unit {0}) (λ moment s t. IsNumbered s → IsApart s → RowsAreChained s → RowsAreChained t) chained_moves row reported moment word s (λ tag end live e f. tt) numbered apart old

pub returns-clause-made : goal.returns-clause-made
returns-clause-made c = λ moment s numbered apart old. moves_due (λ chosen. Unit {0}) (λ s row reported. Unit {0}) (λ moment s t. IsNumbered s → IsApart s → RowsAreChained s → RowsAreChained t) chained_moves moment s numbered apart old
