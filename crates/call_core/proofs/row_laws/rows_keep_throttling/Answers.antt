use Rattle.call_core.specs.Laws.{IsKept}
use Rattle.call_core.specs.Parts.{pick_end}
use Rattle.call_core.specs.RowLaws.{TokensAreOwn, RowsAreThrottled}
use Rattle.call_core.specs.Rows.{IsApart}
use Rattle.call_core.proofs.Moves.{moves_closed_by, moves_configured, moves_due, moves_ended_at, moves_news, moves_placed, moves_sent, moves_timed_out}
use Rattle.call_core.proofs.RowLaws.Tokens.{never_miscounted, throttled_elsewhere, throttled_moves, throttled_new}
use Rattle.call_core.proofs.row_laws.rows_keep_throttling.Goals as goal

pub returns-clause-law : goal.returns-clause-law
returns-clause-law c = never_miscounted

pub returns-clause-begun : goal.returns-clause-begun
returns-clause-begun c = throttled_new

pub returns-clause-elsewhere : goal.returns-clause-elsewhere
returns-clause-elsewhere c = throttled_elsewhere

pub returns-clause-configured : goal.returns-clause-configured
returns-clause-configured c = λ chosen moment s kept apart own old. moves_configured (λ chosen. Unit {0}) (λ s row reported. Unit {0}) (λ moment s t. IsKept s.call → IsApart s → TokensAreOwn s.tokens s.call.chosen → RowsAreThrottled s → RowsAreThrottled t) throttled_moves chosen moment s tt kept apart own old

pub returns-clause-sent : goal.returns-clause-sent
returns-clause-sent c = λ message moment s kept apart own old. moves_sent (λ chosen. Unit {0}) (λ s row reported. Unit {0}) (λ moment s t. IsKept s.call → IsApart s → TokensAreOwn s.tokens s.call.chosen → RowsAreThrottled s → RowsAreThrottled t) throttled_moves message moment s kept apart own old

pub returns-clause-closed : goal.returns-clause-closed
returns-clause-closed c = λ why moment s by kept apart own old. moves_closed_by (λ chosen. Unit {0}) (λ s row reported. Unit {0}) (λ moment s t. IsKept s.call → IsApart s → TokensAreOwn s.tokens s.call.chosen → RowsAreThrottled s → RowsAreThrottled t) throttled_moves why moment s by kept apart own old

pub returns-clause-timed_out : goal.returns-clause-timed_out
returns-clause-timed_out c = λ moment s kept apart own old. moves_timed_out (λ chosen. Unit {0}) (λ s row reported. Unit {0}) (λ moment s t. IsKept s.call → IsApart s → TokensAreOwn s.tokens s.call.chosen → RowsAreThrottled s → RowsAreThrottled t) throttled_moves moment s kept apart own old

pub returns-clause-placed : goal.returns-clause-placed
returns-clause-placed c = λ row at s e kept apart own old. moves_placed (λ chosen. Unit {0}) (λ s row reported. Unit {0}) (λ moment s t. IsKept s.call → IsApart s → TokensAreOwn s.tokens s.call.chosen → RowsAreThrottled s → RowsAreThrottled t) throttled_moves row at s e kept apart own old

pub returns-clause-failed : goal.returns-clause-failed
returns-clause-failed c = λ row moment word s kept apart own old. moves_ended_at (λ chosen. Unit {0}) (λ s row reported. Unit {0}) (λ moment s t. IsKept s.call → IsApart s → TokensAreOwn s.tokens s.call.chosen → RowsAreThrottled s → RowsAreThrottled t) throttled_moves row pick_end moment word s (λ live e. tt) kept apart own old

pub returns-clause-handled : goal.returns-clause-handled
returns-clause-handled c = λ row reported moment word s kept apart own old. moves_news (λ chosen. Unit {0}) (λ s row reported. Unit {0}) (λ moment s t. IsKept s.call → IsApart s → TokensAreOwn s.tokens s.call.chosen → RowsAreThrottled s → RowsAreThrottled t) throttled_moves row reported moment word s (λ tag end live e f. tt) kept apart own old

pub returns-clause-made : goal.returns-clause-made
returns-clause-made c = λ moment s kept apart own old. moves_due (λ chosen. Unit {0}) (λ s row reported. Unit {0}) (λ moment s t. IsKept s.call → IsApart s → TokensAreOwn s.tokens s.call.chosen → RowsAreThrottled s → RowsAreThrottled t) throttled_moves moment s kept apart own old
