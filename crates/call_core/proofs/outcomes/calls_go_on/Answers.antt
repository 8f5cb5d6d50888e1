use Rattle.std.proofs.Common.{◌≤◌}
use Rattle.attempt_ledger.specs.Numbering.{most_attempts}
use Rattle.call_core.specs.Going.{IsGoing}
use Rattle.call_core.specs.Laws.{IsKept}
use Rattle.call_core.specs.Parts.{pick_end}
use Rattle.call_core.proofs.Going.{going_moves, going_new}
use Rattle.call_core.proofs.Moves.{moves_closed_by, moves_configured, moves_due, moves_ended_at, moves_news, moves_placed, moves_sent, moves_timed_out}
use Rattle.call_core.proofs.outcomes.calls_go_on.Goals as goal

pub returns-clause-begun : goal.returns-clause-begun
returns-clause-begun c = going_new

pub returns-clause-configured : goal.returns-clause-configured
returns-clause-configured c = λ chosen moment s most kept old. moves_configured (λ chosen. 1 ≤ most_attempts chosen.plan) (λ s row reported. Unit {0}) (λ moment s t. IsKept s.call → IsGoing s.call → IsGoing t.call) going_moves chosen moment s most kept old

pub returns-clause-sent : goal.returns-clause-sent
returns-clause-sent c = λ message moment s kept old. moves_sent (λ chosen. 1 ≤ most_attempts chosen.plan) (λ s row reported. Unit {0}) (λ moment s t. IsKept s.call → IsGoing s.call → IsGoing t.call) going_moves message moment s kept old

pub returns-clause-closed : goal.returns-clause-closed
returns-clause-closed c = λ why moment s by kept old. moves_closed_by (λ chosen. 1 ≤ most_attempts chosen.plan) (λ s row reported. Unit {0}) (λ moment s t. IsKept s.call → IsGoing s.call → IsGoing t.call) going_moves why moment s by kept old

pub returns-clause-timed_out : goal.returns-clause-timed_out
returns-clause-timed_out c = λ moment s kept old. moves_timed_out (λ chosen. 1 ≤ most_attempts chosen.plan) (λ s row reported. Unit {0}) (λ moment s t. IsKept s.call → IsGoing s.call → IsGoing t.call) going_moves moment s kept old

pub returns-clause-placed : goal.returns-clause-placed
returns-clause-placed c = λ row at s e kept old. moves_placed (λ chosen. 1 ≤ most_attempts chosen.plan) (λ s row reported. Unit {0}) (λ moment s t. IsKept s.call → IsGoing s.call → IsGoing t.call) going_moves row at s e kept old

pub returns-clause-failed : goal.returns-clause-failed
returns-clause-failed c = λ row moment word s kept old. moves_ended_at (λ chosen. 1 ≤ most_attempts chosen.plan) (λ s row reported. Unit {0}) (λ moment s t. IsKept s.call → IsGoing s.call → IsGoing t.call) going_moves row pick_end moment word s (λ live e. tt) kept old

pub returns-clause-handled : goal.returns-clause-handled
returns-clause-handled c = λ row reported moment word s kept old. moves_news (λ chosen. 1 ≤ most_attempts chosen.plan) (λ s row reported. Unit {0}) (λ moment s t. IsKept s.call → IsGoing s.call → IsGoing t.call) going_moves row reported moment word s (λ tag end live e f. tt) kept old

pub returns-clause-made : goal.returns-clause-made
returns-clause-made c = λ moment s kept old. moves_due (λ chosen. 1 ≤ most_attempts chosen.plan) (λ s row reported. Unit {0}) (λ moment s t. IsKept s.call → IsGoing s.call → IsGoing t.call) going_moves moment s kept old
