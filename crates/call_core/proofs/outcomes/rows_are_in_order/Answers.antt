use Rattle.std.proofs.Common.{◌≤◌, ℕ, refl}
use Rattle.call_core.specs.Orders.{RowsAreTimed, IsFair}
use Rattle.call_core.specs.Parts.{pick_end}
use Rattle.call_core.specs.Rows.{IsApart}
use Rattle.call_core.proofs.Timed.{timed_begun, timed_elsewhere, timed_moves}
use Rattle.call_core.proofs.Moves.{moves_closed_by, moves_configured, moves_due, moves_ended_at, moves_news, moves_placed, moves_sent, moves_timed_out}
use Rattle.call_core.proofs.outcomes.rows_are_in_order.Goals as goal

pub returns-clause-begun : goal.returns-clause-begun
returns-clause-begun c = timed_begun

pub returns-clause-elsewhere : goal.returns-clause-elsewhere
returns-clause-elsewhere c = timed_elsewhere

pub returns-clause-configured : goal.returns-clause-configured
returns-clause-configured c = λ chosen moment s now le apart old. moves_configured (λ chosen. Unit {0}) (λ s row reported. IsFair row reported) (λ moment s t. (now : ℕ) → now ≤ moment → IsApart s → RowsAreTimed now s → RowsAreTimed moment t) timed_moves chosen moment s tt now le apart old

pub returns-clause-sent : goal.returns-clause-sent
returns-clause-sent c = λ message moment s now le apart old. moves_sent (λ chosen. Unit {0}) (λ s row reported. IsFair row reported) (λ moment s t. (now : ℕ) → now ≤ moment → IsApart s → RowsAreTimed now s → RowsAreTimed moment t) timed_moves message moment s now le apart old

pub returns-clause-closed : goal.returns-clause-closed
returns-clause-closed c = λ why moment s by now le apart old. moves_closed_by (λ chosen. Unit {0}) (λ s row reported. IsFair row reported) (λ moment s t. (now : ℕ) → now ≤ moment → IsApart s → RowsAreTimed now s → RowsAreTimed moment t) timed_moves why moment s by now le apart old

pub returns-clause-timed_out : goal.returns-clause-timed_out
returns-clause-timed_out c = λ moment s now le apart old. moves_timed_out (λ chosen. Unit {0}) (λ s row reported. IsFair row reported) (λ moment s t. (now : ℕ) → now ≤ moment → IsApart s → RowsAreTimed now s → RowsAreTimed moment t) timed_moves moment s now le apart old

pub returns-clause-placed : goal.returns-clause-placed
returns-clause-placed c = λ row at s e now le apart old. moves_placed (λ chosen. Unit {0}) (λ s row reported. IsFair row reported) (λ moment s t. (now : ℕ) → now ≤ moment → IsApart s → RowsAreTimed now s → RowsAreTimed moment t) timed_moves row at s e now le apart old

pub returns-clause-failed : goal.returns-clause-failed
returns-clause-failed c = λ row moment word s now le apart old. moves_ended_at (λ chosen. Unit {0}) (λ s row reported. IsFair row reported) (λ moment s t. (now : ℕ) → now ≤ moment → IsApart s → RowsAreTimed now s → RowsAreTimed moment t) timed_moves row pick_end moment word s (λ live e free. (refl, refl)) now le apart old

pub returns-clause-handled : goal.returns-clause-handled
returns-clause-handled c = λ row reported moment word s known now le apart old. moves_news (λ chosen. Unit {0}) (λ s row reported. IsFair row reported) (λ moment s t. (now : ℕ) → now ≤ moment → IsApart s → RowsAreTimed now s → RowsAreTimed moment t) timed_moves row reported moment word s (λ tag end live e f. known tag end live e f) now le apart old

pub returns-clause-made : goal.returns-clause-made
returns-clause-made c = λ moment s now le apart old. moves_due (λ chosen. Unit {0}) (λ s row reported. IsFair row reported) (λ moment s t. (now : ℕ) → now ≤ moment → IsApart s → RowsAreTimed now s → RowsAreTimed moment t) timed_moves moment s now le apart old
