use Rattle.std.proofs.Common.{◌≡◌, ◌≤◌, ℕ, true, false, refl}
use Rattle.attempt_ledger.specs.Ends.{is_stop}
use Rattle.call_core.specs.Laws.{IsKept}
use Rattle.call_core.specs.Orders.{RowsAreDue}
use Rattle.call_core.specs.Parts.{is_followed, pick_end}
use Rattle.call_core.specs.RowLaws.{RowsAreHedged, HasNoRows}
use Rattle.call_core.specs.Rows.{IsApart}
use Rattle.call_core.proofs.Moves.{moves_closed_by, moves_configured, moves_due, moves_ended_at, moves_news, moves_placed, moves_sent, moves_timed_out}
use Rattle.call_core.proofs.RowLaws.Hedges.{hedged_elsewhere, hedged_moves, hedged_new, never_unhedged}
use Rattle.call_core.proofs.row_laws.rows_keep_hedging.Goals as goal

pub returns-clause-law : goal.returns-clause-law
returns-clause-law c = never_unhedged

pub returns-clause-begun : goal.returns-clause-begun
returns-clause-begun c = hedged_new

pub returns-clause-elsewhere : goal.returns-clause-elsewhere
returns-clause-elsewhere c = hedged_elsewhere

pub returns-clause-configured : goal.returns-clause-configured
returns-clause-configured c = λ chosen moment s now le kept apart timed none old. moves_configured (λ chosen. Unit {0}) (λ s row reported. is_followed s.call.attempts reported.cause reported.unseen ≡ true → is_stop reported.pushback ≡ false) (λ moment s t. (now : ℕ) → now ≤ moment → IsKept s.call → IsApart s → RowsAreDue now s → HasNoRows s → RowsAreHedged s → RowsAreHedged t) hedged_moves chosen moment s tt now le kept apart timed none old

pub returns-clause-sent : goal.returns-clause-sent
returns-clause-sent c = λ message moment s now le kept apart timed none old. moves_sent (λ chosen. Unit {0}) (λ s row reported. is_followed s.call.attempts reported.cause reported.unseen ≡ true → is_stop reported.pushback ≡ false) (λ moment s t. (now : ℕ) → now ≤ moment → IsKept s.call → IsApart s → RowsAreDue now s → HasNoRows s → RowsAreHedged s → RowsAreHedged t) hedged_moves message moment s now le kept apart timed none old

pub returns-clause-closed : goal.returns-clause-closed
returns-clause-closed c = λ why moment s by now le kept apart timed none old. moves_closed_by (λ chosen. Unit {0}) (λ s row reported. is_followed s.call.attempts reported.cause reported.unseen ≡ true → is_stop reported.pushback ≡ false) (λ moment s t. (now : ℕ) → now ≤ moment → IsKept s.call → IsApart s → RowsAreDue now s → HasNoRows s → RowsAreHedged s → RowsAreHedged t) hedged_moves why moment s by now le kept apart timed none old

pub returns-clause-timed_out : goal.returns-clause-timed_out
returns-clause-timed_out c = λ moment s now le kept apart timed none old. moves_timed_out (λ chosen. Unit {0}) (λ s row reported. is_followed s.call.attempts reported.cause reported.unseen ≡ true → is_stop reported.pushback ≡ false) (λ moment s t. (now : ℕ) → now ≤ moment → IsKept s.call → IsApart s → RowsAreDue now s → HasNoRows s → RowsAreHedged s → RowsAreHedged t) hedged_moves moment s now le kept apart timed none old

pub returns-clause-placed : goal.returns-clause-placed
returns-clause-placed c = λ row at s e now le kept apart timed none old. moves_placed (λ chosen. Unit {0}) (λ s row reported. is_followed s.call.attempts reported.cause reported.unseen ≡ true → is_stop reported.pushback ≡ false) (λ moment s t. (now : ℕ) → now ≤ moment → IsKept s.call → IsApart s → RowsAreDue now s → HasNoRows s → RowsAreHedged s → RowsAreHedged t) hedged_moves row at s e now le kept apart timed none old

pub returns-clause-failed : goal.returns-clause-failed
returns-clause-failed c = λ row moment word s now le kept apart timed none old. moves_ended_at (λ chosen. Unit {0}) (λ s row reported. is_followed s.call.attempts reported.cause reported.unseen ≡ true → is_stop reported.pushback ≡ false) (λ moment s t. (now : ℕ) → now ≤ moment → IsKept s.call → IsApart s → RowsAreDue now s → HasNoRows s → RowsAreHedged s → RowsAreHedged t) hedged_moves row pick_end moment word s (λ live e h. refl) now le kept apart timed none old

pub returns-clause-handled : goal.returns-clause-handled
returns-clause-handled c = λ row reported moment word s fair now le kept apart timed none old. moves_news (λ chosen. Unit {0}) (λ s row reported. is_followed s.call.attempts reported.cause reported.unseen ≡ true → is_stop reported.pushback ≡ false) (λ moment s t. (now : ℕ) → now ≤ moment → IsKept s.call → IsApart s → RowsAreDue now s → HasNoRows s → RowsAreHedged s → RowsAreHedged t) hedged_moves row reported moment word s (λ tag end live e f. fair tag end e) now le kept apart timed none old

pub returns-clause-made : goal.returns-clause-made
returns-clause-made c = λ moment s now le kept apart timed none old. moves_due (λ chosen. Unit {0}) (λ s row reported. is_followed s.call.attempts reported.cause reported.unseen ≡ true → is_stop reported.pushback ≡ false) (λ moment s t. (now : ℕ) → now ≤ moment → IsKept s.call → IsApart s → RowsAreDue now s → HasNoRows s → RowsAreHedged s → RowsAreHedged t) hedged_moves moment s now le kept apart timed none old
