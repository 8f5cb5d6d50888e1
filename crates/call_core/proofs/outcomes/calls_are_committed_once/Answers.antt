use Rattle.std.proofs.Common.{◌≡◌, false, refl}
use Rattle.attempt_ledger.specs.Ends.{is_cut}
use Rattle.call_core.specs.Commitments.{IsCommittedOnce}
use Rattle.call_core.specs.Laws.{IsKept}
use Rattle.call_core.specs.Parts.{pick_end}
use Rattle.call_core.specs.Rows.{IsApart}
use Rattle.call_core.proofs.Commitments.{once_elsewhere, once_moves, once_new}
use Rattle.call_core.proofs.Moves.{moves_closed_by, moves_configured, moves_due, moves_ended_at, moves_news, moves_placed, moves_sent, moves_timed_out}
use Rattle.call_core.proofs.outcomes.calls_are_committed_once.Goals as goal

pub returns-clause-begun : goal.returns-clause-begun
returns-clause-begun c = once_new

pub returns-clause-elsewhere : goal.returns-clause-elsewhere
returns-clause-elsewhere c = once_elsewhere

pub returns-clause-configured : goal.returns-clause-configured
returns-clause-configured c = λ chosen moment s kept apart old. moves_configured (λ chosen. Unit {0}) (λ s row reported. is_cut reported.cause ≡ false) (λ moment s t. IsKept s.call → IsApart s → IsCommittedOnce s → IsCommittedOnce t) once_moves chosen moment s tt kept apart old

pub returns-clause-sent : goal.returns-clause-sent
returns-clause-sent c = λ message moment s kept apart old. moves_sent (λ chosen. Unit {0}) (λ s row reported. is_cut reported.cause ≡ false) (λ moment s t. IsKept s.call → IsApart s → IsCommittedOnce s → IsCommittedOnce t) once_moves message moment s kept apart old

pub returns-clause-closed : goal.returns-clause-closed
returns-clause-closed c = λ why moment s by kept apart old. moves_closed_by (λ chosen. Unit {0}) (λ s row reported. is_cut reported.cause ≡ false) (λ moment s t. IsKept s.call → IsApart s → IsCommittedOnce s → IsCommittedOnce t) once_moves why moment s by kept apart old

pub returns-clause-timed_out : goal.returns-clause-timed_out
returns-clause-timed_out c = λ moment s kept apart old. moves_timed_out (λ chosen. Unit {0}) (λ s row reported. is_cut reported.cause ≡ false) (λ moment s t. IsKept s.call → IsApart s → IsCommittedOnce s → IsCommittedOnce t) once_moves moment s kept apart old

pub returns-clause-placed : goal.returns-clause-placed
returns-clause-placed c = λ row at s e kept apart old. moves_placed (λ chosen. Unit {0}) (λ s row reported. is_cut reported.cause ≡ false) (λ moment s t. IsKept s.call → IsApart s → IsCommittedOnce s → IsCommittedOnce t) once_moves row at s e kept apart old

pub returns-clause-failed : goal.returns-clause-failed
returns-clause-failed c = λ row moment word s kept apart old. moves_ended_at (λ chosen. Unit {0}) (λ s row reported. is_cut reported.cause ≡ false) (λ moment s t. IsKept s.call → IsApart s → IsCommittedOnce s → IsCommittedOnce t) once_moves row pick_end moment word s (λ live e. refl) kept apart old

pub returns-clause-handled : goal.returns-clause-handled
returns-clause-handled c = λ row reported moment word s known kept apart old. moves_news (λ chosen. Unit {0}) (λ s row reported. is_cut reported.cause ≡ false) (λ moment s t. IsKept s.call → IsApart s → IsCommittedOnce s → IsCommittedOnce t) once_moves row reported moment word s (λ tag end live e f. known tag end e) kept apart old

pub returns-clause-made : goal.returns-clause-made
returns-clause-made c = λ moment s kept apart old. moves_due (λ chosen. Unit {0}) (λ s row reported. is_cut reported.cause ≡ false) (λ moment s t. IsKept s.call → IsApart s → IsCommittedOnce s → IsCommittedOnce t) once_moves moment s kept apart old
