use Rattle.std.proofs.Common.{◌≡◌, false, refl}
use Rattle.attempt_ledger.specs.Ends.{is_cut}
use Rattle.call_core.specs.Parts.{pick_end}
use Rattle.call_core.specs.RowLicenses.{RowsAreLicensed, IsSound}
use Rattle.call_core.proofs.Moves.{moves_closed_by, moves_configured, moves_due, moves_ended_at, moves_news, moves_placed, moves_sent, moves_timed_out}
use Rattle.call_core.proofs.RowLaws.Retried.{licensed_elsewhere, licensed_moves, licensed_new}
use Rattle.call_core.proofs.RowLaws.Words.{never_unlicensed}
use Rattle.call_core.proofs.row_laws.rows_keep_retries.Goals as goal

pub returns-clause-law : goal.returns-clause-law
returns-clause-law c = never_unlicensed

pub returns-clause-begun : goal.returns-clause-begun
returns-clause-begun c = licensed_new

pub returns-clause-elsewhere : goal.returns-clause-elsewhere
returns-clause-elsewhere c = licensed_elsewhere

pub returns-clause-configured : goal.returns-clause-configured
returns-clause-configured c = λ chosen moment s sound old. moves_configured (λ chosen. Unit {0}) (λ s row reported. is_cut reported.cause ≡ false) (λ moment s t. IsSound s → RowsAreLicensed s → RowsAreLicensed t) licensed_moves chosen moment s tt sound old

pub returns-clause-sent : goal.returns-clause-sent
returns-clause-sent c = λ message moment s sound old. moves_sent (λ chosen. Unit {0}) (λ s row reported. is_cut reported.cause ≡ false) (λ moment s t. IsSound s → RowsAreLicensed s → RowsAreLicensed t) licensed_moves message moment s sound old

pub returns-clause-closed : goal.returns-clause-closed
returns-clause-closed c = λ why moment s by sound old. moves_closed_by (λ chosen. Unit {0}) (λ s row reported. is_cut reported.cause ≡ false) (λ moment s t. IsSound s → RowsAreLicensed s → RowsAreLicensed t) licensed_moves why moment s by sound old

pub returns-clause-timed_out : goal.returns-clause-timed_out
returns-clause-timed_out c = λ moment s sound old. moves_timed_out (λ chosen. Unit {0}) (λ s row reported. is_cut reported.cause ≡ false) (λ moment s t. IsSound s → RowsAreLicensed s → RowsAreLicensed t) licensed_moves moment s sound old

pub returns-clause-placed : goal.returns-clause-placed
returns-clause-placed c = λ row at s e sound old. moves_placed (λ chosen. Unit {0}) (λ s row reported. is_cut reported.cause ≡ false) (λ moment s t. IsSound s → RowsAreLicensed s → RowsAreLicensed t) licensed_moves row at s e sound old

pub returns-clause-failed : goal.returns-clause-failed
returns-clause-failed c = λ row moment word s sound old. moves_ended_at (λ chosen. Unit {0}) (λ s row reported. is_cut reported.cause ≡ false) (λ moment s t. IsSound s → RowsAreLicensed s → RowsAreLicensed t) licensed_moves row pick_end moment word s (λ live e. refl) sound old

pub returns-clause-handled : goal.returns-clause-handled
returns-clause-handled c = λ row reported moment word s fair sound old. moves_news (λ chosen. Unit {0}) (λ s row reported. is_cut reported.cause ≡ false) (λ moment s t. IsSound s → RowsAreLicensed s → RowsAreLicensed t) licensed_moves row reported moment word s (λ tag end live e f. fair tag end e) sound old

pub returns-clause-made : goal.returns-clause-made
returns-clause-made c = λ moment s sound old. moves_due (λ chosen. Unit {0}) (λ s row reported. is_cut reported.cause ≡ false) (λ moment s t. IsSound s → RowsAreLicensed s → RowsAreLicensed t) licensed_moves moment s sound old
