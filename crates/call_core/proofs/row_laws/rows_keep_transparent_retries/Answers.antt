use Rattle.std.proofs.Common.{◌≡◌, ◌≤◌, ℕ, true, false}
use Rattle.call_core.specs.Commitments.{IsCommittedOnce}
use Rattle.call_core.specs.Laws.{IsKept}
use Rattle.call_core.specs.Parts.{pick_end}
use Rattle.call_core.specs.RowChains.{RowsAreChained}
use Rattle.call_core.specs.RowFollowers.{AreFollowing, IsReported}
use Rattle.call_core.specs.Rows.{IsApart}
use Rattle.call_core.proofs.Moves.{moves_closed_by, moves_configured, moves_due, moves_ended_at, moves_news, moves_placed, moves_sent, moves_timed_out}
use Rattle.call_core.proofs.RowLaws.Writes.{following_elsewhere}
use Rattle.call_core.proofs.RowLaws.Retries.{never_unfollowed}
use Rattle.call_core.proofs.RowLaws.Following.{following_moves, following_new}
use Rattle.call_core.proofs.row_laws.rows_keep_transparent_retries.Goals as goal

pub returns-clause-law : goal.returns-clause-law
returns-clause-law c = never_unfollowed

pub returns-clause-begun : goal.returns-clause-begun
returns-clause-begun c = following_new

pub returns-clause-elsewhere : goal.returns-clause-elsewhere
returns-clause-elsewhere c = λ at s ledger keeps old. following_elsewhere at s.call.number s.ledger.rows ledger.rows s.call.attempts.is_refusal_followed s.call.attempts.last keeps old

pub returns-clause-configured : goal.returns-clause-configured
returns-clause-configured c = λ chosen moment s at le kept apart once chained old. moves_configured (λ chosen. Unit {0}) (λ s row reported. IsReported s row reported) (λ moment s t. (at : ℕ) → at ≤ s.ledger.entry → IsKept s.call → IsApart s → IsCommittedOnce s → RowsAreChained s → AreFollowing at s → AreFollowing s.ledger.entry t) following_moves chosen moment s tt at le kept apart once chained old

pub returns-clause-sent : goal.returns-clause-sent
returns-clause-sent c = λ message moment s at le kept apart once chained old. moves_sent (λ chosen. Unit {0}) (λ s row reported. IsReported s row reported) (λ moment s t. (at : ℕ) → at ≤ s.ledger.entry → IsKept s.call → IsApart s → IsCommittedOnce s → RowsAreChained s → AreFollowing at s → AreFollowing s.ledger.entry t) following_moves message moment s at le kept apart once chained old

pub returns-clause-closed : goal.returns-clause-closed
returns-clause-closed c = λ why moment s by at le kept apart once chained old. moves_closed_by (λ chosen. Unit {0}) (λ s row reported. IsReported s row reported) (λ moment s t. (at : ℕ) → at ≤ s.ledger.entry → IsKept s.call → IsApart s → IsCommittedOnce s → RowsAreChained s → AreFollowing at s → AreFollowing s.ledger.entry t) following_moves why moment s by at le kept apart once chained old

pub returns-clause-timed_out : goal.returns-clause-timed_out
returns-clause-timed_out c = λ moment s at le kept apart once chained old. moves_timed_out (λ chosen. Unit {0}) (λ s row reported. IsReported s row reported) (λ moment s t. (at : ℕ) → at ≤ s.ledger.entry → IsKept s.call → IsApart s → IsCommittedOnce s → RowsAreChained s → AreFollowing at s → AreFollowing s.ledger.entry t) following_moves moment s at le kept apart once chained old

pub returns-clause-placed : goal.returns-clause-placed
returns-clause-placed c = λ row placed s e at le kept apart once chained old. moves_placed (λ chosen. Unit {0}) (λ s row reported. IsReported s row reported) (λ moment s t. (at : ℕ) → at ≤ s.ledger.entry → IsKept s.call → IsApart s → IsCommittedOnce s → RowsAreChained s → AreFollowing at s → AreFollowing s.ledger.entry t) following_moves row placed s e at le kept apart once chained old

pub returns-clause-failed : goal.returns-clause-failed
returns-clause-failed c = λ row moment word s at le kept apart once chained old. moves_ended_at (λ chosen. Unit {0}) (λ s row reported. IsReported s row reported) (λ moment s t. (at : ℕ) → at ≤ s.ledger.entry → IsKept s.call → IsApart s → IsCommittedOnce s → RowsAreChained s → AreFollowing at s → AreFollowing s.ledger.entry t) following_moves row pick_end moment word s (λ live e by. absurd (let no : false ≡ true = by in cc)) at le kept apart once chained old

pub returns-clause-handled : goal.returns-clause-handled
returns-clause-handled c = λ row reported moment word s fair at le kept apart once chained old. moves_news (λ chosen. Unit {0}) (λ s row reported. IsReported s row reported) (λ moment s t. (at : ℕ) → at ≤ s.ledger.entry → IsKept s.call → IsApart s → IsCommittedOnce s → RowsAreChained s → AreFollowing at s → AreFollowing s.ledger.entry t) following_moves row reported moment word s fair at le kept apart once chained old

pub returns-clause-made : goal.returns-clause-made
returns-clause-made c = λ moment s at le kept apart once chained old. moves_due (λ chosen. Unit {0}) (λ s row reported. IsReported s row reported) (λ moment s t. (at : ℕ) → at ≤ s.ledger.entry → IsKept s.call → IsApart s → IsCommittedOnce s → RowsAreChained s → AreFollowing at s → AreFollowing s.ledger.entry t) following_moves moment s at le kept apart once chained old
