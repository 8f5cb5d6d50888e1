use Rattle.load_session.proofs.Ran.{exit_full, exit_memory, exit_if, not_ok}
use Rattle.load_session.proofs.summary.sum_up.Goals as goal

pub returns-in_err-play_on-clause-ok : goal.returns-in_err-play_on-clause-ok
returns-in_err-play_on-clause-ok g c = exit_if c.from_residual.result _ _ c.from_residual.ensures.1

pub returns-in_err-play_on-clause-full : goal.returns-in_err-play_on-clause-full
returns-in_err-play_on-clause-full g c = exit_full c.from_residual.result c.in_err-play_on.field-0.0 c.from_residual.ensures.1 c.in_err-play_on.ensures.full

pub returns-in_err-summary-clause-ok : goal.returns-in_err-summary-clause-ok
returns-in_err-summary-clause-ok g c = exit_if c.from_residual-in_err-summary.result _ _ c.from_residual-in_err-summary.ensures.1

pub returns-in_err-summary-clause-full : goal.returns-in_err-summary-clause-full
returns-in_err-summary-clause-full g c = exit_memory c.from_residual-in_err-summary.result c.from_residual-in_err-summary.ensures.1

pub returns-clause-ok : goal.returns-clause-ok
returns-clause-ok g c = record {
  new = c.play_on.new.core;
  plays = c.in_ok-play_on.ensures.ok;
  journal = c.journal.result.now;
  journal_is = c.journal.ensures;
  ledger = c.ledger.result.now;
  ledger_is = c.ledger.ensures;
  sums = c.in_ok-summary.ensures;
}

pub returns-clause-full : goal.returns-clause-full
returns-clause-full g c = not_ok _
