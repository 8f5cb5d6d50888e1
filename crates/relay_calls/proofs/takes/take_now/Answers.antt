use Rattle.relay_calls.proofs.ReportLaws.{error_taken}
use Rattle.relay_calls.proofs.takes.take_now.Goals as goal

pub returns-clause-taken : goal.returns-clause-taken
returns-clause-taken g c = (c.post-came.result, record { made = c.post-came.ensures.made; errors = c.post-came.ensures.errors }, c.note_taken.ensures)

pub returns-clause-reports_that : goal.returns-clause-reports_that
returns-clause-reports_that g c = error_taken _ _ _ _ _ _ _ (record { made = c.post-came.ensures.made; errors = c.post-came.ensures.errors }) c.note_taken.ensures
