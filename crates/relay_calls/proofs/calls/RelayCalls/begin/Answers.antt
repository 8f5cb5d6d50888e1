use Rattle.relay_calls.proofs.ReportLaws.{reports_begun}
use Rattle.relay_calls.proofs.calls.RelayCalls.begin.Goals as goal

pub returns-clause-posted : goal.returns-clause-posted
returns-clause-posted g c = (c.post-came.result, record { made = c.post-came.ensures.made; errors = c.post-came.ensures.errors }, c.note_begun.ensures c.args.request)

pub returns-clause-reports_that : goal.returns-clause-reports_that
returns-clause-reports_that g c = reports_begun _ _ _ _ _ _ _ _ (record { made = c.post-came.ensures.made; errors = c.post-came.ensures.errors }) (c.note_begun.ensures c.args.request)
