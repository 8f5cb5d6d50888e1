use Rattle.relay_calls.proofs.ReportLaws.{reports_finished}
use Rattle.relay_calls.proofs.calls.RelayCalls.finish.Goals as goal

pub returns-clause-posted : goal.returns-clause-posted
returns-clause-posted g c = (c.post-came.result, record { made = c.post-came.ensures.made; errors = c.post-came.ensures.errors }, c.note_finished.ensures)

pub returns-clause-reports_that : goal.returns-clause-reports_that
returns-clause-reports_that g c = reports_finished c.args.call c.args.stream _ _ c.args.self.now c.note_finished.new.self c.post-came.result c.note_finished.result (record { made = c.post-came.ensures.made; errors = c.post-came.ensures.errors }) (c.note_finished.ensures)
