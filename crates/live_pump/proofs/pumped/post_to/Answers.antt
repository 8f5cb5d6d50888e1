use Rattle.live_pump.proofs.WorkerLaws.{reports_answer}
use Rattle.live_pump.proofs.pumped.post_to.Goals as goal

pub returns-clause-reports_that : goal.returns-clause-reports_that
returns-clause-reports_that g c = λ quiet. reports_answer _ _ _ _ _ _ c.answer_of.ensures quiet (record { made = c.post-came.ensures.made; errors = c.post-came.ensures.errors })
