use Rattle.std.proofs.Common.{rules, ◌∙◌}
use Rattle.dns_watch.proofs.TurnLaws.{reports_looked, turn_taken}
use Rattle.dns_watch.proofs.job.dns_once.Goals as goal

pub returns-clause-turn : goal.returns-clause-turn
returns-clause-turn g c = (
  c.glance-view.result,
  c.report.ensures.looks.1 ∙ c.glance-view.ensures.looks.1,
  turn_taken c.glance-view.result _ _ _ c.now-moment.result _ _ c.look_up-answer.result c.report.result (search rules) c.now-moment.ensures.given (search rules) c.look_up-answer.ensures
      (reports_looked _ _ _ _ _ _ _ _ _ c.glance-view.ensures.made c.glance-view.ensures.errors.0 c.glance-view.ensures.errors.1 c.report.ensures.reported),
)
