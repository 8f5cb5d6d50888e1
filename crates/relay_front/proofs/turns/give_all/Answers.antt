use Rattle.live_pump.specs.Pumps.{HandleSeen}
use Rattle.relay_front.proofs.ReportLaws.{answered_reports}
use Rattle.relay_front.proofs.turns.give_all.Goals as goal

pub returns-clause-given : goal.returns-clause-given
returns-clause-given g c = (c.take_all-came.result, c.take_all-came.ensures.given, c.answer_of.ensures)

pub returns-clause-reports_that : goal.returns-clause-reports_that
returns-clause-reports_that g c =
    let seen : g.row.P.Denot → HandleSeen = λ p. record { made = g.P.Post.made p; errors = g.P.Post.errors p; last = g.P.Post.last_error p } in
    answered_reports (seen c.args.post.now) (seen c.take_all-came.new.post) c.take_all-came.result c.answer_of.result c.answer_of.ensures c.take_all-came.ensures.reports_that
