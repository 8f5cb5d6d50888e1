use Rattle.std.proofs.Common.{subst}
use Rattle.live_pump.specs.Pumps.{HandleSeen}
use Rattle.relay_calls.specs.Posting.{Eyes, eyes_of}
use Rattle.relay_front.specs.Cores.{Core}
use Rattle.relay_front.specs.Turns.{GivesAt}
use Rattle.relay_front.proofs.GiveLaws.{gives_at}
use Rattle.relay_front.proofs.ReportLaws.{given_reports}
use Rattle.relay_front.proofs.relay_core.RelayCore.take_at.Goals as goal

pub returns-clause-taken : goal.returns-clause-taken
returns-clause-taken g c =
    let eyes : Eyes g.row.P.Denot = eyes_of g.P.Post.made g.P.Post.errors g.P.Post.last_error g.P.Post.looks g.P.Post.last_look in
    subst (λ (x : Core). GivesAt eyes c.args.place x c.args.post.now c.give_item.new.self c.take_at-came.new.post c.give_item.result) c.self.view_is
    (gives_at eyes c.args.place (record { relay = c.self.inside.connection; calls = c.self.inside.calls }) c.give_item.new.self c.take_at-came.new.self _ _ c.stream_at-stream.result c.take_at-came.result c.give_item.result c.stream_at-stream.ensures c.take_at-came.ensures.taken c.give_item.ensures.given)

pub returns-clause-reports_that : goal.returns-clause-reports_that
returns-clause-reports_that g c =
    let seen : g.row.P.Denot → HandleSeen = λ p. record { made = g.P.Post.made p; errors = g.P.Post.errors p; last = g.P.Post.last_error p } in
    given_reports (seen c.args.post.now) (seen c.take_at-came.new.post) c.take_at-came.result _ c.take_at-came.ensures.reports_that c.give_item.ensures.reports_that
