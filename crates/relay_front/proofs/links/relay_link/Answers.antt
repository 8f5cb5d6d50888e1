use Rattle.std.proofs.Common.{refl}
use Rattle.live_pump.specs.Pumps.{HandleSeen}
use Rattle.relay_front.proofs.LinkLaws.{out_same}
use Rattle.relay_front.proofs.links.relay_link.Goals as goal

pub returns-clause-runs : goal.returns-clause-runs
returns-clause-runs g c = record {
  end = c.run_rounds-end.result;
  last = record { core = c.run_rounds-end.new.core; post = c.run_rounds-end.new.post; input = c.run_rounds-end.new.input; output = c.run_rounds-end.new.output };
  runs = c.run_rounds-end.ensures.run;
  finishes = c.finish-turn.ensures.finishes;
  input = refl;
  output = out_same _ _ c.close.ensures.bytes c.close.ensures.count;
}

pub returns-clause-reports_that : goal.returns-clause-reports_that
returns-clause-reports_that g c =
    let start : HandleSeen = record { made = g.P.Post.made c.args.post.now; errors = g.P.Post.errors c.args.post.now; last = g.P.Post.last_error c.args.post.now } in
    c.finish-turn.ensures.reports_that start c.run_rounds-end.ensures.reports_that
