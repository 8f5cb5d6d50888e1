use Rattle.std.proofs.Common.{[], ◌∷◌, ◌++◌, refl, ◌∙◌}
use Rattle.relay_calls.specs.Posting.{eyes_of}
use Rattle.relay_front.specs.Rounds.{LinkEyes, link_eyes_of}
use Rattle.relay_front.proofs.RunLaws.{rounds_more}
use Rattle.relay_front.proofs.links.run_rounds.Goals as goal

pub loop-init : goal.loop-init
loop-init g c = record { errors = refl; share = refl; rounds = []; goes_on = refl }

pub loop-preserved : goal.loop-preserved
loop-preserved g c =
    let eyes : LinkEyes g.row.P.Denot g.row.I.Denot g.row.O.Denot = link_eyes_of (eyes_of g.P.Post.made g.P.Post.errors g.P.Post.last_error g.P.Post.looks g.P.Post.last_look)
    g.I.LinkIn.left g.I.LinkIn.faults g.I.LinkIn.quiet g.O.LinkOut.taken g.O.LinkOut.faults in
    record {
      errors = c.in_default.ensures.reports_that ∙ c.loop.invariant.errors;
      share = c.round.ensures.share ∙ c.loop.invariant.share;
      rounds = c.loop.invariant.rounds ++ record { core = c.round.new.core; post = c.round.new.post; input = c.round.new.input; output = c.round.new.output } ∷ [];
      goes_on = rounds_more eyes (record { core = c.args.core.now; post = c.args.post.now; input = c.args.input.now; output = c.args.output.now }) c.loop.invariant.rounds
          (record { core = c.loop.core; post = c.loop.post; input = c.loop.input; output = c.loop.output }) (record { core = c.round.new.core; post = c.round.new.post; input = c.round.new.input; output = c.round.new.output }) c.loop.invariant.goes_on c.in_default.ensures.round;
    }

pub returns-in-Some-round-clause-run : goal.returns-in-Some-round-clause-run
returns-in-Some-round-clause-run g c = record {
  rounds = c.loop.invariant.rounds;
  last = record { core = c.loop.core; post = c.loop.post; input = c.loop.input; output = c.loop.output };
  goes_on = c.loop.invariant.goes_on;
  ends = c.in-Some-round.ensures.round;
}
