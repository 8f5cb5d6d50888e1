-- Each turn adds the next round.
use Rattle.std.proofs.Common.{◌≡◌, ◌+◌, arith}
use Rattle.load_plan.specs.Plan.{round_actions}
use Rattle.load_plan.proofs.Runs.{run_more}
use Rattle.load_plan.proofs.batch.append_rounds.Goals as goal

pub loop-before-preserved : goal.loop-before-preserved
loop-before-preserved c =
    let next : 1 + c.loop-before.before ≡ c.loop-before.before + 1 = omega arith in
    run_more (round_actions c.args.nanos) 1 c.loop-before.before (c.loop-before.before + 1)
    c.args.actions.now c.loop-before.actions c.append_round.new.actions next c.loop-before.invariant c.in_ok-append_round.ensures
