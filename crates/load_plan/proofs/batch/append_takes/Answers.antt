-- Each turn adds the takes of the next call.
use Rattle.std.proofs.Common.{◌+◌, refl}
use Rattle.load_plan.specs.Plan.{takes_at}
use Rattle.load_plan.proofs.Runs.{each_more}
use Rattle.load_plan.proofs.batch.append_takes.Goals as goal

pub loop-place-preserved : goal.loop-place-preserved
loop-place-preserved c =
    each_more (takes_at c.args.nanos) (c.args.before + 1) c.loop-place.place (c.args.before + 1 + c.loop-place.place)
    c.args.actions.now c.loop-place.actions c.append_step.new.actions refl c.loop-place.invariant c.in_ok-append_step.ensures
