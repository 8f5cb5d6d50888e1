-- Each turn adds what the next call does.
use Rattle.std.proofs.Common.{◌+◌, refl}
use Rattle.load_plan.specs.Plan.{call_actions}
use Rattle.load_plan.proofs.Runs.{run_more}
use Rattle.load_plan.proofs.batch.append_calls.Goals as goal

pub loop-place-preserved : goal.loop-place-preserved
loop-place-preserved c =
    run_more (call_actions c.args.seed c.args.nanos) (c.args.before + 1) c.loop-place.place (c.args.before + 1 + c.loop-place.place)
    c.args.actions.now c.loop-place.actions c.append_call.new.actions refl c.loop-place.invariant c.in_ok-append_call.ensures
