use Rattle.std.proofs.Common.{subst}
use Rattle.session_text.specs.declared.ran.Ran.{Ran}
use Rattle.channel_top.specs.Runs.{StepsTo}
use Rattle.channel_top.proofs.RunLaws.{IsRunning-full, IsRunning-new, IsRunning-step}
use Rattle.channel_top.proofs.run.run_events.Goals as goal

pub loop-stamped-preserved : goal.loop-stamped-preserved
loop-stamped-preserved g c =
    IsRunning-step _ _ _ _ _ _ _ c.loop-stamped.invariant c.in-Some.ensures.items
    (subst (λ (r : Ran). StepsTo r c.loop-stamped.core c.in-Some.stamped c.step_once.new.core) c.in-Ok-Whole.field-0-is c.in-Ok-Whole.ensures)

pub returns-in-Ok-Full : goal.returns-in-Ok-Full
returns-in-Ok-Full g c =
    IsRunning-full _ _ _ _ _ _ _ c.loop-stamped.invariant c.in-Some.ensures.items
    (subst (λ (r : Ran). StepsTo r c.loop-stamped.core c.in-Some.stamped c.step_once.new.core) c.in-Ok-Full.field-0-is c.in-Ok-Full.ensures)

pub loop-stamped-init : goal.loop-stamped-init
loop-stamped-init g c = IsRunning-new _ _ _ c.into_iter-rest.ensures.rest
