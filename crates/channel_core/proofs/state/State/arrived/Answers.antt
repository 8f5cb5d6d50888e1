use Rattle.std.proofs.Common.{◌∙◌, ap, sym}
use Rattle.channel_core.specs.Arrivals.{frames_after}
use Rattle.channel_core.proofs.Arriving.{no_frame, one_frame}
use Rattle.channel_core.proofs.state.State.arrived.Goals as goal

pub returns-in_default-clause-state : goal.returns-in_default-clause-state
returns-in_default-clause-state g c =
    no_frame c.args.link c.loop-rest.rest.now c.loop-rest.self c.frame_arrived.new.self (sym c.in_default.is ∙ c.in_ok-taken.ensures.taken) c.in_ok-taken.ensures.state
    ∙ c.loop-rest.invariant

pub loop-rest-preserved : goal.loop-rest-preserved
loop-rest-preserved g c =
    ap (λ rest. frames_after c.args.link rest 0 c.frame_arrived.new.self) c.bytes_after-rest.ensures
    ∙ one_frame c.args.link c.in-Some.taken c.loop-rest.rest.now c.in_ok-taken.field-0 c.loop-rest.self c.frame_arrived.new.self
    c.in-Some.is c.in_ok-taken.ensures.within c.in_ok-taken.ensures.taken c.in_ok-taken.ensures.state
    ∙ c.loop-rest.invariant
