use Rattle.std.proofs.Common.{rules, ◌≡◌, false, ◌∙◌}
use Rattle.live_pump.specs.Calls.{ends_takes}
use Rattle.live_pump.proofs.CallLaws.{takes_more}
use Rattle.live_pump.proofs.calls.take_all.Goals as goal

pub loop-preserved : goal.loop-preserved
loop-preserved g c =
    let on = c.loop.invariant in
    let took = c.in_ok-take_one.ensures.taken in
    let goes_on : false ≡ ends_takes took.0 = search rules in
    let more = takes_more c.args.call _ _ _ on.takes took.0 on.each on.made took.1 goes_on in
    record { errors = took.3 ∙ on.errors; share = c.take_one.ensures.share ∙ on.share; takes = more.0; each = more.1; made = more.2 }
