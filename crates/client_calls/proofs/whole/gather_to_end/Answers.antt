use Rattle.std.proofs.Common.{rules, ◌≡◌, Some, None, ◌∙◌}
use Rattle.client_calls.specs.Exchanges.{end_of}
use Rattle.client_calls.proofs.ExchangeLaws.{gathers_end, gathers_more}
use Rattle.client_calls.proofs.whole.gather_to_end.Goals as goal

pub returns-in-Some-came-clause-gathered : goal.returns-in-Some-came-clause-gathered
returns-in-Some-came-clause-gathered g c =
    let on = c.loop.invariant.gathers in
    let had = c.in_ok-came.ensures.received in
    let ends : Some c.in-Some-came.status ≡ end_of had.0 = search rules in
    gathers_end _ _ _ _ _ _ _ _ had.0 _ on had.1 ends had.3 had.4

pub loop-preserved : goal.loop-preserved
loop-preserved g c =
    let on = c.loop.invariant in
    let had = c.in_ok-came.ensures.received in
    let goes_on : end_of had.0 ≡ None = search rules in
    record {
      errors = c.in_ok-came.ensures.failed ∙ on.errors;
      share = c.gather_one.ensures.share ∙ on.share;
      others = c.gather_one.ensures.others ∙ on.others;
      gathers = gathers_more _ _ _ _ _ _ _ _ had.0 on.gathers had.1 goes_on had.3 had.4;
    }
