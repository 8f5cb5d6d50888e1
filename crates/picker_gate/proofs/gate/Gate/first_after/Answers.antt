use Rattle.std.proofs.Common.{◌∙◌, ap}
use Rattle.std.specs.List.{find}
use Rattle.picker_gate.specs.Pairs.{comes_after}
use Rattle.picker_gate.proofs.PairLaws.{some_found, none_found}
use Rattle.picker_gate.proofs.gate.Gate.first_after.Goals as goal

pub returns-in-Some-clause-first : goal.returns-in-Some-clause-first
returns-in-Some-clause-first c =
    some_found (comes_after (c.args.call, c.args.row)) c.self.inside.pairs.keys c.range.result _ c.in-Some.pair.now (c.range.ensures.between tt) c.in-Some.ensures.steps
    ∙ ap (find (comes_after (c.args.call, c.args.row))) c.self.view_is

pub returns-in-None-clause-first : goal.returns-in-None-clause-first
returns-in-None-clause-first c =
    none_found (comes_after (c.args.call, c.args.row)) c.self.inside.pairs.keys c.range.result (c.range.ensures.between tt) c.in-None.ensures.steps.0
    ∙ ap (find (comes_after (c.args.call, c.args.row))) c.self.view_is
