use Rattle.std.proofs.Common.{◌∙◌, ◌&&◌, not, ap}
use Rattle.picker_gate.specs.Pairs.{has, is_same}
use Rattle.picker_gate.proofs.PairLaws.{and_is_cond}
use Rattle.picker_gate.proofs.timers.Timers.remove.Goals as goal

pub returns-clause-stands : goal.returns-clause-stands
returns-clause-stands c = λ t.
    c.remove.ensures.updates.0 t ∙ and_is_cond (is_same (c.args.moment, c.args.key) t) (has c.self.inside.timers.keys t)
    ∙ ap (λ keys. not (is_same (c.args.moment, c.args.key) t) && has keys t) c.self.view_is
