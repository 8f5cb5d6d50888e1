use Rattle.std.proofs.Common.{◌∙◌, ◌||◌, ap}
use Rattle.picker_gate.specs.Pairs.{has, is_same}
use Rattle.picker_gate.proofs.PairLaws.{or_is_cond}
use Rattle.picker_gate.proofs.timers.Timers.insert.Goals as goal

pub returns-clause-stands : goal.returns-clause-stands
returns-clause-stands c = λ t.
    c.in_ok-insert.ensures.updates.0 t ∙ or_is_cond (is_same (c.args.moment, c.args.key) t) (has c.self.inside.timers.keys t)
    ∙ ap (λ keys. is_same (c.args.moment, c.args.key) t || has keys t) c.self.view_is
