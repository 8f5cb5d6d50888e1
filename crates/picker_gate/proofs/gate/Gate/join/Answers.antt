use Rattle.std.proofs.Common.{◌∙◌, ◌||◌, ap}
use Rattle.picker_gate.specs.Pairs.{has, is_same}
use Rattle.picker_gate.proofs.PairLaws.{or_is_cond}
use Rattle.picker_gate.proofs.gate.Gate.join.Goals as goal

pub returns-clause-waits : goal.returns-clause-waits
returns-clause-waits c = λ q.
    c.in_ok-insert.ensures.updates.0 q ∙ or_is_cond (is_same (c.args.call, c.args.row) q) (has c.self.inside.pairs.keys q)
    ∙ ap (λ keys. is_same (c.args.call, c.args.row) q || has keys q) c.self.view_is
