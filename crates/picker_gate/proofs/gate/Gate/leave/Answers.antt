use Rattle.std.proofs.Common.{◌∙◌, ◌&&◌, not, ap}
use Rattle.picker_gate.specs.Pairs.{has, is_same}
use Rattle.picker_gate.proofs.PairLaws.{and_is_cond}
use Rattle.picker_gate.proofs.gate.Gate.leave.Goals as goal

pub returns-clause-waits : goal.returns-clause-waits
returns-clause-waits c = λ q.
    c.remove.ensures.updates.0 q ∙ and_is_cond (is_same (c.args.call, c.args.row) q) (has c.self.inside.pairs.keys q)
    ∙ ap (λ keys. not (is_same (c.args.call, c.args.row) q) && has keys q) c.self.view_is
