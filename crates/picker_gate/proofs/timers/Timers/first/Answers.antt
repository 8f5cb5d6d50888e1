use Rattle.std.proofs.Common.{ℕ, List, IsTrue, sym, subst}
use Rattle.picker_gate.specs.Pairs.{has}
use Rattle.picker_gate.proofs.PairLaws.{not_above}
use Rattle.picker_gate.proofs.timers.Timers.first.Goals as goal

pub returns-in-Some-clause-least : goal.returns-in-Some-clause-least
returns-in-Some-clause-least c = λ t h.
    let P : List (ℕ × ℕ) → Type 0 = λ keys. IsTrue (has keys t) in
    not_above c.in-Some.timer.now t (c.in-Some.ensures.least t (subst P (sym c.self.view_is) h))
