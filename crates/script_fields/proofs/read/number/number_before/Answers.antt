use Rattle.std.proofs.Common.{◌≡◌, ℕ, ◌≤◌, List, ◌∷◌, ◌++◌, arith}
use Rattle.std.specs.Prelude.{decimal}
use Rattle.script_fields.proofs.TextLaws.{if_none, no_cut, number_cut}
use Rattle.script_fields.proofs.read.number.number_before.Goals as goal

pub returns-in_err-digits-clause-none : goal.returns-in_err-digits-clause-none
returns-in_err-digits-clause-none c =
    let none : (n : ℕ) (rest : List ℕ) → n ≤ c.args.most → c.args.text.now ≡ decimal n ++ c.args.byte ∷ rest → ⊥ = λ n rest within e. no_cut _ _ _ _ c.in_err-digits.ensures.none e in
    if_none _ none

pub returns-in_err-number_within-clause-none : goal.returns-in_err-number_within-clause-none
returns-in_err-number_within-clause-none c =
    let none : (n : ℕ) (rest : List ℕ) → n ≤ c.args.most → c.args.text.now ≡ decimal n ++ c.args.byte ∷ rest → ⊥ = λ n rest within e.
    c.in_err-number_within.ensures.none n within (number_cut c.args.byte n c.args.text.now _ _ rest c.requires (omega (arith, c.ranges.most.fits)) c.in_ok-digits.ensures.some.1 c.in_ok-digits.ensures.some.0 e).0 in
    if_none _ none
