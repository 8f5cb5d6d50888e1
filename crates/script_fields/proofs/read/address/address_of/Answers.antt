use Rattle.std.proofs.Common.{◌≡◌, ◌+◌, ◌*◌, ◌∷◌, ◌++◌, ℕ, List, ap, sym, arith, ◌∙◌, refl}
use Rattle.std.specs.Prelude.{decimal}
use Rattle.std.proofs.lemmas.Fmt.{decimal_injective}
use Rattle.grpc_base.specs.declared.address.Address.{Address}
use Rattle.script_fields.specs.Spelling.{address_text}
use Rattle.script_fields.specs.Values.{IsAddress}
use Rattle.script_fields.proofs.TextLaws.{if_none}
use Rattle.script_fields.proofs.AddressLaws.{address_made, after_the_first, after_fourth, after_second, after_third, byte_b, byte_c, byte_d}
use Rattle.script_fields.proofs.read.address.address_of.Goals as goal

pub returns-in_err-second-clause-none : goal.returns-in_err-second-clause-none
returns-in_err-second-clause-none c =
    let none : (a : Address) → IsAddress a → c.args.text.now ≡ address_text a → ⊥ = λ a is e.
    c.in_err-second.ensures.none _ _ (byte_b a)
    (after_the_first _ _ _ a is e c.in_ok-first.ensures.some.0 c.in_ok-first.ensures.some.1) in
    if_none _ none

pub returns-in_err-third-clause-none : goal.returns-in_err-third-clause-none
returns-in_err-third-clause-none c =
    let none : (a : Address) → IsAddress a → c.args.text.now ≡ address_text a → ⊥ = λ a is e.
    c.in_err-third.ensures.none _ _ (byte_c a)
    (after_second _ _ _ a (after_the_first _ _ _ a is e c.in_ok-first.ensures.some.0 c.in_ok-first.ensures.some.1) c.in_ok-second.ensures.some.0 c.in_ok-second.ensures.some.1) in
    if_none _ none

pub returns-in_err-fourth-clause-none : goal.returns-in_err-fourth-clause-none
returns-in_err-fourth-clause-none c =
    let none : (a : Address) → IsAddress a → c.args.text.now ≡ address_text a → ⊥ = λ a is e.
    c.in_err-fourth.ensures.none _ _ (byte_d a)
    (after_third _ _ _ a (after_second _ _ _ a (after_the_first _ _ _ a is e c.in_ok-first.ensures.some.0 c.in_ok-first.ensures.some.1) c.in_ok-second.ensures.some.0 c.in_ok-second.ensures.some.1) c.in_ok-third.ensures.some.0 c.in_ok-third.ensures.some.1) in
    if_none _ none

pub returns-in_err-port-clause-none : goal.returns-in_err-port-clause-none
returns-in_err-port-clause-none c =
    let none : (a : Address) → IsAddress a → c.args.text.now ≡ address_text a → ⊥ = λ a is e.
    c.in_err-port.ensures.none _ (omega (arith, is.port_high))
    (after_fourth _ _ _ a (after_third _ _ _ a (after_second _ _ _ a (after_the_first _ _ _ a is e c.in_ok-first.ensures.some.0 c.in_ok-first.ensures.some.1) c.in_ok-second.ensures.some.0 c.in_ok-second.ensures.some.1) c.in_ok-third.ensures.some.0 c.in_ok-third.ensures.some.1) c.in_ok-fourth.ensures.some.0 c.in_ok-fourth.ensures.some.1) in
    if_none _ none

pub returns-then-port-eq0-clause-none : goal.returns-then-port-eq0-clause-none
returns-then-port-eq0-clause-none c = λ a is e.
    let port : c.in_ok-fourth.port.now ≡ decimal a.port = after_fourth _ _ _ a (after_third _ _ _ a (after_second _ _ _ a (after_the_first _ _ _ a is e c.in_ok-first.ensures.some.0 c.in_ok-first.ensures.some.1) c.in_ok-second.ensures.some.0 c.in_ok-second.ensures.some.1) c.in_ok-third.ensures.some.0 c.in_ok-third.ensures.some.1) c.in_ok-fourth.ensures.some.0 c.in_ok-fourth.ensures.some.1 in
    let same : c.in_ok-port.port ≡ a.port = decimal_injective c.in_ok-port.port a.port (omega (arith, c.in_ok-port.ensures.some.0)) (omega (arith, is.port_high)) (sym c.in_ok-port.ensures.some.1 ∙ port) in
    omega (arith, same, is.port_low, c.if-port-eq0.true)

pub returns-clause-some : goal.returns-clause-some
returns-clause-some c =
    address_made c.in_ok-first.first c.in_ok-second.second c.in_ok-third.third c.in_ok-fourth.fourth c.in_ok-port.port c.args.text.now
    c.in_ok-first.ensures.some.0 c.in_ok-second.ensures.some.0 c.in_ok-third.ensures.some.0 c.in_ok-fourth.ensures.some.0 c.in_ok-port.ensures.some.0
    (λ z. omega (arith, z, c.if-port-eq0.false))
    (c.in_ok-first.ensures.some.1 ∙ ap (λ (t : List ℕ). decimal c.in_ok-first.first ++ 46 ∷ t)
    (c.in_ok-second.ensures.some.1 ∙ ap (λ (t : List ℕ). decimal c.in_ok-second.second ++ 46 ∷ t)
    (c.in_ok-third.ensures.some.1 ∙ ap (λ (t : List ℕ). decimal c.in_ok-third.third ++ 46 ∷ t)
    (c.in_ok-fourth.ensures.some.1 ∙ ap (λ (t : List ℕ). decimal c.in_ok-fourth.fourth ++ 58 ∷ t) c.in_ok-port.ensures.some.1))))
    (record { ip = ((c.in_ok-first.first * 256 + c.in_ok-second.second) * 256 + c.in_ok-third.third) * 256 + c.in_ok-fourth.fourth; port = c.in_ok-port.port }) refl refl
