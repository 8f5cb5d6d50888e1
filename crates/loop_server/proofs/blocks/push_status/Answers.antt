use Rattle.std.proofs.Common.{◌≡◌, ◌++◌, ◌∷◌, [], ap, arith, subst, sym, ◌∙◌}
use Rattle.std.specs.Prelude.{OnOk, codes}
use Rattle.std.specs.Fmt.{decimal}
use Rattle.std.proofs.lemmas.Fmt.{decimal_digit}
use Rattle.loop_server.specs.Blocks.{field}
use Rattle.loop_server.proofs.blocks.push_status.Goals as goal

pub returns-then-code-eq0 : goal.returns-then-code-eq0
returns-then-code-eq0 c =
    let digits : decimal c.args.code ≡ 48 ∷ [] = ap decimal c.if-code-eq0.true ∙ decimal_digit 0 (omega arith) in
    subst (λ text. OnOk c.push_fixed.result (c.push_fixed.new.fields ≡ c.args.fields.now ++ field (codes "grpc-status") text ∷ [])) (sym digits) c.push_fixed.ensures
