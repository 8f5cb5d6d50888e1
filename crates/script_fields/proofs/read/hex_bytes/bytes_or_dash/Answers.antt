use Rattle.std.proofs.Common.{◌≢◌, ◌∷◌, [], sym, ◌∙◌}
use Rattle.std.proofs.lemmas.Slice.Eq.{bytes_eq-Decides}
use Rattle.std.proofs.lemmas.Bool.{true≢false}
use Rattle.script_fields.proofs.TextLaws.{dash_none, map_none}
use Rattle.script_fields.proofs.read.hex_bytes.bytes_or_dash.Goals as goal

pub returns-clause-none : goal.returns-clause-none
returns-clause-none c =
    let other : c.args.text.now ≢ 45 ∷ [] = λ e. true≢false (sym ((bytes_eq-Decides c.args.text.now c.as_slice.result.now).1 (cc (e, c.as_slice.ensures))) ∙ sym c.if-eq.ensures) in
    map_none c.bytes_of.result _ _ (λ none v all e. none v all (dash_none v c.args.text.now other e)) c.bytes_of.ensures.none
