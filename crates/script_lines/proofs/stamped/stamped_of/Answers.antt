use Rattle.std.proofs.Common.{◌≡◌, ◌∷◌, ap, ◌∙◌}
use Rattle.script_fields.specs.Spelling.{fields}
use Rattle.script_lines.proofs.LineLaws.{moment_fault, reported_exit, word_fault}
use Rattle.script_lines.proofs.stamped.stamped_of.Goals as goal

pub returns-in_err-moment-clause-bad : goal.returns-in_err-moment-clause-bad
returns-in_err-moment-clause-bad c =
    let a : fields c.args.text.now ≡ c.first_field.result.0.now ∷ fields c.in-Some.rest.now = (rw c.in-Some.is at c.first_field.ensures) in
    let b : fields c.in-Some.rest.now ≡ c.first_field-2.result.0.now ∷ fields c.in-Some-rest.rest.now = (rw c.in-Some-rest.is at c.first_field-2.ensures) in
    reported_exit _ _ _ c.from_residual.ensures.1 (moment_fault c.first_field.result.0.now c.first_field-2.result.0.now c.in-Some-rest.rest.now _ _ (a ∙ ap (λ t. c.first_field.result.0.now ∷ t) b) c.in_err-moment.ensures.bad)

pub returns-in_err-word-clause-bad : goal.returns-in_err-word-clause-bad
returns-in_err-word-clause-bad c =
    let a : fields c.args.text.now ≡ c.first_field.result.0.now ∷ fields c.in-Some.rest.now = (rw c.in-Some.is at c.first_field.ensures) in
    let b : fields c.in-Some.rest.now ≡ c.first_field-2.result.0.now ∷ fields c.in-Some-rest.rest.now = (rw c.in-Some-rest.is at c.first_field-2.ensures) in
    reported_exit _ _ _ c.from_residual-in_err-word.ensures.1 (word_fault c.first_field.result.0.now c.first_field-2.result.0.now c.in-Some-rest.rest.now _ _ (a ∙ ap (λ t. c.first_field.result.0.now ∷ t) b) (c.in_ok-moment.moment, c.in_ok-moment.ensures.ok) c.in_err-word.ensures.bad)
