use Rattle.std.proofs.Common.{◌≡◌, ◌∷◌}
use Rattle.std.specs.Option.{option_copied}
use Rattle.script_lines.specs.Lines.{fields_after}
use Rattle.script_fields.specs.Spelling.{fields}
use Rattle.script_lines.proofs.LineLaws.{not_one}
use Rattle.script_lines.proofs.split.one_field.Goals as goal

pub returns-in-Some-clause-none : goal.returns-in-Some-clause-none
returns-in-Some-clause-none c =
    let is : fields_after (option_copied c.args.rest) ≡ c.in_ok-a.a.now ∷ fields c.in-Some.field-0.now = (rw c.in-Some.is at c.in_ok-a.ensures.some) in
    not_one c.in_ok-a.a.now c.in-Some.field-0.now _ is
