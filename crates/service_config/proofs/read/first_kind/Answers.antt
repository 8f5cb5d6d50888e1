use Rattle.std.proofs.Common.{◌≡◌, None, map, arith}
use Rattle.std.proofs.lemmas.Grind.{common_steps}
use Rattle.std.specs.Prelude.{Ok}
use Rattle.json_text.specs.Views.{tree_of}
use Rattle.service_config.specs.Reading.{first_kind}
use Rattle.service_config.proofs.Supported.{first_has}
use Rattle.service_config.proofs.read.first_kind.Goals as goal

pub returns-clause-has : goal.returns-clause-has
returns-clause-has c =
    let e : first_kind c.args.kinds 0 None (map tree_of c.args.values.now) ≡ Ok c.loop-at.found = grind (arith, common_steps) in
    first_has c.args.kinds 0 None c.loop-at.found (map tree_of c.args.values.now) tt e
