use Rattle.std.proofs.Common.{◌≡◌, None, drop, map}
use Rattle.json_text.specs.Views.{tree_of}
use Rattle.service_config.specs.Reading.{first_kind}
use Rattle.service_config.proofs.read.first_kind.Given as goal

abbrev pub invariant-loop-at : goal.invariant-loop-at
invariant-loop-at l = first_kind l.kinds l.at l.found (map tree_of (drop l.at l.values)) ≡ first_kind l.kinds 0 None (map tree_of l.values)
