use Rattle.std.proofs.Common.{◌≡◌, drop, map}
use Rattle.grpc_base.specs.Codes.{no_codes}
use Rattle.json_text.specs.Views.{tree_of}
use Rattle.config_values.specs.Policies.{codes_from}
use Rattle.config_values.proofs.plan.codes_in.Given as goal

abbrev pub invariant-loop-at : goal.invariant-loop-at
invariant-loop-at l = codes_from l.object l.field l.at l.codes (map tree_of (drop l.at l.values)) ≡ codes_from l.object l.field 0 no_codes (map tree_of l.values)
