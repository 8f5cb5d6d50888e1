use Rattle.std.proofs.Common.{◌≡◌, ◌++◌, drop, flat_map}
use Rattle.service_config.specs.Text.{method_line}
use Rattle.service_config.proofs.text.append_methods.Given as goal

abbrev pub invariant-loop-method : goal.invariant-loop-method
invariant-loop-method l = l.out.items ++ flat_map method_line (drop l.method-index l.methods) ≡ l.fn.out.items ++ flat_map method_line l.methods
