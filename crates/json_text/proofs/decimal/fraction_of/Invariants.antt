use Rattle.std.proofs.Common.{◌≡◌, drop, ◌+◌, ◌*◌, ◌≤◌}
use Rattle.json_text.specs.Decimals.{fraction_of}
use Rattle.json_text.proofs.Fractions.{summed}
use Rattle.json_text.proofs.decimal.fraction_of.Given as goal

abbrev pub invariant-loop-digit : goal.invariant-loop-digit
invariant-loop-digit l = record {
  seen : l.value + summed l.unit (drop l.digit-index l.digits) ≡ fraction_of l.units l.digits;
  below : l.value + 230 * l.unit ≤ 23 * l.units;
}
