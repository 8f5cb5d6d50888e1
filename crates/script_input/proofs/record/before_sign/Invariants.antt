use Rattle.std.proofs.Common.{◌≡◌, ◌++◌, drop, take}
use Rattle.script_input.specs.Scripts.{before_sign}
use Rattle.script_input.proofs.record.before_sign.Given as goal

-- no sign stands before this place
abbrev pub invariant-loop-place : goal.invariant-loop-place
invariant-loop-place l = before_sign l.text ≡ take l.place l.text ++ before_sign (drop l.place l.text)
