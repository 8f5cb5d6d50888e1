use Rattle.std.proofs.Common.{◌≡◌, ◌++◌, drop}
use Rattle.relay_response.specs.Blocks.{fitting}
use Rattle.relay_response.proofs.fit.fitting.Given as goal

abbrev pub invariant-loop-field : goal.invariant-loop-field
invariant-loop-field l = l.fields ++ fitting l.room (drop l.field-index l.field-items) ≡ fitting 16384 l.fn.all
