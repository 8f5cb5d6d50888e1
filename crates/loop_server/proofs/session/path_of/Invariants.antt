use Rattle.std.proofs.Common.{◌≡◌, drop}
use Rattle.loop_server.specs.Steps.{path_of}
use Rattle.loop_server.proofs.session.path_of.Given as goal

abbrev pub invariant-loop-field : goal.invariant-loop-field
invariant-loop-field l = path_of (drop l.field-index l.fields) ≡ path_of l.fn.fields
