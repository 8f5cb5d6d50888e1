use Rattle.std.proofs.Common.{◌≡◌, ◌++◌, drop}
use Rattle.loop_server.specs.Blocks.{pushback_fields, pushback_room}
use Rattle.loop_server.proofs.blocks.push_pushbacks.Given as goal

abbrev pub invariant-loop-part : goal.invariant-loop-part
invariant-loop-part l = l.fields ++ pushback_fields l.room (drop l.part-index l.parts) ≡ l.fn.fields ++ pushback_fields pushback_room l.fn.parts
