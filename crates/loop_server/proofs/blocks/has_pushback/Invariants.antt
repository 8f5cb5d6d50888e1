use Rattle.std.proofs.Common.{◌≡◌, drop}
use Rattle.std.specs.List.{list_any}
use Rattle.loop_server.specs.Blocks.{is_pushback}
use Rattle.loop_server.proofs.blocks.has_pushback.Given as goal

abbrev pub invariant-loop-part : goal.invariant-loop-part
invariant-loop-part l = list_any is_pushback (drop l.part-index l.parts) ≡ list_any is_pushback l.fn.parts
