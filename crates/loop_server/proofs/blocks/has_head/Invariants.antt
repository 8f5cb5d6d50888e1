use Rattle.std.proofs.Common.{◌≡◌, drop}
use Rattle.std.specs.List.{list_any}
use Rattle.loop_server.specs.Blocks.{is_head}
use Rattle.loop_server.proofs.blocks.has_head.Given as goal

abbrev pub invariant-loop-part : goal.invariant-loop-part
invariant-loop-part l = list_any is_head (drop l.part-index l.parts) ≡ list_any is_head l.fn.parts
