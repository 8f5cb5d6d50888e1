use Rattle.std.proofs.Common.{◌≡◌, drop}
use Rattle.std.specs.List.{list_any}
use Rattle.link_server.specs.Holds.{is_hold}
use Rattle.link_server.proofs.script_server.has_hold.Given as goal

abbrev pub invariant-loop-part : goal.invariant-loop-part
invariant-loop-part l = list_any is_hold (drop l.part-index l.parts) ≡ list_any is_hold l.fn.parts
