use Rattle.std.proofs.Common.{◌≡◌, drop}
use Rattle.std.specs.List.{list_any}
use Rattle.link_server.specs.Holds.{holds_line}
use Rattle.link_server.proofs.script_server.has_holds.Given as goal

abbrev pub invariant-loop-line : goal.invariant-loop-line
invariant-loop-line l = list_any holds_line (drop l.line-index l.lines) ≡ list_any holds_line l.fn.lines
