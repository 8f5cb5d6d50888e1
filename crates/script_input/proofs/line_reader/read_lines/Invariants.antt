use Rattle.std.proofs.Common.{◌≤◌, ℕ, List}
use Rattle.gate_io.specs.Outside.{Takes}
use Rattle.script_input.specs.Feeding.{HasFed, room_of}
use Rattle.script_input.proofs.line_reader.read_lines.Given as goal

-- the bytes that were read are whole lines and the prefix of another
abbrev pub invariant-loop-count : goal.invariant-loop-count
invariant-loop-count g l =
    (input : List ℕ) × Takes (g.S.Source.left l.fn.source) (g.S.Source.left l.source) input × HasFed g.T.Lines.has_taken input l.feed l.lines
    × (g.S.Source.faults l.fn.source ≤ g.S.Source.faults l.source)

abbrev pub decreases-loop-count : goal.decreases-loop-count
decreases-loop-count g l = room_of l.feed
