use Rattle.std.proofs.Common.{◌≡◌, ◌≤◌, ℕ, List}
use Rattle.gate_io.specs.Outside.{Takes}
use Rattle.script_input.specs.Collecting.{HasRead, IsReady, room_of}
use Rattle.script_input.proofs.read.read_form.Given as goal

-- the bytes that were read are whole lines and the prefix of another
abbrev pub invariant-loop-count : goal.invariant-loop-count
invariant-loop-count g l =
    (input : List ℕ) × Takes (g.S.Source.left l.fn.source) (g.S.Source.left l.source) input × HasRead input l.collected
    × (g.S.Source.faults l.fn.source ≤ g.S.Source.faults l.source) × (l.collected.form ≡ l.fn.form) × IsReady l.collected

abbrev pub decreases-loop-count : goal.decreases-loop-count
decreases-loop-count g l = room_of l.collected
