use Rattle.std.proofs.Common.{◌≡◌, ◌++◌, ℕ, List, length}
use Rattle.script_input.specs.Collecting.{IsReady, Leads}
use Rattle.script_input.proofs.collected.Collected.take_piece.Given as goal

-- the bytes before the rest were taken
abbrev pub invariant-loop-text : goal.invariant-loop-text
invariant-loop-text l = (prefix : List ℕ) × (l.piece ≡ prefix ++ l.rest) × Leads l.fn.self l.self prefix × IsReady l.self

abbrev pub decreases-loop-text : goal.decreases-loop-text
decreases-loop-text l = length l.rest
