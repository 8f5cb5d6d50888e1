use Rattle.std.proofs.Common.{◌≡◌, ◌++◌, ℕ, List, length}
use Rattle.script_input.specs.Feeding.{LeadsBy}
use Rattle.script_input.proofs.feed.Feed.take_piece.Given as goal

-- the bytes before the rest were taken
abbrev pub invariant-loop-text : goal.invariant-loop-text
invariant-loop-text g l = (prefix : List ℕ) × (l.piece ≡ prefix ++ l.rest) × LeadsBy g.T.Lines.has_taken l.fn.self l.fn.lines l.self l.lines prefix

abbrev pub decreases-loop-text : goal.decreases-loop-text
decreases-loop-text g l = length l.rest
