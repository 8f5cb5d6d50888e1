use Rattle.std.proofs.Common.{length}
use Rattle.slow_ends.proofs.making.+due_action_in.Given as goal

-- one less after the first
abbrev pub decreases-due_action_in : goal.decreases-due_action_in
decreases-due_action_in l = length l.calls.now
