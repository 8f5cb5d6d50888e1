use Rattle.std.proofs.Common.{length}
use Rattle.slow_attempts.proofs.due.+due_after_marks.Given as goal

-- one less after the first
abbrev pub decreases-due_after_marks : goal.decreases-due_after_marks
decreases-due_after_marks l = length l.marks.now
