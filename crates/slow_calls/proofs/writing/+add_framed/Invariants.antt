use Rattle.std.proofs.Common.{length}
use Rattle.slow_calls.proofs.writing.+add_framed.Given as goal

-- one less after the first
abbrev pub decreases-add_framed : goal.decreases-add_framed
decreases-add_framed l = length l.messages.now
