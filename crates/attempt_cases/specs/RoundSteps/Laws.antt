-- The rounds of a settling come to an end: each but the last makes an attempt or withholds a hedge, or places an attempt that waits or ends it. What calls may
-- still make, and the attempts that wait, are only so many.
-- Example: one call, whose plan allows 3 hedges without a delay, on a channel that is READY. The first round makes attempt 1 and places it, the second attempt 2,
-- and the third attempt 3; the fourth does nothing.
use Rattle.attempt_cases.specs.PassActions.Serves.{ServeSteps}
use Rattle.call_cases.specs.SettlingActions.Laws.{SettlingKeeps}
use Rattle.call_cases.specs.SettlingActions.Steps.{MakingSteps, QueueSteps, RoundsEnd}

-- (numbers of calls and of attempts have 32 bits, so there are fewer rounds than 2^64 - 1)
abbrev pub RoundsAreShort : Type 0
RoundsAreShort = SettlingKeeps → MakingSteps → QueueSteps → ServeSteps → RoundsEnd
