-- A pass over the queue is what is done to each attempt that it serves.
-- Example: two attempts wait. The step of the queue (`QueueSteps`) is twice the step of one attempt.
use Rattle.attempt_cases.specs.PassActions.Serves.{PassesEnd, PassesStop, ServeSteps}
use Rattle.call_cases.specs.SettlingActions.Steps.{QueueSteps}

abbrev pub PassesAreServes : Type 0
PassesAreServes = ServeSteps → PassesStop → PassesEnd → QueueSteps

-- where each attempt that is served is placed or ends, a pass comes to its end. (Numbers of calls and of attempts have 32 bits.)
abbrev pub PassesAreShort : Type 0
PassesAreShort = ServeSteps → PassesEnd
