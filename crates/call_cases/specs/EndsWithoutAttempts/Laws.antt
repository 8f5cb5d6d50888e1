-- The end of a call without an attempt is a case of the end of any call: nothing is cut off, and nothing follows at once.
-- Example: call 1 waits for a config, and the resolution fails: CallEnds 1 alone.
use Rattle.call_cases.specs.CallEnds.Laws.{OneCallEnds}
use Rattle.call_cases.specs.ConfigActions.Ends.{CallsWithoutAttemptsEnd}

abbrev pub EndsWithoutAttemptsFollow : Type 0
EndsWithoutAttemptsFollow = OneCallEnds → CallsWithoutAttemptsEnd
