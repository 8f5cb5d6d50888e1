-- No deadline is further ahead than the longest duration: no request that is posted has a longer timeout, and no config is read with one (gRPC, "Core concepts":
-- Deadlines/Timeouts; "Service Config in gRPC": timeout).
-- Example: call 1 began at 3 s with a timeout of 10^18 ns, which is the longest, and its config says 5 s. At 3 s its deadline is 5 s ahead.
use Rattle.std.specs.Prelude.{List}
use Rattle.channel_actions.specs.DrainLends.Laws.{DeadlinesAreClose}
use Rattle.channel_actions.specs.Known.{IsKnown}
use Rattle.channel_actions.specs.Posted.{EventsArePosted}
use Rattle.channel_core.specs.States.{StateSeen}
use Rattle.session_actions.specs.Laws.{posted_in}
use Rattle.session_actions.specs.Sessions.{Does, new_session}
use Rattle.session_actions.specs.declared.action.Action.{Action}
use Rattle.session_actions.specs.declared.seen.Seen.{Seen}
use Rattle.session_actions.specs.declared.seen.Setup.{Setup}

abbrev pub DeadlinesAreNear : Type 0
DeadlinesAreNear = (setup : Setup) (actions : List Action) (s : Seen) → Does actions (new_session setup) s → EventsArePosted (posted_in actions) → DeadlinesAreClose s

-- so it is with what runs keep
abbrev pub KnownDeadlinesAreNear : Type 0
KnownDeadlinesAreNear = (x : StateSeen) (s : Seen) → IsKnown x s → DeadlinesAreClose s
