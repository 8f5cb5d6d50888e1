use Rattle.std.proofs.Common.{◌≡◌, ◌++◌, drop, map}
use Rattle.session_actions.specs.Sessions.{call_seen}
use Rattle.slow_session.proofs.report.calls_seen.Given as goal

-- the calls so far, and those that are left
abbrev pub invariant-loop-call : goal.invariant-loop-call
invariant-loop-call l =
    l.calls.items ++ map (call_seen l.seen) (drop l.call-index l.seen.calls) ≡ map (call_seen l.seen) l.seen.calls
