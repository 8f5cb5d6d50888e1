use Rattle.session_actions.specs.declared.seen.Seen.{Seen}
use Rattle.slow_session.specs.Plays.{Settles}
use Rattle.slow_session.proofs.playing.settle.Given as goal

-- what settles from here settles from the start
abbrev pub invariant-loop-step : goal.invariant-loop-step
invariant-loop-step l = (t : Seen) → Settles l.seen t → Settles l.fn.seen t
