use Rattle.std.proofs.Common.{length}
use Rattle.std.specs.Vec.Iter.{into_iter_items}
use Rattle.session_actions.specs.Sessions.{new_session}
use Rattle.session_actions.specs.declared.seen.Seen.{Seen}
use Rattle.slow_session.specs.Plays.{Plays}
use Rattle.slow_session.proofs.playing.play.Given as goal

-- the events that are left, played from here, make the whole
abbrev pub invariant-loop-stamped : goal.invariant-loop-stamped
invariant-loop-stamped l =
    (t : Seen) → Plays (into_iter_items l.rest) l.seen t → Plays l.fn.events.items (new_session l.fn.setup) t

abbrev pub decreases-loop-stamped : goal.decreases-loop-stamped
decreases-loop-stamped l = length (into_iter_items l.rest)
