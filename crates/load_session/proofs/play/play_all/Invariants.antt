use Rattle.std.proofs.Common.{length}
use Rattle.std.specs.Vec.Iter.{into_iter_items}
use Rattle.load_session.proofs.Acts.{IsPlaying}
use Rattle.load_session.proofs.play.play_all.Given as goal

-- the actions up to those that are left were played
abbrev pub invariant-loop-action : goal.invariant-loop-action
invariant-loop-action g l =
    IsPlaying l.fn.actions.items (record { channel = l.fn.core; server = l.fn.server }) (record { channel = l.core; server = l.server }) (into_iter_items l.rest)

abbrev pub decreases-loop-action : goal.decreases-loop-action
decreases-loop-action g l = length (into_iter_items l.rest)
