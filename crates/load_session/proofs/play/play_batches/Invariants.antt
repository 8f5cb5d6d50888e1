use Rattle.std.specs.Prelude.{flat_map}
use Rattle.std.specs.List.{range_with_len}
use Rattle.load_plan.specs.Plan.{batch_actions}
use Rattle.load_session.specs.Playing.{Plays}
use Rattle.load_session.proofs.play.play_batches.Given as goal

-- so many batches were played
abbrev pub invariant-loop-number : goal.invariant-loop-number
invariant-loop-number g l =
    Plays (flat_map (batch_actions l.load.seed l.load.calls) (range_with_len 0 l.number)) (record { channel = l.fn.core; server = l.fn.server }) (record { channel = l.core; server = l.server })
