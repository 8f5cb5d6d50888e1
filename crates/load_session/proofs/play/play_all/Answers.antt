use Rattle.load_session.proofs.Acts.{IsPlaying-more}
use Rattle.load_session.proofs.Ran.{exit_full, exit_ok, not_ok}
use Rattle.load_session.proofs.Stops.{stops_at}
use Rattle.load_session.proofs.play.play_all.Goals as goal

pub loop-action-preserved : goal.loop-action-preserved
loop-action-preserved g c =
    IsPlaying-more _ _ _ c.in-Some.action _ _ (record { channel = c.play.new.core; server = c.play.new.server }) c.loop-action.invariant c.in-Some.ensures.items c.in_ok-play.ensures.ok

pub returns-clause-full : goal.returns-clause-full
returns-clause-full g c = not_ok _

pub returns-in_err-play-clause-ok : goal.returns-in_err-play-clause-ok
returns-in_err-play-clause-ok g c = exit_ok _ c.from_residual.result _ c.from_residual.ensures.1

pub returns-in_err-play-clause-full : goal.returns-in_err-play-clause-full
returns-in_err-play-clause-full g c =
    exit_full c.from_residual.result c.in_err-play.field-0.0 c.from_residual.ensures.1
    (λ same. stops_at _ _ _ c.in-Some.action _ (record { channel = c.loop-action.core; server = c.loop-action.server }) c.loop-action.invariant c.in-Some.ensures.items (c.in_err-play.ensures.full same))
