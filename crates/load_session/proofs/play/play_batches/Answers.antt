use Rattle.std.proofs.Common.{◌<◌, ℕ, subst}
use Rattle.load_plan.specs.Batches.{batches_of}
use Rattle.load_plan.specs.Plan.{batch_actions}
use Rattle.load_session.proofs.Acts.{batches_more, batches_none}
use Rattle.load_session.proofs.Ran.{exit_full, exit_ok, not_ok}
use Rattle.load_session.proofs.Stops.{stops_in_batch}
use Rattle.load_session.proofs.play.play_batches.Goals as goal

pub loop-number-init : goal.loop-number-init
loop-number-init g c = batches_none (batch_actions c.args.load.seed c.args.load.calls) (record { channel = c.args.core.now; server = c.args.server.now })

pub loop-number-preserved : goal.loop-number-preserved
loop-number-preserved g c =
    batches_more (batch_actions c.args.load.seed c.args.load.calls) c.loop-number.number (record { channel = c.args.core.now; server = c.args.server.now }) (record { channel = c.loop-number.core; server = c.loop-number.server })
    (record { channel = c.play_batch.new.core; server = c.play_batch.new.server }) c.loop-number.invariant c.in_ok-play_batch.ensures.ok

pub returns-clause-full : goal.returns-clause-full
returns-clause-full g c = not_ok _

pub returns-in_err-play_batch-clause-ok : goal.returns-in_err-play_batch-clause-ok
returns-in_err-play_batch-clause-ok g c = exit_ok _ c.from_residual.result _ c.from_residual.ensures.1

pub returns-in_err-play_batch-clause-full : goal.returns-in_err-play_batch-clause-full
returns-in_err-play_batch-clause-full g c =
    exit_full c.from_residual.result c.in_err-play_batch.field-0.0 c.from_residual.ensures.1
    (λ same. stops_in_batch (batch_actions c.args.load.seed c.args.load.calls) c.loop-number.number (batches_of c.args.load.calls) (record { channel = c.args.core.now; server = c.args.server.now })
    (record { channel = c.loop-number.core; server = c.loop-number.server }) (subst (λ (n : ℕ). c.loop-number.number < n) c.batches-number-end.ensures c.loop-number-test.true) c.loop-number.invariant (c.in_err-play_batch.ensures.full same))

pub play_batch-requires : goal.play_batch-requires
play_batch-requires g c = subst (λ (n : ℕ). c.loop-number.number < n) c.batches-number-end.ensures c.loop-number-test.true
