use Rattle.std.proofs.Common.{◌∙◌, List, subst}
use Rattle.load_plan.specs.declared.action.LoadAction.{LoadAction}
use Rattle.load_session.specs.Playing.{Plays}
use Rattle.load_session.specs.Stopping.{StopsIn}
use Rattle.load_session.proofs.Ran.{exit_memory, exit_ok, on_ok_as}
use Rattle.load_session.proofs.play.play_batch.Goals as goal

pub returns-clause-ok : goal.returns-clause-ok
returns-clause-ok g c =
    on_ok_as c.play_all.result
    (subst (λ (xs : List LoadAction). Plays xs (record { channel = c.args.core.now; server = c.args.server.now }) (record { channel = c.play_all.new.core; server = c.play_all.new.server }))
    (c.into_vec.ensures ∙ c.in_ok-batch.ensures))
    c.play_all.ensures.ok

pub returns-clause-full : goal.returns-clause-full
returns-clause-full g c = λ same.
    subst (λ (xs : List LoadAction). StopsIn xs (record { channel = c.args.core.now; server = c.args.server.now })) (c.into_vec.ensures ∙ c.in_ok-batch.ensures) (c.play_all.ensures.full same)

pub batch-requires : goal.batch-requires
batch-requires g c = c.requires

pub returns-in_err-batch-clause-ok : goal.returns-in_err-batch-clause-ok
returns-in_err-batch-clause-ok g c = exit_ok _ c.from_residual.result _ c.from_residual.ensures.1

pub returns-in_err-batch-clause-full : goal.returns-in_err-batch-clause-full
returns-in_err-batch-clause-full g c = exit_memory c.from_residual.result c.from_residual.ensures.1
