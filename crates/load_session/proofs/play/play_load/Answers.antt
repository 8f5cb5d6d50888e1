use Rattle.std.proofs.Common.{◌∙◌, List, subst}
use Rattle.std.specs.Prelude.{flat_map}
use Rattle.std.specs.List.{range_with_len}
use Rattle.load_plan.specs.Batches.{batches_of}
use Rattle.load_plan.specs.Plan.{batch_actions, opening}
use Rattle.load_plan.specs.declared.action.LoadAction.{LoadAction}
use Rattle.load_session.specs.Playing.{Plays}
use Rattle.load_session.specs.Stopping.{StopsIn}
use Rattle.load_session.proofs.Acts.{Plays-join}
use Rattle.load_session.proofs.Ran.{exit_full, exit_memory, exit_ok, on_ok_as}
use Rattle.load_session.proofs.Stops.{stops_after, stops_before}
use Rattle.load_session.proofs.play.play_load.Goals as goal

pub returns-in_err-opening-clause-ok : goal.returns-in_err-opening-clause-ok
returns-in_err-opening-clause-ok g c = exit_ok _ c.from_residual.result _ c.from_residual.ensures.1

pub returns-in_err-opening-clause-full : goal.returns-in_err-opening-clause-full
returns-in_err-opening-clause-full g c = exit_memory c.from_residual.result c.from_residual.ensures.1

pub returns-in_err-play_all-clause-ok : goal.returns-in_err-play_all-clause-ok
returns-in_err-play_all-clause-ok g c = exit_ok _ c.from_residual-in_err-play_all.result _ c.from_residual-in_err-play_all.ensures.1

pub returns-in_err-play_all-clause-full : goal.returns-in_err-play_all-clause-full
returns-in_err-play_all-clause-full g c =
    exit_full c.from_residual-in_err-play_all.result c.in_err-play_all.field-0.0 c.from_residual-in_err-play_all.ensures.1
    (λ same. stops_before opening (flat_map (batch_actions c.args.load.seed c.args.load.calls) (range_with_len 0 (batches_of c.args.load.calls))) (record { channel = c.args.core.now; server = c.args.server.now })
    (subst (λ (xs : List LoadAction). StopsIn xs (record { channel = c.args.core.now; server = c.args.server.now })) (c.into_vec.ensures ∙ c.in_ok-opening.ensures) (c.in_err-play_all.ensures.full same)))

pub returns-clause-ok : goal.returns-clause-ok
returns-clause-ok g c =
    let first : Plays opening (record { channel = c.args.core.now; server = c.args.server.now }) (record { channel = c.play_all.new.core; server = c.play_all.new.server }) =
    subst (λ (xs : List LoadAction). Plays xs (record { channel = c.args.core.now; server = c.args.server.now }) (record { channel = c.play_all.new.core; server = c.play_all.new.server }))
    (c.into_vec.ensures ∙ c.in_ok-opening.ensures) c.in_ok-play_all.ensures.ok in
    on_ok_as c.play_batches.result
    (Plays-join opening (flat_map (batch_actions c.args.load.seed c.args.load.calls) (range_with_len 0 (batches_of c.args.load.calls))) (record { channel = c.args.core.now; server = c.args.server.now })
    (record { channel = c.play_all.new.core; server = c.play_all.new.server }) (record { channel = c.play_batches.new.core; server = c.play_batches.new.server }) first)
    c.play_batches.ensures.ok

pub returns-clause-full : goal.returns-clause-full
returns-clause-full g c = λ same.
    stops_after opening (flat_map (batch_actions c.args.load.seed c.args.load.calls) (range_with_len 0 (batches_of c.args.load.calls))) (record { channel = c.args.core.now; server = c.args.server.now })
    (record { channel = c.play_all.new.core; server = c.play_all.new.server })
    (subst (λ (xs : List LoadAction). Plays xs (record { channel = c.args.core.now; server = c.args.server.now }) (record { channel = c.play_all.new.core; server = c.play_all.new.server }))
    (c.into_vec.ensures ∙ c.in_ok-opening.ensures) c.in_ok-play_all.ensures.ok)
    (c.play_batches.ensures.full same)
