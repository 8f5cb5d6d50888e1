use Rattle.std.proofs.Common.{◌∙◌, ℕ, List, subst, sym}
use Rattle.std.specs.Prelude.{Option}
use Rattle.loop_server.specs.Steps.{CoreArrives}
use Rattle.load_session.proofs.Acts.{sends_none, sends_some}
use Rattle.load_session.proofs.Ran.{exit_full, exit_ok, not_ok, on_ok_as}
use Rattle.load_session.proofs.sides.send.Goals as goal

pub returns-then-not-can_drain-clause-ok : goal.returns-then-not-can_drain-clause-ok
returns-then-not-can_drain-clause-ok g c = sends_none c.args.moment c.args.link c.args.core.now c.args.server.now (sym c.can_drain.ensures.value ∙ c.if-not-can_drain.true)

pub returns-then-not-can_drain-clause-full : goal.returns-then-not-can_drain-clause-full
returns-then-not-can_drain-clause-full g c = not_ok _

pub returns-in_err-reply-clause-ok : goal.returns-in_err-reply-clause-ok
returns-in_err-reply-clause-ok g c = exit_ok _ c.from_residual.result _ c.from_residual.ensures.1

pub returns-in_err-reply-clause-full : goal.returns-in_err-reply-clause-full
returns-in_err-reply-clause-full g c =
    exit_full c.from_residual.result c.in_err-reply.field-0.0 c.from_residual.ensures.1
    (λ same. (sym c.can_drain.ensures.value ∙ c.if-not-can_drain.false, c.in_err-reply.ensures.full same))

pub returns-clause-ok : goal.returns-clause-ok
returns-clause-ok g c =
    on_ok_as c.deliver.result (λ arrives. sends_some c.args.moment c.args.link c.args.core.now c.post.new.core c.args.server.now c.deliver.new.server c.in_ok-reply.reply
    (sym c.can_drain.ensures.value ∙ c.if-not-can_drain.false) c.in_ok-reply.ensures.ok
    (subst (λ (xs : List ℕ). (broken : Option ℕ) × CoreArrives c.args.server.now c.args.link xs c.deliver.new.server broken) c.octets_in-octets.ensures arrives)) c.deliver.ensures.ok

pub returns-clause-full : goal.returns-clause-full
returns-clause-full g c = λ same. absurd (c.deliver.ensures.full same)
