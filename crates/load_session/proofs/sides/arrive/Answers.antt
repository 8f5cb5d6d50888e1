use Rattle.std.proofs.Common.{◌∙◌, sym}
use Rattle.std.proofs.lemmas.Bool.{true≢false}
use Rattle.load_session.proofs.Acts.{arrive_none, arrive_some}
use Rattle.load_session.proofs.Ran.{exit_full, exit_ok, not_ok}
use Rattle.load_session.proofs.sides.arrive.Goals as goal

pub returns-then-is_empty-clause-ok : goal.returns-then-is_empty-clause-ok
returns-then-is_empty-clause-ok g c = arrive_none c.args.moment c.args.link c.args.octets c.args.core.now (c.is_empty.ensures.0 c.if-is_empty.true)

pub returns-then-is_empty-clause-full : goal.returns-then-is_empty-clause-full
returns-then-is_empty-clause-full g c = not_ok _

pub returns-in_err-_reply-clause-ok : goal.returns-in_err-_reply-clause-ok
returns-in_err-_reply-clause-ok g c = exit_ok _ c.from_residual.result _ c.from_residual.ensures.1

pub returns-in_err-_reply-clause-full : goal.returns-in_err-_reply-clause-full
returns-in_err-_reply-clause-full g c =
    exit_full c.from_residual.result c.in_err-_reply.field-0.0 c.from_residual.ensures.1
    (λ same. ((λ none. true≢false (sym (c.is_empty.ensures.1 none) ∙ c.if-is_empty.false)), c.in_err-_reply.ensures.full same))

pub returns-clause-ok : goal.returns-clause-ok
returns-clause-ok g c =
    arrive_some c.args.moment c.args.link c.args.octets c.args.core.now _ c.in_ok-_reply._reply (λ none. true≢false (sym (c.is_empty.ensures.1 none) ∙ c.if-is_empty.false)) c.in_ok-_reply.ensures.ok

pub returns-clause-full : goal.returns-clause-full
returns-clause-full g c = not_ok _
