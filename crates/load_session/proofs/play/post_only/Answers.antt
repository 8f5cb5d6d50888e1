use Rattle.load_session.proofs.Ran.{exit_full, exit_ok, not_ok}
use Rattle.load_session.proofs.play.post_only.Goals as goal

pub returns-in_err-_reply-clause-ok : goal.returns-in_err-_reply-clause-ok
returns-in_err-_reply-clause-ok g c = exit_ok _ c.from_residual.result _ c.from_residual.ensures.1

pub returns-in_err-_reply-clause-full : goal.returns-in_err-_reply-clause-full
returns-in_err-_reply-clause-full g c = exit_full c.from_residual.result c.in_err-_reply.field-0.0 c.from_residual.ensures.1 c.in_err-_reply.ensures.full

pub returns-clause-ok : goal.returns-clause-ok
returns-clause-ok g c = (c.in_ok-_reply._reply, c.in_ok-_reply.ensures.ok)

pub returns-clause-full : goal.returns-clause-full
returns-clause-full g c = not_ok _
