use Rattle.load_session.proofs.Ran.{exit_full, exit_if, not_ok}
use Rattle.load_session.proofs.play.take_once.Goals as goal

pub returns-in_err-reply-clause-ok : goal.returns-in_err-reply-clause-ok
returns-in_err-reply-clause-ok g c = exit_if c.from_residual.result _ _ c.from_residual.ensures.1

pub returns-in_err-reply-clause-full : goal.returns-in_err-reply-clause-full
returns-in_err-reply-clause-full g c = exit_full c.from_residual.result c.in_err-reply.field-0.0 c.from_residual.ensures.1 c.in_err-reply.ensures.full

pub returns-clause-ok : goal.returns-clause-ok
returns-clause-ok g c = record { reply = c.in_ok-reply.reply; posts = c.in_ok-reply.ensures.ok; more_is = c.is_more.ensures }

pub returns-clause-full : goal.returns-clause-full
returns-clause-full g c = not_ok _
