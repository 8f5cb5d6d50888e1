use Rattle.std.proofs.Common.{inl, inr}
use Rattle.load_session.proofs.Ran.{exit_full, exit_ok, on_ok_as}
use Rattle.load_session.proofs.play.exchange_on.Goals as goal

pub returns-clause-ok : goal.returns-clause-ok
returns-clause-ok g c =
    on_ok_as c.receive.result (λ receives. (record { channel = c.send.new.core; server = c.send.new.server }, c.in_ok-send.ensures.ok, receives)) c.receive.ensures.ok

pub returns-clause-full : goal.returns-clause-full
returns-clause-full g c = λ same.
    inr (record { channel = c.send.new.core; server = c.send.new.server }, c.in_ok-send.ensures.ok, c.receive.ensures.full same)

pub returns-in_err-send-clause-ok : goal.returns-in_err-send-clause-ok
returns-in_err-send-clause-ok g c = exit_ok _ c.from_residual.result _ c.from_residual.ensures.1

pub returns-in_err-send-clause-full : goal.returns-in_err-send-clause-full
returns-in_err-send-clause-full g c = exit_full c.from_residual.result c.in_err-send.field-0.0 c.from_residual.ensures.1 (λ same. inl (c.in_err-send.ensures.full same))
