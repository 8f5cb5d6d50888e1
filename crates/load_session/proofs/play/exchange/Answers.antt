use Rattle.std.proofs.Common.{inl, inr}
use Rattle.load_session.proofs.Ran.{exit_full, exit_ok, on_ok_as}
use Rattle.load_session.proofs.play.exchange.Goals as goal

pub returns-clause-ok : goal.returns-clause-ok
returns-clause-ok g c =
    on_ok_as c.exchange_on-2.result (λ second. (record { channel = c.exchange_on.new.core; server = c.exchange_on.new.server }, c.in_ok-exchange_on.ensures.ok, second)) c.exchange_on-2.ensures.ok

pub returns-clause-full : goal.returns-clause-full
returns-clause-full g c = λ same.
    inr (record { channel = c.exchange_on.new.core; server = c.exchange_on.new.server }, c.in_ok-exchange_on.ensures.ok, c.exchange_on-2.ensures.full same)

pub returns-in_err-exchange_on-clause-ok : goal.returns-in_err-exchange_on-clause-ok
returns-in_err-exchange_on-clause-ok g c = exit_ok _ c.from_residual.result _ c.from_residual.ensures.1

pub returns-in_err-exchange_on-clause-full : goal.returns-in_err-exchange_on-clause-full
returns-in_err-exchange_on-clause-full g c = exit_full c.from_residual.result c.in_err-exchange_on.field-0.0 c.from_residual.ensures.1 (λ same. inl (c.in_err-exchange_on.ensures.full same))
