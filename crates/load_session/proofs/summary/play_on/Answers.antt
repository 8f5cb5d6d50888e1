use Rattle.load_session.proofs.Ran.{exit_memory, exit_ok, on_ok_as}
use Rattle.load_session.proofs.summary.play_on.Goals as goal

pub returns-in_err-server-clause-ok : goal.returns-in_err-server-clause-ok
returns-in_err-server-clause-ok g c = exit_ok _ c.from_residual.result _ c.from_residual.ensures.1

pub returns-in_err-server-clause-full : goal.returns-in_err-server-clause-full
returns-in_err-server-clause-full g c = exit_memory c.from_residual.result c.from_residual.ensures.1

pub returns-clause-ok : goal.returns-clause-ok
returns-clause-ok g c =
    on_ok_as c.play_load.result (λ plays. record { server = c.play_load.new.server; begun = c.in_ok-server.server; new_server = c.in_ok-server.ensures; plays = plays }) c.play_load.ensures.ok

pub returns-clause-full : goal.returns-clause-full
returns-clause-full g c = λ same. record { begun = c.in_ok-server.server; new_server = c.in_ok-server.ensures; stops = c.play_load.ensures.full same }
