use Rattle.std.proofs.Common.{IfOk, subst}
use Rattle.session_actions.specs.declared.seen.Setup.{Setup}
use Rattle.slow_session.specs.Plays.{IsSessionOf}
use Rattle.session_actions_run.proofs.session.session_of.Goals as goal

pub returns : goal.returns
returns c = subst (λ (setup : Setup). IfOk c.run.result (λ r. IsSessionOf setup c.args.events.items r.journal.entries r.ledger)) c.in_ok-setup.ensures c.run.ensures
