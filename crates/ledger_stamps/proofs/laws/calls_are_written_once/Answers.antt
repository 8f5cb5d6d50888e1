use Rattle.ledger_stamps.proofs.LaterLaws.{call_begun, call_configured, call_ended, call_noted}
use Rattle.ledger_stamps.proofs.laws.calls_are_written_once.Goals as goal

pub returns-clause-begun : goal.returns-clause-begun
returns-clause-begun c = call_begun

pub returns-clause-configured : goal.returns-clause-configured
returns-clause-configured c = call_configured

pub returns-clause-noted : goal.returns-clause-noted
returns-clause-noted c = call_noted

pub returns-clause-ended : goal.returns-clause-ended
returns-clause-ended c = call_ended
