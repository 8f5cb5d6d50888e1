use Rattle.ledger_stamps.proofs.LaterLaws.{ask_added, generation_activated, generation_added, generation_retired, link_added, link_gone, link_read}
use Rattle.ledger_stamps.proofs.laws.nets_are_written_once.Goals as goal

pub returns-clause-asked : goal.returns-clause-asked
returns-clause-asked c = ask_added

pub returns-clause-added : goal.returns-clause-added
returns-clause-added c = generation_added

pub returns-clause-activated : goal.returns-clause-activated
returns-clause-activated c = generation_activated

pub returns-clause-retired : goal.returns-clause-retired
returns-clause-retired c = generation_retired

pub returns-clause-up : goal.returns-clause-up
returns-clause-up c = link_added

pub returns-clause-gone : goal.returns-clause-gone
returns-clause-gone c = link_gone

pub returns-clause-read : goal.returns-clause-read
returns-clause-read c = link_read
