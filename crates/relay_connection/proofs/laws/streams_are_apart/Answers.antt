use Rattle.relay_connection.proofs.Apart.{apart}
use Rattle.relay_connection.proofs.laws.streams_are_apart.Goals as goal

pub returns : goal.returns
returns c = apart
