use Rattle.relay_connection.proofs.Apart.{rising}
use Rattle.relay_connection.proofs.laws.streams_rise.Goals as goal

pub returns : goal.returns
returns c = rising
