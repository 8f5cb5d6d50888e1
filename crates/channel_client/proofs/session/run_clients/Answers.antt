use Rattle.channel_client.proofs.SessionLaws.{are_done}
use Rattle.channel_client.proofs.session.run_clients.Goals as goal

pub returns : goal.returns
returns g c = record { done = are_done _ _ _ _ _ _ _ c.in_ok-_seat.ensures.left }
