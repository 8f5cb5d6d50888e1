use Rattle.std.proofs.Common.{◌≤◌, ap, length, arith}
use Rattle.relay_connection.proofs.Going.{drains_within}
use Rattle.relay_connection.proofs.connection.RelayConnection.drain.Goals as goal

pub returns-clause-within : goal.returns-clause-within
returns-clause-within c =
    let size : length c.in_ok-out.out.items ≤ c.from.result = drains_within c.from.result _ (record { relay = c.send_all.new.self; octets = c.in_ok-out.out.items }) c.in_ok-out.ensures in
    omega (arith, size, c.from.ensures, ap length c.in_ok-of_buffer.ensures)
