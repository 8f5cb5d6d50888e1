use Rattle.std.proofs.Common.{sym}
use Rattle.channel_net.specs.Steps.{net_connected}
use Rattle.channel_net.proofs.RoundLaws.{connect-again, connect-smaller, connect-last}
use Rattle.channel_net.proofs.net.Net.connect_wished.Goals as goal

pub wishes-smaller : goal.wishes-smaller
wishes-smaller g c = connect-smaller c.wishes.self c.connect.new.self c.in-Some.sub (sym c.in-Some.ensures) c.connect.ensures

pub wishes-preserved : goal.wishes-preserved
wishes-preserved g c =
    connect-again c.wishes.self c.connect.new.self c.in-Some.sub (net_connected c.args.self.now) (sym c.in-Some.ensures) c.connect.ensures c.wishes.invariant

pub returns-in-None : goal.returns-in-None
returns-in-None g c = connect-last c.wishes.self (net_connected c.args.self.now) (sym c.in-None.ensures) c.wishes.invariant
