use Rattle.std.proofs.Common.{◌≡◌}
use Rattle.channel_net.specs.Steps.{connect_rounds, idle_count, net_connected}
use Rattle.channel_net.proofs.net.Net.connect_wished.Given as goal

-- the wishes that are left give the end
abbrev pub invariant-wishes : goal.invariant-wishes
invariant-wishes g l = connect_rounds (idle_count l.self.board) l.self ≡ net_connected l.fn.self

abbrev pub decreases-wishes : goal.decreases-wishes
decreases-wishes g l = idle_count l.self.board
