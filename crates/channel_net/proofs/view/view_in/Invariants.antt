use Rattle.std.proofs.Common.{◌≡◌, ◌++◌, drop}
use Rattle.channel_net.specs.Lists.{view_of}
use Rattle.channel_net.proofs.view.view_in.Given as goal

-- the addresses that are left give the rest of the view
abbrev pub invariant-loop-address : goal.invariant-loop-address
invariant-loop-address l = l.view.items ++ view_of l.board (drop l.address-index l.addresses) ≡ view_of l.board l.addresses
