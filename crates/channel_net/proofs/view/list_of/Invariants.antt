use Rattle.std.proofs.Common.{◌≡◌, ◌≤◌, [], length, drop}
use Rattle.grpc_base.specs.Addresses.{IsWithoutRepeats}
use Rattle.channel_net.specs.Lists.{with_addresses}
use Rattle.channel_net.proofs.view.list_of.Given as goal

-- the addresses that are left give the list
abbrev pub invariant-loop-address : goal.invariant-loop-address
invariant-loop-address l = record {
  rest : with_addresses l.list (drop l.address-index l.addresses) ≡ with_addresses [] l.addresses;
  no_repeats : IsWithoutRepeats l.list;
  few : length l.list ≤ l.address-index;
}
