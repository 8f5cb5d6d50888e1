use Rattle.std.proofs.Common.{◌≡◌, ◌≤◌, [], length, map}
use Rattle.std.specs.List.{fold}
use Rattle.grpc_base.specs.Addresses.{with_address}
use Rattle.dns_watch.specs.Lookups.{at_port}
use Rattle.dns_watch.proofs.lookup.addresses_at.Given as goal

-- the rest makes of what is kept what all make
abbrev pub invariant-loop-ip : goal.invariant-loop-ip
invariant-loop-ip l = record {
  makes : fold with_address [] (map (at_port l.port) l.ips) ≡ fold with_address l.addresses (map (at_port l.port) l.rest);
  within : length l.addresses ≤ 64;
}

abbrev pub decreases-loop-ip : goal.decreases-loop-ip
decreases-loop-ip l = length l.rest
