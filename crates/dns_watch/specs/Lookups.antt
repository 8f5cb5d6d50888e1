-- What a lookup answers, and what it counts.
use Rattle.std.specs.Prelude.{◌≡◌, ℕ, Bool, true, false, List, [], ◌∷◌, map, take}
use Rattle.std.specs.List.{fold}
use Rattle.grpc_base.specs.Addresses.{with_address}
use Rattle.grpc_base.specs.Counts.{one_more}
use Rattle.grpc_base.specs.declared.address.Address.{Address}
use Rattle.grpc_base.specs.declared.host.DnsName.{DnsName}
use Rattle.dns_watch.specs.declared.lookup.Looked.{Looked}
use Rattle.dns_watch.specs.declared.lookup.Looked.TheVariants as looked

-- an IPv4 address with a port
abbrev pub at_port : ℕ → ℕ → Address
at_port port ip = record { ip = ip; port = port }

-- the first 64 of these IPv4 addresses with a port, each of them once
abbrev pub addresses_at : ℕ → List ℕ → List Address
addresses_at port ips = take 64 (fold with_address [] (map (at_port port) ips))

-- no address is a failure
abbrev pub found_or_failed : List Address → Looked
found_or_failed [] = looked.Failed
found_or_failed (a ∷ addresses) = looked.Found (a ∷ addresses)

-- the answer of a lookup that found these IPv4 addresses
abbrev pub looked_of : ℕ → List ℕ → Looked
looked_of port ips = found_or_failed (addresses_at port ips)

-- an answer for a name, by IPv4 addresses that its lookup may find
abbrev pub Answers : (DnsName → List ℕ → Type 0) → DnsName → Looked → Type 0
Answers may_find name answer = (ips : List ℕ) × may_find name ips × (answer ≡ looked_of name.port ips)

-- whether addresses were found
abbrev pub is_found : Looked → Bool
is_found (looked.Found addresses) = true
is_found looked.Failed = false

-- a failed lookup raises the count of faults by one, and no other lookup changes it
abbrev pub CountsFaults : ℕ → ℕ → Looked → Type 0
CountsFaults before after (looked.Found addresses) = after ≡ before
CountsFaults before after looked.Failed = after ≡ one_more before
