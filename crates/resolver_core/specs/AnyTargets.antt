-- Targets of either scheme, `ipv4` or `dns` (gRPC Name Resolution), and the authority that each names.
use Rattle.std.specs.Prelude.{◌≢◌, ◌≤◌, ℕ, Bool, not, ◌&&◌, nat_eq, nat_le, if◌then◌else◌, List, [], ◌∷◌, ◌++◌, length, drop, codes, decimal, Option, Some, None, Result, Ok, Err}
use Rattle.std.specs.List.{list_all, starts_with, ends_with}
use Rattle.grpc_base.specs.declared.address.Address.{Address}
use Rattle.grpc_base.specs.declared.host.DnsName.{DnsName}
use Rattle.grpc_base.specs.Addresses.{address_text}
use Rattle.grpc_base.specs.Hosts.{IsHost, is_label_byte}
use Rattle.grpc_base.specs.Pieces.{pieces}
use Rattle.resolver_core.specs.declared.any_target.Target.{Target}
use Rattle.resolver_core.specs.declared.any_target.Target.TheVariants as target
use Rattle.resolver_core.specs.declared.target.TargetFault.{TargetFault}
use Rattle.resolver_core.specs.declared.target.TargetFault.TheVariants as fault
use Rattle.resolver_core.specs.Targets.{port_of, target_of}

-- whether a text is a label of a host, and whether it is a host (RFC 1123, section 2.1)
abbrev pub is_label : List ℕ → Bool
is_label label =
    nat_le 1 (length label) && nat_le (length label) 63 && list_all is_label_byte label && not (starts_with nat_eq label (codes "-"))
    && not (ends_with nat_eq label (codes "-"))

abbrev pub is_host : List ℕ → Bool
is_host host = nat_le (length host) 253 && list_all is_label (pieces 46 host)

-- a host and a port, if they are
abbrev pub named : List ℕ → Option ℕ → Option DnsName
named host (Some port) = if is_host host then Some (record { host = host; port = port }) else None
named host None = None

-- `host` or `host:port`; without a port it is 443
abbrev pub name_from : List (List ℕ) → Option DnsName
name_from (host ∷ []) = named host (Some 443)
name_from (host ∷ port ∷ []) = named host (port_of port)
name_from _ = None

-- the same where the slashes of an empty authority may stand before it (RFC 3986, section 3.2)
abbrev pub after_slashes : List ℕ → List ℕ
after_slashes text = if starts_with nat_eq text (codes "///") then drop 3 text else text

abbrev pub dns_name_of : List ℕ → Option DnsName
dns_name_of text = name_from (pieces 58 (after_slashes text))

-- what either scheme says as a target
abbrev pub dns_target : Option DnsName → Result Target TargetFault
dns_target None = Err fault.BadHost
dns_target (Some name) = Ok (target.Dns name)

abbrev pub ipv4_target : Result (List Address) TargetFault → Result Target TargetFault
ipv4_target (Ok addresses) = Ok (target.Ipv4 addresses)
ipv4_target (Err f) = Err f

-- whether a text is of the scheme `dns`
abbrev pub is_dns : List ℕ → Bool
is_dns text = starts_with nat_eq text (codes "dns:")

-- what a target says
abbrev pub any_target_of : List ℕ → Result Target TargetFault
any_target_of text = if is_dns text then dns_target (dns_name_of (drop 4 text)) else ipv4_target (target_of text)

-- what every target that was read keeps: an address or more, or a host and a port that is not 0
abbrev pub IsTarget : Target → Type 0
IsTarget (target.Ipv4 addresses) = addresses ≢ []
IsTarget (target.Dns name) = IsHost name.host × (1 ≤ name.port)

-- the authority of a target: its first address as `a.b.c.d:port`, or `host:port` (gRPC over HTTP/2, "Requests": Authority)
abbrev pub authority_of : Target → List ℕ
authority_of (target.Ipv4 []) = []
authority_of (target.Ipv4 (first ∷ others)) = address_text first
authority_of (target.Dns name) = name.host ++ 58 ∷ decimal name.port
