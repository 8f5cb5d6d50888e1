-- Targets: the scheme `ipv4` of gRPC Name Resolution.
use Rattle.std.specs.Prelude.{ℕ, ◌+◌, ◌*◌, Bool, true, not, ◌==◌, ◌&&◌, nat_le, nat_eq, if◌then◌else◌, List, [], ◌∷◌, length, drop, codes, Option, Some, None, Result, Ok, Err}
use Rattle.std.specs.List.{starts_with}
use Rattle.grpc_base.specs.declared.address.Address.{Address}
use Rattle.grpc_base.specs.Addresses.{address_limit, with_address}
use Rattle.resolver_core.specs.declared.target.TargetFault.{TargetFault}
use Rattle.resolver_core.specs.declared.target.TargetFault.TheVariants as fault
use Rattle.grpc_base.specs.Numbers.{is_number, number_of}
use Rattle.grpc_base.specs.Pieces.{pieces}

-- no zero before other digits
abbrev pub begins_plain : List ℕ → Bool
begins_plain [] = true
begins_plain (digit ∷ []) = true
begins_plain (first ∷ second ∷ others) = not (first == 48)

-- the number that digits without a leading zero write, if it is at most a limit
abbrev pub number_within : ℕ → List ℕ → Option ℕ
number_within most text =
    if begins_plain text && is_number text && nat_le (number_of text) most then Some (number_of text) else None

-- a port, from 1 to 65,535
abbrev pub port_from : Option ℕ → Option ℕ
port_from None = None
port_from (Some n) = if n == 0 then None else Some n

abbrev pub port_of : List ℕ → Option ℕ
port_of text = port_from (number_within 65535 text)

-- four numbers joined
abbrev pub joined_ip : Option ℕ → Option ℕ → Option ℕ → Option ℕ → Option ℕ
joined_ip (Some a) (Some b) (Some c) (Some d) = Some (((a * 256 + b) * 256 + c) * 256 + d)
joined_ip _ _ _ _ = None

-- an IPv4 address `a.b.c.d`, each part from 0 to 255
abbrev pub ip_from : List (List ℕ) → Option ℕ
ip_from (a ∷ b ∷ c ∷ d ∷ []) = joined_ip (number_within 255 a) (number_within 255 b) (number_within 255 c) (number_within 255 d)
ip_from _ = None

abbrev pub ip_of : List ℕ → Option ℕ
ip_of text = ip_from (pieces 46 text)

-- an address of both parts
abbrev pub with_port : Option ℕ → Option ℕ → Option Address
with_port (Some i) (Some p) = Some (record { ip = i; port = p })
with_port _ _ = None

-- an item `a.b.c.d` or `a.b.c.d:port`; without a port it is 443
abbrev pub address_from : List (List ℕ) → Option Address
address_from (host ∷ []) = with_port (ip_of host) (Some 443)
address_from (host ∷ port ∷ []) = with_port (ip_of host) (port_of port)
address_from _ = None

abbrev pub address_of : List ℕ → Option Address
address_of text = address_from (pieces 58 text)

-- the addresses of all items, if each is one
abbrev pub address_before : Option Address → Option (List Address) → Option (List Address)
address_before (Some a) (Some others) = Some (a ∷ others)
address_before _ _ = None

abbrev pub items_of : List (List ℕ) → Option (List Address)
items_of [] = Some []
items_of (item ∷ items) = address_before (address_of item) (items_of items)

-- the items of a target, counted with repeats: `ipv4:` and what its commas part
abbrev pub target_items : List ℕ → Option (List Address)
target_items text = if starts_with nat_eq text (codes "ipv4:") then items_of (pieces 44 (drop 5 text)) else None

-- a list with further addresses at its end, each unless it is there
abbrev pub with_addresses : List Address → List Address → List Address
with_addresses addresses [] = addresses
with_addresses addresses (a ∷ others) = with_addresses (with_address addresses a) others

-- the list of some items, of which there may be 64
abbrev pub listed_of : Option (List Address) → Result (List Address) TargetFault
listed_of None = Err fault.BadTarget
listed_of (Some items) = if nat_le (length items) address_limit then Ok (with_addresses [] items) else Err fault.TooMany

-- what a target says
abbrev pub target_of : List ℕ → Result (List Address) TargetFault
target_of text = listed_of (target_items text)
