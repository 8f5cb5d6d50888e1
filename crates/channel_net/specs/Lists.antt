-- Lists of addresses, the subchannels of their addresses, and the links of subchannels.
use Rattle.std.specs.Prelude.{ℕ, ◌==◌, not, Option, List, [], ◌∷◌, ◌++◌, map, find, option_to_list}
use Rattle.std.specs.List.{filter}
use Rattle.std.specs.Option.{option_map, option_and_then}
use Rattle.grpc_base.specs.declared.address.Address.{Address}
use Rattle.grpc_base.specs.declared.event.Conn.{Conn}
use Rattle.grpc_base.specs.Addresses.{with_address}
use Rattle.lb_policy.specs.declared.seen.SubSeen.{SubSeen}
use Rattle.subchannel.specs.Records.{SubRecord, is_live}
use Rattle.subchannel.specs.Boards.{numbered, first_number, is_live_at, passes}
use Rattle.channel_net.specs.declared.links.OwnLink.{OwnLink}

-- a list with further addresses, each that is there passed over
abbrev pub with_addresses : List Address → List Address → List Address
with_addresses list [] = list
with_addresses list (a ∷ rest) = with_addresses (with_address list a) rest

-- the addresses of a list, each once
abbrev pub each_once : List Address → List Address
each_once addresses = with_addresses [] addresses

-- the state of a subchannel
abbrev pub state_at : List SubRecord → ℕ → Option Conn
state_at board sub = option_map (λ s. s.state) (numbered board sub)

-- a subchannel as a policy sees it
abbrev pub seen_as : ℕ → SubRecord → SubSeen
seen_as sub s = record { sub = sub; state = s.state }

-- the live subchannel of an address
abbrev pub seen_at : List SubRecord → Address → Option SubSeen
seen_at board a = option_and_then (λ sub. option_map (seen_as sub) (numbered board sub)) (first_number (is_live_at a) board)

-- those of a list of addresses, in its order
abbrev pub view_of : List SubRecord → List Address → List SubSeen
view_of board [] = []
view_of board (a ∷ rest) = option_to_list (seen_at board a) ++ view_of board rest

-- the link of a subchannel, while it is the subchannel's own
abbrev pub link_of : List OwnLink → ℕ → Option ℕ
link_of links sub = option_map (λ own. own.link) (find (λ own. own.sub == sub) links)

-- without the links of a subchannel
abbrev pub without : ℕ → List OwnLink → List OwnLink
without sub links = filter (λ own. not (own.sub == sub)) links

-- the links of subchannels that are not SHUTDOWN, and the numbers of the others
abbrev pub live_links : List SubRecord → List OwnLink → List OwnLink
live_links board links = filter (λ own. passes is_live board own.sub) links

abbrev pub shut_links : List SubRecord → List OwnLink → List ℕ
shut_links board links = map (λ own. own.link) (filter (λ own. not (passes is_live board own.sub)) links)
