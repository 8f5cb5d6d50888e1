-- A net, and what each call makes of it. Nobody has to believe it: the laws of specs/Laws say what holds.
use Rattle.std.specs.Prelude.{ℕ, zero, suc, ◌+◌, ◌≡◌, nat_lt, Bool, true, false, ◌&&◌, ◌||◌, ◌==◌, is_some, if◌then◌else◌, Option, Some, None, List, [], ◌∷◌, ◌++◌, option_to_list}
use Rattle.std.specs.List.{find}
use Rattle.std.specs.Option.{option_map_or}
use Rattle.grpc_base.specs.declared.address.Address.{Address}
use Rattle.grpc_base.specs.declared.event.Conn.{Conn}
use Rattle.grpc_base.specs.declared.event.Conn.TheVariants as conn
use Rattle.grpc_base.specs.declared.event.Refusal.{Refusal}
use Rattle.grpc_base.specs.declared.event.Refusal.TheVariants as refusal
use Rattle.grpc_base.specs.declared.kind.Kind.{Kind}
use Rattle.grpc_base.specs.Kinds.{has_kind}
use Rattle.attempt_ledger.specs.declared.ledger.Generation.{Generation}
use Rattle.lb_policy.specs.declared.seen.SubSeen.{SubSeen}
use Rattle.lb_policy.specs.Table.{PolicySeen}
use Rattle.subchannel.specs.Records.{SubRecord, is_dialable, is_dialing, is_due, is_idle, is_failure, is_connecting, dialed, until_after, linked_up, failed, prefaced, lost, wished}
use Rattle.subchannel.specs.Boards.{numbered, changed_at, first_number, first_clocked, kept, passes}
use Rattle.subchannel.specs.Insides.{live_numbers}
use Rattle.policy_rack.specs.Kinds.{first_place, kinds_of, same_kind}
use Rattle.policy_rack.specs.Steps.{RackSeen, adopted_number, live_of, may_take_over, policy_of, wishes, state_in}
use Rattle.channel_net.specs.declared.links.OwnLink.{OwnLink}
use Rattle.channel_net.specs.declared.replies.Asked.{Asked}
use Rattle.channel_net.specs.declared.replies.Dialing.{Dialing}
use Rattle.channel_net.specs.declared.fault.LinkFault.{LinkFault}
use Rattle.channel_net.specs.declared.fault.LinkFault.TheVariants as fault
use Rattle.channel_net.specs.Askers.{AskerSeen, new_asker, reported, asker_adopted, asker_taken_over, asker_retired, asker_asked, asker_answer}
use Rattle.channel_net.specs.Lists.{each_once, state_at, view_of, link_of, without, live_links, shut_links}
use Rattle.channel_net.specs.Stamps.{activated, added, retired_live, activated_live, dropped, is_numbered}

pub record NetSeen : Type 0 where
  pub asker : AskerSeen
  -- the subchannels by number
  pub board : List SubRecord
  -- the addresses of the current and of the pending generation
  pub current : List Address
  pub pending : List Address
  -- the links of subchannels, each while it is the subchannel's own
  pub links : List OwnLink

abbrev pub new_net : List PolicySeen → NetSeen
new_net policies = record { asker = new_asker policies; board = []; current = []; pending = []; links = [] }

-- what a result of the resolver makes of the two lists
abbrev pub is_for_current : Kind → RackSeen → Bool
is_for_current kind r = option_map_or (λ live. same_kind live.1 kind) (live_of r.policies r.current) true

abbrev pub listed : Kind → List Address → NetSeen → NetSeen
listed kind addresses n = record n {
  current = if is_for_current kind n.asker.rack then each_once addresses else n.current;
  pending = if is_for_current kind n.asker.rack then [] else each_once addresses;
}

-- a live subchannel is kept for each address of the two lists, and no other
abbrev pub net_kept : NetSeen → NetSeen
net_kept n = record n { board = kept n.current n.pending n.board; links = live_links (kept n.current n.pending n.board) n.links }

-- the links of those that are shut by it
abbrev pub kept_shut : NetSeen → List ℕ
kept_shut n = shut_links (kept n.current n.pending n.board) n.links

-- the policy of a kind gets its view
abbrev pub adopted_view : Kind → List Address → NetSeen → List SubSeen
adopted_view kind addresses n = view_of n.board (each_once addresses)

abbrev pub net_adopted : Kind → List Address → NetSeen → NetSeen
net_adopted kind addresses n = record n { asker = asker_adopted (adopted_view kind addresses n) kind n.asker }

abbrev pub net_taken : Kind → List Address → NetSeen → NetSeen
net_taken kind addresses n = net_adopted kind addresses (net_kept (listed kind addresses n))

abbrev pub net_resolved : Kind → List Address → NetSeen → NetSeen
net_resolved kind addresses n =
    if has_kind (kinds_of n.asker.rack.policies) kind then net_taken kind addresses n else n

abbrev pub resolved_shut : Kind → List Address → NetSeen → List ℕ
resolved_shut kind addresses n = if has_kind (kinds_of n.asker.rack.policies) kind then kept_shut (listed kind addresses n) else []

-- the stamps: a pending generation is dropped, a new one begins
abbrev pub begun_stamps : ℕ → Kind → Bool → ℕ → List Generation → List Generation
begun_stamps entry kind is_current number generations =
    if is_current then activated entry number (added kind generations) else added kind generations

abbrev pub adopted_stamps : ℕ → Kind → RackSeen → RackSeen → ℕ → List Generation → List Generation
adopted_stamps entry kind r t number generations =
    if nat_lt r.made number then begun_stamps entry kind (is_numbered number (live_of t.policies t.current)) number (dropped entry number (live_of r.policies r.pending) generations)
    else dropped entry number (live_of r.policies r.pending) generations

abbrev pub taken_stamps : ℕ → Kind → NetSeen → NetSeen → List Generation → List Generation
taken_stamps entry kind n t generations =
    adopted_stamps entry kind n.asker.rack t.asker.rack (adopted_number (first_place kind n.asker.rack.policies) n.asker.rack) generations

abbrev pub resolved_stamps : ℕ → Kind → NetSeen → NetSeen → List Generation → List Generation
resolved_stamps entry kind n t generations =
    if has_kind (kinds_of n.asker.rack.policies) kind then taken_stamps entry kind n t generations else generations

-- a dial is taken
abbrev pub board_dialed : ℕ → ℕ → Option ℕ → List SubRecord → List SubRecord
board_dialed moment word None board = board
board_dialed moment word (Some sub) board = changed_at (dialed moment word) board sub

abbrev pub net_dialed : ℕ → ℕ → NetSeen → NetSeen
net_dialed moment word n = record n { board = board_dialed moment word (first_number is_dialable n.board) n.board }

abbrev pub dialing_as : ℕ → ℕ → ℕ → SubRecord → Dialing
dialing_as moment word sub s = record {
  sub = sub;
  address = s.address;
  until = until_after s moment word;
  drew = nat_lt 0 s.dials;
}

abbrev pub dialing_of : ℕ → ℕ → ℕ → Option SubRecord → Option Dialing
dialing_of moment word sub None = None
dialing_of moment word sub (Some s) = if is_dialable s then Some (dialing_as moment word sub s) else None

abbrev pub dialing_at : ℕ → ℕ → List SubRecord → Option ℕ → Option Dialing
dialing_at moment word board None = None
dialing_at moment word board (Some sub) = dialing_of moment word sub (numbered board sub)

abbrev pub dial_answer : ℕ → ℕ → NetSeen → Option Dialing
dial_answer moment word n = dialing_at moment word n.board (first_number is_dialable n.board)

-- why no dial of a subchannel is under way
abbrev pub dial_refusal : Option SubRecord → Option Refusal
dial_refusal None = Some refusal.NoSuchSub
dial_refusal (Some s) = if is_dialing s then None else Some refusal.NotDialing

-- a link is refused for that; where it is not for memory, nothing changes
abbrev pub LinkFaultIs : Option Refusal → NetSeen → NetSeen → LinkFault → Type 0
LinkFaultIs r before after (fault.Refused e) = (r ≡ Some e) × (after ≡ before)
LinkFaultIs r before after fault.NoMemory = r ≡ None

abbrev pub net_up : ℕ → ℕ → NetSeen → NetSeen
net_up sub link n = record n { board = changed_at linked_up n.board sub; links = n.links ++ record { sub = sub; link = link } ∷ [] }

-- the live policies are given the state of a subchannel
abbrev pub net_reported : ℕ → NetSeen → NetSeen
net_reported sub n = record n { asker = reported (state_at n.board sub) sub n.asker }

-- a subchannel is changed, and the live policies are given its state
abbrev pub board_reported : (SubRecord → SubRecord) → ℕ → NetSeen → NetSeen
board_reported f sub n = record n { asker = reported (state_at (changed_at f n.board sub) sub) sub n.asker; board = changed_at f n.board sub }

abbrev pub net_dial_failed : ℕ → NetSeen → NetSeen
net_dial_failed sub n = board_reported failed sub n

-- whether a link is the subchannel's own
abbrev pub owns : ℕ → ℕ → NetSeen → Bool
owns sub link n = option_map_or (λ own. own == link) (link_of n.links sub) false

abbrev pub net_ready : ℕ → ℕ → NetSeen → NetSeen
net_ready sub link n = if owns sub link n then board_reported prefaced sub n else n

abbrev pub net_lost : ℕ → NetSeen → NetSeen
net_lost sub n = record n {
  asker = reported (state_at (changed_at lost n.board sub) sub) sub n.asker;
  board = changed_at lost n.board sub;
  links = without sub n.links;
}

abbrev pub net_down : ℕ → ℕ → NetSeen → NetSeen
net_down sub link n = if owns sub link n then net_lost sub n else n

-- a net, and the links whose subchannels gave them up or were shut
pub record NetLeft : Type 0 where
  pub net : NetSeen
  pub gone : List ℕ

abbrev pub left : NetSeen → List ℕ → NetLeft
left n gone = record { net = n; gone = gone }

-- one change of the clock
abbrev pub clocked_at : ℕ → Option ℕ → NetLeft → NetLeft
clocked_at moment None l = l
clocked_at moment (Some sub) l = record {
  net = record l.net {
    asker = reported (state_at (first_clocked moment l.net.board) sub) sub l.net.asker;
    board = first_clocked moment l.net.board;
    links = without sub l.net.links;
  };
  gone = l.gone ++ option_to_list (link_of l.net.links sub);
}

abbrev pub clock_round : ℕ → NetLeft → NetLeft
clock_round moment l = clocked_at moment (first_number (is_due moment) l.net.board) l

-- how many changes of the clock are ahead at most: a dial that was taken is given up, then its backoff ends
abbrev pub clock_weight : SubRecord → ℕ
clock_weight s = if is_failure s.state then 1 else (if is_connecting s.state && is_some s.until then 2 else 0)

abbrev pub clocks_left : List SubRecord → ℕ
clocks_left [] = 0
clocks_left (s ∷ board) = clock_weight s + clocks_left board

abbrev pub clock_rounds : ℕ → ℕ → NetLeft → NetLeft
clock_rounds moment zero l = l
clock_rounds moment (suc k) l = clock_rounds moment k (clock_round moment l)

abbrev pub left_of : NetSeen → NetLeft
left_of n = left n []

abbrev pub net_clocked : ℕ → NetSeen → NetLeft
net_clocked moment n = clock_rounds moment (clocks_left n.board) (left_of n)

-- a pending generation takes over if it may
abbrev pub moved_over : NetSeen → NetSeen
moved_over n = record n { asker = asker_taken_over n.asker; current = n.pending; pending = [] }

abbrev pub net_taken_over : NetLeft → NetLeft
net_taken_over l =
    if may_take_over l.net.asker.rack then record { net = net_kept (moved_over l.net); gone = kept_shut (moved_over l.net) } else l

abbrev pub taken_over_stamps : ℕ → NetSeen → List Generation → List Generation
taken_over_stamps entry n generations =
    if may_take_over n.asker.rack
    then activated_live entry (live_of n.asker.rack.policies n.asker.rack.pending) (retired_live entry (live_of n.asker.rack.policies n.asker.rack.current) generations)
    else generations

-- the lowest-numbered IDLE subchannel that a live policy wishes connected
abbrev pub is_wished : RackSeen → ℕ → Bool
is_wished r sub = wishes sub (policy_of r.policies r.current) || wishes sub (policy_of r.policies r.pending)

abbrev pub idle_and_wished_in : List SubRecord → RackSeen → ℕ → Bool
idle_and_wished_in board r sub = passes (λ s. is_idle s.state) board sub && is_wished r sub

abbrev pub idle_and_wished : NetSeen → ℕ → Bool
idle_and_wished n sub = idle_and_wished_in n.board n.asker.rack sub

abbrev pub first_wished : NetSeen → Option ℕ
first_wished n = find (idle_and_wished n) (live_numbers 1 n.board)

-- it becomes CONNECTING
abbrev pub connected_at : Option ℕ → NetSeen → NetSeen
connected_at None n = n
connected_at (Some sub) n = record n { asker = reported (Some conn.Connecting) sub n.asker; board = changed_at wished n.board sub }

abbrev pub connect_round : NetSeen → NetSeen
connect_round n = connected_at (first_wished n) n

abbrev pub connect_rounds : ℕ → NetSeen → NetSeen
connect_rounds zero n = n
connect_rounds (suc k) n = connect_rounds k (connect_round n)

-- as many rounds as there are IDLE subchannels
abbrev pub idle_count : List SubRecord → ℕ
idle_count [] = 0
idle_count (s ∷ board) = (if is_idle s.state then 1 else 0) + idle_count board

abbrev pub net_connected : NetSeen → NetSeen
net_connected n = connect_rounds (idle_count n.board) n

-- take-overs and wishes until neither has anything to do: after a take-over no generation is pending
abbrev pub settle_round : NetLeft → NetLeft
settle_round l = record { net = net_connected (net_taken_over l).net; gone = (net_taken_over l).gone }

abbrev pub settled_further : NetLeft → NetLeft
settled_further l = if may_take_over l.net.asker.rack then settle_round l else l

abbrev pub net_settled : NetSeen → NetLeft
net_settled n = settled_further (settle_round (left_of n))

abbrev pub settled_stamps : ℕ → NetSeen → List Generation → List Generation
settled_stamps entry n generations = taken_over_stamps entry (settle_round (left_of n)).net (taken_over_stamps entry n generations)

-- every generation is retired, and every subchannel shut
abbrev pub cleared : NetSeen → NetSeen
cleared n = record n { asker = asker_retired n.asker; current = []; pending = [] }

abbrev pub net_shut : NetSeen → NetLeft
net_shut n = record { net = net_kept (cleared n); gone = kept_shut (cleared n) }

abbrev pub shut_stamps : ℕ → RackSeen → List Generation → List Generation
shut_stamps entry r generations =
    retired_live entry (live_of r.policies r.pending) (retired_live entry (live_of r.policies r.current) generations)

-- a pick request
abbrev pub net_asked : NetSeen → NetSeen
net_asked n = record n { asker = asker_asked n.asker }

abbrev pub net_answer : NetSeen → Option Asked
net_answer n = asker_answer n.asker

-- the channel's state, but for Shutdown and the want of a configuration
abbrev pub net_state : NetSeen → Option Conn
net_state n = state_in n.asker.rack n.asker.rack.current
