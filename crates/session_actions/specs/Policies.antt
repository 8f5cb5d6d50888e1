-- Policies and picks: generations of load balancing policies, their views of the subchannels, and what they answer ("Load Balancing in gRPC"; "gRPC
-- Connectivity Semantics and API"; "gRPC Wait for Ready Semantics"; "Service Config in gRPC": loadBalancingConfig). The table of each kind stands in
-- `lb_policy`.
-- Example: round_robin, generation 1, has the READY subchannels 1 and 2: three requests get Place 1, Place 2, Place 1. A config of pick_first begins
-- generation 2, which takes over when it is READY or in TRANSIENT_FAILURE, or when generation 1 is no longer READY.
use Rattle.std.specs.List.{list_any}
use Rattle.std.specs.Option.{option_map_or}
use Rattle.std.specs.Prelude.{Bool, List, None, Option, Some, [], count_by, false, filter, filter_map, find, flat_map, if◌then◌else◌, is_none, is_some, length, map, nat_lt, not, option_and_then, option_map, option_to_list, true, unwrap_or, ℕ, ◌&&◌, ◌++◌, ◌+◌, ◌==◌, ◌||◌, ◌∷◌}
use Rattle.attempt_ledger.specs.declared.ledger.Ask.{Ask}
use Rattle.attempt_ledger.specs.declared.row.Placed.{Placed}
use Rattle.grpc_base.specs.Kinds.{kind_number}
use Rattle.grpc_base.specs.declared.address.Address.{Address}
use Rattle.grpc_base.specs.declared.event.Conn.{Conn}
use Rattle.grpc_base.specs.declared.event.Event.{Event}
use Rattle.grpc_base.specs.declared.kind.Kind.{Kind}
use Rattle.grpc_base.specs.declared.kind.Pick.{Pick}
use Rattle.lb_policy.specs.Steps.{failed_in}
use Rattle.lb_policy.specs.Table.{PolicySeen, is_ready, pick_of, state_of}
use Rattle.lb_policy.specs.declared.seen.SubSeen.{SubSeen}
use Rattle.session_actions.specs.AttemptEnds.{end_of, pick_end}
use Rattle.session_actions.specs.Attempts.{is_queued, marked_row, of_its_call, with_attempt}
use Rattle.session_actions.specs.CallEnds.{is_after_event}
use Rattle.session_actions.specs.Configs.{held_config, is_unconfigured, waits_for_ready}
use Rattle.session_actions.specs.Entries.{entry, now, with_turn}
use Rattle.session_actions.specs.Words.{changed, foremost, holds, last_of, numbered}
use Rattle.session_actions.specs.declared.action.Action.{Action}
use Rattle.session_actions.specs.declared.attempt.Attempt.{Attempt}
use Rattle.session_actions.specs.declared.entry.OpenEntry.{OpenEntry}
use Rattle.session_actions.specs.declared.entry.Turn.{Turn}
use Rattle.session_actions.specs.declared.policy.PolicyUse.{PolicyUse}
use Rattle.session_actions.specs.declared.seen.PolicyKind.{PolicyKind}
use Rattle.session_actions.specs.declared.seen.Seen.{Seen}
use Rattle.session_actions.specs.declared.subchannel.Subchannel.{Subchannel}
use Rattle.session_actions.specs.declared.action.Action.TheVariants as action
use Rattle.grpc_base.specs.declared.event.Conn.TheVariants as conn
use Rattle.grpc_base.specs.declared.event.Event.TheVariants as event
use Rattle.session_actions.specs.declared.call.MarkKind.TheVariants as mark
use Rattle.grpc_base.specs.declared.kind.Pick.TheVariants as pick

-- the generation that is current, the one that is to take over, and both
abbrev pub is_live_policy : PolicyUse → Bool
is_live_policy g = is_none g.generation.retired

abbrev pub is_current : PolicyUse → Bool
is_current g = is_live_policy g && is_some g.generation.activated

abbrev pub is_pending : PolicyUse → Bool
is_pending g = is_live_policy g && is_none g.generation.activated

abbrev pub current_policy : Seen → Option PolicyUse
current_policy s = find is_current s.policies

abbrev pub pending_policy : Seen → Option PolicyUse
pending_policy s = find is_pending s.policies

abbrev pub live_policies : Seen → List PolicyUse
live_policies s = option_to_list (current_policy s) ++ option_to_list (pending_policy s)

-- the addresses that they list, and the subchannel of an address
abbrev pub listed : Seen → List Address
listed s = flat_map (λ g. g.addresses) (live_policies s)

abbrev pub is_shutdown : Conn → Bool
is_shutdown conn.Shutdown = true
is_shutdown _ = false

abbrev pub is_same_kind : Kind → Kind → Bool
is_same_kind k j = kind_number k == kind_number j

abbrev pub is_same_address : Address → Address → Bool
is_same_address a b = (a.ip == b.ip) && (a.port == b.port)

abbrev pub is_live_sub : Address → Subchannel → Bool
is_live_sub address b = is_same_address b.address address && not (is_shutdown b.state)

abbrev pub live_sub : Seen → Address → Option Subchannel
live_sub s address = find (is_live_sub address) s.subs

-- the view of a generation: the subchannels of its addresses, in their order
abbrev pub view_of : List Address → Seen → List SubSeen
view_of addresses s = map (λ b. record { sub = b.number; state = b.state }) (filter_map (live_sub s) addresses)

-- a policy as the table sees it: its turns are the pick requests that it answered (not the `turn` of an entry)
abbrev pub width_of : Kind → List PolicyKind → ℕ
width_of k policies = option_map_or (λ p. p.width) (find (λ p. is_same_kind p.kind k) policies) 1

abbrev pub turns_of : PolicyUse → Seen → ℕ
turns_of g s = count_by (λ ask. ask.generation == g.number) s.asks

abbrev pub policy_of : PolicyUse → Seen → PolicySeen
policy_of g s = record {
  kind = g.generation.kind;
  width = width_of g.generation.kind s.setup.policies;
  view = view_of g.addresses s;
  failed = g.failed;
  turns = turns_of g s;
}

abbrev pub policy_state : PolicyUse → Seen → Conn
policy_state g s = state_of (policy_of g s)

-- the channel's state: SHUTDOWN from a shutdown on, else that of the current policy; before there is one, TRANSIENT_FAILURE where the resolver has
-- answered and no valid config came, and else IDLE
abbrev pub channel_state : Seen → Conn
channel_state s =
    if s.shut then conn.Shutdown
    else option_map_or (λ g. policy_state g s) (current_policy s) (if is_unconfigured s then conn.Failure else conn.Idle)

-- a graceful switch: a pending policy takes over when it is READY or in TRANSIENT_FAILURE, or when the current one is not READY
abbrev pub is_failure : Conn → Bool
is_failure conn.Failure = true
is_failure _ = false

abbrev pub may_take_over : Seen → PolicyUse → Bool
may_take_over s g =
    is_ready (policy_state g s) || is_failure (policy_state g s) || not (holds (λ h. is_ready (policy_state h s)) (current_policy s))

abbrev pub next_take_over : Seen → Option Action
next_take_over s =
    option_and_then (λ g. if may_take_over s g then Some (action.PolicyTakesOver g.number) else None) (pending_policy s)

-- a queued attempt is served while the current policy is READY, or in TRANSIENT_FAILURE where its call does not wait for ready ("gRPC Wait for Ready
-- Semantics")
abbrev pub is_served_by : Conn → Attempt → Seen → Bool
is_served_by conn.Ready a s = true
is_served_by conn.Failure a s = of_its_call (λ c. not (waits_for_ready c s)) a s
is_served_by _ a s = false

abbrev pub is_served : Seen → Attempt → Bool
is_served s a = is_queued a s && holds (λ g. is_served_by (policy_state g s) a s) (current_policy s)

-- the queue: by call, and then by place
abbrev pub is_queued_before : Attempt → Attempt → Bool
is_queued_before a b = nat_lt a.row.call b.row.call || ((a.row.call == b.row.call) && nat_lt a.place b.place)

-- after the last one of the pass that is going on
abbrev pub is_after : Turn → Attempt → Bool
is_after t a = nat_lt t.call a.row.call || ((t.call == a.row.call) && nat_lt t.row a.place)

abbrev pub asking : Seen → Attempt → Option Action
asking s a = option_map (λ g. action.PickRequested a.place g.number (pick_of (policy_of g s))) (current_policy s)

-- (READY answers Place and TRANSIENT_FAILURE Fail, so a pick request that is made is never answered Wait)
abbrev pub next_asked : (Attempt → Bool) → Seen → Option Action
next_asked test s = option_and_then (asking s) (foremost is_queued_before (filter (λ a. is_served s a && test a) s.attempts))

-- a pass over the queue goes on, or a new one begins
abbrev pub next_of_pass : OpenEntry → Seen → Option Action
next_of_pass o s = option_and_then (λ t. next_asked (is_after t) s) o.turn

abbrev pub next_of_queue : Seen → Option Action
next_of_queue s = next_asked (λ a. true) s

-- the last pick request, in the entry in which it was made, where its attempt is neither placed nor ended yet: its answer is acted on. The attempt is
-- placed on the subchannel that was picked, or ends. (The link 0 stands for none, and is never so: a READY subchannel has a link.)
abbrev pub is_unfollowed : Attempt → Bool
is_unfollowed a = is_none a.row.placed && is_none a.row.ended

abbrev pub placed_on : Ask → Seen → Subchannel → Placed
placed_on ask s b = record {
  entry = entry s;
  moment = now s;
  generation = ask.generation;
  sub = b.number;
  link = unwrap_or b.link 0;
}

abbrev pub follow_pick : Ask → Seen → Attempt → Pick → Option Action
follow_pick ask s a (pick.Place sub) =
    option_map (λ b. action.AttemptPlaced a.place (placed_on ask s b)) (numbered s.subs sub)
follow_pick ask s a pick.Fail = Some (action.AttemptEnds a.place (end_of a pick_end s))
follow_pick ask s a pick.Wait = None

abbrev pub follow_ask : Seen → Ask → Option Action
follow_ask s ask =
    option_and_then (λ a. if is_unfollowed a && (ask.entry == entry s) then follow_pick ask s a ask.answer else None)
    (numbered s.attempts ask.row)

abbrev pub next_of_pick : Seen → Option Action
next_of_pick s = option_and_then (follow_ask s) (last_of s.asks)

-- after a result of the resolver, while a valid config is held: the kind of that config, and the addresses of the result
abbrev pub addresses_in : Event → Option (List Address)
addresses_in (event.Resolved addresses config) = Some addresses
addresses_in _ = None

abbrev pub result_of : OpenEntry → Option (List Address)
result_of o = if is_after_event o then addresses_in o.event else None

abbrev pub wanted_kind : OpenEntry → Seen → Option Kind
wanted_kind o s = if is_some (result_of o) then option_map (λ h. h.config.kind) (held_config s) else None

-- a generation is retired by a Shutdown, and a pending one of another kind by a result. In one result a pending policy is retired, then one begins,
-- then the one of the config's kind gets the addresses, and only then subchannels go and come. So an address that the list before and the new one
-- share keeps its subchannel
abbrev pub is_other_kind : Kind → PolicyUse → Bool
is_other_kind k g = not (is_same_kind g.generation.kind k)

abbrev pub is_to_retire : OpenEntry → Seen → PolicyUse → Bool
is_to_retire o s g =
    is_live_policy g && (s.shut || (is_pending g && holds (λ k. is_other_kind k g) (wanted_kind o s)))

abbrev pub next_retired : OpenEntry → Seen → Option Action
next_retired o s = option_map (λ g. action.PolicyRetired g.number) (find (is_to_retire o s) s.policies)

-- a generation of the wanted kind begins where there is none
abbrev pub begin_if : Seen → Kind → Option Action
begin_if s k = if list_any (λ g. is_same_kind g.generation.kind k) (live_policies s) then None else Some (action.PolicyBegins k)

abbrev pub next_begun : OpenEntry → Seen → Option Action
next_begun o s = option_and_then (begin_if s) (wanted_kind o s)

-- and gets the addresses of the result
abbrev pub are_same_addresses : List Address → List Address → Bool
are_same_addresses [] [] = true
are_same_addresses (a ∷ rest) (b ∷ others) = is_same_address a b && are_same_addresses rest others
are_same_addresses _ _ = false

abbrev pub wants_addresses : OpenEntry → Seen → PolicyUse → Bool
wants_addresses o s g =
    is_live_policy g && holds (λ k. is_same_kind g.generation.kind k) (wanted_kind o s)
    && holds (λ addresses. not (are_same_addresses g.addresses addresses)) (result_of o)

abbrev pub next_given : OpenEntry → Seen → Option Action
next_given o s = option_map (λ g. action.AddressesGiven g.number) (find (wants_addresses o s) s.policies)

-- what these add
abbrev pub with_policy : (PolicyUse → PolicyUse) → ℕ → Seen → Seen
with_policy f generation s = record s { policies = changed f generation s.policies }

abbrev pub begun_policy : Kind → Seen → PolicyUse
begun_policy k s = record {
  number = length s.policies + 1;
  generation = record { kind = k; activated = if is_none (current_policy s) then Some (entry s) else None; retired = None };
  addresses = [];
  failed = [];
}

abbrev pub policy_begun : Kind → Seen → Seen
policy_begun k s = record s { policies = s.policies ++ begun_policy k s ∷ [] }

abbrev pub given_addresses : List Address → Seen → PolicyUse → PolicyUse
given_addresses addresses s g = record g { addresses = addresses; failed = failed_in g.failed (view_of addresses s) }

abbrev pub addresses_given : ℕ → Event → Seen → Seen
addresses_given generation e s =
    option_map_or (λ addresses. with_policy (given_addresses addresses s) generation s) (addresses_in e) s

abbrev pub retired_in : ℕ → PolicyUse → PolicyUse
retired_in entry g = record g { generation = record g.generation { retired = Some entry } }

abbrev pub activated_in : ℕ → PolicyUse → PolicyUse
activated_in entry g = record g { generation = record g.generation { activated = Some entry } }

abbrev pub policy_retired : ℕ → Seen → Seen
policy_retired generation s = with_policy (retired_in (entry s)) generation s

abbrev pub policy_took_over : ℕ → Seen → Seen
policy_took_over generation s =
    with_policy (activated_in (entry s)) generation (option_map_or (λ g. policy_retired g.number s) (current_policy s) s)

abbrev pub turn_at : ℕ → Seen → Option Turn
turn_at place s = option_map (λ a. record { call = a.row.call; row = place }) (numbered s.attempts place)

abbrev pub pick_requested : ℕ → ℕ → Pick → Seen → Seen
pick_requested place generation answer s =
    with_turn (turn_at place s)
    (record s { asks = s.asks ++ record { entry = entry s; generation = generation; row = place; answer = answer } ∷ [] })

abbrev pub with_placing : Placed → Attempt → Attempt
with_placing at a = record a { row = record a.row { placed = Some at } }

abbrev pub attempt_placed : ℕ → Placed → Seen → Seen
attempt_placed place at s = marked_row (mark.Placed place) place (with_attempt (with_placing at) place s)
