-- Subchannels: their states, dials and links ("gRPC Connectivity Semantics and API"; "Connection Backoff Protocol"; RFC 9113, sections 3.4, 6.5 and
-- 6.8).
-- Example: a dial at 0 s is given up at 20 s, and its wait is over at 1 s. It fails at 3 s: TRANSIENT_FAILURE, and in the same entry IDLE, since 1 s
-- has passed. The next dial, at 3 s with the random word 0, has a wait of 1.6 s less a fifth: over at 4.28 s, and the dial is given up at 23 s.
use Rattle.std.specs.List.{list_any}
use Rattle.std.specs.Option.{option_map_or}
use Rattle.std.specs.Prelude.{Bool, None, Option, Some, [], false, find, if◌then◌else◌, is_none, is_some, length, map, max, nat_le, not, option_and_then, option_map, true, ℕ, ◌&&◌, ◌++◌, ◌+◌, ◌==◌, ◌||◌, ◌∷◌}
use Rattle.grpc_base.specs.Backoff.{connect_least, connect_wait}
use Rattle.grpc_base.specs.declared.address.Address.{Address}
use Rattle.grpc_base.specs.declared.event.Conn.{Conn}
use Rattle.lb_policy.specs.Steps.{failed_after}
use Rattle.lb_policy.specs.Table.{is_one_of, is_ready, wish_of}
use Rattle.session_actions.specs.Entries.{drawn_if, entry, next_word, now, replied}
use Rattle.session_actions.specs.Links.{has_settings, is_retiring, link_over, wants_resolution}
use Rattle.session_actions.specs.Policies.{is_failure, is_live_policy, is_same_address, is_shutdown, listed, live_policies, live_sub, policy_of, view_of}
use Rattle.session_actions.specs.Words.{changed, first_of, holds, numbered}
use Rattle.session_actions.specs.declared.action.Action.{Action}
use Rattle.session_actions.specs.declared.link.Link.{Link}
use Rattle.session_actions.specs.declared.policy.PolicyUse.{PolicyUse}
use Rattle.session_actions.specs.declared.seen.Seen.{Seen}
use Rattle.session_actions.specs.declared.subchannel.Subchannel.{Subchannel}
use Rattle.session_actions.specs.declared.action.Action.TheVariants as action
use Rattle.grpc_base.specs.declared.event.Conn.TheVariants as conn
use Rattle.session_actions.specs.declared.link.LinkOver.TheVariants as over
use Rattle.grpc_base.specs.declared.event.Reply.TheVariants as reply

-- a subchannel changes, and the live policies that have it in their views note its state
abbrev pub noted_state : Seen → Subchannel → PolicyUse → PolicyUse
noted_state s b g =
    if is_live_policy g then record g { failed = failed_after b.number b.state g.failed (view_of g.addresses s) } else g

abbrev pub noted_by_policies : Subchannel → Seen → Seen
noted_by_policies b s = record s { policies = map (noted_state s b) s.policies }

abbrev pub with_sub : (Subchannel → Subchannel) → ℕ → Seen → Seen
with_sub f sub s =
    let t = record s { subs = changed f sub s.subs } in
    option_map_or (λ b. noted_by_policies b t) (numbered t.subs sub) t

abbrev pub in_state : Conn → Subchannel → Subchannel
in_state state b = record b { state = state }

abbrev pub without_link : Conn → Subchannel → Subchannel
without_link state b = record b { state = state; until = None; link = None }

abbrev pub is_idle : Conn → Bool
is_idle conn.Idle = true
is_idle _ = false

abbrev pub is_connecting : Conn → Bool
is_connecting conn.Connecting = true
is_connecting _ = false

-- one that is to be dialled, and one whose dial is under way
abbrev pub is_dialable : Subchannel → Bool
is_dialable b = is_connecting b.state && is_none b.until

abbrev pub is_dialling : Subchannel → Bool
is_dialling b = is_connecting b.state && is_some b.until && is_none b.link

-- the server's SETTINGS came on its link; its link is over, or takes no further stream
abbrev pub link_of_sub : Subchannel → Seen → Option Link
link_of_sub b s = option_and_then (numbered s.links) b.link

abbrev pub is_to_be_ready : Seen → Subchannel → Bool
is_to_be_ready s b = is_connecting b.state && holds has_settings (link_of_sub b s)

abbrev pub is_going_down : Link → Bool
is_going_down l = is_some l.over || is_retiring l

abbrev pub is_to_go_down : Seen → Subchannel → Bool
is_to_go_down s b = holds is_going_down (link_of_sub b s)

abbrev pub link_action : Seen → Subchannel → Option Action
link_action s b =
    if is_to_be_ready s b then Some (action.SettingsArrive b.number)
    else if is_to_go_down s b then Some (action.LinkDown b.number)
    else None

abbrev pub next_of_links : Seen → Option Action
next_of_links s = first_of (link_action s) s.subs

-- a subchannel that no list has is shut down, and each address that is listed has one
abbrev pub is_unlisted : Seen → Subchannel → Bool
is_unlisted s b = not (is_shutdown b.state) && not (list_any (is_same_address b.address) (listed s))

abbrev pub next_shut : Seen → Option Action
next_shut s = option_map (λ b. action.SubchannelShut b.number) (find (is_unlisted s) s.subs)

abbrev pub next_added : Seen → Option Action
next_added s = option_map (λ address. action.SubchannelAdded address) (find (λ address. is_none (live_sub s address)) (listed s))

-- by the clock: a connection that took too long, a backoff that is over
abbrev pub is_too_late : Seen → Subchannel → Bool
is_too_late s b = is_connecting b.state && holds (λ t. nat_le t (now s)) b.until

abbrev pub is_rested : Seen → Subchannel → Bool
is_rested s b = is_failure b.state && holds (λ t. nat_le t (now s)) b.again

abbrev pub clock_action : Seen → Subchannel → Option Action
clock_action s b =
    if is_too_late s b then Some (action.ConnectTimesOut b.number)
    else if is_rested s b then Some (action.BackoffEnds b.number)
    else None

abbrev pub next_of_clock : Seen → Option Action
next_of_clock s = first_of (clock_action s) s.subs

-- an IDLE one that a live policy wishes connects
abbrev pub is_wished : Seen → Subchannel → Bool
is_wished s b = list_any (λ g. is_one_of (wish_of (policy_of g s)) b.number) (live_policies s)

abbrev pub next_connected : Seen → Option Action
next_connected s = option_map (λ b. action.SubchannelConnects b.number) (find (λ b. is_idle b.state && is_wished s b) s.subs)

-- a dial is taken: of the lowest that is to be dialled. It is given up after its wait, or after 20 s where that is longer (MIN_CONNECT_TIMEOUT); if
-- it fails, the subchannel stays in TRANSIENT_FAILURE until the wait is over. The wait grows with each dial since the last READY, and from the second
-- on a random word spreads it (INITIAL_BACKOFF, MULTIPLIER, MAX_BACKOFF, JITTER)
abbrev pub dial_wait : Subchannel → Seen → ℕ
dial_wait b s = connect_wait (b.dials + 1) (if b.dials == 0 then 0 else next_word s)

abbrev pub dial_action : Seen → Subchannel → Action
dial_action s b =
    action.DialTaken b.number (now s + dial_wait b s) (now s + max (dial_wait b s) connect_least)

abbrev pub take_dial : Seen → Action
take_dial s = option_map_or (dial_action s) (find is_dialable s.subs) (action.EventAnswered reply.NotYet)

-- what these add
abbrev pub with_dial : ℕ → ℕ → Subchannel → Subchannel
with_dial again until b = record b { dials = b.dials + 1; again = Some again; until = Some until }

abbrev pub dial_taken_of : ℕ → ℕ → Seen → Subchannel → Seen
dial_taken_of again until s b =
    replied (reply.Dial b.number b.address until)
    (drawn_if (not (b.dials == 0)) (with_sub (with_dial again until) b.number s))

abbrev pub dial_taken : ℕ → ℕ → ℕ → Seen → Seen
dial_taken sub again until s = option_map_or (dial_taken_of again until s) (numbered s.subs sub) s

abbrev pub dial_failed : ℕ → Seen → Seen
dial_failed sub s = replied reply.Done (with_sub (without_link conn.Failure) sub (wants_resolution s))

abbrev pub new_link : ℕ → ℕ → Seen → Link
new_link number sub s = record {
  number = number;
  sub = sub;
  up = entry s;
  received = [];
  traffic = [];
  owed = [];
  over = None;
  gone = None;
}

abbrev pub link_up : ℕ → Seen → Seen
link_up sub s =
    let number = length s.links + 1 in
    replied (reply.Link number)
    (with_sub (λ b. record b { link = Some number }) sub (record s { links = s.links ++ new_link number sub s ∷ [] }))

abbrev pub link_timed_out : Subchannel → Seen → Seen
link_timed_out b s = option_map_or (λ link. link_over over.TimedOut link s) b.link s

abbrev pub connect_timed_out : ℕ → Seen → Seen
connect_timed_out sub s =
    with_sub (without_link conn.Failure) sub
    (wants_resolution (option_map_or (λ b. link_timed_out b s) (numbered s.subs sub) s))

abbrev pub settings_arrived : ℕ → Seen → Seen
settings_arrived sub s = with_sub (λ b. record b { state = conn.Ready; dials = 0; until = None }) sub s

abbrev pub gone_down : Subchannel → Subchannel
gone_down b = without_link (if is_ready b.state then conn.Idle else conn.Failure) b

abbrev pub new_sub : Address → ℕ → Subchannel
new_sub address number = record {
  number = number;
  address = address;
  state = conn.Idle;
  dials = 0;
  again = None;
  until = None;
  link = None;
}

abbrev pub sub_added : Address → Seen → Seen
sub_added address s = record s { subs = s.subs ++ new_sub address (length s.subs + 1) ∷ [] }
