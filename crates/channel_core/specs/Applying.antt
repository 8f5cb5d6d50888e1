-- Nobody has to believe these steps: which events are refused, what a result of the resolver and a Shutdown do, and a whole step,
-- one definition for each function.
use Rattle.std.specs.Prelude.{◌≡◌, ℕ, zero, suc, ◌+◌, Bool, true, false, not, ◌&&◌, ◌||◌, nat_lt, min, if◌then◌else◌, Option, Some, None, List, [], Result, Ok, Err, length, is_some}
use Rattle.std.specs.Option.{is_none, option_map}
use Rattle.std.specs.Global.{Global}
use Rattle.grpc_base.specs.Kinds.{KindsSeen}
use Rattle.grpc_base.specs.declared.address.Address.{Address}
use Rattle.grpc_base.specs.declared.event.ConfigFault.{ConfigFault}
use Rattle.grpc_base.specs.declared.event.Conn.{Conn}
use Rattle.grpc_base.specs.declared.event.Conn.TheVariants as conn
use Rattle.grpc_base.specs.declared.event.EndCause.TheVariants as ends
use Rattle.grpc_base.specs.declared.event.Event.{Event}
use Rattle.grpc_base.specs.declared.event.Event.TheVariants as event
use Rattle.grpc_base.specs.declared.event.Refusal.{Refusal}
use Rattle.grpc_base.specs.declared.event.Refusal.TheVariants as refusal
use Rattle.grpc_base.specs.declared.event.Reply.{Reply}
use Rattle.grpc_base.specs.declared.event.Reply.TheVariants as reply
use Rattle.grpc_base.specs.declared.kind.Kind.{Kind}
use Rattle.lb_policy.specs.Table.{PolicySeen}
use Rattle.picker_gate.specs.Pairs.{next_moment}
use Rattle.policy_rack.specs.Kinds.{kinds_of}
use Rattle.service_config.specs.Choice.{empty_config}
use Rattle.service_config.specs.Reading.{config_of}
use Rattle.service_config.specs.declared.config.Config.{Config}
use Rattle.subchannel.specs.Boards.{first_number, next_of_all}
use Rattle.subchannel.specs.Records.{is_dialable}
use Rattle.channel_net.specs.Steps as net
use Rattle.channel_core.specs.Arrivals.{arrived, begun_by, cancelled, dial_asked, dial_failed_by, done, finished_by, link_lost, linked_up, ping_sent, refused_for, resolve_failed, sent_to, taken_by, IsDrained}
use Rattle.channel_core.specs.Books.{begun_step, can_send_at, lacks_call, lines_of, no_ledger, slot_at}
use Rattle.channel_core.specs.Draining.{drained_limit}
use Rattle.channel_core.specs.Settling.{settled}
use Rattle.channel_core.specs.States.{Answered, StateSeen}
use Rattle.channel_core.specs.Steps.{all_stamped_gone, closed, configured_by, is_gone, links_left, overdue_ended, with_generations}
use Rattle.channel_core.specs.Tables.{can_drain_at, has_link, no_buckets, numbered}
use Rattle.channel_core.specs.Timing.{earlier, number_of}

-- a new channel
abbrev pub new_state : Global → List ℕ → List PolicySeen → StateSeen
new_state alloc authority policies = record {
  word = 0;
  drawn = 0;
  shut = false;
  resolver = true;
  held = None;
  unconfigured = false;
  book = record { alloc = alloc; authority = authority; moment = 0; ledger = no_ledger; calls = []; buckets = no_buckets };
  net = net.new_net policies;
  links = [];
  outstanding = [];
  queue = [];
  ready_waiters = [];
  dues = [];
  deadlines = [];
  awaiting_config = [];
  fail_fast = [];
  resets = [];
}

-- a result of the resolver: its config, and then its addresses go to the generation of the config's kind
abbrev pub readdressed_to : Kind → List Address → StateSeen → StateSeen
readdressed_to kind addresses s =
    all_stamped_gone (net.resolved_shut kind addresses s.net)
    (with_generations (net.resolved_stamps s.book.ledger.entry kind s.net (net.net_resolved kind addresses s.net) s.book.ledger.generations)
    (record s { net = net.net_resolved kind addresses s.net }))

abbrev pub readdressed_by : Option Kind → List Address → StateSeen → StateSeen
readdressed_by None addresses s = s
readdressed_by (Some kind) addresses s = readdressed_to kind addresses s

abbrev pub kind_held : StateSeen → Option Kind
kind_held s = option_map (λ config. config.kind) s.held

abbrev pub readdressed : List Address → StateSeen → StateSeen
readdressed addresses s = readdressed_by (kind_held s) addresses s

abbrev pub config_read : KindsSeen → Option (List ℕ) → Result Config ConfigFault
config_read kinds None = Ok empty_config
config_read kinds (Some text) = config_of kinds text

abbrev pub misconfigured : StateSeen → StateSeen
misconfigured s = record s { unconfigured = is_none s.held }

abbrev pub config_taken : Result Config ConfigFault → StateSeen → Answered
config_taken (Ok config) s = done (configured_by config s)
config_taken (Err fault) s = record { state = misconfigured s; reply = reply.BadConfig fault }

abbrev pub then_readdressed : List Address → Answered → Answered
then_readdressed addresses a = record { state = readdressed addresses a.state; reply = a.reply }

abbrev pub answered_question : StateSeen → StateSeen
answered_question s = record s { resolver = false }

abbrev pub resolved : List Address → Option (List ℕ) → StateSeen → Answered
resolved addresses config s =
    then_readdressed addresses (config_taken (config_read (kinds_of s.net.asker.rack.policies) config) (answered_question s))

-- a Shutdown: every call ends, and then every generation is retired
abbrev pub closed_at : ℕ → StateSeen → StateSeen
closed_at index s = closed ends.Shut (min (number_of index + 1) 4294967295) s

abbrev pub calls_closed : ℕ → ℕ → StateSeen → StateSeen
calls_closed zero index s = s
calls_closed (suc more) index s = calls_closed more (index + 1) (closed_at index s)

abbrev pub all_closed : StateSeen → StateSeen
all_closed s = calls_closed (length s.book.calls) 0 s

abbrev pub net_closed : StateSeen → StateSeen
net_closed s =
    links_left (net.net_shut s.net) (with_generations (net.shut_stamps s.book.ledger.entry s.net.asker.rack s.book.ledger.generations) s)

abbrev pub shut_off : StateSeen → StateSeen
shut_off s = net_closed (all_closed (record s { shut = true }))

abbrev pub shut_down : StateSeen → StateSeen
shut_down s = if s.shut then s else shut_off s

-- refusals, of which the first that stands is reported
abbrev pub link_refusal : ℕ → StateSeen → Option Refusal
link_refusal link s = if not (has_link s.links link) then Some refusal.NoSuchLink else if is_gone link s then Some refusal.LinkGone else None

abbrev pub or_room : ℕ → Option Refusal → Option Refusal
or_room room (Some why) = Some why
or_room room None = if nat_lt room 16393 then Some refusal.RoomTooSmall else None

abbrev pub open_refusal : Event → StateSeen → Option Refusal
open_refusal (event.Send number message) s = lacks_call (slot_at s.book number)
open_refusal (event.Finish number) s = lacks_call (slot_at s.book number)
open_refusal (event.Cancel number) s = lacks_call (slot_at s.book number)
open_refusal (event.Arrived link piece) s = link_refusal link s
open_refusal (event.LinkLost link) s = link_refusal link s
open_refusal (event.Ping link word) s = link_refusal link s
open_refusal (event.Drain link room) s = or_room room (link_refusal link s)
open_refusal e s = None

abbrev pub refusal_unless_shut : Event → StateSeen → Option Refusal
refusal_unless_shut e s = if s.shut then Some refusal.Shut else open_refusal e s

abbrev pub refusal_of : Event → StateSeen → Option Refusal
refusal_of event.Tick s = None
refusal_of event.Shutdown s = None
refusal_of (event.Take number) s = lacks_call (slot_at s.book number)
refusal_of e s = refusal_unless_shut e s

-- what an event that is not refused leaves and answers
abbrev pub Gives : Answered → StateSeen → Reply → Type 0
Gives a t r = (t ≡ a.state) × (r ≡ a.reply)

abbrev pub Applies : Event → StateSeen → StateSeen → Reply → Type 0
Applies (event.Begin request) s t r = Gives (begun_by request s) t r
Applies (event.Send number message) s t r = Gives (sent_to number message s) t r
Applies (event.Finish number) s t r = Gives (finished_by number s) t r
Applies (event.Take number) s t r = Gives (taken_by number s) t r
Applies (event.Cancel number) s t r = Gives (cancelled number s) t r
Applies (event.Resolved addresses config) s t r = Gives (resolved addresses config s) t r
Applies event.ResolveFailed s t r = Gives (resolve_failed s) t r
Applies event.TakeDial s t r = Gives (dial_asked s) t r
Applies (event.LinkUp sub) s t r = Gives (linked_up sub s) t r
Applies (event.DialFailed sub) s t r = Gives (dial_failed_by sub s) t r
Applies (event.Arrived link piece) s t r = Gives (arrived link piece s) t r
Applies (event.LinkLost link) s t r = Gives (link_lost link s) t r
Applies (event.Drain link room) s t r = IsDrained link (min room drained_limit) s (record { state = t; reply = r })
Applies (event.Ping link word) s t r = Gives (ping_sent link word s) t r
Applies event.Tick s t r = Gives (done s) t r
Applies event.Shutdown s t r = Gives (done (shut_down s)) t r

-- an event is answered: refused, or applied
abbrev pub AnswersBy : Option Refusal → Event → StateSeen → StateSeen → Reply → Type 0
AnswersBy (Some why) e s t r = Gives (refused_for why s) t r
AnswersBy None e s t r = Applies e s t r

abbrev pub Answers : Event → StateSeen → StateSeen → Reply → Type 0
Answers e s t r = AnswersBy (refusal_of e s) e s t r

-- a step: the calls whose deadline has come end, the event is answered, and the channel settles
abbrev pub begun_at : ℕ → ℕ → ℕ → StateSeen → StateSeen
begun_at entry moment word s = record s { book = begun_step entry moment s.book; word = word; drawn = 0 }

pub record Stepped (entry moment word : ℕ) (e : Event) (old new : StateSeen) (r : Reply) : Type 0 where
  pub answered : StateSeen
  pub answers : Answers e (overdue_ended (begun_at entry moment word old)) answered r
  pub settles : new ≡ settled answered

-- the channel's connectivity state
abbrev pub conn_without : Bool → Option Conn → Conn
conn_without unconfigured (Some state) = state
conn_without unconfigured None = if unconfigured then conn.Failure else conn.Idle

abbrev pub conn_of : StateSeen → Conn
conn_of s = if s.shut then conn.Shutdown else conn_without s.unconfigured (net.net_state s.net)

-- what the channel waits for
abbrev pub next_of : StateSeen → Option ℕ
next_of s = earlier (earlier (next_moment s.dues) (next_moment s.deadlines)) (next_of_all s.net.board)

abbrev pub is_dialable_in : StateSeen → Bool
is_dialable_in s = is_some (first_number is_dialable s.net.board)

abbrev pub can_drain_in : ℕ → StateSeen → Bool
can_drain_in link s = not s.shut && is_none (link_refusal link s) && can_drain_at (lines_of s.book) (numbered s.links link)

abbrev pub can_send_in : ℕ → ℕ → StateSeen → Bool
can_send_in len number s = s.shut || can_send_at len (slot_at s.book number)
