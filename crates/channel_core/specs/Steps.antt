-- Nobody has to believe these steps: what the code does to the channel, one definition for each function.
use Rattle.std.specs.Prelude.{ℕ, ◌+◌, ◌*◌, ◌^◌, ◌%◌, ◌==◌, Bool, true, false, not, ◌&&◌, ◌||◌, nat_lt, if◌then◌else◌, Option, Some, None, List, [], ◌∷◌, ◌++◌, length}
use Rattle.std.specs.Option.{is_some, is_none}
use Rattle.std.specs.BTreeMap.{insert_entry}
use Rattle.std.specs.BTreeSet.{insert_key}
use Rattle.std.specs.Ordering.{nat_cmp}
use Rattle.std.specs.Set.{remove_key}
use Rattle.grpc_base.specs.Requests.{RequestSeen}
use Rattle.grpc_base.specs.declared.event.Conn.{Conn}
use Rattle.grpc_base.specs.declared.event.Conn.TheVariants as conn
use Rattle.grpc_base.specs.declared.event.EndCause.{EndCause}
use Rattle.grpc_base.specs.declared.event.EndCause.TheVariants as ends
use Rattle.grpc_base.specs.declared.code.Code.TheVariants as code
use Rattle.grpc_base.specs.declared.plan.Chosen.{Chosen}
use Rattle.grpc_base.specs.declared.plan.Pushback.TheVariants as pushback
use Rattle.attempt_ledger.specs.declared.ledger.Ask.{Ask}
use Rattle.attempt_ledger.specs.declared.ledger.Generation.{Generation}
use Rattle.attempt_ledger.specs.declared.ledger.LinkSeen.{LinkSeen}
use Rattle.attempt_ledger.specs.declared.news.EndNews.{EndNews}
use Rattle.attempt_ledger.specs.declared.news.News.{News}
use Rattle.attempt_ledger.specs.declared.news.News.TheVariants as news
use Rattle.attempt_ledger.specs.declared.row.RowCause.TheVariants as cause
use Rattle.picker_gate.specs.Pairs.{is_same, next_after, pair_cmp}
use Rattle.service_config.specs.declared.config.Config.{Config}
use Rattle.service_config.specs.Choice.{chosen_for}
use Rattle.channel_net.specs.declared.replies.Asked.{Asked}
use Rattle.channel_net.specs.declared.replies.Dialing.{Dialing}
use Rattle.channel_net.specs.Lists as net_lists
use Rattle.channel_net.specs.Steps as net
use Rattle.channel_net.specs.Steps.{NetSeen, NetLeft}
use Rattle.ledger_stamps.specs.Steps.{changed_at, gone_link}
use Rattle.call_core.specs.declared.act.CallAct.{CallAct}
use Rattle.call_core.specs.declared.act.CallAct.TheVariants as act
use Rattle.call_core.specs.Steps as call
use Rattle.channel_core.specs.declared.state.slots.CallSlot.{CallSlot}
use Rattle.channel_core.specs.Books.{BookActs, book_acted, book_asked, book_begun, book_configured, book_followed, call_of, deadline_of, deadline_set, due_at, due_forgotten, due_set, has_drawn, has_stream, link_at, link_of, row_at, slot_at, timers_set, waits_at}
use Rattle.channel_core.specs.States.{StateSeen}
use Rattle.channel_core.specs.Timing.{due_keys, first_pair, later, number_of, sorted_into, timer_moved}
use Rattle.channel_core.specs.Tables.{marked_dead_in, is_dead, is_retiring, reset_in, retired_in, sealed_in}

-- the list of the ledger's links changes
abbrev pub with_ledger_links : List LinkSeen → StateSeen → StateSeen
with_ledger_links links s = record s { book = record s.book { ledger = record s.book.ledger { links = links } } }

abbrev pub with_generations : List Generation → StateSeen → StateSeen
with_generations generations s = record s { book = record s.book { ledger = record s.book.ledger { generations = generations } } }

-- a link is gone
abbrev pub sub_of : Option LinkSeen → ℕ
sub_of None = 0
sub_of (Some link) = link.sub

abbrev pub is_shut_state : Option Conn → Bool
is_shut_state None = true
is_shut_state (Some conn.Idle) = false
is_shut_state (Some conn.Connecting) = false
is_shut_state (Some conn.Ready) = false
is_shut_state (Some conn.Failure) = false
is_shut_state (Some conn.Shutdown) = true

abbrev pub is_of_shut_sub : ℕ → StateSeen → Bool
is_of_shut_sub link s = is_shut_state (net_lists.state_at s.net.board (sub_of (link_at s.book link)))

abbrev pub is_on : ℕ → Option (ℕ × ℕ) → Bool
is_on link None = false
is_on link (Some pair) = pair.0 == link

abbrev pub has_outstanding : ℕ → StateSeen → Bool
has_outstanding link s = is_on link (next_after s.outstanding (link, 0))

abbrev pub is_gone : ℕ → StateSeen → Bool
is_gone link s = is_dead s.links link || ((is_retiring s.links link || is_of_shut_sub link s) && not (has_outstanding link s))

abbrev pub stamped_gone : ℕ → StateSeen → StateSeen
stamped_gone link s =
    if is_gone link s then with_ledger_links (changed_at (gone_link s.book.ledger.entry) s.book.ledger.links link) s else s

abbrev pub all_stamped_gone : List ℕ → StateSeen → StateSeen
all_stamped_gone [] s = s
all_stamped_gone (link ∷ links) s = all_stamped_gone links (stamped_gone link s)

-- an attempt is no longer outstanding
abbrev pub left_on : ℕ → ℕ → StateSeen → StateSeen
left_on link row s = stamped_gone link (record s { outstanding = remove_key (is_same (link, row)) s.outstanding })

-- the acts of a call
abbrev pub reset_on : ℕ → ℕ → StateSeen → StateSeen
reset_on link row s = record s { links = reset_in link row s.links; resets = s.resets ++ link ∷ [] }

abbrev pub cut_on : ℕ → ℕ → StateSeen → StateSeen
cut_on link row s = left_on link row (reset_on link row s)

abbrev pub cut : ℕ → StateSeen → StateSeen
cut row s = cut_on (link_of (row_at s.book row)) row s

abbrev pub unqueued : ℕ → ℕ → StateSeen → StateSeen
unqueued call row s = record s { queue = remove_key (is_same (call, row)) s.queue; ready_waiters = remove_key (is_same (call, row)) s.ready_waiters }

abbrev pub queued : ℕ → ℕ → StateSeen → StateSeen
queued call row s = record s {
  ready_waiters = if waits_at (slot_at s.book call) then insert_key pair_cmp s.ready_waiters (call, row) else s.ready_waiters;
  queue = if waits_at (slot_at s.book call) then s.queue else insert_key pair_cmp s.queue (call, row);
}

abbrev pub given_config : ℕ → StateSeen → StateSeen
given_config call s = record s { awaiting_config = remove_key (is_same (0, call)) s.awaiting_config; fail_fast = remove_key (is_same (0, call)) s.fail_fast }

abbrev pub act_done : ℕ → CallAct → StateSeen → StateSeen
act_done call (act.Cut row) s = cut row s
act_done call (act.Drop row) s = unqueued call row s
act_done call (act.Queue row) s = queued call row s
act_done call (act.End why) s = given_config call s

abbrev pub acts_done : ℕ → List CallAct → StateSeen → StateSeen
acts_done call [] s = s
acts_done call (a ∷ acts) s = acts_done call acts (act_done call a s)

-- the timers of a call
abbrev pub timers_moved_to : ℕ → Option CallSlot → StateSeen → StateSeen
timers_moved_to call slot s = record s {
  dues = timer_moved call (due_set slot) (due_at slot) s.dues;
  deadlines = timer_moved call (deadline_set slot) (deadline_of slot) s.deadlines;
  book = timers_set (due_at slot) (deadline_of slot) call s.book;
}

abbrev pub timers_moved : ℕ → StateSeen → StateSeen
timers_moved call s = timers_moved_to call (slot_at s.book call) s

abbrev pub followed : ℕ → List CallAct → StateSeen → StateSeen
followed call acts s = timers_moved call (acts_done call acts s)

-- resets are sealed
abbrev pub sealed_one : ℕ → StateSeen → StateSeen
sealed_one link s = record s { links = sealed_in link s.links }

abbrev pub resets_taken : StateSeen → StateSeen
resets_taken s = record s { resets = [] }

abbrev pub links_sealed : List ℕ → StateSeen → StateSeen
links_sealed [] s = s
links_sealed (link ∷ links) s = links_sealed links (sealed_one link s)

abbrev pub sealed : StateSeen → StateSeen
sealed s = links_sealed s.resets (resets_taken s)

-- a call does something, and the channel follows it
abbrev pub with_book : BookActs → ℕ → StateSeen → StateSeen
with_book b number s = followed number b.acts (record s { book = b.book })

abbrev pub call_asked : (call.Stepped → call.Stepped) → ℕ → StateSeen → StateSeen
call_asked f number s = with_book (book_asked f number s.book) number s

abbrev pub timed_out : ℕ → StateSeen → StateSeen
timed_out number s = sealed (call_asked (call.timed_out s.book.moment) number s)

abbrev pub closed : EndCause → ℕ → StateSeen → StateSeen
closed why number s = sealed (call_asked (call.closed_by why s.book.moment) number s)

abbrev pub all_timed_out : List ℕ → StateSeen → StateSeen
all_timed_out [] s = s
all_timed_out (key ∷ calls) s = all_timed_out calls (timed_out (number_of key) s)

unfoldable pub overdue_ended : StateSeen → StateSeen
overdue_ended s = all_timed_out (due_keys s.book.moment s.deadlines) (record s { deadlines = later s.book.moment s.deadlines })

-- draws
abbrev pub next_word : StateSeen → ℕ
next_word s = (s.word + (s.drawn * 11400714819323198485) % 2 ^ 64) % 2 ^ 64

abbrev pub drawn_if : Bool → StateSeen → StateSeen
drawn_if drew s = record s { drawn = if drew then (s.drawn + 1) % 2 ^ 64 else s.drawn }

-- the applications
abbrev pub unconfigured_added : ℕ → Bool → StateSeen → StateSeen
unconfigured_added number waits s = record s {
  awaiting_config = insert_key pair_cmp s.awaiting_config (0, number);
  fail_fast = if waits then s.fail_fast else insert_key pair_cmp s.fail_fast (0, number);
}

abbrev pub says_yes : Option Bool → Bool
says_yes None = false
says_yes (Some says) = says

abbrev pub begun_as : ℕ → RequestSeen → StateSeen → StateSeen
begun_as number request s = timers_moved number (unconfigured_added number (says_yes request.wait) (record s { book = book_begun request s.book }))

abbrev pub begun : RequestSeen → StateSeen → StateSeen
begun request s = begun_as (length s.book.ledger.calls + 1) request s

-- what comes on links: the loss of a link, with the end of each attempt on it
abbrev pub read_of : Option LinkSeen → ℕ
read_of None = 0
read_of (Some link) = link.read

abbrev pub loss : Bool → ℕ → EndNews
loss was_sent seen = record {
  code = code.Unavailable;
  text = [];
  meta = [];
  pushback = pushback.None;
  unseen = not was_sent;
  seen = seen;
  cause = if was_sent then cause.Lost else cause.Unsent;
}

abbrev pub loss_of : ℕ → ℕ → StateSeen → EndNews
loss_of link row s = loss (has_stream (row_at s.book row)) (read_of (link_at s.book link))

-- a call is notified of what came for one of its rows; a draw is counted
abbrev pub reported_acts : BookActs → ℕ → ℕ → StateSeen → StateSeen
reported_acts b number row s = with_book b number (drawn_if (has_drawn (row_at b.book row)) s)

abbrev pub reported_to : ℕ → ℕ → News → StateSeen → StateSeen
reported_to number row n s = reported_acts (book_acted (call.received_news row n s.book.moment (next_word s)) number s.book) number row s

abbrev pub reported : ℕ → News → StateSeen → StateSeen
reported row n s = reported_to (call_of (row_at s.book row)) row n s

abbrev pub left_after : ℕ → ℕ → StateSeen → StateSeen
left_after link row s = record s { outstanding = remove_key (is_same (link, row)) s.outstanding }

-- a link of a subchannel goes down
abbrev pub downed : ℕ → StateSeen → StateSeen
downed link s = record s { net = net.net_down (sub_of (link_at s.book link)) link s.net }

abbrev pub marked_dead : ℕ → StateSeen → StateSeen
marked_dead link s = record (downed link s) { links = marked_dead_in link s.links; resolver = true }

abbrev pub retired : ℕ → StateSeen → StateSeen
retired link s = stamped_gone link (record (downed link s) { links = retired_in link s.links })

-- the first outstanding row of a link after another
abbrev pub row_on : ℕ → Option (ℕ × ℕ) → Option ℕ
row_on link None = None
row_on link (Some pair) = if pair.0 == link then Some pair.1 else None

abbrev pub next_on : ℕ → ℕ → StateSeen → Option ℕ
next_on link row s = row_on link (next_after s.outstanding (link, row))

-- the server's first SETTINGS
abbrev pub prefaced : ℕ → StateSeen → StateSeen
prefaced link s = record s { net = net.net_ready (sub_of (link_at s.book link)) link s.net }

-- the ends among them, by the rows' places
abbrev pub end_kept : News → List (ℕ × EndNews) → List (ℕ × EndNews)
end_kept (news.Ended tag end) ends = insert_entry nat_cmp ends tag end
end_kept news.Ready ends = ends
end_kept news.Retiring ends = ends
end_kept (news.Broken why) ends = ends
end_kept (news.Head tag meta seen) ends = ends
end_kept (news.Message tag octets seen) ends = ends
end_kept (news.TooLarge tag seen) ends = ends

abbrev pub ends_kept : List News → List (ℕ × EndNews) → List (ℕ × EndNews)
ends_kept [] ends = ends
ends_kept (n ∷ ns) ends = ends_kept ns (end_kept n ends)

-- what the resolver and the dialers report
abbrev pub links_left : NetLeft → StateSeen → StateSeen
links_left l s = all_stamped_gone l.gone (record s { net = l.net })

abbrev pub configured_by : Config → StateSeen → StateSeen
configured_by config s = record s { book = book_followed config.throttle s.book; held = Some config }

abbrev pub unresolved : StateSeen → StateSeen
unresolved s = record s { resolver = false; unconfigured = s.unconfigured || is_none s.held }

abbrev pub dialed : StateSeen → StateSeen
dialed s = record s { net = net.net_dialed s.book.moment (next_word s) s.net }

abbrev pub dial_draw : Option Dialing → StateSeen → StateSeen
dial_draw None s = s
dial_draw (Some d) s = drawn_if d.drew s

abbrev pub dial_taken : StateSeen → StateSeen
dial_taken s = dial_draw (net.dial_answer s.book.moment (next_word s) s.net) (dialed s)

-- rule 4: the channel settles
abbrev pub limit_passed : ℕ → StateSeen → StateSeen
limit_passed link s = stamped_gone link (record s { links = marked_dead_in link s.links; resolver = true })

abbrev pub limits_passed : List ℕ → StateSeen → StateSeen
limits_passed [] s = s
limits_passed (link ∷ links) s = limits_passed links (limit_passed link s)

abbrev pub clocked_to : NetLeft → StateSeen → StateSeen
clocked_to l s = limits_passed l.gone (record s { net = l.net })

unfoldable pub clocked : StateSeen → StateSeen
clocked s = clocked_to (net.net_clocked s.book.moment s.net) s

unfoldable pub net_settled : StateSeen → StateSeen
net_settled s = links_left (net.net_settled s.net) (with_generations (net.settled_stamps s.book.ledger.entry s.net s.book.ledger.generations) s)

-- calls without a configuration
abbrev pub chosen_in : Option Config → Option CallSlot → Option Chosen
chosen_in None slot = None
chosen_in (Some config) None = None
chosen_in (Some config) (Some slot) = Some (chosen_for config slot.call.request.path)

abbrev pub configured_as : ℕ → Option Chosen → StateSeen → StateSeen
configured_as number None s = s
configured_as number (Some chosen) s = with_book (book_configured chosen number s.book) number s

abbrev pub configured_call : ℕ → StateSeen → StateSeen
configured_call number s = configured_as number (chosen_in s.held (slot_at s.book number)) s

abbrev pub all_configured : List ℕ → StateSeen → StateSeen
all_configured [] s = s
all_configured (key ∷ calls) s = all_configured calls (configured_call (number_of key) s)

abbrev pub all_unconfigured : List ℕ → StateSeen → StateSeen
all_unconfigured [] s = s
all_unconfigured (key ∷ calls) s = all_unconfigured calls (closed ends.NoConfig (number_of key) s)

unfoldable pub unconfigured_served : StateSeen → StateSeen
unconfigured_served s =
    if is_some s.held then all_configured (due_keys 0 s.awaiting_config) (record s { awaiting_config = later 0 s.awaiting_config; fail_fast = [] })
    else if s.unconfigured then all_unconfigured (due_keys 0 s.fail_fast) (record s { fail_fast = later 0 s.fail_fast })
    else s

-- due attempts, by the calls' numbers
abbrev pub made_one : ℕ → StateSeen → StateSeen
made_one number s = sealed (call_asked (call.made_due s.book.moment) number s)

abbrev pub all_made : List ℕ → StateSeen → StateSeen
all_made [] s = s
all_made (key ∷ calls) s = all_made calls (made_one (number_of key) s)

-- the calls whose due moment has come, sorted, and their timers gone
abbrev pub due_gone : ℕ → StateSeen → StateSeen
due_gone call s = record s { book = due_forgotten call s.book }

abbrev pub dues_forgotten : List ℕ → StateSeen → StateSeen
dues_forgotten [] s = s
dues_forgotten (key ∷ calls) s = dues_forgotten calls (due_gone (number_of key) s)

abbrev pub dues_taken : StateSeen → StateSeen
dues_taken s = dues_forgotten (due_keys s.book.moment s.dues) (record s { dues = later s.book.moment s.dues })

-- the queue: who is served next
abbrev pub served_in : Option Conn → ℕ × ℕ → StateSeen → Option (ℕ × ℕ)
served_in None last s = None
served_in (Some conn.Idle) last s = None
served_in (Some conn.Connecting) last s = None
served_in (Some conn.Ready) last s = first_pair (next_after s.queue last) (next_after s.ready_waiters last)
served_in (Some conn.Failure) last s = next_after s.queue last
served_in (Some conn.Shutdown) last s = None

abbrev pub next_served : ℕ × ℕ → StateSeen → Option (ℕ × ℕ)
next_served last s = served_in (net.net_state s.net) last s

-- one pick request
abbrev pub with_ask : Ask → StateSeen → StateSeen
with_ask a s = record s { book = record s.book { ledger = record s.book.ledger { asks = s.book.ledger.asks ++ a ∷ [] } } }

abbrev pub asked_by : ℕ → Asked → StateSeen → StateSeen
asked_by row a s = with_ask (record { entry = s.book.ledger.entry; generation = a.generation; row = row; answer = a.pick }) s

-- a state, and whether anything moved
pub record Moved : Type 0 where
  pub state : StateSeen
  pub moved : Bool

abbrev pub pick_failed : ℕ → ℕ → StateSeen → StateSeen
pick_failed number row s =
    sealed (reported_acts (book_acted (call.pick_failed row s.book.moment (next_word s)) number s.book) number row (unqueued number row s))

-- a round: due attempts, then the queue
abbrev pub dues_made : List (ℕ × ℕ) → StateSeen → Moved
dues_made calls s = record { state = all_made (due_keys 0 calls) s; moved = nat_lt 0 (length (due_keys 0 calls)) }

abbrev pub round_made : StateSeen → Moved
round_made s = dues_made (sorted_into [] (due_keys s.book.moment s.dues)) (dues_taken s)
