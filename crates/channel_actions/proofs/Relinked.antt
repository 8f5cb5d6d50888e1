-- What is queued on links, or stamped on them, leaves all that calls and attempts have of them: what passed on them is the same.
use Rattle.std.proofs.Common.{◌≡◌, ◌∷◌, ap, refl, subst, sym, ◌∙◌, true, List, [], Option, None, Some, ℕ, filter, is_some}
use Rattle.std.specs.List.{AllByRecursion, list_all}
use Rattle.std.specs.Option.{option_map, option_map_or}
use Rattle.std.specs.Prelude.{map, option_and_then}
use Rattle.attempt_buffer.specs.Buffers.{Buffered, taken_by, text_of}
use Rattle.attempt_ledger.specs.declared.row.Placed.{Placed}
use Rattle.call_actions.specs.Order.{IsInOrder, IsInTurn}
use Rattle.call_actions.specs.Sees.{AttemptsAgree, DuesAgree, Sees}
use Rattle.call_core.specs.Laws as channel
use Rattle.call_core.specs.Steps.{Stepped}
use Rattle.channel_actions.proofs.Dues.{due_same, in_dues_same, state_same}
use Rattle.channel_actions.specs.Agrees.{Agrees}
use Rattle.channel_actions.specs.Calls.{HasSlot, lent_to}
use Rattle.channel_actions.specs.Clock.{DrawsAlike}
use Rattle.channel_actions.specs.Columns.{links_noted}
use Rattle.channel_actions.proofs.KeptSessions.Beside.{kept_linked}
use Rattle.channel_actions.specs.KeptSessions.Kept.{NumbersCountUp}
use Rattle.channel_actions.specs.Links.{SeesLinks}
use Rattle.channel_core.specs.States.{StateSeen}
use Rattle.channel_core.specs.declared.state.links.LinkSlot.{LinkSlot}
use Rattle.h2_link.specs.Queues.{Queue}
use Rattle.channel_actions.specs.Readers.{IsReaderOf}
use Rattle.grpc_base.specs.declared.event.Reply.{Reply}
use Rattle.grpc_frame.specs.Messages.{framed_all}
use Rattle.grpc_link.specs.Readers.{ReaderSeen}
use Rattle.h2_frame.specs.Frames.{FrameSeen}
use Rattle.h2_link.specs.Feeds.{Line}
use Rattle.h2_link.specs.Wire.{Wire}
use Rattle.h2_link.specs.declared.live.LiveStream.{LiveStream}
use Rattle.link_actions.specs.Sees.{StreamsAreFed, StreamsAreLive, IsFed, SeesLink, SeesOwed, SeesRead, by_stream}
use Rattle.session_actions.specs.Attempts.{commitment, is_of, is_outstanding}
use Rattle.session_actions.specs.Deliveries.{response_items}
use Rattle.session_actions.specs.Links.{link_of, read_bytes}
use Rattle.session_actions.specs.Responses.{is_read_by, no_response, response, response_by, response_on}
use Rattle.session_actions.specs.Sessions.{link_seen}
use Rattle.session_actions.specs.Words.{numbered}
use Rattle.session_actions.specs.Reading.{used}
use Rattle.session_actions.specs.Writing.{drained, is_control, streaming_on, waiting_on}
use Rattle.session_actions.specs.declared.attempt.Attempt.{Attempt}
use Rattle.session_actions.specs.declared.call.Call.{Call}
use Rattle.session_actions.specs.declared.due.DueState.{DueState}
use Rattle.session_actions.specs.declared.entry.OpenEntry.{OpenEntry}
use Rattle.session_actions.specs.declared.link.Link.{Link}
use Rattle.session_actions.specs.declared.response.Response.{Response}
use Rattle.session_actions.specs.declared.seen.Seen.{Seen}
use Rattle.session_order.proofs.Lists.{some_map}
use Rattle.link_actions.specs.StreamActions.Sees.{ResponsesAreReceived, SeesStreams}
use Rattle.call_actions.specs.TakeActions.Serves as serves
use Rattle.call_actions.specs.TakeActions.Serves.{Holds, IsAt, IsLeft, Serves, came, drained_so_far, passed}

all_map : {X : Type 0} (P Q : X → Type 0) → ((x : X) → P x → Q x) → (xs : List X) → AllByRecursion P xs → AllByRecursion Q xs
all_map P Q f [] h = tt
all_map P Q f (x ∷ xs) h = (f x h.0, all_map P Q f xs h.1)

or_same : {X Y : Type 0} (f g : X → Y) (d : Y) → ((x : X) → f x ≡ g x) → (o : Option X) → option_map_or f o d ≡ option_map_or g o d
or_same f g d same None = refl
or_same f g d same (Some x) = same x

module _ (s : Seen) (ls : List Link) (g : ℕ → Link → Option ℕ) (w : ℕ → Link → List FrameSeen) where
  abbrev pub h : ℕ → Link → Link
  h k l = record l { gone = g k l; owed = w k l }

  abbrev pub t : Seen
  t = record s { links = ls }

  module _ (is : (k : ℕ) → numbered ls k ≡ option_map (h k) (numbered s.links k)) where
    through_by : {Y : Type 0} (F : Link → Y) (d : Y) → ((k : ℕ) (l : Link) → F (h k l) ≡ F l) → (k : ℕ) (o : Option Link)
        → option_map_or F (option_map (h k) o) d ≡ option_map_or F o d
    through_by F d same k None = refl
    through_by F d same k (Some l) = same k l

    through_placed : {Y : Type 0} (F : Link → Y) (d : Y) → ((k : ℕ) (l : Link) → F (h k l) ≡ F l) → (o : Option Placed)
        → option_map_or F (option_and_then (λ (at : Placed). numbered ls at.link) o) d ≡ option_map_or F (option_and_then (λ (at : Placed). numbered s.links at.link) o) d
    through_placed F d same None = refl
    through_placed F d same (Some at) =
        ap (λ (o : Option Link). option_map_or F o d) (is at.link) ∙ through_by F d same at.link (numbered s.links at.link)

    drained_by : (a : Attempt) (o : Option ℕ)
        → option_map_or (λ (stream : ℕ). option_map_or (used stream) (link_of a t) 0) o 0 ≡ option_map_or (λ (stream : ℕ). option_map_or (used stream) (link_of a s) 0) o 0
    drained_by a None = refl
    drained_by a (Some stream) = through_placed (used stream) 0 (λ k l. refl) a.row.placed

    pub drained_same : (a : Attempt) → drained a t ≡ drained a s
    drained_same a = drained_by a a.row.stream

    response_same_by : (a : Attempt) (o : Option ℕ) → response_by a t o ≡ response_by a s o
    response_same_by a None = refl
    response_same_by a (Some stream) = through_placed (response_on a stream s) no_response (λ k l. refl) a.row.placed

    pub response_same : (a : Attempt) → response a t ≡ response a s
    response_same a = response_same_by a a.row.stream

    came_same : (c : Call) → came c t ≡ came c s
    came_same c =
        or_same (λ (k : Attempt). response_items (response k t)) (λ (k : Attempt). response_items (response k s)) [] (λ k. ap response_items (response_same k))
        (commitment c s)

    so_far_same : (c : Call) → drained_so_far c t ≡ drained_so_far c s
    so_far_same c = or_same (λ (k : Attempt). drained k t) (λ (k : Attempt). drained k s) 0 drained_same (commitment c s)

    abbrev relent : Stepped → Stepped
    relent x = record x { ledger = record x.ledger { links = map link_seen ls } }

    attempts_relinked : (c : Call) (x : Stepped) → AttemptsAgree s c x.call.attempts → AttemptsAgree t c x.call.attempts
    attempts_relinked c x a = record {
      sent = a.sent;
      due = subst (λ (z : DueState). DuesAgree z x.call.attempts) (sym (state_same s s.entries s.current s.answered s.wants ls c)) a.due;
      unplaced = a.unplaced;
      delayed = a.delayed;
      last = a.last;
      refused = a.refused;
      committed = a.committed;
    }

    sees_relinked : (c : Call) (x : Stepped) → Sees s c x → Sees t c (relent x)
    sees_relinked c x k = record {
      own = k.own;
      number_is = k.number_is;
      request = k.request;
      begun = k.begun;
      chosen = k.chosen;
      finished = k.finished;
      longest_is = k.longest_is;
      ended = k.ended;
      attempts = attempts_relinked c x k.attempts;
      live = k.live;
      tokens = k.tokens;
      entry_is = k.entry_is;
      rows = k.rows;
      call_is = k.call_is;
    }

    holds_relinked : (c : Call) (b : Buffered) → Holds s c b → Holds t c b
    holds_relinked c b k = record {
      fed = all_map
          (λ (a : Attempt). serves.IsFed (taken_by a.place b) (text_of b) (is_outstanding a) (drained a s) (framed_all c.messages))
          (λ (a : Attempt). serves.IsFed (taken_by a.place b) (text_of b) (is_outstanding a) (drained a t) (framed_all c.messages))
          (λ a f. subst (λ (n : ℕ). serves.IsFed (taken_by a.place b) (text_of b) (is_outstanding a) n (framed_all c.messages)) (sym (drained_same a)) f)
          (filter (is_of c) s.attempts) k.fed;
      held = subst (λ (n : ℕ). IsAt (passed b) (text_of b) n (framed_all c.messages)) (sym (so_far_same c)) k.held;
      committed = k.committed;
    }

    pub serves_relinked : (c : Call) (x : Stepped) → list_all (λ (l : Link). list_all (is_read_by (read_bytes l)) l.traffic) ls ≡ true → Serves s c x → Serves t c (relent x)
    serves_relinked c x reads k = record {
      sees = sees_relinked c x k.sees;
      places = k.places;
      config = k.config;
      links = refl;
      reads = reads;
      counted = k.counted;
      end_taken = k.end_taken;
      going = k.going;
      left = λ e. subst (λ (all : List Reply). IsLeft all c.taken (channel.came x.call)) (sym (came_same c)) (k.left e);
      holds = λ e. holds_relinked c x.call.buffer (k.holds e);
    }

    pub order_relinked : (c : Call) → IsInOrder s c → IsInOrder t c
    order_relinked c k = record {
      places = k.places;
      marks = k.marks;
      numbers = k.numbers;
      first = λ e. ap (λ (z : DueState). z.newest) (state_same s s.entries s.current s.answered s.wants ls c) ∙ k.first e;
      stops = λ e. ap (λ (z : DueState). z.stopped) (state_same s s.entries s.current s.answered s.wants ls c) ∙ k.stops e;
    }

    pub turn_relinked : (c : Call) → IsInTurn s c → IsInTurn t c
    turn_relinked c k = record { unfollowed = k.unfollowed; latest = k.latest; numbers = k.numbers; counted = k.counted }

    pub reader_relinked : (o : Option Attempt) (r : Option ReaderSeen) → IsReaderOf s o r → IsReaderOf t o r
    reader_relinked None None k = tt
    reader_relinked (Some a) (Some r) k = record {
      opened = k.opened;
      head = ap (λ (p : Response). is_some p.head) (response_same a) ∙ k.head;
      over = k.over;
      limit = k.limit;
      rest = ap (λ (p : Response). p.rest) (response_same a) ∙ k.rest;
      whole = k.whole;
    }
    reader_relinked None (Some r) k = absurd k
    reader_relinked (Some a) None k = absurd k

    -- a link, and what is queued on it
    module _ (k : ℕ) (l : Link) where
      live_relinked : (xs : List LiveStream) (as_ : List Attempt) → StreamsAreLive l xs as_ → StreamsAreLive (h k l) xs as_
      live_relinked [] [] q = tt
      live_relinked (x ∷ xs) (a ∷ as_) q =
          (record { stream = q.0.stream; some = q.0.some; tag = q.0.tag; finished = q.0.finished; credit = q.0.credit }, live_relinked xs as_ q.1)
      live_relinked [] (a ∷ as_) q = absurd q
      live_relinked (x ∷ xs) [] q = absurd q

      fed_one : (a : Attempt) (line : Line) → IsFed l s a line → IsFed (h k l) t a line
      fed_one a line q = record { call = q.call; call_is = q.call_is; fields = q.fields; written = q.written; left = q.left; finished = q.finished }

      fed_relinked : (f : ℕ → Line) (xs : List LiveStream) (as_ : List Attempt) → StreamsAreFed l s f xs as_ → StreamsAreFed (h k l) t f xs as_
      fed_relinked f [] [] q = tt
      fed_relinked f (x ∷ xs) (a ∷ as_) q = (fed_one a (f x.tag) q.0, fed_relinked f xs as_ q.1)
      fed_relinked f [] (a ∷ as_) q = absurd q
      fed_relinked f (x ∷ xs) [] q = absurd q

      received_relinked : (xs : List LiveStream) (as_ : List Attempt) → ResponsesAreReceived l s xs as_ → ResponsesAreReceived (h k l) t xs as_
      received_relinked [] [] q = tt
      received_relinked (x ∷ xs) (a ∷ as_) q = (record { head = q.0.head; goes = q.0.goes; small = q.0.small }, received_relinked xs as_ q.1)
      received_relinked [] (a ∷ as_) q = absurd q
      received_relinked (x ∷ xs) [] q = absurd q

      -- where nothing more is queued
      pub owed_relinked : (v : Wire) → w k l ≡ l.owed → SeesOwed l v → SeesOwed (h k l) v
      owed_relinked v unqueued q =
          subst (λ (z : List FrameSeen). SeesOwed (record l { gone = g k l; owed = z }) v) (sym unqueued)
          (record { queue = q.queue; names = q.names; resizes = q.resizes; written = q.written; answered = q.answered })

      abbrev pub queueing : Queue → Wire → Wire
      queueing queue v = record v { queue = queue }

      read_relinked : (queue : Queue) (v : Wire) → SeesRead l v → SeesRead (h k l) (queueing queue v)
      read_relinked queue v q = record {
        whole = q.whole;
        read = q.read;
        ready = q.ready;
        retiring = q.retiring;
        limit = q.limit;
        initial = q.initial;
        window = q.window;
        opened = q.opened;
        block = q.block;
        table = q.table;
      }

      pub streams_relinked : (queue : Queue) (v : Wire) (f : ℕ → Line) → l.number ≡ k → SeesOwed (h k l) (queueing queue v) → SeesStreams l s v f
          → SeesStreams (h k l) t (queueing queue v) f
      streams_relinked queue v f own owes q =
          let old = q.sees in
          let new : SeesLink (h k l) t (queueing queue v) f = record {
            at = ap (numbered ls) own ∙ is k ∙ ap (λ (o : Option Link). option_map (h k) o) (sym (ap (numbered s.links) own) ∙ old.at);
            sees = record { reads = read_relinked queue v old.sees.reads; live = live_relinked v.live (by_stream (streaming_on l s)) old.sees.live };
            owes = owes;
            waits = old.waits;
            fed = fed_relinked f v.live (by_stream (streaming_on l s)) old.fed;
            wait_fed = all_map (λ (a : Attempt). IsFed l s a (f a.place)) (λ (a : Attempt). IsFed (h k l) t a (f a.place)) (λ a e. fed_one a (f a.place) e) (waiting_on l s) old.wait_fed;
            opened = old.opened;
            fresh = old.fresh;
            tags = old.tags;
            places = old.places;
          } in
          record { sees = new; handled = received_relinked v.live (by_stream (streaming_on l s)) q.handled; unreceived = q.unreceived; begun = q.begun }

    -- the whole, where the links agree
    module _ (x : StateSeen) (slots : List LinkSlot) (agrees : Agrees x s)
        (reads : list_all (λ (l : Link). list_all (is_read_by (read_bytes l)) l.traffic) s.links ≡ true → list_all (λ (l : Link). list_all (is_read_by (read_bytes l)) l.traffic) ls ≡ true) where
      abbrev pub y : StateSeen
      y = record x { links = slots }

      call_relinked : (n : ℕ) (c : Call) → HasSlot x s c n → HasSlot y t c n
      call_relinked n c k = record {
        slot = k.slot;
        there = k.there;
        sees = record {
          bucket = k.sees.bucket;
          serves = serves_relinked c (lent_to x s k.slot) (reads k.sees.serves.reads) k.sees.serves;
          order = order_relinked c k.sees.order;
          turn = turn_relinked c k.sees.turn;
          due = due_same s s.entries s.current s.answered s.wants ls c ∙ k.sees.due;
          deadline_is = k.sees.deadline_is;
        };
      }

      draws_with : (o : Option OpenEntry) → DrawsAlike o x → DrawsAlike o y
      draws_with None d = tt
      draws_with (Some o) d = (d.0, d.1)

      pub agrees_relinked : SeesLinks y t → links_noted t ≡ x.book.ledger.links → NumbersCountUp 1 (map (λ (l : Link). l.number) ls)
          → list_all (λ (l : Link). is_some (numbered s.subs l.sub)) ls ≡ true → list_all (λ (l : Link). list_all is_control l.owed) ls ≡ true → Agrees y t
      agrees_relinked links noted counted dialled queued = record {
        clock = record { entry_is = agrees.clock.entry_is; moment = agrees.clock.moment; draws = draws_with s.current agrees.clock.draws };
        columns = record {
          rows = agrees.columns.rows;
          calls = agrees.columns.calls;
          asks = agrees.columns.asks;
          generations = agrees.columns.generations;
          links = noted;
        };
        configs = record {
          authority = agrees.configs.authority;
          shut = agrees.configs.shut;
          held = agrees.configs.held;
          unconfigured = agrees.configs.unconfigured;
          policy = agrees.configs.policy;
        };
        buckets = record { runs = agrees.buckets.runs; throttle = agrees.buckets.throttle };
        calls = record { count = agrees.calls.count; each = λ n c e. call_relinked n c (agrees.calls.each n c e) };
        links = links;
        net = agrees.net;
        orderly = agrees.orderly;
        sets = record {
          queue = agrees.sets.queue;
          ready_waiters = agrees.sets.ready_waiters;
          dues = record { rising = agrees.sets.dues.rising; exact = λ m n. agrees.sets.dues.exact m n ∙ sym (in_dues_same s s.entries s.current s.answered s.wants ls m n) };
          deadlines = agrees.sets.deadlines;
          awaiting_config = agrees.sets.awaiting_config;
          fail_fast = agrees.sets.fail_fast;
          outstanding = agrees.sets.outstanding;
          resets = agrees.sets.resets;
        };
        kept = kept_linked s ls (λ k there. ap is_some (is k) ∙ some_map (h k) (numbered s.links k) ∙ there) counted dialled (reads agrees.kept.reads) queued agrees.kept;
      }
