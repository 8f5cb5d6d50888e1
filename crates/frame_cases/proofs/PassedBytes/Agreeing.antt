-- Channel and session agree where only one link changed, and what came for applications stands in the inboxes of their calls.
use Rattle.std.proofs.Common.{◌≡◌, ◌++◌, ◌%◌, ◌==◌, ◌^◌, ap, refl, subst, sym, ◌∙◌, false, List, [], Option, None, Some, ℕ, length, true, ◌∷◌, filter, if◌then◌else◌}
use Rattle.std.proofs.lemmas.Bool.{eqb-true}
use Rattle.std.specs.Option.{option_map, option_map_or}
use Rattle.std.specs.List.{AllByRecursion}
use Rattle.attempt_buffer.specs.Buffers.{Buffered, taken_by, text_of}
use Rattle.attempt_ledger.specs.declared.ledger.LinkSeen.{LinkSeen}
use Rattle.call_actions.specs.Order.{AttemptsAreNumbered}
use Rattle.call_actions.specs.Sees.{DuesAgree, bucket_of}
use Rattle.call_actions.specs.TakeActions.Serves as serves
use Rattle.call_actions.specs.TakeActions.Serves.{Holds, IsAt, IsLeft, Serves, came, drained_so_far, passed}
use Rattle.call_core.specs.Laws as channel
use Rattle.call_core.specs.declared.inbox.Inbox.{Inbox}
use Rattle.channel_actions.proofs.Drains.Books.Sets.{buckets_stay, sets_stay}
use Rattle.channel_actions.proofs.Drains.Calls.Streamed.{streamed_is}
use Rattle.channel_actions.proofs.Links.Frames.Frame.{links_stay}
use Rattle.channel_actions.proofs.Calls.Reset.Alike.{fold_same}
use Rattle.channel_actions.proofs.Settles.{is_with_open, with_open}
use Rattle.channel_actions.proofs.Streams.Opened.Dues.{last_same, state_same}
use Rattle.channel_actions.proofs.Streams.Opened.Rows.{t as streamed}
use Rattle.channel_actions.proofs.Streams.Opened.Streams.{rows_self, streams_of}
use Rattle.channel_actions.specs.Agrees.{Agrees}
use Rattle.channel_actions.specs.Calls.{HasSlot, SeesCall, SeesCalls, lent_to}
use Rattle.channel_actions.specs.DrainBooks.Laws.{SetsAreSame}
use Rattle.channel_actions.specs.DrainCalls.Laws.{IsOnlyStreamed}
use Rattle.channel_actions.specs.KeptSessions.Kept.{IsKept}
use Rattle.channel_actions.specs.LinkFrames.Alike.{SeesNoDifference, Numbers}
use Rattle.channel_actions.specs.Links.{HasLink, SeesLinks}
use Rattle.channel_actions.specs.Columns.{links_noted}
use Rattle.channel_actions.specs.Sets.{SeesSets}
use Rattle.event_cases.proofs.StreamedCalls.Calls.{dues_stay, orders_stay, turns_stay}
use Rattle.end_cases.specs.AttemptEnds.Ahead.{AgreesOffLinks}
use Rattle.channel_core.specs.Books.{slot_at}
use Rattle.channel_core.specs.States.{StateSeen}
use Rattle.channel_core.specs.Tables.{numbered as slot_numbered}
use Rattle.channel_core.specs.declared.state.links.LinkSlot.{LinkSlot}
use Rattle.channel_core.specs.declared.state.slots.CallSlot.{CallSlot}
use Rattle.frame_cases.specs.PassedBytes.Laws.{PassedBytesKeep, relinked}
use Rattle.grpc_base.specs.declared.event.Reply.{Reply}
use Rattle.grpc_frame.specs.Messages.{framed_all}
use Rattle.session_actions.specs.Attempts.{commitment, is_of, is_outstanding}
use Rattle.session_actions.specs.Calls.{is_open_call}
use Rattle.session_actions.specs.DueAttempts.{due_state, last_counted}
use Rattle.session_actions.specs.Tokens.{run_of, tokens_by, tokens_in}
use Rattle.session_actions.specs.Words.{numbered}
use Rattle.session_actions.specs.Writing.{drained}
use Rattle.session_actions.specs.declared.attempt.Attempt.{Attempt}
use Rattle.session_actions.specs.declared.call.Call.{Call}
use Rattle.session_actions.specs.declared.config.ThrottleRun.{ThrottleRun}
use Rattle.session_actions.specs.declared.due.DueState.{DueState}
use Rattle.session_actions.specs.declared.entry.OpenEntry.{OpenEntry}
use Rattle.session_actions.specs.declared.link.Link.{Link}
use Rattle.session_actions.specs.declared.seen.Seen.{Seen}

-- the channel with other calls
abbrev pub recalled : List CallSlot → StateSeen → StateSeen
recalled calls x = record x { book = record x.book { calls = calls } }

-- a slot of them has another inbox: what came of the response and was not taken
abbrev pub with_inbox : Inbox → CallSlot → CallSlot
with_inbox inbox slot = record slot { call = record slot.call { inbox = inbox } }

pub record HasCame (calls : List CallSlot) (t : Seen) (number : ℕ) (c : Call) (slot : CallSlot) : Type 0 where
  pub inbox : Inbox
  pub there : slot_numbered calls number ≡ Some (with_inbox inbox slot)
  pub end_taken : inbox.is_end_taken ≡ slot.call.inbox.is_end_taken
  pub left : c.end_taken ≡ false → IsLeft (came c t) c.taken (channel.head_items inbox.head ++ channel.message_items inbox.messages)

pub nothing_came : (calls : List CallSlot) (s t : Seen) (number : ℕ) (c : Call) (slot : CallSlot) → slot_numbered calls number ≡ Some slot → came c t ≡ came c s
    → (c.end_taken ≡ false → IsLeft (came c s) c.taken (channel.came slot.call)) → HasCame calls t number c slot
nothing_came calls s t number c slot there same left = record {
  inbox = slot.call.inbox;
  there = there;
  end_taken = refl;
  left = λ e. subst (λ (all : List Reply). IsLeft all c.taken (channel.came slot.call)) (sym same) (left e);
}

all_map : {X : Type 0} (P Q : X → Type 0) → ((x : X) → P x → Q x) → (xs : List X) → AllByRecursion P xs → AllByRecursion Q xs
all_map P Q f [] h = tt
all_map P Q f (x ∷ xs) h = (f x h.0, all_map P Q f xs h.1)

or_same : {X Y : Type 0} (f g : X → Y) (d : Y) → ((x : X) → f x ≡ g x) → (o : Option X) → option_map_or f o d ≡ option_map_or g o d
or_same f g d same None = refl
or_same f g d same (Some x) = same x

module _ (link : ℕ) (x : StateSeen) (slots : List LinkSlot) (columns : List LinkSeen) (calls : List CallSlot) (o p : OpenEntry) (z : Seen) (ls : List Link) (h : Agrees x (with_open o z))
    (moment : p.moment ≡ o.moment) (word : p.word ≡ o.word) (drawn : p.drawn ≡ o.drawn) where
  abbrev s : Seen
  s = with_open o z

  abbrev t : Seen
  t = record z { links = ls; current = Some p }

  abbrev y : StateSeen
  y = relinked slots columns (recalled calls x)

  module _ (kept : IsKept t) (long : length calls ≡ length x.book.calls)
      (handled : (number : ℕ) (c : Call) (slot : CallSlot) → numbered s.calls number ≡ Some c → slot_at x.book number ≡ Some slot → SeesCall x s c slot → HasCame calls t number c slot)
      (drained_same : (a : Attempt) → drained a t ≡ drained a s) (noted : links_noted t ≡ columns) where
    places : AttemptsAreNumbered 1 s.attempts
    places = h.kept.book.places

    only : IsOnlyStreamed s t
    only = record { is = refl; rows = rows_self z.attempts }

    -- the buffers
    so_far_same : (c : Call) → drained_so_far c t ≡ drained_so_far c s
    so_far_same c = or_same (λ (k : Attempt). drained k t) (λ (k : Attempt). drained k s) 0 drained_same (commitment c s)

    holds_still : (c : Call) (b : Buffered) → Holds s c b → Holds t c b
    holds_still c b k = record {
      fed = all_map
          (λ (a : Attempt). serves.IsFed (taken_by a.place b) (text_of b) (is_outstanding a) (drained a s) (framed_all c.messages))
          (λ (a : Attempt). serves.IsFed (taken_by a.place b) (text_of b) (is_outstanding a) (drained a t) (framed_all c.messages))
          (λ a f. subst (λ (n : ℕ). serves.IsFed (taken_by a.place b) (text_of b) (is_outstanding a) n (framed_all c.messages)) (sym (drained_same a)) f)
          (filter (is_of c) z.attempts) k.fed;
      held = subst (λ (n : ℕ). IsAt (passed b) (text_of b) n (framed_all c.messages)) (sym (so_far_same c)) k.held;
      committed = k.committed;
    }

    -- what is due of a call, and its tokens
    form : t ≡ streamed s (streams_of z.attempts) ls (Some p)
    form = streamed_is s t places only

    state_stays : (c : Call) → due_state c t ≡ due_state c s
    state_stays c = ap (due_state c) form ∙ state_same s (streams_of z.attempts) ls (Some p) c

    last_stays : (c : Call) → last_counted c t ≡ last_counted c s
    last_stays c = ap (last_counted c) form ∙ last_same s (streams_of z.attempts) ls (Some p) c

    token_same : (run : ThrottleRun) (n : ℕ) (a : Option Attempt) → tokens_by run t n a ≡ tokens_by run s n a
    token_same run n None = refl
    token_same run n (Some a) = refl

    tokens_same : (run : ThrottleRun) → tokens_in run t ≡ tokens_in run s
    tokens_same run =
        fold_same (λ (n place : ℕ). tokens_by run t n (numbered z.attempts place)) (λ (n place : ℕ). tokens_by run s n (numbered z.attempts place))
        (λ n place. token_same run n (numbered z.attempts place)) run.throttle.start run.ends

    buckets_same : (run : Option ThrottleRun) → option_map (bucket_of t) run ≡ option_map (bucket_of s) run
    buckets_same None = refl
    buckets_same (Some run) = ap (λ (n : ℕ). Some (record { start = run.throttle.start; ratio = run.throttle.ratio; count = n })) (tokens_same run)

    -- the calls
    serves_still : (c : Call) (slot : CallSlot) (inbox : Inbox) → inbox.is_end_taken ≡ slot.call.inbox.is_end_taken
        → (c.end_taken ≡ false → IsLeft (came c t) c.taken (channel.head_items inbox.head ++ channel.message_items inbox.messages)) → Serves s c (lent_to x s slot)
        → Serves t c (lent_to y t (with_inbox inbox slot))
    serves_still c slot inbox same left k = record {
      sees = record {
        own = k.sees.own;
        number_is = k.sees.number_is;
        request = k.sees.request;
        begun = k.sees.begun;
        chosen = k.sees.chosen;
        finished = k.sees.finished;
        longest_is = k.sees.longest_is;
        ended = k.sees.ended;
        attempts = record {
          sent = k.sees.attempts.sent;
          due = subst (λ (d : DueState). DuesAgree d slot.call.attempts) (sym (state_stays c)) k.sees.attempts.due;
          unplaced = k.sees.attempts.unplaced;
          delayed = k.sees.attempts.delayed;
          last = λ uncommitted. last_stays c ∙ k.sees.attempts.last uncommitted;
          refused = k.sees.attempts.refused;
          committed = k.sees.attempts.committed;
        };
        live = k.sees.live;
        tokens = buckets_same (run_of c s) ∙ k.sees.tokens;
        entry_is = k.sees.entry_is;
        rows = k.sees.rows;
        call_is = k.sees.call_is;
      };
      places = k.places;
      config = k.config;
      links = refl;
      reads = kept.reads;
      counted = k.counted;
      end_taken = k.end_taken ∙ sym same;
      going = k.going;
      left = left;
      holds = λ unbroken. holds_still c slot.call.buffer (k.holds unbroken);
    }

    call_by : (number : ℕ) (c : Call) (slot : CallSlot) → SeesCall x s c slot → HasCame calls t number c slot → HasSlot y t c number
    call_by number c slot k new = record {
      slot = with_inbox new.inbox slot;
      there = new.there;
      sees = record {
        bucket = k.bucket;
        serves = serves_still c slot new.inbox new.end_taken new.left k.serves;
        order = orders_stay s t c places only k.order;
        turn = turns_stay s t c places only k.turn;
        due = ap (λ (d : Option ℕ). if is_open_call c then d else None) (dues_stay s t c places only) ∙ k.due;
        deadline_is = k.deadline_is;
      };
    }

    call_still : (number : ℕ) (c : Call) → numbered s.calls number ≡ Some c → HasSlot x s c number → HasSlot y t c number
    call_still number c got k = call_by number c k.slot k.sees (handled number c k.slot got k.there k.sees)

    calls_still : SeesCalls y t
    calls_still = record { count = h.calls.count ∙ sym long; each = λ number c got. call_still number c got (h.calls.each number c got) }

    same_sets : SetsAreSame x y
    same_sets = record {
      queue = refl;
      ready_waiters = refl;
      dues = refl;
      deadlines = refl;
      awaiting_config = refl;
      fail_fast = refl;
      outstanding = refl;
      resets = sym h.sets.resets;
    }

    sets_now : SeesSets y t
    sets_now = sets_stay x y s t places only same_sets h.sets

    -- all but the links
    pub books_relinked : AgreesOffLinks y t
    books_relinked = record {
      clock = record {
        entry_is = h.clock.entry_is;
        moment = moment ∙ h.clock.moment;
        draws = (word ∙ h.clock.draws.0, h.clock.draws.1 ∙ ap (λ (d : ℕ). d % 2 ^ 64) (sym drawn));
      };
      columns = record { rows = h.columns.rows; calls = h.columns.calls; asks = h.columns.asks; generations = h.columns.generations; links = noted };
      configs = record {
        authority = h.configs.authority;
        shut = h.configs.shut;
        held = h.configs.held;
        unconfigured = h.configs.unconfigured;
        policy = h.configs.policy;
      };
      buckets = buckets_stay x.book.buckets s t places only h.buckets;
      calls = calls_still;
      net = h.net;
      orderly = h.orderly;
      sets = record {
        queue = sets_now.queue;
        ready_waiters = sets_now.ready_waiters;
        dues = sets_now.dues;
        deadlines = sets_now.deadlines;
        awaiting_config = sets_now.awaiting_config;
        fail_fast = sets_now.fail_fast;
        outstanding = sets_now.outstanding;
      };
      kept = kept;
    }

    -- the links
    module _ (cannot : SeesNoDifference (λ (k : ℕ). link == k) s t) (others : (k : ℕ) → (link == k) ≡ false → numbered slots k ≡ numbered x.links k)
        (count : length ls ≡ length slots) (own : (m : Link) → numbered ls link ≡ Some m → HasLink y t m link) where
      abbrev touched : Numbers
      touched k = link == k

      these : (k : ℕ) (m : Link) → touched k ≡ true → numbered ls k ≡ Some m → HasLink y t m k
      these k m e got =
          let same : link ≡ k = eqb-true link k e in
          subst (HasLink y t m) same (own m (ap (numbered ls) same ∙ got))

      links_still : SeesLinks y t
      links_still = links_stay touched x y s t h.links h.kept kept others cannot count these

      pub agrees_relinked : Agrees y t
      agrees_relinked = record {
        clock = books_relinked.clock;
        columns = books_relinked.columns;
        configs = books_relinked.configs;
        buckets = books_relinked.buckets;
        calls = books_relinked.calls;
        links = links_still;
        net = books_relinked.net;
        orderly = books_relinked.orderly;
        sets = sets_now;
        kept = kept;
      }

-- from any such session
pub record IsReportedOn (link : ℕ) (x y : StateSeen) (o p : OpenEntry) (s t : Seen) : Type 0 where
  pub state : y ≡ relinked y.links y.book.ledger.links (recalled y.book.calls x)
  pub current : s.current ≡ Some o
  pub seen : t ≡ record s { links = t.links; current = Some p }
  pub moment : p.moment ≡ o.moment
  pub word : p.word ≡ o.word
  pub drawn : p.drawn ≡ o.drawn
  pub kept : IsKept t
  pub cannot : SeesNoDifference (λ k. link == k) s t
  pub slots : (k : ℕ) → (link == k) ≡ false → numbered y.links k ≡ numbered x.links k
  pub count : length t.links ≡ length y.links
  pub long : length y.book.calls ≡ length x.book.calls
  pub handled : (number : ℕ) (c : Call) (slot : CallSlot) → numbered s.calls number ≡ Some c → slot_at x.book number ≡ Some slot → SeesCall x s c slot
      → HasCame y.book.calls t number c slot
  pub drained_same : (a : Attempt) → drained a t ≡ drained a s
  pub noted : links_noted t ≡ y.book.ledger.links
  pub own : (m : Link) → numbered t.links link ≡ Some m → HasLink y t m link

pub reported_keeps : (link : ℕ) (x y : StateSeen) (o p : OpenEntry) (s t : Seen) → Agrees x s → IsReportedOn link x y o p s t → Agrees y t
reported_keeps link x y o p s t h is =
    let s1 : Seen = with_open o s in
    let s_is : s ≡ s1 = is_with_open o s is.current in
    let t1 : Seen = record s1 { links = t.links; current = Some p } in
    let y1 : StateSeen = relinked y.links y.book.ledger.links (recalled y.book.calls x) in
    let t_is : t ≡ t1 = is.seen ∙ ap (λ (z : Seen). record z { links = t.links; current = Some p }) s_is in
    let agrees : Agrees y1 t1 =
    agrees_relinked link x y.links y.book.ledger.links y.book.calls o p s t.links (subst (Agrees x) s_is h) is.moment is.word is.drawn
    (subst IsKept t_is is.kept) is.long
    (λ number c slot got there k.
    subst (λ (z : Seen). HasCame y.book.calls z number c slot) t_is (is.handled number c slot got there (subst (λ (z : Seen). SeesCall x z c slot) (sym s_is) k)))
    (λ a. ap (drained a) (sym t_is) ∙ is.drained_same a ∙ ap (drained a) s_is)
    (ap links_noted (sym t_is) ∙ is.noted)
    (subst (λ (z : Seen). SeesNoDifference (λ (k : ℕ). link == k) z t1) s_is (subst (SeesNoDifference (λ (k : ℕ). link == k) s) t_is is.cannot))
    is.slots is.count
    (λ m got. subst (λ (z : StateSeen). HasLink z t1 m link) is.state (subst (λ (z : Seen). HasLink y z m link) t_is (is.own m got))) in
    subst (λ (z : StateSeen). Agrees z t) (sym is.state) (subst (Agrees y1) (sym t_is) agrees)

-- all but the links, however these stand
pub record IsReportedOff (link : ℕ) (x y : StateSeen) (o p : OpenEntry) (s t : Seen) : Type 0 where
  pub state : y ≡ relinked y.links y.book.ledger.links (recalled y.book.calls x)
  pub current : s.current ≡ Some o
  pub seen : t ≡ record s { links = t.links; current = Some p }
  pub moment : p.moment ≡ o.moment
  pub word : p.word ≡ o.word
  pub drawn : p.drawn ≡ o.drawn
  pub kept : IsKept t
  pub long : length y.book.calls ≡ length x.book.calls
  pub handled : (number : ℕ) (c : Call) (slot : CallSlot) → numbered s.calls number ≡ Some c → slot_at x.book number ≡ Some slot → SeesCall x s c slot
      → HasCame y.book.calls t number c slot
  pub drained_same : (a : Attempt) → drained a t ≡ drained a s
  pub noted : links_noted t ≡ y.book.ledger.links

pub reported_books : (link : ℕ) (x y : StateSeen) (o p : OpenEntry) (s t : Seen) → Agrees x s → IsReportedOff link x y o p s t → AgreesOffLinks y t
reported_books link x y o p s t h is =
    let s1 : Seen = with_open o s in
    let s_is : s ≡ s1 = is_with_open o s is.current in
    let t1 : Seen = record s1 { links = t.links; current = Some p } in
    let y1 : StateSeen = relinked y.links y.book.ledger.links (recalled y.book.calls x) in
    let t_is : t ≡ t1 = is.seen ∙ ap (λ (z : Seen). record z { links = t.links; current = Some p }) s_is in
    let agrees : AgreesOffLinks y1 t1 =
    books_relinked link x y.links y.book.ledger.links y.book.calls o p s t.links (subst (Agrees x) s_is h) is.moment is.word is.drawn
    (subst IsKept t_is is.kept) is.long
    (λ number c slot got there k.
    subst (λ (z : Seen). HasCame y.book.calls z number c slot) t_is (is.handled number c slot got there (subst (λ (z : Seen). SeesCall x z c slot) (sym s_is) k)))
    (λ a. ap (drained a) (sym t_is) ∙ is.drained_same a ∙ ap (drained a) s_is)
    (ap links_noted (sym t_is) ∙ is.noted) in
    subst (λ (z : StateSeen). AgreesOffLinks z t) (sym is.state) (subst (AgreesOffLinks y1) (sym t_is) agrees)

-- where nothing came
pub passed_bytes_keep : PassedBytesKeep
passed_bytes_keep link x y o p s t h is =
    let same : y.book.calls ≡ x.book.calls = ap (λ (z : StateSeen). z.book.calls) is.state in
    reported_keeps link x y o p s t h (record {
      state = is.state ∙ ap (λ (calls : List CallSlot). relinked y.links y.book.ledger.links (recalled calls x)) (sym same);
      current = is.current;
      seen = is.seen;
      moment = is.moment;
      word = is.word;
      drawn = is.drawn;
      kept = is.kept;
      cannot = is.cannot;
      slots = is.slots;
      count = is.count;
      long = ap (λ (calls : List CallSlot). length calls) same;
      handled = λ number c slot got there k.
          nothing_came y.book.calls s t number c slot (ap (λ (calls : List CallSlot). slot_numbered calls number) same ∙ there) (is.came_same c) k.serves.left;
      drained_same = is.drained_same;
      noted = is.noted;
      own = is.own;
    })
