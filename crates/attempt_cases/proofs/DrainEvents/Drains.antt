-- A drain is answered by the frames that the session writes.
use Rattle.std.proofs.Common.{◌≡◌, ◌<◌, ◌^◌, ◌%◌, ◌&&◌, ◌==◌, ◌∷◌, ap, refl, subst, sym, ◌∙◌, true, false, List, [], Option, None, Some, ℕ, is_some, length, map, min, nat_lt}
use Rattle.std.proofs.lemmas.Bool.{eqb-false, eqb-true}
use Rattle.std.specs.Option.{option_map}
use Rattle.call_actions.proofs.Lists.{changed_here}
use Rattle.call_actions.specs.Order.{AttemptsAreNumbered}
use Rattle.channel_actions.proofs.Answering.{event_next, replied_entry, replied_is}
use Rattle.channel_actions.proofs.Dialling.{applied_next, open_in, unshut_by}
use Rattle.channel_actions.proofs.Refusing.{room_same}
use Rattle.channel_actions.proofs.Settles.{IsQuiet, quiescent_stays, is_with_open, reopened, with_open}
use Rattle.channel_actions.proofs.Stamps.{counted_at}
use Rattle.channel_actions.specs.Agrees.{Agrees}
use Rattle.channel_actions.specs.Quiescent as quiescent
use Rattle.channel_actions.specs.Quiescent.{IsAt}
use Rattle.channel_actions.specs.Clock.{SeesClock}
use Rattle.channel_actions.specs.Columns.{SeesColumns}
use Rattle.channel_actions.specs.Configs.{SeesBuckets, SeesConfigs}
use Rattle.channel_actions.specs.Links.{HasLink, IsGoing, SeesLinks, lines_in}
use Rattle.channel_actions.specs.Sets.{SeesSets}
use Rattle.channel_actions.specs.Stages.{IsAnswered}
use Rattle.channel_core.proofs.BookLaws.{number_changed, number_other}
use Rattle.channel_core.proofs.Resting.{changed_length}
use Rattle.channel_core.specs.Applying as channel
use Rattle.channel_core.specs.Applying.{AnswersBy, or_room}
use Rattle.channel_core.specs.Books.{lines_of}
use Rattle.channel_core.specs.Draining.{DrainLeaves, drained_limit, octets_by, opened_by, with_streams, streams_given}
use Rattle.channel_core.specs.Feeding.{all_fed}
use Rattle.channel_core.specs.States.{StateSeen}
use Rattle.channel_core.specs.Tables.{BucketsSeen, DrainGives, DrainsOn, LinkDrains, drains_at}
use Rattle.channel_core.specs.declared.state.book.Book.{Book}
use Rattle.channel_core.specs.declared.state.links.LinkSlot.{LinkSlot}
use Rattle.channel_actions.proofs.Drains.Books.Columns.{link_columns_stay}
use Rattle.channel_actions.proofs.Drains.Books.Sets.{buckets_stay, call_columns_stay, sets_stay}
use Rattle.channel_actions.specs.DrainBooks.Laws.{SetsAreSame}
use Rattle.channel_actions.specs.DrainCalls.Laws.{IsOnlyStreamed}
use Rattle.attempt_cases.proofs.DrainEvents.Links.{all_kept, all_orderly, drained_slot, none_borne, read_so, sends_fresh}
use Rattle.attempt_cases.specs.DrainEvents.Laws.{DrainsAreAnswered, HasRun}
use Rattle.channel_actions.proofs.Drains.Lends.Lends.{lines_are_lent}
use Rattle.channel_actions.specs.DrainLends.Laws.{DeadlinesAreClose}
use Rattle.channel_actions.proofs.Drains.Writes.Runs.{drains_are_actions}
use Rattle.channel_actions.specs.DrainWrites.Laws.{IsDrainRun, IsDraining, with_all_sent, writing}
use Rattle.grpc_base.specs.declared.event.Event.{Event}
use Rattle.grpc_base.specs.declared.event.Event.TheVariants as event
use Rattle.grpc_base.specs.declared.event.Refusal.{Refusal}
use Rattle.grpc_base.specs.declared.event.Refusal.TheVariants as refusal
use Rattle.grpc_base.specs.declared.event.Reply.{Reply}
use Rattle.grpc_base.specs.declared.event.Reply.TheVariants as reply
use Rattle.grpc_link.specs.Links.{opened_all}
use Rattle.h2_link.specs.Drains.{opened_between}
use Rattle.h2_link.specs.declared.news.Drained.{Drained}
use Rattle.channel_actions.proofs.KeptSessions.Along.{kept_along}
use Rattle.channel_actions.specs.Calls.{SeesCalls}
use Rattle.channel_actions.specs.KeptSessions.Kept.{IsKept}
use Rattle.channel_actions.proofs.Links.Frames.Frame.{links_stay}
use Rattle.channel_actions.proofs.Links.Frames.Differences.{fewer_see_none}
use Rattle.channel_actions.proofs.Links.Frames.NoDifference.{lists_make_no_difference}
use Rattle.channel_actions.specs.LinkFrames.Alike.{SeesNoDifference, Numbers}
use Rattle.channel_actions.specs.LinkFrames.Bears.{bear_on}
use Rattle.net_actions.specs.Runs.{IsOfCalls}
use Rattle.net_actions.specs.Sees.{Sees}
use Rattle.session_actions.specs.Actions.{after, after_if, following}
use Rattle.session_actions.specs.CallEnds.{cancels, is_after_event, next_deadline, sends_too_long}
use Rattle.session_actions.specs.Events.{event_action}
use Rattle.session_actions.specs.Policies.{addresses_in}
use Rattle.session_actions.specs.Refusals.{link_refusal, refused_if}
use Rattle.session_actions.specs.Sessions.{Does, IsNext}
use Rattle.session_actions.specs.Words.{changed, numbered}
use Rattle.session_actions.specs.declared.action.Action.{Action}
use Rattle.session_actions.specs.declared.action.Action.TheVariants as action
use Rattle.session_actions.specs.declared.attempt.Attempt.{Attempt}
use Rattle.session_actions.specs.declared.entry.OpenEntry.{OpenEntry}
use Rattle.session_actions.specs.declared.entry.Stage.TheVariants as stage
use Rattle.session_actions.specs.declared.link.Link.{Link}
use Rattle.session_actions.specs.declared.policy.PolicyUse.{PolicyUse}
use Rattle.session_actions.specs.declared.seen.Seen.{Seen}
use Rattle.session_order.proofs.Quiescence.{quiescence_is_exact}
use Rattle.session_order.specs.Quiescent as order
use Rattle.session_order.specs.declared.line.Line.TheVariants as line
use Rattle.link_actions.specs.StreamActions.Sees.{SeesStreams}
use Rattle.attempt_cases.proofs.DrainEvents.Rows.{rows_given}
use Rattle.attempt_cases.proofs.DrainEvents.Rooms.{IsThere, and_no, fed_form, if_none, length_changed, may_drain, none_posted, one_some, there_by}

module _ (x y : StateSeen) (r : Reply) (o : OpenEntry) (s : Seen) (h : Agrees x s) (at : IsAt stage.Event o s) (fresh : o.turn ≡ None)
    (timely : next_deadline s ≡ None) (link room : ℕ) (is : o.event ≡ event.Drain link room) (kept : channel.refusal_of o.event x ≡ None) (near : DeadlinesAreClose s)
    (leaves : DrainLeaves link (min room drained_limit) x r y)
    (few : (slot : LinkSlot) → numbered y.links link ≡ Some slot → slot.link.link.wire.opened < 2 ^ 30)
    -- what is left of the calls, once the event is answered
    (keeps : (t : Seen) → Agrees x (after (action.EventAnswered (reply.Octets [])) s) → IsNext (action.EventAnswered (reply.Octets [])) s
    → (run : HasRun (after (action.EventAnswered (reply.Octets [])) s) t y link leaves.fed) → run.before.over ≡ None → SeesColumns y.book.ledger t → SeesCalls y t) where
  abbrev p : OpenEntry
  p = replied_entry (reply.Octets []) o

  abbrev s1 : Seen
  s1 = with_open p s

  -- it is answered, and not refused
  both : (x.shut ≡ false) × (or_room room (channel.link_refusal link x) ≡ None)
  both = unshut_by x.shut (or_room room (channel.link_refusal link x)) (subst (λ (e : Event). channel.refusal_of e x ≡ None) is kept)

  none_of : link_refusal s (numbered s.links link) (refused_if (nat_lt room 16393) refusal.RoomTooSmall None) ≡ None
  none_of = sym (room_same x s h link room) ∙ both.1

  there : IsThere s link room
  there = there_by s link room (numbered s.links link) refl none_of

  abbrev l : Link
  l = there.l

  own : l.number ≡ link
  own = counted_at (λ (q : Link). q.number) s.links link l h.kept.links there.here

  gives : event_action o.event s ≡ Some (action.EventAnswered (reply.Octets []))
  gives =
      ap (λ (e : Event). event_action e s) is
      ∙ applied_next (event.Drain link room) s (Some (action.EventAnswered (reply.Octets [])))
      (open_in s (link_refusal s (numbered s.links link) (refused_if (nat_lt room 16393) refusal.RoomTooSmall None)) (h.configs.shut ∙ both.0) ∙ none_of) refl

  follows : following s ≡ Some (action.EventAnswered (reply.Octets []))
  follows = event_next o s at timely (action.EventAnswered (reply.Octets [])) gives

  does_so : after (action.EventAnswered (reply.Octets [])) s ≡ s1
  does_so = ap (λ (c : Option OpenEntry). after_if c (action.EventAnswered (reply.Octets [])) s) at.current ∙ replied_is (reply.Octets []) o s at.current

  quiet : IsQuiet p
  quiet = record {
    cancelled = λ n. ap (λ (e : Event). is_after_event p && cancels e n) is ∙ and_no (is_after_event p);
    sent = λ c z. ap (λ (e : Event). is_after_event p && sends_too_long e c z) is ∙ and_no (is_after_event p);
    result = if_none (is_after_event p) (addresses_in o.event) (ap addresses_in is);
  }

  quiescent_there : quiescent.IsQuiescent p s1
  quiescent_there = quiescent_stays stage.Replied (Some (reply.Octets [])) o s quiet (subst (quiescent.IsQuiescent o) (is_with_open o s at.current) at.quiescent)

  quiescent_so : order.IsQuiescent p s1
  quiescent_so = (quiescence_is_exact p s1).0 (quiescent_there.calls, quiescent_there.links, quiescent_there.policies)

  -- channel and session agree there, and the link is fed with what the book lends
  h1 : Agrees x s1
  h1 = reopened x o p s refl refl refl (subst (Agrees x) (is_with_open o s at.current) h)

  timely1 : next_deadline s1 ≡ None
  timely1 = subst (λ (z : Seen). next_deadline z ≡ None) (is_with_open o s at.current) timely

  near1 : DeadlinesAreClose s1
  near1 = subst DeadlinesAreClose (is_with_open o s at.current) near

  has : HasLink x s1 l link
  has = h1.links.each link l there.here

  abbrev slot0 : LinkSlot
  slot0 = has.slot

  going : IsGoing l s1 slot0
  going = has.sees.going there.over

  lent : SeesStreams l s1 slot0.link.link.wire (lines_of x.book)
  lent = lines_are_lent x s1 l slot0.link.link.wire (lines_in l s1) h1 (quiescent_so line.Cut) timely1 near1 going.streams

  draining : IsDraining p s1 l.number room []
  draining = record {
    current = refl;
    event_is = is ∙ ap (λ (n : ℕ). event.Drain n room) (sym own);
    stage_is = refl;
    reply_is = refl;
    quiescent = quiescent_so;
  }

  drains_it : drains_at (min room drained_limit) (Some slot0) ≡ true
  drains_it = may_drain room slot0 there.enough going.streams.sees.sees.reads.whole

  -- it gives these bytes
  module _ (drained : Drained) (d_is : leaves.drained ≡ Some drained) (g : LinkDrains (min room drained_limit) x.links link (lines_of x.book) drained y.links (lines_of leaves.fed)) where
    abbrev slot : LinkSlot
    slot = g.after

    on : DrainsOn (min room drained_limit) slot0 (lines_of x.book) drained slot (lines_of leaves.fed)
    on =
        subst (λ (z : LinkSlot). DrainsOn (min room drained_limit) z (lines_of x.book) drained slot (lines_of leaves.fed))
        (one_some g.before slot0 (numbered x.links link) g.was has.there) g.drains

    there_now : numbered y.links link ≡ Some slot
    there_now =
        ap (λ (ls : List LinkSlot). numbered ls link) g.is ∙ number_changed (λ (z : LinkSlot). slot) x.links link
        ∙ ap (option_map (λ (z : LinkSlot). slot)) has.there

    run0 : IsDrainRun l s1 p drained.octets slot0.link.link.wire slot.link.link.wire (lines_of leaves.fed) (opened_all (opened_between slot0.link.link.wire slot.link.link.wire) slot0.link.readers)
    run0 =
        drains_are_actions l s1 p slot0.link.link.wire slot.link.link.wire (lines_of x.book) (lines_of leaves.fed) slot0.link.readers room drained.octets lent
        (read_so l s1 slot0.link.readers going.readers) (few slot there_now) on.sends draining

    run : IsDrainRun l s1 p drained.octets slot0.link.link.wire slot.link.link.wire (lines_of leaves.fed) slot.link.readers
    run =
        subst (IsDrainRun l s1 p drained.octets slot0.link.link.wire slot.link.link.wire (lines_of leaves.fed))
        (ap (λ (ns : List (ℕ × ℕ)). opened_all ns slot0.link.readers) (sym on.opened) ∙ sym on.readers) run0

    abbrev t : Seen
    t = run.seen

    abbrev actions : List Action
    actions = map (writing l.number) run.sent

    abbrev m : Link
    m = with_all_sent run.sent l

    kept_t : IsKept t
    kept_t = kept_along actions s1 t h1.kept run.does

    -- the links
    abbrev touched : Numbers
    touched k = l.number == k

    cannot : SeesNoDifference touched s1 t
    cannot =
        fewer_see_none (bear_on actions s1) touched s1 t (λ k e. none_borne l.number k run.sent s1 e)
        (lists_make_no_difference actions s1 t (all_kept actions s1 t h1.kept run.does) (all_orderly l.number run.sent s1) run.does)

    slots : (k : ℕ) → touched k ≡ false → numbered y.links k ≡ numbered x.links k
    slots k e =
        ap (λ (ls : List LinkSlot). numbered ls k) g.is
        ∙ number_other (λ (z : LinkSlot). slot) x.links link k (λ f. eqb-false l.number k e (own ∙ sym f))

    links_t : t.links ≡ changed (with_all_sent run.sent) l.number s1.links
    links_t = ap (λ (z : Seen). z.links) run.is

    count_t : length t.links ≡ length y.links
    count_t =
        ap (λ (ls : List Link). length ls) links_t ∙ length_changed (with_all_sent run.sent) l.number s1.links ∙ h1.links.count
        ∙ sym (ap (λ (ls : List LinkSlot). length ls) g.is ∙ changed_length (λ (z : LinkSlot). slot) x.links link)

    here_l : numbered s1.links l.number ≡ Some l
    here_l = ap (numbered s.links) own ∙ there.here

    now_m : numbered t.links l.number ≡ Some m
    now_m = ap (λ (ls : List Link). numbered ls l.number) links_t ∙ changed_here (with_all_sent run.sent) l.number s1.links l here_l

    has_it : HasLink y t m link
    has_it = record {
      slot = slot;
      there = there_now;
      sees = drained_slot l s1 t slot0 slot run.sent (lines_of leaves.fed) kept_t there.over has.sees on.rest run.streams run.readers_are
          (sends_fresh slot0.link.link.wire (lines_of x.book) on.sends.frames slot.link.link.wire (lines_of leaves.fed) on.sends.sends going.closed);
    }

    these : (k : ℕ) (q : Link) → touched k ≡ true → numbered t.links k ≡ Some q → HasLink y t q k
    these k q e got =
        let same : l.number ≡ k = eqb-true l.number k e in
        let one : m ≡ q = one_some m q (numbered t.links k) (ap (numbered t.links) (sym same) ∙ now_m) got in
        subst (λ (z : Link). HasLink y t z k) one (subst (HasLink y t m) (sym own ∙ same) has_it)

    links_now : SeesLinks y t
    links_now = links_stay touched x y s1 t h1.links h1.kept kept_t slots cannot count_t these

    -- the rest
    has_run : HasRun s1 t y link leaves.fed
    has_run = record {
      before = l;
      here = there.here;
      entry = p;
      current = refl;
      octets = drained.octets;
      wire = slot0.link.link.wire;
      slot = slot;
      there = there_now;
      run = run;
      seen = refl;
    }

    abbrev y1 : StateSeen
    y1 = record x { links = y.links; book = with_streams (opened_by leaves.drained) leaves.fed }

    y_is : y ≡ y1
    y_is = leaves.state_is

    abbrev t1 : Seen
    t1 = record s1 { attempts = t.attempts; links = changed (with_all_sent run.sent) l.number s1.links; current = Some run.entry }

    fed_is : leaves.fed ≡ record x.book { calls = leaves.fed.calls }
    fed_is =
        let form : all_fed leaves.feeds.0 x.book ≡ record x.book { calls = (all_fed leaves.feeds.0 x.book).calls } = fed_form leaves.feeds.0 x.book in
        leaves.feeds.1 ∙ form ∙ ap (λ (b : Book). record x.book { calls = b.calls }) (sym leaves.feeds.1)

    clock1 : SeesClock y1 t1
    clock1 = record {
      entry_is = h1.clock.entry_is ∙ sym (ap (λ (b : Book). b.ledger.entry) fed_is);
      moment = ap (λ (q : OpenEntry). q.moment) run.entry_is ∙ h1.clock.moment ∙ sym (ap (λ (b : Book). b.moment) fed_is);
      draws = (ap (λ (q : OpenEntry). q.word) run.entry_is ∙ h1.clock.draws.0, h1.clock.draws.1 ∙ ap (λ (q : OpenEntry). q.drawn % 2 ^ 64) (sym run.entry_is));
    }

    configs1 : SeesConfigs y1 t1
    configs1 = record {
      authority = h1.configs.authority ∙ sym (ap (λ (b : Book). b.authority) fed_is);
      shut = h1.configs.shut;
      held = h1.configs.held;
      unconfigured = h1.configs.unconfigured;
      policy = h1.configs.policy;
    }

    clock_t : SeesClock y t
    clock_t = subst (λ (z : StateSeen). SeesClock z t) (sym y_is) (subst (SeesClock y1) (sym run.is) clock1)

    configs_t : SeesConfigs y t
    configs_t = subst (λ (z : StateSeen). SeesConfigs z t) (sym y_is) (subst (SeesConfigs y1) (sym run.is) configs1)

    net_t : Sees t y.net
    net_t = subst (λ (z : StateSeen). Sees t z.net) (sym y_is) (subst (λ (z : Seen). Sees z x.net) (sym run.is) h1.net)

    orderly_t : IsOfCalls y.net
    orderly_t = subst (λ (z : StateSeen). IsOfCalls z.net) (sym y_is) h1.orderly

    -- what it leaves of the books
    places : AttemptsAreNumbered 1 s1.attempts
    places = h1.kept.book.places

    current_t : t.current ≡ Some run.entry
    current_t = ap (λ (z : Seen). z.current) run.is

    only : IsOnlyStreamed s1 t
    only = record {
      is = run.is ∙ ap (λ (ls : List Link). record s1 { attempts = t.attempts; links = ls; current = Some run.entry }) (sym links_t)
          ∙ ap (λ (c : Option OpenEntry). record s1 { attempts = t.attempts; links = t.links; current = c }) (sym current_t);
      rows = run.rows;
    }

    same_sets : SetsAreSame x y
    same_sets = record {
      queue = ap (λ (z : StateSeen). z.queue) y_is;
      ready_waiters = ap (λ (z : StateSeen). z.ready_waiters) y_is;
      dues = ap (λ (z : StateSeen). z.dues) y_is;
      deadlines = ap (λ (z : StateSeen). z.deadlines) y_is;
      awaiting_config = ap (λ (z : StateSeen). z.awaiting_config) y_is;
      fail_fast = ap (λ (z : StateSeen). z.fail_fast) y_is;
      outstanding = ap (λ (z : StateSeen). z.outstanding) y_is;
      resets = ap (λ (z : StateSeen). z.resets) y_is;
    }

    sets_t : SeesSets y t
    sets_t = sets_stay x y s1 t places only same_sets h1.sets

    buckets_same : y.book.buckets ≡ x.book.buckets
    buckets_same = ap (λ (z : StateSeen). z.book.buckets) y_is ∙ ap (λ (b : Book). b.buckets) fed_is

    buckets_t : SeesBuckets y.book.buckets t
    buckets_t = subst (λ (b : BucketsSeen). SeesBuckets b t) (sym buckets_same) (buckets_stay x.book.buckets s1 t places only h1.buckets)

    opened_is : opened_between slot0.link.link.wire slot.link.link.wire ≡ opened_by leaves.drained
    opened_is = sym on.opened ∙ sym (ap opened_by d_is)

    rows_t : map (λ (a : Attempt). a.row) t.attempts ≡ y.book.ledger.rows
    rows_t =
        ap (map (λ (a : Attempt). a.row)) run.given
        ∙ rows_given (opened_between slot0.link.link.wire slot.link.link.wire) s1.attempts run.fresh
        ∙ ap (λ (ns : List (ℕ × ℕ)). streams_given ns (map (λ (a : Attempt). a.row) s1.attempts)) opened_is
        ∙ ap (streams_given (opened_by leaves.drained)) (h1.columns.rows ∙ sym (ap (λ (b : Book). b.ledger.rows) fed_is))
        ∙ sym (ap (λ (z : StateSeen). z.book.ledger.rows) y_is)

    columns_t : SeesColumns y.book.ledger t
    columns_t = record {
      rows = rows_t;
      calls = call_columns_stay s1 t places only ∙ h1.columns.calls ∙ sym (ap (λ (z : StateSeen). z.book.ledger.calls) y_is ∙ ap (λ (b : Book). b.ledger.calls) fed_is);
      asks = ap (λ (z : Seen). z.asks) run.is ∙ h1.columns.asks ∙ sym (ap (λ (z : StateSeen). z.book.ledger.asks) y_is ∙ ap (λ (b : Book). b.ledger.asks) fed_is);
      generations = ap (λ (z : Seen). map (λ (g : PolicyUse). g.generation) z.policies) run.is ∙ h1.columns.generations
          ∙ sym (ap (λ (z : StateSeen). z.book.ledger.generations) y_is ∙ ap (λ (b : Book). b.ledger.generations) fed_is);
      links = link_columns_stay s1 t run.sent l.number places only links_t (ap (λ (c : Option OpenEntry). is_some c) current_t) ∙ h1.columns.links
          ∙ sym (ap (λ (z : StateSeen). z.book.ledger.links) y_is ∙ ap (λ (b : Book). b.ledger.links) fed_is);
    }

    keeps_now : (u : Seen) → (ran : HasRun s1 u y link leaves.fed) → ran.before.over ≡ None → SeesColumns y.book.ledger u → SeesCalls y u
    keeps_now =
        subst
        (λ (z : Seen). Agrees x z → (u : Seen) → (ran : HasRun z u y link leaves.fed) → ran.before.over ≡ None → SeesColumns y.book.ledger u → SeesCalls y u) does_so
        (λ agrees u ran over columns. keeps u agrees follows ran over columns) h1

    agrees_t : Agrees y t
    unfolding has_run there
    agrees_t = record {
      clock = clock_t;
      columns = columns_t;
      configs = configs_t;
      buckets = buckets_t;
      calls = keeps_now t has_run there.over columns_t;
      links = links_now;
      net = net_t;
      orderly = orderly_t;
      sets = sets_t;
      kept = kept_t;
    }

    quiescent_t : quiescent.IsQuiescent run.entry t
    quiescent_t = let three = (quiescence_is_exact run.entry t).1 run.quiescent in record { calls = three.0; links = three.1; policies = three.2 }

    drain_answered : IsAnswered y r o s
    drain_answered = record {
      reaches = record {
        actions = action.EventAnswered (reply.Octets []) ∷ actions;
        seen = t;
        entry = run.entry;
        does = (follows, subst (λ (z : Seen). Does actions z t) (sym does_so) run.does);
        posts = none_posted l.number run.sent;
        same = record {
          moment = ap (λ (q : OpenEntry). q.moment) run.entry_is;
          word = ap (λ (q : OpenEntry). q.word) run.entry_is;
          event = ap (λ (q : OpenEntry). q.event) run.entry_is;
          entries = ap (λ (z : Seen). z.entries) run.is;
          setup = ap (λ (z : Seen). z.setup) run.is;
        };
        at = record { current = ap (λ (z : Seen). z.current) run.is; stage_is = ap (λ (q : OpenEntry). q.stage) run.entry_is; quiescent = quiescent_t };
        agrees = agrees_t;
      };
      reply = ap (λ (q : OpenEntry). q.reply) run.entry_is
          ∙ sym (ap (λ (z : Reply). Some z) (leaves.reply_is ∙ ap (λ (d : Option Drained). reply.Octets (octets_by d)) d_is));
      fresh = ap (λ (q : OpenEntry). q.turn) run.entry_is ∙ fresh;
      none = run.none;
    }

  by_drained : (d : Option Drained) → leaves.drained ≡ d → DrainGives (min room drained_limit) x.links link (lines_of x.book) d y.links (lines_of leaves.fed) → IsAnswered y r o s
  by_drained None e g =
      absurd (let bad : true ≡ false = sym drains_it ∙ sym (ap (drains_at (min room drained_limit)) has.there) ∙ g.0 in (cc))
  by_drained (Some drained) e g = drain_answered drained e g

  pub answered_by : IsAnswered y r o s
  answered_by =
      by_drained leaves.drained refl leaves.gives

pub drains_are_answered : DrainsAreAnswered
drains_are_answered keeps x y r o s h at fresh timely case answers =
    let given : DrainLeaves case.link (min case.room drained_limit) x r y
    = subst (λ (e : Event). AnswersBy None e x y r) case.event_is (subst (λ (z : Option Refusal). AnswersBy z o.event x y r) case.kept answers) in
    answered_by x y r o s h at fresh timely case.link case.room case.event_is case.kept case.near given
    (λ slot there. case.few y r slot (subst (λ (z : Option Refusal). AnswersBy z o.event x y r) case.kept answers) there)
    (λ t agrees next run over columns.
    keeps x y (after (action.EventAnswered (reply.Octets [])) s) t case.link (min case.room drained_limit) r agrees given run columns)
