-- The head of a response comes for a call that is not committed: the call is committed to the attempt, and its other attempts are cut off.
use Rattle.std.proofs.Common.{◌≡◌, ◌++◌, ◌&&◌, ◌==◌, ◌∷◌, ◌≤◌, ap, refl, subst, sym, ◌∙◌, Bool, true, false, List, [], Option, None, Some, ℕ, drop, is_none, is_some, length}
use Rattle.std.proofs.lemmas.Bool.{and_parts, eq-eqb, eqb-true}
use Rattle.std.specs.List.{list_all}
use Rattle.std.specs.Option.{option_map, option_map_or}
use Rattle.attempt_ledger.specs.declared.ledger.LinkSeen.{LinkSeen}
use Rattle.attempt_ledger.specs.declared.news.News.{News}
use Rattle.attempt_ledger.specs.declared.news.News.TheVariants as news
use Rattle.call_actions.specs.TakeActions.Cuts.{CanCommit}
use Rattle.call_actions.specs.TakeActions.Serves.{IsLeft, came}
use Rattle.call_core.specs.Laws as call_laws
use Rattle.call_core.specs.Parts.{find_live}
use Rattle.call_core.specs.Steps.{Stepped}
use Rattle.call_core.specs.declared.inbox.Inbox.{Inbox}
use Rattle.call_cases.proofs.EndsFollow.Apart.{last_passes}
use Rattle.channel_actions.specs.Agrees.{Agrees}
use Rattle.channel_actions.specs.Calls.{HasSlot}
use Rattle.channel_actions.specs.Quiescent.{IsAt}
use Rattle.call_cases.specs.EndsFollow.Laws.{is_late}
use Rattle.channel_actions.specs.Links.{HasLink, lines_in}
use Rattle.attempt_cases.proofs.CallCommits.Quiescent.{committed_still}
use Rattle.attempt_cases.proofs.CallCommits.Whole.{one_call_commits}
use Rattle.call_cases.proofs.CommitsFollow.Begun.{IsToCommit}
use Rattle.attempt_cases.proofs.DrainEvents.Rooms.{one_some}
use Rattle.call_cases.proofs.FullSends.Chosen.{can_commit}
use Rattle.attempt_cases.specs.CallCommits.Commits.{CommitsNext, HasCommitted, commits_with, committed_state}
use Rattle.channel_core.proofs.BookLaws.{number_changed}
use Rattle.channel_core.specs.Arrivals.{frame_received}
use Rattle.channel_core.specs.States.{StateSeen}
use Rattle.channel_core.specs.Steps.{call_asked, sealed, sealed_one, reported}
use Rattle.channel_core.specs.Tables.{Received, received_in, received_link, sealed_in, sealed_link, with_link}
use Rattle.channel_core.specs.declared.state.links.LinkSlot.{LinkSlot}
use Rattle.frame_cases.proofs.HeadFrames.Come as come
use Rattle.frame_cases.proofs.HeadFrames.Lists.{found_only, head_or_other, none_left}
use Rattle.frame_cases.proofs.HeadFrames.Report as head_reported
use Rattle.frame_cases.proofs.HeadFrames.Report.{with_meta}
use Rattle.frame_cases.proofs.MessageFrames.Report as reported_
use Rattle.frame_cases.proofs.MessageFrames.Report.{received_so}
use Rattle.frame_cases.proofs.OwnFrames.Alike.{HasAlike, alike_at, sealed_same}
use Rattle.frame_cases.proofs.OwnFrames.Frame as frame
use Rattle.frame_cases.proofs.PassedBytes.Noted.{unchanged_at}
use Rattle.frame_cases.proofs.PieceWalks.Coming.{coming_asked, coming_sealed, coming_sealed_one, sealed_after}
use Rattle.frame_cases.proofs.QuietFrames.ReadStill as read
use Rattle.frame_cases.specs.FrameKinds.Laws.{Heads, kind_of}
use Rattle.frame_cases.specs.HeadFrames.Laws.{HasHead, IsReadWithHead}
use Rattle.frame_cases.specs.PassedBytes.Laws.{relinked}
use Rattle.frame_cases.specs.PieceWalks.Points.{HasReceived, IsReceiving, IsReadFairly, coming}
use Rattle.grpc_base.specs.declared.event.Reply.{Reply}
use Rattle.grpc_base.specs.declared.event.Reply.TheVariants as reply
use Rattle.grpc_base.specs.declared.fields.Field.{Field}
use Rattle.grpc_link.specs.Links.{Report as Reported}
use Rattle.h2_frame.specs.Numbers.{goaway_type}
use Rattle.link_actions.specs.ResponseActions.Gained.{is_listed_fairly}
use Rattle.link_actions.specs.ResponseActions.Laws.{seen_at}
use Rattle.link_actions.specs.StreamActions.Laws.{IsOn}
use Rattle.session_actions.specs.Actions.{following}
use Rattle.session_actions.specs.Attempts.{commitment, is_commitment, is_of}
use Rattle.session_actions.specs.Commitments.{committing, is_free_call, is_headed, next_headed}
use Rattle.session_actions.specs.Deliveries.{response_items}
use Rattle.session_actions.specs.Links.{read_bytes}
use Rattle.session_actions.specs.Responses.{response}
use Rattle.session_actions.specs.Sessions.{Does}
use Rattle.session_actions.specs.Words.{find_last, numbered}
use Rattle.session_actions.specs.Writing.{frame_read, next_frame_read}
use Rattle.session_actions.specs.declared.action.Action.{Action}
use Rattle.session_actions.specs.declared.action.Action.TheVariants as action
use Rattle.session_actions.specs.declared.action.CommitCause.TheVariants as commit
use Rattle.session_actions.specs.declared.attempt.Attempt.{Attempt}
use Rattle.session_actions.specs.declared.call.Call.{Call}
use Rattle.session_actions.specs.declared.entry.OpenEntry.{OpenEntry}
use Rattle.session_actions.specs.declared.entry.Stage.TheVariants as stage
use Rattle.session_actions.specs.declared.link.Link.{Link}
use Rattle.session_actions.specs.declared.link.ReadFrame.{ReadFrame}
use Rattle.session_actions.specs.declared.seen.Seen.{Seen}
use Rattle.session_order.proofs.Quiescence.{quiescence_is_exact, first_line_gives}
use Rattle.session_order.proofs.Changed.{passes_not}
use Rattle.session_order.specs.Quiescent as order
use Rattle.session_order.specs.Quiescent.{is_overflowing}
use Rattle.session_order.specs.Lines.{is_before, is_line}
use Rattle.session_order.specs.declared.line.Line.{Line}
use Rattle.session_order.specs.declared.line.Line.TheVariants as line

abbrev never : Line → Bool
never k = false

never_late : (k : Line) → never k ≡ true → is_late k ≡ true
never_late k e = absurd (let bad : false ≡ true = e in let no : ⊥ = (cc) in no)

module _ (link : ℕ) (piece : List ℕ) (x : StateSeen) (o : OpenEntry) (s : Seen) (is : IsReceiving link piece x o s) (h : Received) (r : ReadFrame)
    (next : next_frame_read link s ≡ Some (action.FrameRead link r)) (receives : received_in link piece x.links ≡ Some h) (no_goaway : (r.frame.kind == goaway_type) ≡ false)
    (kind : kind_of h.news ≡ Heads) where
  abbrev t : Seen
  t = read.t link piece x o s is h r next receives

  abbrev m : Link
  m = read.m link piece x o s is h r next receives

  abbrev y : StateSeen
  y = read.y link piece x o s is h r next receives

  abbrev columns : List LinkSeen
  columns = read.columns link piece x o s is h r next receives

  abbrev hb : Received
  hb = read.hb link piece x o s is h r next receives

  abbrev slot : LinkSlot
  slot = read.slot link piece x o s is h r next receives

  abbrev left : List ℕ
  left = drop h.taken piece

  abbrev a : Attempt
  a = come.a link piece x o s is h r next receives no_goaway kind

  abbrev c : Call
  c = come.c link piece x o s is h r next receives no_goaway kind

  abbrev number : ℕ
  number = a.row.call

  abbrev meta : List Field
  meta = come.meta link piece x o s is h r next receives no_goaway kind

  abbrev has : HasSlot (coming link piece x) s c number
  has = come.has link piece x o s is h r next receives no_goaway kind

  abbrev what : News
  what = news.Head a.place meta (seen_at r)

  abbrev inbox : Inbox
  inbox = with_meta meta has.slot.call.inbox

  at : numbered s.calls number ≡ Some c
  at = come.at link piece x o s is h r next receives no_goaway kind

  abbrev on : IsOn is.l s r.frame.stream a
  on = come.on link piece x o s is h r next receives no_goaway kind

  its : HasHead meta (response a s) (response a t)
  its = come.its link piece x o s is h r next receives no_goaway kind

  abbrev out : Reported
  out = read.out link piece x o s is h r next receives

  alone : IsReadWithHead is.l m s (frame_read is.l.number r s) r.frame.stream (seen_at r) out.news out.link.link.wire (lines_in is.l s) out.link.readers
  alone = come.alone link piece x o s is h r next receives no_goaway kind

  open_now : c.end ≡ None
  open_now = frame.open_now link piece x o s is h r next receives a on

  number_is : c.number ≡ number
  number_is = frame.number_is link piece x o s is h r next receives a on

  mine : is_of c a ≡ true
  mine = frame.mine link piece x o s is h r next receives a on

  row_live : is_some (find_live a.place has.slot.call.live) ≡ true
  row_live = frame.row_live link piece x o s is h r next receives a on

  still_t : (k : Line) → is_line k line.Head ≡ false → order.IsStill k o t
  still_t k e = come.still_t link piece x o s is h r next receives no_goaway kind k e

  module _ (free : commitment c s ≡ None) where
    -- nothing came for any application
    came_same : (d : Call) → came d t ≡ came d s
    came_same d = frame.came_apart link piece x o s is h r next receives a on alone.others d (λ i k there its_own. apart i k there its_own (k.place == a.place) refl)
      where
        apart : (i : ℕ) (k : Attempt) → numbered s.attempts i ≡ Some k → commitment d s ≡ Some k → (e : Bool) → (k.place == a.place) ≡ e → (k.place == a.place) ≡ false
        apart i k there its_own false e = e
        apart i k there its_own true e =
            let passes : is_commitment d k ≡ true = last_passes (is_commitment d) s.attempts k its_own in
            let of_d : (k.row.call == d.number) ≡ true = (and_parts (is_of d k) (is_some k.row.committed) passes).0 in
            let one : a ≡ k = come.itself link piece x o s is h r next receives no_goaway kind i k there e in
            let same : c.number ≡ d.number = number_is ∙ ap (λ (z : Attempt). z.row.call) one ∙ eqb-true k.row.call d.number of_d in
            let both : None ≡ Some k
            = sym free ∙ ap (λ (j : ℕ). find_last (λ (q : Attempt). (q.row.call == j) && is_some q.row.committed) s.attempts) same ∙ its_own in
            absurd (let no : ⊥ = (cc) in no)

    agrees_t : Agrees (coming link left y) t
    agrees_t = read.agrees_passed link piece x o s is h r next receives alone.streams alone.reads alone.retiring came_same

    abbrev z : StateSeen
    z = coming link left y

    abbrev has_z : HasSlot z t c number
    has_z = agrees_t.calls.each number c at

    -- the commitment is next
    can : CanCommit t c a
    can = can_commit t c has_z.sees.turn open_now free a on.there mine (come.out_a link piece x o s is h r next receives no_goaway kind)

    abbrev to_commit : IsToCommit number o t
    to_commit = record {
      current = refl;
      call = c;
      there = at;
      attempt = a;
      can = can;
      book = agrees_t.kept.book;
      owned = agrees_t.kept.owned;
      orders = λ d got. (agrees_t.calls.each d.number d got).sees.order;
    }

    is_free : is_free_call s c ≡ true
    is_free = ap (λ (e : _). is_none e && is_none (commitment c s)) open_now ∙ ap (λ (q : Option Attempt). is_none q) free

    own_headed : is_headed t a ≡ true
    own_headed = come.own_headed link piece x o s is h r next receives no_goaway kind ∙ is_free

    only : (j : ℕ) (b : Attempt) → numbered s.attempts j ≡ Some b → is_headed t b ≡ true → b ≡ a
    only j b got e = by (b.place == a.place) refl
      where
        by : (q : Bool) → (b.place == a.place) ≡ q → b ≡ a
        by true f = sym (come.itself link piece x o s is h r next receives no_goaway kind j b got f)
        by false f = absurd (let bad : true ≡ false = sym e ∙ come.other_headed link piece x o s is h r next receives no_goaway kind j b got f in let no : ⊥ = (cc) in no)

    abbrev act : Action
    act = action.CallCommitted a.place commit.Head

    gives : next_headed t ≡ Some act
    gives = ap (option_map (committing commit.Head)) (found_only (is_headed t) a own_headed s.attempts a.place on.there only)

    next_is : following t ≡ Some act
    next_is =
        first_line_gives line.Head act o t refl
        (head_or_other (λ (k : Line). is_before o.event k line.Head ≡ true → order.IsStill k o t) (λ before. absurd (let bad : false ≡ true = before in let no : ⊥ = (cc) in no))
        (λ k e before. still_t k e)) gives

    -- what came of it stands in the inbox then
    nothing_held : call_laws.message_items has.slot.call.inbox.messages ≡ []
    nothing_held =
        none_left c.taken (call_laws.head_items has.slot.call.inbox.head) (call_laws.message_items has.slot.call.inbox.messages)
        (subst (λ (all : List Reply). IsLeft all c.taken (call_laws.came has.slot.call))
        (ap (λ (q : Option Attempt). option_map_or (λ (k : Attempt). response_items (response k s)) q []) free) (has.sees.serves.left (has.sees.serves.going open_now)))

    items : response_items (response a t) ≡ call_laws.head_items inbox.head ++ call_laws.message_items inbox.messages
    items = come.head_now link piece x o s is h r next receives no_goaway kind ∙ ap (λ (rs : List Reply). reply.Head meta ∷ rs) (sym nothing_held)

    away : (i : ℕ) (b : Attempt) → numbered s.attempts i ≡ Some b → (b.row.call == number) ≡ false → (q : Bool) → (b.place == a.place) ≡ q → (b.place == a.place) ≡ false
    away i b got off false e = e
    away i b got off true e =
        let one : a ≡ b = come.itself link piece x o s is h r next receives no_goaway kind i b got e in
        let same : (b.row.call == number) ≡ true = eq-eqb b.row.call number (ap (λ (k : Attempt). k.row.call) (sym one)) in
        absurd (let bad : true ≡ false = sym same ∙ off in let no : ⊥ = (cc) in no)

    abbrev commits : CommitsNext never number commit.Head inbox z o t
    commits = record {
      late = never_late;
      current = refl;
      agrees = agrees_t;
      unreset = is.known.early.resets;
      call = c;
      there = at;
      slot = has.slot;
      slot_is = has.there;
      attempt = a;
      can = can;
      taken = refl;
      items = items;
      next = next_is;
      uncut = still_t line.Cut refl;
      unfollowed = still_t line.Transparent refl;
      still = λ k e w.
          committed_still number o t to_commit has_z.sees.turn its.small (λ q over head. still_t q head)
          (λ j d off got. passes_not (is_overflowing t) s.calls j d (still_t line.Overflow refl) got)
          (λ i b got off. come.other_headed link piece x o s is h r next receives no_goaway kind i b got (away i b got off (b.place == a.place) refl)) k e;
    }

    done : HasCommitted never number a.place commit.Head inbox z o t
    done = one_call_commits never number commit.Head inbox z o t commits

    abbrev u : Seen
    u = done.seen

    -- the channel does the same: it gives the head to the call, and seals what it queued
    abbrev g : Stepped → Stepped
    g st = commits_with a.place inbox x.book.moment st

    abbrev x1 : StateSeen
    x1 = reported_.read link h x (what ∷ []) (come.single link piece x o s is h r next receives no_goaway kind) refl

    uncommitted : is_some has.slot.call.attempts.committed ≡ false
    uncommitted = ap (λ (q : Option ℕ). is_some q) (sym has.sees.serves.sees.attempts.committed ∙ ap (option_map (λ (k : Attempt). k.place)) free)

    reported_so : reported a.place what x1 ≡ call_asked g number x1
    reported_so =
        head_reported.reported_is a.place (seen_at r) number meta x1 a.row has.slot (frame.row_is link piece x o s is h r next receives a on) refl (frame.ended link piece x o s is h r next receives a on) has.there
        uncommitted row_live

    -- nothing was queued by the frame
    received_at : numbered hb.links link ≡ Some (with_link (received_link piece) slot)
    received_at = number_changed (with_link (received_link piece)) x.links link ∙ ap (option_map (with_link (received_link piece))) (read.kept link piece x o s is h r next receives).there

    unsealed : sealed_in link hb.links ≡ hb.links
    unsealed =
        unchanged_at (with_link sealed_link) link hb.links
        (λ q got.
        sealed_same q (subst (λ (k : LinkSlot). k.link.link.wire.queue.fresh ≡ 0) (one_some (with_link (received_link piece) slot) q (numbered hb.links link) received_at got)
        (ap (λ (k : Reported). k.link.link.wire.queue.fresh) (read.reported_is link piece x o s is h r next receives) ∙ alone.unreset)))

    x1_is : x1 ≡ y
    x1_is =
        ap (λ (rs : List ℕ). record x1 { resets = rs }) is.agrees.sets.resets
        ∙ ap (λ (k : Received). relinked k.links columns x) (read.h_is link piece x o s is h r next receives)
        ∙ ap (λ (ls : List LinkSlot). relinked ls columns x) (sym unsealed)

    abbrev v : StateSeen
    v = sealed (call_asked g number y)

    abbrev w : StateSeen
    w = coming link left v

    received_is : frame_received link h x ≡ sealed_one link v
    received_is =
        received_so link h x (what ∷ []) (come.single link piece x o s is h r next receives no_goaway kind) refl (call_asked g number x1) reported_so
        ∙ ap (λ (q : StateSeen). sealed (sealed_one link (call_asked g number q))) x1_is
        ∙ sealed_after link (call_asked g number y)

    w_is : committed_state number a.place inbox z ≡ w
    w_is = ap sealed (coming_asked link left g number y) ∙ coming_sealed link left (call_asked g number y)

    agrees_w : Agrees w u
    agrees_w = subst (λ (q : StateSeen). Agrees q u) w_is done.agrees

    -- the link then
    its_link : HasAlike u.links link m
    its_link = alike_at u.links t.links link m done.links (read.there link piece x o s is h r next receives)

    unbroken : its_link.now.over ≡ None
    unbroken = ap (λ (k : Link). k.over) its_link.alike ∙ (read.shown link piece x o s is h r next receives).unbroken

    has_link : HasLink w u its_link.now link
    has_link = agrees_w.links.each link its_link.now its_link.there

    same_w : sealed_one link w ≡ w
    same_w =
        ap (λ (ls : List LinkSlot). record w { links = ls })
        (unchanged_at (with_link sealed_link) link w.links
        (λ q got.
        sealed_same q (subst (λ (k : LinkSlot). k.link.link.wire.queue.fresh ≡ 0) (one_some has_link.slot q (numbered w.links link) has_link.there got) (has_link.sees.going unbroken).closed)))

    final : coming link left (frame_received link h x) ≡ w
    final = ap (coming link left) received_is ∙ sym (coming_sealed_one link left link v) ∙ same_w

    fair_u : IsReadFairly its_link.now
    fair_u =
        let fair : IsReadFairly m = read.fair_now link piece x o s is h r next receives in
        record {
          within = subst (λ (k : Link). read_bytes k ≤ length k.received) (sym its_link.alike) fair.within;
          listed = subst (λ (k : Link). list_all is_listed_fairly k.traffic ≡ true) (sym its_link.alike) fair.listed;
        }

    at_u : IsAt stage.Replied o u
    at_u =
        let three = (quiescence_is_exact o u).1 (λ k. done.still k refl) in
        record { current = done.current; stage_is = is.at.stage_is; quiescent = record { calls = three.0; links = three.1; policies = three.2 } }

    pub received_first : HasReceived link left (frame_received link h x) o s
    received_first = record {
      actions = action.FrameRead link r ∷ act ∷ done.actions;
      seen = u;
      entry = o;
      does = (read.follows link piece x o s is h r next receives, subst (λ (q : Seen). Does (act ∷ done.actions) q u) (sym (read.after_is link piece x o s is h r next receives)) done.does);
      posts = done.posts;
      same = record { moment = refl; word = refl; event = refl; entries = done.entries; setup = done.setup };
      at = at_u;
      reply = refl;
      fresh = is.fresh;
      link_ = its_link.now;
      here = its_link.there;
      fair = fair_u;
      few = subst (λ (k : Link). length k.received ≤ 18446744073709551615) (sym its_link.alike) is.few;
      left = λ e. subst (λ (k : Link). drop (read_bytes k) k.received ≡ left) (sym its_link.alike) (read.left_is link piece x o s is h r next receives);
      agrees = subst (λ (q : StateSeen). Agrees q u) (sym final) agrees_w;
    }
