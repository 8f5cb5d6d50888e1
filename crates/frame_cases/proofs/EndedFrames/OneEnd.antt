-- One attempt ends by the wire, and its resets are made: from the point after a frame at which its end is next, to one at which nothing follows at once.
use Rattle.std.proofs.Common.{◌≡◌, ◌&&◌, ◌++◌, ◌==◌, ◌∷◌, ◌≤◌, ap, refl, subst, sym, ◌∙◌, not, Bool, true, false, List, [], Option, None, Some, ℕ, drop, if◌then◌else◌, is_none, is_some, length, option_map, option_and_then, suc, slice_get, zero}
use Rattle.std.proofs.lemmas.Bool.{and_parts, eqb-true}
use Rattle.std.specs.List.{list_any}
use Rattle.attempt_ledger.specs.declared.news.EndNews.{EndNews}
use Rattle.attempt_ledger.specs.declared.row.RowEnd.{RowEnd}
use Rattle.call_actions.specs.Laws.{news_of}
use Rattle.channel_actions.proofs.Does.{does_on, none_on}
use Rattle.call_cases.proofs.EndsFollow.Steps.{placed_of}
use Rattle.channel_actions.proofs.Refusing.{none_numbered}
use Rattle.channel_actions.proofs.Stamps.{counted_at}
use Rattle.channel_actions.specs.Agrees.{Agrees}
use Rattle.channel_actions.specs.KeptSessions.Kept.{IsKept}
use Rattle.channel_actions.specs.Links.{HasLink}
use Rattle.channel_actions.specs.Points.{IsSameEntry}
use Rattle.channel_actions.specs.Sets.{is_in_outstanding}
use Rattle.event_cases.proofs.LostLinks.After.{IsStillOut, before, is_at, outcome_same}
use Rattle.event_cases.proofs.LostLinks.Ends.{none_waits}
use Rattle.end_cases.proofs.OwedResets.Sealed.{IsSealed, all_sealed_is, seal_at, seal_slot, slot_sealed}
use Rattle.end_cases.proofs.OwedResets.Whole.{resets_are_made}
use Rattle.event_cases.proofs.PassedAtOnce.Acts.{Staged, actions_leave_passed, passed_then}
use Rattle.event_cases.proofs.PassedAtOnce.Along.{IsOpenAs, goes_on}
use Rattle.end_cases.specs.AttemptEnds.Ahead.{HasLinkAhead}
use Rattle.end_cases.specs.AttemptEnds.Ends.{EndNext, HasEnded, ended_in}
use Rattle.end_cases.specs.AttemptEnds.Laws.{HasReset, OneAttemptEnds, ResetsNext, all_sealed}
use Rattle.event_cases.specs.PassedAtOnce.Passed.{HasStream, IsPassedStill}
use Rattle.channel_core.specs.States.{StateSeen}
use Rattle.channel_core.specs.declared.state.links.LinkSlot.{LinkSlot}
use Rattle.frame_cases.proofs.BrokenLinks.Waits.{never_waits}
use Rattle.frame_cases.proofs.EndedFrames.KeptSlots.{ended_keeps_slots}
use Rattle.frame_cases.proofs.PieceWalks.Unread.{IsUnread, unread_passed, unread_stays}
use Rattle.grpc_base.specs.declared.event.Event.TheVariants as event
use Rattle.link_actions.proofs.Ended.{is_ended}
use Rattle.link_actions.specs.Sees.{AttemptsStandInPlace}
use Rattle.session_actions.specs.Actions.{after, after_if}
use Rattle.session_actions.specs.AttemptEnds.{attempt_ended, end_of, outcome_of, with_end}
use Rattle.session_actions.specs.Attempts.{is_outstanding, is_over}
use Rattle.session_actions.specs.Laws.{posted_in}
use Rattle.session_actions.specs.Links.{link_number, read_bytes}
use Rattle.session_actions.specs.Sessions.{Does}
use Rattle.session_actions.specs.Words.{holds, numbered}
use Rattle.session_actions.specs.declared.action.Action.{Action}
use Rattle.session_actions.specs.declared.action.Action.TheVariants as action
use Rattle.session_actions.specs.declared.attempt.Attempt.{Attempt}
use Rattle.session_actions.specs.declared.entry.OpenEntry.{OpenEntry}
use Rattle.session_actions.specs.declared.entry.Stage.TheVariants as stage
use Rattle.session_actions.specs.declared.link.Link.{Link}
use Rattle.session_actions.specs.declared.link.LinkOver.{LinkOver}
use Rattle.session_actions.specs.declared.response.Outcome.{Outcome}
use Rattle.session_actions.specs.declared.seen.Seen.{Seen}
use Rattle.session_order.proofs.Changed.{changed_here, none_from, passes_not}
use Rattle.session_order.specs.Quiescent.{IsStill, is_to_cut, is_to_end}
use Rattle.session_order.specs.Lines.{is_line}
use Rattle.session_order.specs.declared.line.Line.{Line}
use Rattle.session_order.specs.declared.line.Line.TheVariants as line

-- the end of one attempt is next, and no other attempt is about to end; the link is not over
pub record IsAboutToEnd (link : ℕ) (whole : List ℕ) (l : Link) (a : Attempt) (out : Outcome) (z : StateSeen) (o : OpenEntry) (t : Seen) : Type 0 where
  pub next : EndNext [] none_waits (link ∷ []) a out z o t
  pub event_is : o.event ≡ event.Arrived link whole
  pub stage_is : o.stage ≡ stage.Replied
  pub here : numbered t.links link ≡ Some l
  pub own : l.number ≡ link
  pub going : l.over ≡ None
  pub within : read_bytes l ≤ length l.received
  pub others : (row : ℕ) (b : Attempt) → numbered t.attempts row ≡ Some b → (b.place == a.place) ≡ false → is_to_end t b ≡ false

-- it has ended, and nothing follows at once
pub record HasEndedAlone (link : ℕ) (a : Attempt) (out : Outcome) (z : StateSeen) (o : OpenEntry) (t : Seen) : Type 0 where
  pub actions : List Action
  pub seen : Seen
  pub entry : OpenEntry
  pub does : Does actions t seen
  pub posts : posted_in actions ≡ []
  pub same : IsSameEntry o t entry seen
  pub stage_is : entry.stage ≡ stage.Replied
  pub reply : entry.reply ≡ o.reply
  pub turn : entry.turn ≡ o.turn
  pub current : seen.current ≡ Some entry
  pub passed : IsPassedStill t seen
  pub quiescent : (m : Line) → IsStill m entry seen
  pub agrees : Agrees (all_sealed (link ∷ []) (ended_in a (news_of a out t) z)) seen

over_by : (o : Option LinkOver) (b : Bool) → is_some o ≡ b → b ≡ false → o ≡ None
over_by None b e f = refl
over_by (Some why) b e f = absurd (let bad : true ≡ false = e ∙ f in (cc))

none_of : (o : Option LinkOver) → o ≡ None → is_none o ≡ true
none_of o e = ap (λ (q : Option LinkOver). is_none q) e

-- of a slot what is left
pub record IsLeft : Type 0 where
  pub dead : Bool
  pub rest : List ℕ

abbrev pub left_in : LinkSlot → IsLeft
left_in slot = record { dead = slot.dead; rest = slot.link.link.rest }

seal_one : (n : ℕ) (ks : List ℕ) (slot : LinkSlot) → left_in (seal_slot n ks slot) ≡ left_in slot
seal_one n ks slot =
    let is : IsSealed slot (seal_slot n ks slot) = slot_sealed n ks slot in
    ap (λ (b : Bool). record { dead = b; rest = (seal_slot n ks slot).link.link.rest }) is.dead ∙ ap (λ (r : List ℕ). record { dead = slot.dead; rest = r }) is.rest

pub seal_keeps : (n : ℕ) (ks : List ℕ) (q : Option LinkSlot) → option_map left_in (option_map (seal_slot n ks) q) ≡ option_map left_in q
seal_keeps n ks None = refl
seal_keeps n ks (Some slot) = ap (λ (k : IsLeft). Some k) (seal_one n ks slot)

still_ends : (o : OpenEntry) (s : Seen) → ((row : ℕ) (b : Attempt) → numbered s.attempts row ≡ Some b → is_to_end s b ≡ false) → IsStill line.WireEnd o s
still_ends o s each = none_from (is_to_end s) s.attempts each

off_first : (a b c : Bool) → a ≡ false → ((a && b) && c) ≡ false
off_first true b c e = absurd (cc)
off_first false b c e = refl

module _ (ends : OneAttemptEnds) (link : ℕ) (whole : List ℕ) (l : Link) (a : Attempt) (out : Outcome) (z : StateSeen) (o : OpenEntry) (t : Seen)
    (is : IsAboutToEnd link whole l a out z o t) where
  abbrev end : RowEnd
  end = end_of a out t

  abbrev act : Action
  act = action.AttemptEnds a.place end

  abbrev news_ : EndNews
  news_ = news_of a out t

  abbrev y : StateSeen
  y = ended_in a news_ z

  he : HasEnded [] none_waits (link ∷ []) a out z o t
  he = ends [] none_waits (link ∷ []) a out z o t is.next tt

  abbrev u : Seen
  u = attempt_ended a.place end t

  its_place : numbered t.attempts a.place ≡ Some a
  its_place = is.next.ending.there

  kept_t : IsKept t
  kept_t = is.next.books.kept

  u_is : after act t ≡ u
  u_is = ap (λ (q : Option OpenEntry). after_if q act t) is.next.current

  places_t : AttemptsStandInPlace 1 t.attempts
  places_t = placed_of 1 t.attempts kept_t.book.places

  links_u : u.links ≡ t.links
  links_u = ap (λ (v : Seen). v.links) (is_ended t a.place end a places_t its_place)

  -- the link, before
  was : HasLinkAhead z u l link
  was = is.next.links.each link l (ap (λ (ls : List Link). numbered ls link) links_u ∙ is.here)

  abbrev slot : LinkSlot
  slot = was.slot

  before_left : drop (read_bytes l) l.received ≡ slot.link.link.rest
  before_left = (was.sees.going is.going).rest

  -- and after
  kept_slot : option_map left_in (numbered y.links link) ≡ Some (left_in slot)
  kept_slot = ended_keeps_slots left_in (λ row k. refl) a news_ z link ∙ ap (option_map left_in) was.there

  found : (m : Link) × (numbered he.seen.links link ≡ Some m)
  found = by (numbered he.seen.links link) refl
    where
      by : (q : Option Link) → numbered he.seen.links link ≡ q → (m : Link) × (numbered he.seen.links link ≡ Some m)
      by (Some m) e = (m, e)
      by None e =
          let none : numbered y.links link ≡ None = none_numbered he.seen.links y.links link he.agrees.links.count e in
          absurd (let bad : None ≡ Some (left_in slot) = sym (ap (option_map left_in) none) ∙ kept_slot in (cc))

  abbrev m : Link
  m = found.0

  now : HasLinkAhead y he.seen m link
  now = he.agrees.links.each link m found.1

  same_left : left_in now.slot ≡ left_in slot
  same_left = let both : Some (left_in now.slot) ≡ Some (left_in slot) = sym (ap (option_map left_in) now.there) ∙ kept_slot in (cc)

  going_m : m.over ≡ None
  going_m =
      over_by m.over now.slot.dead now.sees.over
      (ap (λ (k : IsLeft). k.dead) same_left ∙ sym was.sees.over ∙ ap (λ (q : Option LinkOver). is_some q) is.going)

  after_left : drop (read_bytes m) m.received ≡ drop (read_bytes l) l.received
  after_left = (now.sees.going going_m).rest ∙ ap (λ (k : IsLeft). k.rest) same_left ∙ sym before_left

  stage_then : he.entry.stage ≡ stage.Replied
  stage_then = he.stage ∙ is.stage_is

  -- so no further frame was read
  opened : IsOpenAs (record { stage_ = o.stage; event_ = o.event }) (after act t)
  opened = goes_on act o t is.next.current refl refl

  one_passed : IsPassedStill t (after act t)
  one_passed = actions_leave_passed act o t is.next.current refl

  unread : IsUnread link whole (read_bytes l) l.received o t
  unread = record { event_is = is.event_is; m = l; here = is.here; own = is.own; came = refl; read = refl }

  rest_passed : IsPassedStill (after act t) he.seen
  rest_passed =
      unread_passed link whole (read_bytes l) l.received he.actions opened.entry he.entry (after act t) he.seen he.does.1 he.posts opened.current
      (ap (λ (q : Staged). q.stage_) opened.stage_is ∙ is.stage_is) he.current stage_then
      (unread_stays link whole (read_bytes l) l.received o opened.entry t (after act t) unread (ap (λ (q : Staged). q.event_) opened.stage_is) one_passed)
      is.within m found.1 after_left (none_of m.over going_m)

  passed : IsPassedStill t he.seen
  passed = passed_then t (after act t) he.seen one_passed rest_passed

  -- nor does another attempt end
  kept_he : IsKept he.seen
  kept_he = he.agrees.books.kept

  ended_there : numbered (after act t).attempts a.place ≡ Some (with_end end a)
  ended_there =
      ap (λ (v : Seen). numbered v.attempts a.place) (u_is ∙ is_ended t a.place end a places_t its_place)
      ∙ changed_here (with_end end) a.place t.attempts a its_place

  not_out : (b : Attempt) → is_some b.row.ended ≡ true → is_outstanding b ≡ false
  not_out b done = by (is_some b.row.placed) b.row.ended done
    where
      by : (p : Bool) (q : Option RowEnd) → is_some q ≡ true → (p && is_none q) ≡ false
      by true None e = absurd (cc)
      by true (Some k) e = refl
      by false q e = refl

  own_out : (b : Attempt) → numbered he.seen.attempts a.place ≡ Some b → is_outstanding b ≡ false
  own_out b at =
      let h : HasStream (with_end end a) (numbered he.seen.attempts a.place) = rest_passed.attempts a.place (with_end end a) ended_there in
      let same : h.now ≡ b = (let both : Some h.now ≡ Some b = sym h.there ∙ at in (cc)) in
      not_out b (ap (λ (q : Attempt). is_some q.row.ended) (sym same) ∙ h.over refl)

  to_end_by : (row : ℕ) (b : Attempt) (c : Bool) → numbered he.seen.attempts row ≡ Some b → is_outstanding b ≡ c → is_to_end he.seen b ≡ false
  to_end_by row b false at e = off_first (is_outstanding b) (not (is_over b he.seen)) (is_some (outcome_of b he.seen)) e
  to_end_by row b true at e =
      let k = before t he.seen kept_t kept_he passed he.fewer row b at e in
      let place : k.0.place ≡ row = counted_at (λ (q : Attempt). q.place) t.attempts row k.0 kept_t.attempts k.1.before in
      let apart : (k.0.place == a.place) ≡ false = apart_by k.0 place (k.0.place == a.place) refl in
      let quiet : is_to_end t k.0 ≡ false = is.others row k.0 k.1.before apart in
      let alive : is_over k.0 t ≡ false
      = second (is_outstanding k.0) (is_over k.0 t) k.1.out_a (passes_not (is_to_cut t) t.attempts row k.0 (is.next.still line.Cut refl refl) k.1.before) in
      let none : is_some (outcome_of k.0 t) ≡ false
      = second (is_outstanding k.0 && not (is_over k.0 t)) (is_some (outcome_of k.0 t)) (ap (λ (p : Bool). p && not (is_over k.0 t)) k.1.out_a ∙ ap not alive) quiet in
      ap (λ (p : Bool). (is_outstanding b && not (is_over b he.seen)) && p)
      (ap (λ (q : Option Outcome). is_some q) (outcome_same t he.seen kept_t kept_he passed he.fewer row k.0 b k.1) ∙ none)
      ∙ off_last (is_outstanding b && not (is_over b he.seen))
    where
      second : (p q : Bool) → p ≡ true → (p && q) ≡ false → q ≡ false
      second true q e f = f
      second false q e f = absurd (cc)

      off_last : (p : Bool) → (p && false) ≡ false
      off_last true = refl
      off_last false = refl

      apart_by : (k : Attempt) → k.place ≡ row → (c : Bool) → (k.place == a.place) ≡ c → c ≡ false
      apart_by k place false f = refl
      apart_by k place true f =
          let here : row ≡ a.place = sym place ∙ eqb-true k.place a.place f in
          absurd (let bad : true ≡ false = sym e ∙ own_out b (ap (numbered he.seen.attempts) (sym here) ∙ at) in (cc))

  ends_still : IsStill line.WireEnd he.entry he.seen
  ends_still = still_ends he.entry he.seen (λ row b at. to_end_by row b (is_outstanding b) at refl)

  still_then : (k : Line) → is_line k line.Reset ≡ false → IsStill k he.entry he.seen
  still_then line.Cut off = he.still line.Cut refl
  still_then line.Transparent off = he.still line.Transparent refl
  still_then line.Inherited off = he.still line.Inherited refl
  still_then line.Row off = he.still line.Row refl
  still_then line.Final off = he.still line.Final refl
  still_then line.Cancelled off = he.still line.Cancelled refl
  still_then line.Request off = he.still line.Request refl
  still_then line.Overflow off = he.still line.Overflow refl
  still_then line.Head off = he.still line.Head refl
  still_then line.Response off = he.still line.Response refl
  still_then line.Pick off = he.still line.Pick refl
  still_then line.Link off = he.still line.Link refl
  still_then line.WireEnd off = ends_still
  still_then line.Reset off = absurd (cc)
  still_then line.Shut off = he.late line.Shut refl refl
  still_then line.Retire off = he.late line.Retire refl refl
  still_then line.Begin off = he.late line.Begin refl refl
  still_then line.Give off = he.late line.Give refl refl
  still_then line.Drop off = he.late line.Drop refl refl
  still_then line.Add off = he.late line.Add refl refl

  -- then the resets are made
  resets_next : ResetsNext none_waits (link ∷ []) y he.entry he.seen
  resets_next = record { late = never_waits he.entry; current = he.current; still = λ k off none. still_then k off; agrees = he.agrees }

  hr : HasReset none_waits (link ∷ []) y he.entry he.seen
  hr = resets_are_made none_waits (link ∷ []) y he.entry he.seen resets_next

  unread_then : IsUnread link whole (read_bytes l) l.received he.entry he.seen
  unread_then = unread_stays link whole (read_bytes l) l.received o he.entry t he.seen unread he.same.event passed

  -- the link once they are made
  sealed_left : option_map left_in (numbered (all_sealed (link ∷ []) y).links link) ≡ Some (left_in slot)
  sealed_left =
      ap (λ (v : StateSeen). option_map left_in (numbered v.links link)) (all_sealed_is (link ∷ []) y) ∙ ap (option_map left_in) (seal_at link ((link ∷ []) ++ y.resets) y.links)
      ∙ seal_keeps link ((link ∷ []) ++ y.resets) (numbered y.links link) ∙ kept_slot

  found_then : (k : Link) × (numbered hr.seen.links link ≡ Some k)
  found_then = by (numbered hr.seen.links link) refl
    where
      by : (q : Option Link) → numbered hr.seen.links link ≡ q → (k : Link) × (numbered hr.seen.links link ≡ Some k)
      by (Some k) e = (k, e)
      by None e =
          let none : numbered (all_sealed (link ∷ []) y).links link ≡ None
          = none_numbered hr.seen.links (all_sealed (link ∷ []) y).links link hr.agrees.links.count e in
          absurd (let bad : None ≡ Some (left_in slot) = sym (ap (option_map left_in) none) ∙ sealed_left in (cc))

  abbrev k : Link
  k = found_then.0

  then_ : HasLink (all_sealed (link ∷ []) y) hr.seen k link
  then_ = hr.agrees.links.each link k found_then.1

  same_then : left_in then_.slot ≡ left_in slot
  same_then = let both : Some (left_in then_.slot) ≡ Some (left_in slot) = sym (ap (option_map left_in) then_.there) ∙ sealed_left in (cc)

  going_k : k.over ≡ None
  going_k =
      over_by k.over then_.slot.dead then_.sees.over
      (ap (λ (q : IsLeft). q.dead) same_then ∙ sym was.sees.over ∙ ap (λ (q : Option LinkOver). is_some q) is.going)

  left_k : drop (read_bytes k) k.received ≡ drop (read_bytes l) l.received
  left_k = (then_.sees.going going_k).rest ∙ ap (λ (q : IsLeft). q.rest) same_then ∙ sym before_left

  resets_passed : IsPassedStill he.seen hr.seen
  resets_passed =
      unread_passed link whole (read_bytes l) l.received hr.actions he.entry he.entry he.seen hr.seen hr.does hr.posts he.current stage_then hr.current stage_then unread_then is.within k
      found_then.1 left_k (none_of k.over going_k)

  pub ended_alone : HasEndedAlone link a out z o t
  ended_alone = record {
    actions = (act ∷ he.actions) ++ hr.actions;
    seen = hr.seen;
    entry = he.entry;
    does = does_on (act ∷ he.actions) hr.actions t he.seen hr.seen he.does hr.does;
    posts = none_on (act ∷ he.actions) hr.actions he.posts hr.posts;
    same = record {
      moment = he.same.moment;
      word = he.same.word;
      event = he.same.event;
      entries = hr.entries ∙ he.same.entries;
      setup = hr.setup ∙ he.same.setup;
    };
    stage_is = stage_then;
    reply = he.reply;
    turn = he.turn;
    current = hr.current;
    passed = passed_then t he.seen hr.seen passed resets_passed;
    quiescent = λ k. hr.still k refl;
    agrees = hr.agrees;
  }
