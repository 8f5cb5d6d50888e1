-- The first of the ends that GOAWAY brings comes, with all that follows from it at once but resets.
use Rattle.std.proofs.Common.{◌≡◌, ◌&&◌, ◌==◌, ◌∷◌, ◌≤◌, ap, refl, subst, sym, ◌∙◌, not, Bool, true, false, List, [], None, Option, Some, ℕ, drop, if◌then◌else◌, is_none, is_some, length, nat_lt, option_map}
use Rattle.std.proofs.lemmas.Bool.{eq-eqb, eqb-true}
use Rattle.std.specs.List.{AllByRecursion, list_all}
use Rattle.std.specs.Option.{option_map_or}
use Rattle.std.specs.Prelude.{nat_le, option_and_then}
use Rattle.attempt_cases.proofs.DrainEvents.Rooms.{one_some}
use Rattle.attempt_ledger.specs.declared.news.EndNews.{EndNews}
use Rattle.attempt_ledger.specs.declared.row.Placed.{Placed}
use Rattle.attempt_ledger.specs.declared.row.RowEnd.{RowEnd}
use Rattle.call_actions.specs.Laws.{IsEnding, news_of}
use Rattle.channel_actions.proofs.Gone.{all_numbered, gone_by, sub_noted}
use Rattle.channel_actions.proofs.Links.Prefaced.Along.{prefaced_along}
use Rattle.channel_actions.proofs.Streams.Own.Along.{streams_along}
use Rattle.channel_actions.proofs.Refusing.{none_numbered}
use Rattle.channel_actions.proofs.Stamps.{counted_at}
use Rattle.channel_actions.specs.KeptSessions.Kept.{IsKept}
use Rattle.channel_core.specs.Arrivals.{ended_on}
use Rattle.channel_core.specs.Books.{row_at}
use Rattle.channel_core.specs.States.{StateSeen}
use Rattle.channel_core.specs.Steps as channel
use Rattle.channel_core.specs.Steps.{stamped_gone, with_ledger_links}
use Rattle.channel_core.specs.declared.state.links.LinkSlot.{LinkSlot}
use Rattle.end_cases.proofs.AttemptEnds.Gone.{going_gone}
use Rattle.end_cases.proofs.CutEnds.LeftNext.{first_ends}
use Rattle.end_cases.specs.AttemptEnds.Ahead.{AgreesOffLinks, HasLinkAhead, LinksAhead}
use Rattle.end_cases.specs.AttemptEnds.Ends.{EndNext, HasEnded, ended_in, gone_with}
use Rattle.end_cases.specs.AttemptEnds.Laws.{EndsStayHeld, OneAttemptEnds}
use Rattle.end_cases.specs.AttemptEnds.Left.{AttemptsAreThere, all_left}
use Rattle.event_cases.proofs.LostLinks.After.{before, outcome_same}
use Rattle.event_cases.proofs.LostLinks.Ends.{before_end, lives_by}
use Rattle.event_cases.proofs.LostLinks.Walk.{rises}
use Rattle.event_cases.proofs.PassedAtOnce.Acts.{Staged, actions_leave_passed, passed_then}
use Rattle.event_cases.proofs.PassedAtOnce.Along.{IsOpenAs, goes_on}
use Rattle.event_cases.specs.PassedAtOnce.Passed.{HasStream, IsPassedStill}
use Rattle.frame_cases.proofs.BrokenLinks.Waits.{resets_wait, sooner_by, waits_late}
use Rattle.frame_cases.proofs.EndedFrames.KeptSlots.{ended_keeps_slots}
use Rattle.frame_cases.proofs.EndedFrames.OneEnd.{IsLeft, left_in}
use Rattle.frame_cases.proofs.EndedFrames.Report.{ended_same}
use Rattle.frame_cases.proofs.PieceWalks.Unread.{IsUnread, unread_passed, unread_stays}
use Rattle.frame_cases.proofs.RetiredLinks.Ahead.{plain_framing, plain_reset}
use Rattle.frame_cases.proofs.RetiredLinks.Alike.{plain_alike}
use Rattle.frame_cases.proofs.RetiredLinks.Ends.{owed_ends}
use Rattle.frame_cases.proofs.RetiredLinks.Firsts.{any_there, either, entry_goes, first_gives, low_self, no_action, none_by, none_of, not_end, off_last, over_by, second, some_call, uncut_by, unsent_by}
use Rattle.frame_cases.proofs.RetiredLinks.Going.{ReceivedGoesOn, ended_goes}
use Rattle.frame_cases.proofs.RetiredLinks.Meant.{goaway_rows_stay}
use Rattle.frame_cases.proofs.RetiredLinks.News.{tags}
use Rattle.frame_cases.proofs.RetiredLinks.Points as points
use Rattle.frame_cases.proofs.RetiredLinks.Points.{GoawayGoesOn, IsToEnd, ended_out, low_off, off_first, within_list}
use Rattle.frame_cases.proofs.RetiredLinks.Shapes.{IsGoawayRow, IsPlainEnd, out_for}
use Rattle.lb_policy.specs.Table.{is_one_of}
use Rattle.ledger_stamps.specs.Steps.{changed_at, gone_link}
use Rattle.link_actions.proofs.Ended.{is_ended}
use Rattle.link_actions.specs.LossActions.Sees.{end_news}
use Rattle.link_actions.specs.ResponseActions.Laws.{left_out_end}
use Rattle.session_actions.specs.Actions.{after, after_if, following}
use Rattle.session_actions.specs.AttemptEnds.{attempt_ended, end_of, next_wire_end, outcome_of, unsent_end, wire_end, with_end}
use Rattle.session_actions.specs.Attempts.{call_of, is_of, is_outstanding, is_over, is_queued}
use Rattle.session_actions.specs.Events.{is_loss}
use Rattle.session_actions.specs.Links.{link_of, read_bytes}
use Rattle.session_actions.specs.Reading.{is_outstanding_on}
use Rattle.session_actions.specs.Words.{holds, numbered}
use Rattle.session_actions.specs.declared.action.Action.{Action}
use Rattle.session_actions.specs.declared.action.Action.TheVariants as action
use Rattle.session_actions.specs.declared.attempt.Attempt.{Attempt}
use Rattle.session_actions.specs.declared.call.Call.{Call}
use Rattle.session_actions.specs.declared.entry.OpenEntry.{OpenEntry}
use Rattle.session_actions.specs.declared.entry.Stage.TheVariants as stage
use Rattle.session_actions.specs.declared.link.Link.{Link}
use Rattle.session_actions.specs.declared.link.LinkOver.{LinkOver}
use Rattle.session_actions.specs.declared.response.Outcome.{Outcome}
use Rattle.session_actions.specs.declared.seen.Seen.{Seen}
use Rattle.session_order.proofs.Quiescence.{first_line_gives}
use Rattle.session_order.proofs.Changed.{changed_here, passes_not}
use Rattle.session_order.specs.Quiescent.{IsStill, is_to_cut, is_to_end}
use Rattle.session_order.specs.Lines.{is_line}
use Rattle.session_order.specs.declared.line.Line.{Line}
use Rattle.session_order.specs.declared.line.Line.TheVariants as line

module _ (link : ℕ) (whole : List ℕ) (n : ℕ) (bs : List ℕ) (at moment : ℕ) (within : n ≤ length bs) (ends : OneAttemptEnds) (stays : EndsStayHeld) (handled : ReceivedGoesOn)
    (e : ℕ × EndNews) (es : List (ℕ × EndNews)) (x : StateSeen) (o : OpenEntry) (s : Seen) (is : GoawayGoesOn link whole n bs at moment (e ∷ es) x o s)
    (going : (points.a link whole n bs at moment e es x o s is).row.ended ≡ None) where
  abbrev row : ℕ
  row = e.0

  abbrev g : IsGoawayRow link n s e.0
  g = is.each.0.row

  abbrev a : Attempt
  a = g.attempt

  abbrev out : Outcome
  out = out_for a

  abbrev later : List (ℕ × RowEnd)
  later = owed_ends at moment es

  abbrev m : Link
  m = is.unread.m

  kept : IsKept s
  kept = points.kept link whole n bs at moment e es x o s is

  place : a.place ≡ row
  place = points.place link whole n bs at moment e es x o s is

  there : numbered s.attempts a.place ≡ Some a
  there = points.there link whole n bs at moment e es x o s is

  own : m.number ≡ link
  own = is.unread.own

  here : numbered s.links link ≡ Some m
  here = is.unread.here

  out_a : is_outstanding a ≡ true
  out_a = ap (λ (p : Option Placed). is_some p && is_none a.row.ended) g.placed ∙ ap (λ (q : Option RowEnd). is_none q) going

  out_on : is_outstanding_on m a ≡ true
  out_on =
      ap (λ (b : Bool). b && holds (λ (p : Placed). p.link == m.number) a.row.placed) out_a ∙ ap (holds (λ (p : Placed). p.link == m.number)) g.placed
      ∙ eq-eqb g.at.link m.number (g.here ∙ sym own)

  link_is : link_of a s ≡ Some m
  link_is = ap (option_and_then (λ (p : Placed). numbered s.links p.link)) g.placed ∙ ap (numbered s.links) g.here ∙ here

  read_is : option_map_or read_bytes (link_of a s) 0 ≡ n
  read_is = ap (λ (q : Option Link). option_map_or read_bytes q 0) link_is ∙ is.unread.read

  -- its call
  its_call : (c : Call) × (numbered s.calls a.row.call ≡ Some c)
  its_call = some_call (numbered s.calls a.row.call) (all_numbered (λ (b : Attempt). is_some (call_of b s)) s.attempts a.place a there kept.owned)

  abbrev c : Call
  c = its_call.0

  mine : is_of c a ≡ true
  mine = eq-eqb a.row.call c.number (sym (counted_at (λ (d : Call). d.number) s.calls a.row.call c kept.calls its_call.1))

  ending : IsEnding s c a.place a out
  ending = record {
    there = there;
    own = mine;
    lives = lives_by (is_of c a) (is_outstanding a) (is_queued a s) mine out_a;
    uncut = uncut_by a.row.stream;
  }

  -- its end is next
  abbrev end : RowEnd
  end = end_of a out s

  abbrev act : Action
  act = action.AttemptEnds a.place end

  not_over : (r : ℕ) (b : Attempt) → numbered s.attempts r ≡ Some b → is_outstanding b ≡ true → is_over b s ≡ false
  not_over r b got out_b = second (is_outstanding b) (is_over b s) out_b (passes_not (is_to_cut s) s.attempts r b (is.still line.Cut refl refl) got)

  its_action : wire_end s a ≡ Some act
  its_action =
      ap (λ (b : Bool). if b && not (is_over a s) then option_map (λ (q : Outcome). action.AttemptEnds a.place (end_of a q s)) (outcome_of a s) else None) out_a
      ∙ ap (λ (b : Bool). if not b then option_map (λ (q : Outcome). action.AttemptEnds a.place (end_of a q s)) (outcome_of a s) else None) (not_over a.place a there out_a)
      ∙ ap (option_map (λ (q : Outcome). action.AttemptEnds a.place (end_of a q s))) (g.goes going)

  none_at : (r : ℕ) (b : Attempt) (z : Bool) → numbered s.attempts r ≡ Some b → is_outstanding b ≡ z → is_to_end s b ≡ false → wire_end s b ≡ None
  none_at r b false got off none =
      ap (λ (q : Bool). if q && not (is_over b s) then option_map (λ (k : Outcome). action.AttemptEnds b.place (end_of b k s)) (outcome_of b s) else None) off
  none_at r b true got on none =
      let quiet : is_some (outcome_of b s) ≡ false
      = second (is_outstanding b && not (is_over b s)) (is_some (outcome_of b s)) (ap (λ (q : Bool). q && not (is_over b s)) on ∙ ap not (not_over r b got on)) none in
      ap (λ (q : Option Outcome). if is_outstanding b && not (is_over b s) then option_map (λ (k : Outcome). action.AttemptEnds b.place (end_of b k s)) q else None)
      (none_by (outcome_of b s) quiet)
      ∙ no_action None refl (is_outstanding b && not (is_over b s))

  none_lower : (r : ℕ) (b : Attempt) → numbered s.attempts r ≡ Some b → nat_lt r a.place ≡ true → wire_end s b ≡ None
  none_lower r b got low =
      let below : nat_lt r row ≡ true = ap (nat_lt r) (sym place) ∙ low in
      none_at r b (is_outstanding b) got refl
      (is.others r b got (either (row == r) (is_one_of (tags es) r) (low_self r row below) (low_off r row es below is.rising.0)))

  gives : next_wire_end s ≡ Some act
  gives = first_gives (wire_end s) s.attempts a.place a act there its_action none_lower

  loses_not : is_loss o.event ≡ false
  loses_not = ap is_loss is.unread.event_is

  next : following s ≡ Some act
  next =
      first_line_gives line.WireEnd act o s is.current
      (λ k before_. is.still k (before_end (is_loss o.event) k before_) (sooner_by (is_loss o.event) loses_not k before_)) gives

  -- its link is not stamped
  was : HasLinkAhead x (all_left (owed_ends at moment (e ∷ es)) s) m link
  was = is.agrees.links.each link m here

  abbrev slot : LinkSlot
  slot = was.slot

  not_gone : channel.is_gone link x ≡ false
  not_gone =
      gone_by x s link m own slot was.there was.sees.over was.sees.retiring (sub_noted x.book.ledger.links s link m here is.agrees.books.columns.links)
      is.agrees.books.net.subs_are (all_numbered (λ (k : Link). is_some (numbered s.subs k.sub)) s.links link m here kept.dialled) is.agrees.books.sets.outstanding
      ∙ going_gone m s (any_there (is_outstanding_on m) s.attempts a.place a there out_on) ∙ ap (λ (q : Option LinkOver). is_some q) is.going

  unstamped : gone_with a.row.placed x ≡ x
  unstamped =
      ap (λ (q : Option Placed). gone_with q x) g.placed ∙ ap (λ (k : ℕ). stamped_gone k x) g.here
      ∙ ap (λ (b : Bool). if b then with_ledger_links (changed_at (gone_link x.book.ledger.entry) x.book.ledger.links link) x else x) not_gone

  books : AgreesOffLinks (gone_with a.row.placed x) s
  books = subst (λ (y : StateSeen). AgreesOffLinks y s) (sym unstamped) is.agrees.books

  -- the links, once it has ended
  plain_e : IsPlainEnd at n end
  plain_e = record { entry_is = is.entry_is; seen_is = read_is; unreset = plain_reset a.row.stream; unbroken = plain_framing a.row.stream }

  links : LinksAhead (link ∷ []) x (all_left later (attempt_ended a.place end s))
  links =
      first_ends (points.d link whole n bs at moment e es x o s is) end later s a there (points.ready link whole n bs at moment e es x o s is)
      (points.owned link whole n bs at moment e es x o s is) (points.apart link whole n bs at moment e es x o s is)
      (plain_alike at n (points.d link whole n bs at moment e es x o s is) end s (points.plain_d link whole n bs at moment e es x o s is) plain_e) (link ∷ []) x
      (points.links_s link whole n bs at moment e es x o s is)

  all_there : (ks : List (ℕ × EndNews)) → AllByRecursion (IsToEnd link whole n bs at moment s) ks → AttemptsAreThere (owed_ends at moment ks) s
  all_there [] all = refl
  all_there (k ∷ ks) all =
      ap (λ (b : Bool). b && list_all (λ (y : ℕ × RowEnd). nat_le y.0 (length s.attempts)) (owed_ends at moment ks)) (within_list k.0 s.attempts all.0.row.attempt all.0.row.there)
      ∙ all_there ks all.1

  end_next : EndNext later resets_wait (link ∷ []) a out x o s
  end_next = record {
    late = waits_late;
    current = is.current;
    call = c;
    there = its_call.1;
    ending = ending;
    next = next;
    still = λ k off waits. is.still k (not_end k off) waits;
    books = books;
    links = links;
    among = all_there es is.each.1;
    unreset = is.agrees.unreset;
    apart = is.streams.apart;
    rising = is.runs;
    going = is.calls;
    held = λ follows. is.held;
    unsent = λ none. (ap (λ (q : Option Placed). is_some q) g.placed, unsent_by a.row.stream none);
  }

  pub he : HasEnded later resets_wait (link ∷ []) a out x o s
  he = ends later resets_wait (link ∷ []) a out x o s end_next tt

  -- the channel
  abbrev pub y : StateSeen
  y = ended_in a (news_of a out s) x

  news_same : e.1 ≡ news_of a out s
  news_same = is.each.0.news_is ∙ ap (end_news out) (sym read_is)

  pub ended_is : ended_on link row e.1 x ≡ y
  ended_is =
      ap (λ (k : ℕ). ended_on link k e.1 x) (sym place) ∙ ap (λ (q : EndNews). ended_on link a.place q x) news_same
      ∙ ended_same link a g.at (news_of a out s) g.placed g.here going x (ap (row_at x.book) place ∙ points.row_x link whole n bs at moment e es x o s is)

  abbrev pub t : Seen
  t = he.seen

  abbrev pub p : OpenEntry
  p = he.entry

  abbrev pub those : List Action
  those = act ∷ he.actions

  pub stage_then : p.stage ≡ stage.Replied
  stage_then = he.stage ∙ is.stage_is

  still_then : (k : Line) → is_line k line.WireEnd ≡ false → resets_wait k ≡ false → IsStill k p t
  still_then line.Cut off w = he.still line.Cut refl
  still_then line.Transparent off w = he.still line.Transparent refl
  still_then line.Inherited off w = he.still line.Inherited refl
  still_then line.Row off w = he.still line.Row refl
  still_then line.Final off w = he.still line.Final refl
  still_then line.Cancelled off w = he.still line.Cancelled refl
  still_then line.Request off w = he.still line.Request refl
  still_then line.Overflow off w = he.still line.Overflow refl
  still_then line.Head off w = he.still line.Head refl
  still_then line.Response off w = he.still line.Response refl
  still_then line.Pick off w = he.still line.Pick refl
  still_then line.Link off w = he.still line.Link refl
  still_then line.WireEnd off w = absurd (cc)
  still_then line.Reset off w = absurd (cc)
  still_then line.Shut off w = he.late line.Shut refl refl
  still_then line.Retire off w = he.late line.Retire refl refl
  still_then line.Begin off w = he.late line.Begin refl refl
  still_then line.Give off w = he.late line.Give refl refl
  still_then line.Drop off w = he.late line.Drop refl refl
  still_then line.Add off w = he.late line.Add refl refl

  -- the link then
  kept_slot : option_map left_in (numbered y.links link) ≡ Some (left_in slot)
  kept_slot = ended_keeps_slots left_in (λ row_ k. refl) a (news_of a out s) x link ∙ ap (option_map left_in) was.there

  found : (k : Link) × (numbered t.links link ≡ Some k)
  found = by (numbered t.links link) refl
    where
      by : (q : Option Link) → numbered t.links link ≡ q → (k : Link) × (numbered t.links link ≡ Some k)
      by (Some k) f = (k, f)
      by None f =
          let none : numbered y.links link ≡ None = none_numbered t.links y.links link he.agrees.links.count f in
          absurd (let bad : None ≡ Some (left_in slot) = sym (ap (option_map left_in) none) ∙ kept_slot in (cc))

  abbrev k : Link
  k = found.0

  now_ : HasLinkAhead y (all_left later t) k link
  now_ = he.agrees.links.each link k found.1

  same_left : left_in now_.slot ≡ left_in slot
  same_left = let both : Some (left_in now_.slot) ≡ Some (left_in slot) = sym (ap (option_map left_in) now_.there) ∙ kept_slot in (cc)

  going_k : k.over ≡ None
  going_k =
      over_by k.over now_.slot.dead now_.sees.over
      (ap (λ (q : IsLeft). q.dead) same_left ∙ sym was.sees.over ∙ ap (λ (q : Option LinkOver). is_some q) is.going)

  unread_left : drop (read_bytes m) m.received ≡ drop n bs
  unread_left = ap (λ (j : ℕ). drop j m.received) is.unread.read ∙ ap (drop n) is.unread.came

  after_left : drop (read_bytes k) k.received ≡ drop n bs
  after_left =
      (now_.sees.going going_k).rest ∙ ap (λ (q : IsLeft). q.rest) same_left ∙ sym (was.sees.going is.going).rest ∙ unread_left

  -- no frame is read in between
  abbrev s1 : Seen
  s1 = after act s

  opened : IsOpenAs (record { stage_ = o.stage; event_ = o.event }) s1
  opened = goes_on act o s is.current refl refl

  one_passed : IsPassedStill s s1
  one_passed = actions_leave_passed act o s is.current refl

  rest_passed : IsPassedStill s1 t
  rest_passed =
      unread_passed link whole n bs he.actions opened.entry p s1 t he.does.1 he.posts opened.current (ap (λ (q : Staged). q.stage_) opened.stage_is ∙ is.stage_is) he.current
      stage_then (unread_stays link whole n bs o opened.entry s s1 is.unread (ap (λ (q : Staged). q.event_) opened.stage_is) one_passed) within k found.1 after_left
      (none_of k.over going_k)

  pub passed : IsPassedStill s t
  passed = passed_then s s1 t one_passed rest_passed

  unread_then : IsUnread link whole n bs p t
  unread_then = unread_stays link whole n bs o p s t is.unread he.same.event passed

  going_then : unread_then.m.over ≡ None
  going_then = ap (λ (q : Link). q.over) (one_some unread_then.m k (numbered t.links link) unread_then.here found.1) ∙ going_k

  kept_t : IsKept t
  kept_t = he.agrees.books.kept

  -- those that are still to end
  row_then : (r : ℕ) → (i : IsGoawayRow link n s r) → (j : IsGoawayRow link n t r) × (j.attempt.row.stream ≡ i.attempt.row.stream)
  row_then r i =
      goaway_rows_stay link whole n bs those o p s t he.does he.posts is.current is.stage_is he.current stage_then is.unread within k found.1 after_left (none_of k.over going_k) kept
      r i

  one_then : (q : ℕ × EndNews) → IsToEnd link whole n bs at moment s q → IsToEnd link whole n bs at moment t q
  one_then q i =
      let j = row_then q.0 i.row in
      record { row = j.0; news_is = i.news_is ∙ ap (λ (z : Option ℕ). end_news (if is_some z then left_out_end else unsent_end) n) (sym j.1) }

  all_then : (ks : List (ℕ × EndNews)) → AllByRecursion (IsToEnd link whole n bs at moment s) ks → AllByRecursion (IsToEnd link whole n bs at moment t) ks
  all_then [] all = tt
  all_then (q ∷ ks) all = (one_then q all.0, all_then ks all.1)

  -- and no other is
  ended_there : numbered s1.attempts a.place ≡ Some (with_end end a)
  ended_there =
      ap (λ (q : Option OpenEntry). numbered (after_if q act s).attempts a.place) is.current
      ∙ ap (λ (v : Seen). numbered v.attempts a.place) (is_ended s a.place end a (points.places link whole n bs at moment e es x o s is) there)
      ∙ changed_here (with_end end) a.place s.attempts a there

  own_out : (b : Attempt) → numbered t.attempts a.place ≡ Some b → is_outstanding b ≡ false
  own_out b got =
      let h : HasStream (with_end end a) (numbered t.attempts a.place) = rest_passed.attempts a.place (with_end end a) ended_there in
      let same : h.now ≡ b = (let both : Some h.now ≡ Some b = sym h.there ∙ got in (cc)) in
      ended_out b (ap (λ (q : Attempt). is_some q.row.ended) (sym same) ∙ h.over refl)

  other_by : (r : ℕ) (b : Attempt) (z : Bool) → numbered t.attempts r ≡ Some b → is_outstanding b ≡ z → is_one_of (tags es) r ≡ false → is_to_end t b ≡ false
  other_by r b false got f off = off_first (is_outstanding b) (not (is_over b t)) (is_some (outcome_of b t)) f
  other_by r b true got f off =
      let q = before s t kept kept_t passed he.fewer r b got f in
      let quiet : is_to_end s q.0 ≡ false = is.others r q.0 q.1.before (either (row == r) (is_one_of (tags es) r) (apart_by (row == r) refl) off) in
      let none : is_some (outcome_of q.0 s) ≡ false
      = second (is_outstanding q.0 && not (is_over q.0 s)) (is_some (outcome_of q.0 s))
      (ap (λ (z : Bool). z && not (is_over q.0 s)) q.1.out_a ∙ ap not (not_over r q.0 q.1.before q.1.out_a)) quiet in
      ap (λ (z : Bool). (is_outstanding b && not (is_over b t)) && z)
      (ap (λ (z : Option Outcome). is_some z) (outcome_same s t kept kept_t passed he.fewer r q.0 b q.1) ∙ none)
      ∙ off_last (is_outstanding b && not (is_over b t))
    where
      apart_by : (z : Bool) → (row == r) ≡ z → z ≡ false
      apart_by false h = refl
      apart_by true h =
          let at_own : a.place ≡ r = place ∙ eqb-true row r h in
          absurd (let bad : true ≡ false = sym f ∙ own_out b (ap (numbered t.attempts) at_own ∙ got) in (cc))

  pub goes_next : GoawayGoesOn link whole n bs at moment es y p t
  goes_next = record {
    current = he.current;
    stage_is = stage_then;
    unread = unread_then;
    going = going_then;
    entry_is = entry_goes s t o p is.current he.current he.same.entries ∙ is.entry_is;
    still = still_then;
    agrees = he.agrees;
    rising = is.rising.1;
    each = all_then es is.each.1;
    others = λ r b got off. other_by r b (is_outstanding b) got refl off;
    prefaced = prefaced_along those s t kept is.prefaced he.does;
    streams = streams_along those s t kept is.prefaced is.streams he.does;
    runs = rises those s t kept is.runs he.does;
    calls = ended_goes handled a (news_of a out s) x is.calls;
    held = stays a (news_of a out s) x is.held;
  }
