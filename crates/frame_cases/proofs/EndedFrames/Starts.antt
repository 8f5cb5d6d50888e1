-- A frame ends the attempt of its stream: channel and session after it, the end of the attempt next, and of no other.
use Rattle.std.proofs.Common.{◌≡◌, ◌++◌, ◌&&◌, ◌==◌, ◌∷◌, append-nil, ap, arith, refl, subst, sym, ◌∙◌, not, Bool, true, false, List, [], Option, None, Some, ℕ, suc, drop, if◌then◌else◌, is_none, is_some, length, map, option_and_then, option_map, slice_get, ◌≤◌}
use Rattle.std.proofs.Math.Nat.{min-eq_left}
use Rattle.std.proofs.lemmas.Bool.{and_parts, eq-eqb, eqb-true}
use Rattle.std.specs.List.{list_all, list_any}
use Rattle.std.specs.Option.{option_map_or, option_or}
use Rattle.std.specs.Prelude.{unwrap_or}
use Rattle.attempt_ledger.specs.declared.news.EndNews.{EndNews}
use Rattle.attempt_ledger.specs.declared.row.Placed.{Placed}
use Rattle.call_actions.specs.Laws.{news_of}
use Rattle.call_actions.specs.TakeActions.Serves.{came}
use Rattle.call_core.specs.Steps.{is_committed_live}
use Rattle.call_cases.proofs.EndsFollow.Steps.{placed_of}
use Rattle.channel_actions.proofs.Calls.Going.Slots.{all_numbered as go_numbered}
use Rattle.channel_actions.proofs.Gone.{all_numbered, gone_by, sub_noted}
use Rattle.channel_actions.proofs.KeptSessions.Along.{kept_stays}
use Rattle.channel_actions.proofs.Links.Frames.Readers.{readers_still}
use Rattle.channel_actions.proofs.Links.Frames.Streams.{streams_still}
use Rattle.channel_actions.proofs.Links.Frames.NoDifference.{actions_make_no_difference}
use Rattle.channel_actions.proofs.Lines.{all_at_places}
use Rattle.channel_actions.proofs.Stamps.{counted_at}
use Rattle.channel_actions.specs.Agrees.{Agrees}
use Rattle.channel_actions.specs.Calls.{HasSlot}
use Rattle.channel_actions.specs.GoingCalls.Going.{CallsGoOn, GoesOn}
use Rattle.channel_actions.specs.KeptSessions.Kept.{IsKept}
use Rattle.channel_actions.specs.LinkFrames.Alike.{SeesNoDifference}
use Rattle.channel_actions.specs.LinkFrames.Bears.{bears_on, is_placed_on}
use Rattle.channel_actions.specs.Links.{HasLink, IsGoing, SeesLinkOf, lines_in}
use Rattle.end_cases.proofs.AttemptEnds.Gone.{going_gone}
use Rattle.call_cases.proofs.CallPosts.Asked.{deadline_right, due_right}
use Rattle.attempt_cases.proofs.DrainEvents.Links.{own_lines, read_so, read_then}
use Rattle.event_cases.proofs.LostLinks.Ends.{before_end, lives_by, none_waits}
use Rattle.end_cases.specs.AttemptEnds.Ahead.{AgreesOffLinks, HasLinkAhead, IsAhead, LinksAhead, resets_owed}
use Rattle.end_cases.specs.AttemptEnds.Ends.{AreHeld, EndNext, IsHeld, gone_with}
use Rattle.end_cases.specs.AttemptEnds.Runs.{RunsRise}
use Rattle.channel_core.specs.Arrivals.{frame_received, received_all}
use Rattle.channel_core.specs.Books.{row_at, slot_at}
use Rattle.channel_core.specs.States.{StateSeen}
use Rattle.channel_core.specs.Steps as channel
use Rattle.channel_core.specs.Steps.{stamped_gone, with_ledger_links}
use Rattle.channel_core.specs.Tables.{Received, received_in, with_call}
use Rattle.channel_core.specs.declared.state.links.LinkSlot.{LinkSlot}
use Rattle.channel_core.specs.declared.state.slots.CallSlot.{CallSlot}
use Rattle.frame_cases.proofs.EndedFrames.Comes.{HasLast, IsReadWithEnd, end_comes}
use Rattle.frame_cases.proofs.EndedFrames.Gains.{never_cut, never_unsent}
use Rattle.frame_cases.proofs.EndedFrames.OneEnd.{IsAboutToEnd}
use Rattle.frame_cases.proofs.EndedFrames.Owed as owed
use Rattle.frame_cases.proofs.EndedFrames.Report as reported_
use Rattle.frame_cases.proofs.EndedFrames.Report.{ended_coming, reported_more}
use Rattle.frame_cases.proofs.MessageFrames.Report.{IsReported, with_more}
use Rattle.frame_cases.proofs.OwnFrames.Calls as calls
use Rattle.frame_cases.proofs.OwnFrames.Came as own_came
use Rattle.frame_cases.proofs.OwnFrames.Came.{items_more, message_items, some_placed}
use Rattle.frame_cases.proofs.OwnFrames.Frame as frame
use Rattle.frame_cases.proofs.OwnFrames.Links as own_links
use Rattle.frame_cases.proofs.PassedBytes.Agreeing.{recalled}
use Rattle.frame_cases.proofs.QuietFrames.Received as quiet
use Rattle.frame_cases.proofs.QuietFrames.Lines as lines
use Rattle.frame_cases.proofs.QuietFrames.ReadStill as read
use Rattle.frame_cases.specs.FrameKinds.Laws.{Ends, kind_of}
use Rattle.frame_cases.specs.PieceWalks.Points.{IsReceiving, coming, with_rest}
use Rattle.frame_cases.specs.QuietFrames.Laws.{HasNothingNew}
use Rattle.grpc_base.specs.declared.fields.Field.{Field}
use Rattle.grpc_link.specs.Links.{Report as Reported}
use Rattle.grpc_link.specs.Response.{message_news}
use Rattle.h2_frame.specs.Frames.{FrameSeen}
use Rattle.h2_frame.specs.Numbers.{goaway_type}
use Rattle.ledger_stamps.specs.Steps.{changed_at, gone_link}
use Rattle.link_actions.proofs.Ended.{is_ended}
use Rattle.link_actions.proofs.History.{bytes_more}
use Rattle.link_actions.proofs.ResetActions.Cuts.{none_is_ahead}
use Rattle.link_actions.proofs.ResponseActions.Ended.{ends_keep_readers}
use Rattle.link_actions.specs.LossActions.Sees.{end_news}
use Rattle.link_actions.specs.ResetActions.Ahead.{SeesAhead}
use Rattle.link_actions.specs.ResponseActions.Laws.{IsEnded, seen_at}
use Rattle.link_actions.specs.Sees.{AttemptsStandInPlace}
use Rattle.link_actions.specs.StreamActions.Laws.{IsOn, reset_for}
use Rattle.link_actions.specs.StreamActions.Sees.{response_of}
use Rattle.session_actions.specs.Actions.{after, following}
use Rattle.session_actions.specs.AttemptEnds.{attempt_ended, end_of, lost_end, next_wire_end, outcome_of, outcome_on, reset_code_of, wire_end, with_end}
use Rattle.session_actions.specs.Attempts.{commitment, is_commitment, is_of, is_outstanding, is_over, is_queued}
use Rattle.session_actions.specs.Deliveries.{response_items}
use Rattle.session_actions.specs.Events.{is_loss}
use Rattle.session_actions.specs.Links.{link_number, link_of, read_bytes, stream_number}
use Rattle.session_actions.specs.Reading.{is_outstanding_on}
use Rattle.session_actions.specs.Responses.{is_read_by, response}
use Rattle.session_actions.specs.Words.{holds, numbered}
use Rattle.session_actions.specs.Writing.{frame_read, next_frame_read, owed_for}
use Rattle.session_actions.specs.declared.action.Action.{Action}
use Rattle.session_actions.specs.declared.action.Action.TheVariants as action
use Rattle.session_actions.specs.declared.attempt.Attempt.{Attempt}
use Rattle.session_actions.specs.declared.call.Call.{Call}
use Rattle.session_actions.specs.declared.entry.OpenEntry.{OpenEntry}
use Rattle.session_actions.specs.declared.link.Link.{Link}
use Rattle.session_actions.specs.declared.link.LinkOver.{LinkOver}
use Rattle.session_actions.specs.declared.link.ReadFrame.{ReadFrame}
use Rattle.session_actions.specs.declared.response.Outcome.{Outcome}
use Rattle.session_actions.specs.declared.response.Response.{Response}
use Rattle.session_actions.specs.declared.seen.Seen.{Seen}
use Rattle.session_order.proofs.Begun.{last_in}
use Rattle.session_order.proofs.Quiescence.{first_line_gives}
use Rattle.session_order.proofs.Changed.{passes_not}
use Rattle.session_order.specs.Quiescent as order
use Rattle.session_order.specs.Quiescent.{is_to_cut, is_to_end}
use Rattle.session_order.specs.Lines.{is_line}
use Rattle.session_order.specs.Stirs.{stirs}
use Rattle.session_order.specs.declared.line.Line.{Line}
use Rattle.session_order.specs.declared.line.Line.TheVariants as line
use Rattle.frame_cases.proofs.EndedFrames.Endings.{items_same, only_first, second, first_off, none_by, no_action, any_there, more_goes, all_go, no_wire_end}

module _ (link : ℕ) (piece : List ℕ) (x : StateSeen) (o : OpenEntry) (s : Seen) (is : IsReceiving link piece x o s) (h : Received) (r : ReadFrame)
    (next : next_frame_read link s ≡ Some (action.FrameRead link r)) (receives : received_in link piece x.links ≡ Some h) (no_goaway : (r.frame.kind == goaway_type) ≡ false)
    (kind : kind_of h.news ≡ Ends) where
  abbrev pub l : Link
  l = is.l

  abbrev pub m : Link
  m = read.m link piece x o s is h r next receives

  abbrev pub t : Seen
  t = read.t link piece x o s is h r next receives

  abbrev pub slot : LinkSlot
  slot = read.slot link piece x o s is h r next receives

  abbrev pub left : List ℕ
  left = drop h.taken piece

  abbrev pub frames : List FrameSeen
  frames = owed_for r.frame l s

  abbrev pub out_ : Reported
  out_ = read.out link piece x o s is h r next receives

  abbrev pub n : ℕ
  n = r.frame.stream

  abbrev pub h0 : Agrees (coming link piece x) s
  h0 = is.agrees

  own : l.number ≡ link
  own = read.own link piece x o s is h r next receives

  places : (i : ℕ) (b : Attempt) → numbered s.attempts i ≡ Some b → b.place ≡ i
  places = read.places link piece x o s is h r next receives

  abbrev pub quiescent_s : order.IsQuiescent o s
  quiescent_s = frame.quiescent_s link piece x o s is h r next receives

  pub kept_t : IsKept t
  kept_t = read.kept_t link piece x o s is h r next receives

  pub there_m : numbered t.links link ≡ Some m
  there_m = read.there link piece x o s is h r next receives

  going_m : m.over ≡ None
  going_m = (read.shown link piece x o s is h r next receives).unbroken

  -- what came
  pub news_are : h.news ≡ out_.news
  news_are = ap (λ (k : Received). k.news) (read.h_is link piece x o s is h r next receives) ∙ ap (λ (k : Reported). k.news) (read.reported_is link piece x o s is h r next receives)

  pub last : IsReadWithEnd l m s (frame_read l.number r s) n (seen_at r) out_.news out_.link.link.wire (lines_in l s) out_.link.readers
  last =
      end_comes l s slot.link.link.wire (lines_in l s) slot.link.readers r (read.going link piece x o s is h r next receives).streams
      (read_so l s slot.link.readers (read.going link piece x o s is h r next receives).readers) (read.come link piece x o s is h r next receives).comes
      (read.shown link piece x o s is h r next receives).unbroken is.fair.listed no_goaway (ap kind_of (sym news_are) ∙ kind)

  abbrev pub a : Attempt
  a = last.attempt

  abbrev pub more : List (List ℕ)
  more = last.more

  abbrev pub out : Outcome
  out = last.outcome

  pub on : IsOn l s n a
  on = last.on

  -- the response to the attempt
  its : HasLast more (response a s) (response a t)
  its = frame.gained_so link piece x o s is h r next receives a on (HasLast more) last.gains

  its_end : (response a t).end ≡ Some out
  its_end =
      ap (λ (p : Response). p.end) (frame.after_is link piece x o s is h r next receives a on)
      ∙ ap (λ (z : Seen). (response_of m z n a).end) (sym (read.read_l link piece x o s is h r next receives)) ∙ last.end

  abbrev pub out_a : is_outstanding a ≡ true
  out_a = frame.out link piece x o s is h r next receives a on

  pub goes_a : a.row.ended ≡ None
  goes_a = frame.ended link piece x o s is h r next receives a on

  pub its_place : (at : Placed) × ((a.row.placed ≡ Some at) × (at.link ≡ l.number))
  its_place = some_placed a.row.placed l.number (and_parts (is_outstanding a) (holds (λ (at : Placed). at.link == l.number) a.row.placed) on.out).1

  abbrev pub at : Placed
  at = its_place.0

  placed : a.row.placed ≡ Some at
  placed = its_place.1.0

  at_link : at.link ≡ link
  at_link = its_place.1.1 ∙ own

  link_t : link_of a t ≡ Some m
  link_t = ap (λ (q : Option Placed). option_and_then (λ (p : Placed). numbered t.links p.link) q) placed ∙ ap (numbered t.links) at_link ∙ there_m

  others_new : (i : ℕ) (b : Attempt) → numbered s.attempts i ≡ Some b → (b.place == a.place) ≡ false → HasNothingNew (response b s) (response b t)
  others_new = frame.others_new link piece x o s is h r next receives a on last.others

  -- its call
  abbrev pub going_x : CallsGoOn (coming link piece x)
  going_x = frame.going link piece x o s is h r next receives

  abbrev pub c : Call
  c = frame.c link piece x o s is h r next receives a on

  abbrev pub number : ℕ
  number = a.row.call

  pub at_c : numbered s.calls number ≡ Some c
  at_c = frame.at link piece x o s is h r next receives a on

  abbrev pub has : HasSlot (coming link piece x) s c number
  has = frame.has link piece x o s is h r next receives a on

  mine : is_of c a ≡ true
  mine = calls.mine (coming link piece x) o s h0 going_x quiescent_s a on.there out_a

  -- where messages came, a head came before
  pub headed : (more ≡ [] → ⊥) → is_some (response a s).head ≡ true
  headed some_more = by (response a s).head refl
    where
      by : (q : Option (List Field)) → (response a s).head ≡ q → is_some (response a s).head ≡ true
      by (Some meta) e = ap (λ (q : Option (List Field)). is_some q) e
      by None e =
          absurd (some_more (last.awaiting_config (ap (λ (q : Option (List Field)). is_none q) (ap (λ (p : Response). p.head) (sym (frame.before_is link piece x o s is h r next receives a on)) ∙ e))))

  pub committed : (more ≡ [] → ⊥) → commitment c s ≡ Some a
  committed some_more = calls.committed (coming link piece x) o s h0 going_x quiescent_s a on.there out_a (headed some_more)

  pub live : (more ≡ [] → ⊥) → is_committed_live a.place has.slot.call ≡ true
  live some_more = calls.committed_live (coming link piece x) o s h0 going_x quiescent_s a on.there out_a (headed some_more)

  -- the channel after the report
  abbrev pub news_ : EndNews
  news_ = end_news out (seen_at r)

  pub its_news : h.news ≡ reported_.last_news a.place (seen_at r) more news_
  its_news = news_are ∙ last.news_are

  abbrev pub x1 : StateSeen
  x1 = reported_.read link h x a.place (seen_at r) more news_ its_news

  pub row_x : row_at x1.book a.place ≡ Some a.row
  row_x = frame.row_is link piece x o s is h r next receives a on

  pub reports_that : IsReported number (with_more more has.slot.call) has.slot x1 (received_all link (map (message_news a.place (seen_at r)) more) x1)
  reports_that =
      reported_more link a.place (seen_at r) number more x1 a.row has.slot row_x refl goes_a has.there live (due_right (coming link piece x) s c has.slot has.sees)
      (deadline_right (coming link piece x) s c has.slot has.sees)

  abbrev pub z0 : StateSeen
  z0 = recalled reports_that.calls x1

  abbrev pub z : StateSeen
  z = coming link left z0

  row_z : row_at z0.book a.place ≡ Some a.row
  row_z = row_x

  -- the news of its end are those of the session
  few : r.end ≤ 18446744073709551615
  few = let p = read.end_within link piece x o s is h r next receives in let q = is.few in omega (arith, p, q)

  seen_is : option_map_or read_bytes (link_of a t) 0 ≡ seen_at r
  seen_is = ap (λ (q : Option Link). option_map_or read_bytes q 0) link_t ∙ bytes_more l r frames ∙ sym (min-eq_left few)

  news_same : news_of a out t ≡ news_
  news_same = ap (λ (k : ℕ). end_news out k) seen_is

  pub received_is : reported_.sealed_end link a (news_of a out t) z ≡ coming link left (frame_received link h x)
  received_is =
      ap (λ (e : EndNews). reported_.sealed_end link a e z) news_same
      ∙ ended_coming link a at news_ placed at_link goes_a left z0 row_z
      ∙ ap (coming link left) (sym (reported_.received_end link h x a.place (seen_at r) more news_ its_news z0 reports_that.is))

  -- what came for applications
  came_by : (d : Call) (ms : List (List ℕ)) (q : Option Attempt) → commitment d s ≡ q → ((k : Attempt) → q ≡ Some k → response_items (response k t) ≡ response_items (response k s) ++ message_items ms)
      → (q ≡ None → ms ≡ []) → came d t ≡ came d s ++ message_items ms
  came_by d ms None e each none =
      ap (λ (q : Option Attempt). option_map_or (λ (k : Attempt). response_items (response k t)) q []) e ∙ sym (ap message_items (none refl))
      ∙ ap (λ (q : Option Attempt). option_map_or (λ (k : Attempt). response_items (response k s)) q [] ++ message_items ms) (sym e)
  came_by d ms (Some k) e each none =
      ap (λ (q : Option Attempt). option_map_or (λ (b : Attempt). response_items (response b t)) q []) e ∙ each k refl
      ∙ ap (λ (q : Option Attempt). option_map_or (λ (b : Attempt). response_items (response b s)) q [] ++ message_items ms) (sym e)

  itself : (k : Attempt) → commitment c s ≡ Some k → (k.place == a.place) ≡ true → a ≡ k
  itself k e same =
      let one : (i : ℕ) × (slice_get s.attempts i ≡ Some k) = last_in (is_commitment c) s.attempts k e in
      frame.itself link piece x o s is h r next receives a on (suc one.0) k one.1 same

  items_of : (k : Attempt) → commitment c s ≡ Some k → response_items (response k t) ≡ response_items (response k s) ++ message_items more
  items_of k e = by (k.place == a.place) refl more refl
    where
      by : (b : Bool) → (k.place == a.place) ≡ b → (ms : List (List ℕ)) → more ≡ ms → response_items (response k t) ≡ response_items (response k s) ++ message_items more
      by true f ms g =
          subst (λ (b : Attempt). response_items (response b t) ≡ response_items (response b s) ++ message_items more) (itself k e f) (items_more (response a s) (response a t) more its.head its.messages)
      by false f [] g =
          let one : (i : ℕ) × (slice_get s.attempts i ≡ Some k) = last_in (is_commitment c) s.attempts k e in
          items_same (response k s) (response k t) (others_new (suc one.0) k one.1 f) ∙ sym (append-nil (response_items (response k s)))
          ∙ ap (λ (ns : List (List ℕ)). response_items (response k s) ++ message_items ns) (sym g)
      by false f (m1 ∷ ms) g =
          let whole : commitment c s ≡ Some a = committed (λ none. let no : [] ≡ m1 ∷ ms = sym none ∙ g in let bad : ⊥ = (cc) in bad) in
          let both : Some a ≡ Some k = sym whole ∙ e in
          let same : a ≡ k = (cc) in
          absurd (let bad : true ≡ false = sym (eq-eqb k.place a.place (ap (λ (b : Attempt). b.place) (sym same))) ∙ f in let no : ⊥ = (cc) in no)

  none_more : (q : Option Attempt) → commitment c s ≡ q → q ≡ None → (ms : List (List ℕ)) → more ≡ ms → more ≡ []
  none_more q e none [] g = g
  none_more q e none (m1 ∷ ms) g =
      let whole : commitment c s ≡ Some a = committed (λ empty. let no : [] ≡ m1 ∷ ms = sym empty ∙ g in let bad : ⊥ = (cc) in bad) in
      absurd (let bad : None ≡ Some a = sym none ∙ sym e ∙ whole in let no : ⊥ = (cc) in no)

  came_own : came c t ≡ came c s ++ message_items more
  came_own =
      came_by c more (commitment c s) refl (λ k e. items_of k e) (λ none. none_more (commitment c s) refl none more refl)

  -- the books
  books_t : AgreesOffLinks z t
  books_t = own_came.books_agree link piece x o s is h r next receives a on last.others more reports_that.calls reports_that.put came_own last.retiring

  -- the link of the channel
  abbrev z_slot : LinkSlot
  z_slot = own_links.slot_then link piece x o s is h r next receives

  z_there : numbered z.links link ≡ Some z_slot
  z_there = own_links.there link piece x o s is h r next receives reports_that.calls

  sees_l : SeesLinkOf l s (with_rest piece slot)
  sees_l = read.sees link piece x o s is h r next receives

  -- it is not stamped
  not_gone : channel.is_gone link z ≡ false
  not_gone =
      gone_by z t link m own z_slot z_there sees_l.over (last.retiring ∙ sees_l.retiring) (sub_noted z.book.ledger.links t link m there_m books_t.columns.links)
      books_t.net.subs_are (all_numbered (λ (k : Link). is_some (numbered t.subs k.sub)) t.links link m there_m kept_t.dialled) books_t.sets.outstanding
      ∙ going_gone m t (any_there (is_outstanding_on m) s.attempts a.place a on.there on.out)
      ∙ ap (λ (q : Option LinkOver). is_some q) going_m

  unstamped : gone_with a.row.placed z ≡ z
  unstamped =
      ap (λ (q : Option Placed). gone_with q z) placed ∙ ap (λ (k : ℕ). stamped_gone k z) at_link
      ∙ ap (λ (b : Bool). if b then with_ledger_links (changed_at (gone_link z.book.ledger.entry) z.book.ledger.links link) z else z) not_gone

  books : AgreesOffLinks (gone_with a.row.placed z) t
  books = subst (λ (y : StateSeen). AgreesOffLinks y t) (sym unstamped) books_t

  -- nothing follows but the end
  each_headed : (i : ℕ) (b : Attempt) → numbered s.attempts i ≡ Some b → is_some (response b t).head ≡ is_some (response b s).head
  each_headed i b got = by (b.place == a.place) refl
    where
      by : (e : Bool) → (b.place == a.place) ≡ e → is_some (response b t).head ≡ is_some (response b s).head
      by false e = ap (λ (q : Option (List Field)). is_some q) (others_new i b got e).head
      by true e =
          subst (λ (k : Attempt). is_some (response k t).head ≡ is_some (response k s).head) (frame.itself link piece x o s is h r next receives a on i b got e)
          (ap (λ (q : Option (List Field)). is_some q) its.head)

  each_large : (i : ℕ) (b : Attempt) → numbered s.attempts i ≡ Some b → (response b t).large ≡ (response b s).large
  each_large i b got = by (b.place == a.place) refl
    where
      by : (e : Bool) → (b.place == a.place) ≡ e → (response b t).large ≡ (response b s).large
      by false e = (others_new i b got e).large
      by true e =
          subst (λ (k : Attempt). (response k t).large ≡ (response k s).large) (frame.itself link piece x o s is h r next receives a on i b got e) its.large

  unstirred : (k : Line) → stirs (action.FrameRead link r) k ≡ false → order.IsStill k o t
  unstirred k e = quiet.unstirred link piece x o s is h r next receives k e

  still_t : (k : Line) → is_line k line.WireEnd ≡ false → order.IsStill k o t
  still_t line.Head e = lines.heads_stay s link l is.here own r frames (Some o) places (read.less link piece x o s is h r next receives) each_headed o (quiescent_s line.Head)
  still_t line.Response e = lines.larges_stay s link l is.here own r frames (Some o) places (read.less link piece x o s is h r next receives) each_large o (quiescent_s line.Response)
  still_t line.Link e =
      lines.links_stay s link l is.here own r frames (Some o) places (read.less link piece x o s is h r next receives) last.retiring last.settings o (quiescent_s line.Link)
  still_t line.WireEnd e = absurd (cc)
  still_t line.Cut e = unstirred line.Cut refl
  still_t line.Transparent e = unstirred line.Transparent refl
  still_t line.Inherited e = unstirred line.Inherited refl
  still_t line.Row e = unstirred line.Row refl
  still_t line.Final e = unstirred line.Final refl
  still_t line.Cancelled e = unstirred line.Cancelled refl
  still_t line.Request e = unstirred line.Request refl
  still_t line.Overflow e = unstirred line.Overflow refl
  still_t line.Pick e = unstirred line.Pick refl
  still_t line.Reset e = unstirred line.Reset refl
  still_t line.Shut e = unstirred line.Shut refl
  still_t line.Retire e = unstirred line.Retire refl
  still_t line.Begin e = unstirred line.Begin refl
  still_t line.Give e = unstirred line.Give refl
  still_t line.Drop e = unstirred line.Drop refl
  still_t line.Add e = unstirred line.Add refl

  pub others_on : (row : ℕ) (b : Attempt) → numbered t.attempts row ≡ Some b → (b.place == a.place) ≡ false → is_to_end t b ≡ false
  others_on row b got off =
      lines.end_same s link l is.here own r frames (Some o) places (read.less link piece x o s is h r next receives) last.retiring b (others_new row b got off).end
      ∙ passes_not (is_to_end s) s.attempts row b (quiescent_s line.WireEnd) got

  not_over : (row : ℕ) (b : Attempt) → numbered t.attempts row ≡ Some b → is_outstanding b ≡ true → is_over b t ≡ false
  not_over row b got out_b = second (is_outstanding b) (is_over b t) out_b (passes_not (is_to_cut t) t.attempts row b (still_t line.Cut refl) got)

  abbrev pub act : Action
  act = action.AttemptEnds a.place (end_of a out t)

  its_outcome : outcome_of a t ≡ Some out
  its_outcome =
      ap (λ (q : Option ℕ). option_and_then (outcome_on a t q) (link_of a t)) on.stream ∙ ap (option_and_then (outcome_on a t (Some n))) link_t
      ∙ ap (λ (q : Option Outcome). option_or q (if is_some m.over then Some lost_end else None)) its_end

  its_action : wire_end t a ≡ Some act
  its_action =
      ap (λ (b : Bool). if b && not (is_over a t) then option_map (λ (q : Outcome). action.AttemptEnds a.place (end_of a q t)) (outcome_of a t) else None) out_a
      ∙ ap (λ (b : Bool). if not b then option_map (λ (q : Outcome). action.AttemptEnds a.place (end_of a q t)) (outcome_of a t) else None) (not_over a.place a on.there out_a)
      ∙ ap (option_map (λ (q : Outcome). action.AttemptEnds a.place (end_of a q t))) its_outcome

  none_other : (row : ℕ) (b : Attempt) → numbered t.attempts row ≡ Some b → (row ≡ a.place → ⊥) → wire_end t b ≡ None
  none_other row b got other = by (is_outstanding b) refl
    where
      off : (b.place == a.place) ≡ false
      off = apart (b.place == a.place) refl
        where
          apart : (e : Bool) → (b.place == a.place) ≡ e → e ≡ false
          apart false e = refl
          apart true e = absurd (other (sym (places row b got) ∙ eqb-true b.place a.place e))

      by : (e : Bool) → is_outstanding b ≡ e → wire_end t b ≡ None
      by false e = ap (λ (q : Bool). if q && not (is_over b t) then option_map (λ (k : Outcome). action.AttemptEnds b.place (end_of b k t)) (outcome_of b t) else None) e
      by true e =
          let none : is_some (outcome_of b t) ≡ false
          = second (is_outstanding b && not (is_over b t)) (is_some (outcome_of b t)) (ap (λ (q : Bool). q && not (is_over b t)) e ∙ ap not (not_over row b got e)) (others_on row b got off) in
          ap (λ (q : Option Outcome). if is_outstanding b && not (is_over b t) then option_map (λ (k : Outcome). action.AttemptEnds b.place (end_of b k t)) q else None)
          (none_by (outcome_of b t) none)
          ∙ no_action None refl (is_outstanding b && not (is_over b t))

  gives : next_wire_end t ≡ Some act
  gives = only_first (wire_end t) t.attempts a.place a act on.there its_action none_other

  next_t : following t ≡ Some act
  next_t = first_line_gives line.WireEnd act o t refl (λ k before. still_t k (before_end (is_loss o.event) k before)) gives

  -- the session once it has ended
  abbrev u : Seen
  u = attempt_ended a.place (end_of a out t) t

  places_t : AttemptsStandInPlace 1 t.attempts
  places_t = placed_of 1 t.attempts kept_t.book.places

  links_u : u.links ≡ t.links
  links_u = ap (λ (v : Seen). v.links) (is_ended t a.place (end_of a out t) a places_t on.there)

  after_is : after act t ≡ u
  after_is = refl

  kept_u : IsKept u
  kept_u = kept_stays t act kept_t next_t

  places_u : AttemptsStandInPlace 1 u.attempts
  places_u = placed_of 1 u.attempts kept_u.book.places

  no_difference : SeesNoDifference (bears_on act t) t u
  no_difference = actions_make_no_difference act t kept_t tt

  -- what it owes
  none_owed_t : list_any (order.is_to_reset t) t.attempts ≡ false
  none_owed_t = still_t line.Reset refl

  on_t : IsOn m t n a
  on_t = record { there = on.there; out = on.out; stream = on.stream }

  unreset_a : a.reset ≡ false
  unreset_a = own_came.unreset link piece x o s is h r next receives a on

  ended_m : IsEnded m t out_.link.link.wire (lines_in l s) out_.link.readers n a
  ended_m =
      subst (λ (v : Seen). IsEnded m v out_.link.link.wire (lines_in l s) out_.link.readers n a) (read.read_l link piece x o s is h r next receives) last.ended

  end_m : (response_of m t n a).end ≡ Some out
  end_m = ap (λ (v : Seen). (response_of m v n a).end) (sym (read.read_l link piece x o s is h r next receives)) ∙ last.end

  here_m : numbered t.links m.number ≡ Some m
  here_m = ap (numbered t.links) own ∙ there_m

  code_is : reset_code_of u (with_end (end_of a out t) a) ≡ ended_m.code
  code_is =
      owed.its_code m t n a out ended_m.code here_m on_t link_t places_t unreset_a
      (all_numbered (λ (k : Link). list_all (is_read_by (read_bytes k)) k.traffic) t.links link m there_m kept_t.reads)
      (ended_m.by_end out (end_of a out t) end_m refl)

  number_a : link_number a ≡ link
  number_a = ap (λ (q : Option Placed). option_map_or (λ (p : Placed). p.link) q 0) placed ∙ at_link

  stream_a : stream_number a ≡ n
  stream_a = ap (λ (q : Option ℕ). unwrap_or q 0) on.stream

  owed_m : resets_owed m u ≡ reset_for n ended_m.code
  owed_m =
      owed.owed_there t a (end_of a out t) places_t on.there none_owed_t m n ended_m.code (eq-eqb (link_number a) m.number (number_a ∙ sym own)) stream_a code_is

  owed_off : (k : ℕ) (q : Link) → numbered u.links k ≡ Some q → (link == k) ≡ false → resets_owed q u ≡ []
  owed_off k q got off =
      owed.none_elsewhere t a (end_of a out t) places_t on.there none_owed_t q
      (ap (λ (j : ℕ). j == q.number) number_a
      ∙ ap (λ (j : ℕ). link == j) (counted_at (λ (b : Link). b.number) u.links k q kept_u.links got) ∙ off)

  -- its link
  ahead_m : IsAhead m u z_slot
  ahead_m =
      let both = ended_m.follows (end_of a out t) in
      let ahead : SeesAhead (reset_for n ended_m.code) m u out_.link.link.wire (lines_in m u)
      = record {
        wire = both.0.wire;
        sees = own_lines m u both.0.wire (lines_in l s) kept_u both.0.sees;
        same = both.0.same;
        queue = both.0.queue;
      } in
      subst (IsAhead m u) (sym (ap (with_rest left) (own_links.slot_is link piece x o s is h r next receives))) (record {
        streams = subst (λ (rs : List (ℕ × ℕ)). SeesAhead rs m u out_.link.link.wire (lines_in m u)) (sym owed_m) ahead;
        readers = read_then m u out_.link.readers (ends_keep_readers m t a.place a (end_of a out t) out_.link.readers ended_m.readers_are on.there places_t);
        rest = read.left_is link piece x o s is h r next receives ∙ ap (λ (b : List ℕ). b ++ left) (sym (read.rest_now link piece x o s is h r next receives));
        fresh = both.1 ∙ sym (ap (λ (rs : List (ℕ × ℕ)). length rs) owed_m);
      })

  has_m : HasLinkAhead z u m link
  has_m = record {
    slot = z_slot;
    there = z_there;
    sees = record { over = sees_l.over; retiring = last.retiring ∙ sees_l.retiring; going = λ e. ahead_m };
  }

  -- the others
  ahead_other : (k : ℕ) (q : Link) → numbered u.links k ≡ Some q → (link == k) ≡ false → HasLinkAhead z u q k
  ahead_other k q got off =
      let got_t : numbered t.links k ≡ Some q = ap (λ (ls : List Link). numbered ls k) (sym links_u) ∙ got in
      let had : HasLink z t q k = own_links.others_then link piece x o s is h r next receives reports_that.calls k q got_t off in
      let number_q : q.number ≡ k = counted_at (λ (b : Link). b.number) t.links k q kept_t.links got_t in
      let here_q : numbered t.links q.number ≡ Some q = ap (numbered t.links) number_q ∙ got_t in
      let here_u : numbered u.links q.number ≡ Some q = ap (numbered u.links) number_q ∙ got in
      let apart : bears_on act t q.number ≡ false
      = ap (holds (is_placed_on q.number)) on.there ∙ ap (holds (λ (p : Placed). p.link == q.number)) placed ∙ ap (λ (j : ℕ). j == q.number) at_link
      ∙ ap (λ (j : ℕ). link == j) number_q ∙ off in
      let none : resets_owed q u ≡ [] = owed_off k q got off in
      record {
        slot = had.slot;
        there = had.there;
        sees = record {
          over = had.sees.over;
          retiring = had.sees.retiring;
          going = λ e.
              (let g : IsGoing q t had.slot = had.sees.going e in
              record {
                streams = subst (λ (rs : List (ℕ × ℕ)). SeesAhead rs q u had.slot.link.link.wire (lines_in q u)) (sym none)
                    (none_is_ahead q u had.slot.link.link.wire (lines_in q u)
                    (streams_still q q t u (bears_on act t) apart kept_t.owned (all_at_places u.attempts kept_u.attempts) no_difference.attempts had.slot.link.link.wire (lines_in q t)
                    (record { number = refl; traffic_ = refl; owed = refl }) g.streams here_u places_u));
                readers = readers_still (bears_on act t) q q t u refl refl here_q here_u apart had.slot.link.readers kept_t.owned no_difference.attempts g.readers;
                rest = g.rest;
                fresh = g.closed ∙ sym (ap (λ (rs : List (ℕ × ℕ)). length rs) none);
              });
        };
      }

  each_ahead : (k : ℕ) (q : Link) → numbered u.links k ≡ Some q → HasLinkAhead z u q k
  each_ahead k q got = by (link == k) refl
    where
      by : (e : Bool) → (link == k) ≡ e → HasLinkAhead z u q k
      by false e = ahead_other k q got e
      by true e =
          let same : link ≡ k = eqb-true link k e in
          let both : Some m ≡ Some q = sym (ap (λ (ls : List Link). numbered ls link) links_u ∙ there_m) ∙ ap (numbered u.links) same ∙ got in
          let one : m ≡ q = (cc) in
          subst (λ (j : ℕ). HasLinkAhead z u q j) same (subst (λ (b : Link). HasLinkAhead z u b link) one has_m)

  links : LinksAhead (link ∷ []) z u
  links = record {
    count = ap (λ (ls : List Link). length ls) links_u ∙ own_links.count link piece x o s is h r next receives reports_that.calls;
    each = each_ahead;
    closing = λ k q got off. owed_off k q got (first_off (link == k) _ off);
  }

  -- what is known of calls
  module _ (P : CallSlot → Type 0) (its_own : P (with_call (with_more more has.slot.call) has.slot)) (rest : (j : ℕ) (was : CallSlot) → slot_at x.book j ≡ Some was → P was) where
    each_slot : (j : ℕ) (now : CallSlot) → slot_at z.book j ≡ Some now → P now
    each_slot j now got = by (j == number) refl
      where
        by : (e : Bool) → (j == number) ≡ e → P now
        by false e = rest j now (sym (reports_that.put.others j e) ∙ got)
        by true e =
            let same : j ≡ number = eqb-true j number e in
            let both : Some (with_call (with_more more has.slot.call) has.slot) ≡ Some now = sym reports_that.put.mine ∙ ap (slot_at z.book) (sym same) ∙ got in
            let one : with_call (with_more more has.slot.call) has.slot ≡ now = (cc) in
            subst P one its_own

  going_z : CallsGoOn z
  going_z = record {
    calls = all_go reports_that.calls (λ i now got. each_slot (λ (q : CallSlot). GoesOn q.call)
        (more_goes more has.slot (go_numbered x.book.calls number has.slot is.known.going.calls has.there))
        (λ j was there. go_numbered x.book.calls j was is.known.going.calls there) (suc i) now got);
    allows = is.known.going.allows;
  }

  module _ (rising : RunsRise s) (held : AreHeld x) where
    held_z : AreHeld z
    held_z j now got =
        each_slot (λ (q : CallSlot). IsHeld (length x.book.ledger.rows) q.call.buffer) (held number has.slot has.there) (λ k was there. held k was there) j now got

    end_next : EndNext [] none_waits (link ∷ []) a out z o t
    end_next = record {
      late = λ k e. absurd (let bad : false ≡ true = e in let no : ⊥ = (cc) in no);
      current = refl;
      call = c;
      there = at_c;
      ending = record {
        there = on.there;
        own = mine;
        lives = lives_by (is_of c a) (is_outstanding a) (is_queued a t) mine out_a;
        uncut = never_cut out.cause last.cause_is;
      };
      next = next_t;
      still = λ k off waits. still_t k (no_wire_end k off);
      books = books;
      links = links;
      among = refl;
      unreset = is.known.early.resets;
      apart = is.known.streams.apart;
      rising = rising;
      going = going_z;
      held = λ follows. held_z;
      unsent = λ e. absurd (let bad : true ≡ false = sym e ∙ never_unsent out.cause last.cause_is in let no : ⊥ = (cc) in no);
    }

    pub about_to_end : IsAboutToEnd link is.whole m a out z o t
    about_to_end = record {
      next = end_next;
      event_is = is.event_is;
      stage_is = is.at.stage_is;
      here = there_m;
      own = own;
      going = going_m;
      within = (read.fair_now link piece x o s is h r next receives).within;
      others = others_on;
    }
