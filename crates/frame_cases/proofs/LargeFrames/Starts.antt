-- A frame brings a message that is too long: channel and session after it.
-- Example: DATA with the prefix of such a message comes for attempt 1 of call 1. The channel has ended call 1, and its link has the reset of the stream; the session has the frame.
use Rattle.std.proofs.Common.{◌≡◌, ◌++◌, ◌==◌, ap, refl, subst, sym, ◌∙◌, Bool, true, false, List, [], Option, None, Some, ℕ, drop, is_none, is_some, length, map, option_map}
use Rattle.std.proofs.lemmas.Bool.{and_parts, eqb-true}
use Rattle.std.specs.Option.{option_map_or}
use Rattle.attempt_cases.proofs.DrainEvents.Links.{read_so}
use Rattle.attempt_ledger.specs.declared.ledger.CallEnd.{CallEnd}
use Rattle.attempt_ledger.specs.declared.news.News.TheVariants as news
use Rattle.attempt_ledger.specs.declared.row.Placed.{Placed}
use Rattle.call_actions.specs.TakeActions.Serves.{came}
use Rattle.call_cases.proofs.CallPosts.Asked.{deadline_right, due_right}
use Rattle.call_cases.specs.CallEnds.Ends.{HasNotedLink}
use Rattle.call_core.specs.Steps.{Stepped, closed_by, is_committed_live}
use Rattle.channel_actions.specs.Calls.{HasSlot}
use Rattle.channel_actions.specs.KeptSessions.Kept.{IsKept}
use Rattle.channel_actions.specs.Links.{HasLink, SeesLinkOf, lines_in}
use Rattle.channel_core.specs.Arrivals.{frame_received, received_all}
use Rattle.channel_core.specs.Books.{row_at}
use Rattle.channel_core.specs.States.{StateSeen}
use Rattle.channel_core.specs.Steps.{call_asked, closed, ends_kept, sealed, sealed_one, reported}
use Rattle.channel_core.specs.Tables.{Received, received_in, received_link, with_call, with_link}
use Rattle.channel_core.specs.declared.state.links.LinkSlot.{LinkSlot}
use Rattle.end_cases.specs.AttemptEnds.Ahead.{AgreesOffLinks}
use Rattle.frame_cases.proofs.LargeFrames.Comes.{HasFirst, IsReadWithLarge, large_comes}
use Rattle.frame_cases.proofs.LargeFrames.Report.{large_news, messages_first, no_end, reported_large}
use Rattle.frame_cases.proofs.MessageFrames.Report as reported_
use Rattle.frame_cases.proofs.MessageFrames.Report.{IsReported, all_reported, received_so, with_more}
use Rattle.frame_cases.proofs.OwnFrames.Came as own_came
use Rattle.frame_cases.proofs.OwnFrames.Came.{items_more, message_items, some_placed}
use Rattle.frame_cases.proofs.OwnFrames.Frame as frame
use Rattle.frame_cases.proofs.OwnFrames.Links as own_links
use Rattle.frame_cases.proofs.PassedBytes.Agreeing.{recalled}
use Rattle.frame_cases.proofs.PieceWalks.Coming.{coming_asked, coming_sealed, sealed_after}
use Rattle.frame_cases.proofs.QuietFrames.ReadStill as read
use Rattle.frame_cases.specs.FrameKinds.Laws.{Large, kind_of}
use Rattle.frame_cases.specs.PieceWalks.Points.{IsReceiving, coming, with_rest}
use Rattle.grpc_base.specs.declared.event.EndCause.TheVariants as ending
use Rattle.grpc_base.specs.declared.event.EndCause.{EndCause}
use Rattle.grpc_link.specs.Links.{Report as Reported}
use Rattle.grpc_link.specs.Response.{message_news}
use Rattle.h2_frame.specs.Numbers.{goaway_type}
use Rattle.link_actions.specs.ResponseActions.Laws.{seen_at}
use Rattle.link_actions.specs.StreamActions.Laws.{IsOn}
use Rattle.link_actions.specs.StreamActions.Sees.{response_of}
use Rattle.session_actions.specs.Attempts.{commitment, is_outstanding}
use Rattle.session_actions.specs.Deliveries.{response_items}
use Rattle.session_actions.specs.Links.{link_number}
use Rattle.session_actions.specs.Responses.{response}
use Rattle.session_actions.specs.Words.{holds, numbered}
use Rattle.session_actions.specs.Writing.{frame_read, next_frame_read}
use Rattle.session_actions.specs.declared.action.Action.TheVariants as action
use Rattle.session_actions.specs.declared.attempt.Attempt.{Attempt}
use Rattle.session_actions.specs.declared.call.Call.{Call}
use Rattle.session_actions.specs.declared.entry.OpenEntry.{OpenEntry}
use Rattle.session_actions.specs.declared.link.Link.{Link}
use Rattle.session_actions.specs.declared.link.ReadFrame.{ReadFrame}
use Rattle.session_actions.specs.declared.response.Response.{Response}
use Rattle.session_actions.specs.declared.seen.Seen.{Seen}

not_none : {X : Type 0} (o : Option X) → is_none o ≡ false → is_some o ≡ true
not_none None e = absurd (let bad : true ≡ false = e in let no : ⊥ = (cc) in no)
not_none (Some x) e = refl

no_cause : (o : Option CallEnd) (p : Option EndCause) → option_map (λ (e : CallEnd). e.cause) o ≡ p → o ≡ None → p ≡ None
no_cause o p e h = sym e ∙ ap (option_map (λ (k : CallEnd). k.cause)) h

module _ (link : ℕ) (piece : List ℕ) (x : StateSeen) (o : OpenEntry) (s : Seen) (is : IsReceiving link piece x o s) (h : Received) (r : ReadFrame)
    (next : next_frame_read link s ≡ Some (action.FrameRead link r)) (receives : received_in link piece x.links ≡ Some h) (no_goaway : (r.frame.kind == goaway_type) ≡ false)
    (kind : kind_of h.news ≡ Large) where
  abbrev pub l : Link
  l = is.l

  abbrev pub m : Link
  m = read.m link piece x o s is h r next receives

  abbrev pub t : Seen
  t = read.t link piece x o s is h r next receives

  abbrev pub slot : LinkSlot
  slot = read.slot link piece x o s is h r next receives

  abbrev pub left : List ℕ
  left = drop h.taken piece

  abbrev pub out_ : Reported
  out_ = read.out link piece x o s is h r next receives

  abbrev pub n : ℕ
  n = r.frame.stream

  pub own : l.number ≡ link
  own = read.own link piece x o s is h r next receives

  pub kept_t : IsKept t
  kept_t = read.kept_t link piece x o s is h r next receives

  pub there_m : numbered t.links link ≡ Some m
  there_m = read.there link piece x o s is h r next receives

  -- what came
  pub news_are : h.news ≡ out_.news
  news_are = ap (λ (k : Received). k.news) (read.h_is link piece x o s is h r next receives) ∙ ap (λ (k : Reported). k.news) (read.reported_is link piece x o s is h r next receives)

  pub long : IsReadWithLarge l m s (frame_read l.number r s) n (seen_at r) out_.news out_.link.link.wire (lines_in l s) out_.link.readers
  long =
      large_comes l s slot.link.link.wire (lines_in l s) slot.link.readers r (read.going link piece x o s is h r next receives).streams
      (read_so l s slot.link.readers (read.going link piece x o s is h r next receives).readers) (read.come link piece x o s is h r next receives).comes
      (read.shown link piece x o s is h r next receives).unbroken is.fair.listed no_goaway (ap kind_of (sym news_are) ∙ kind)

  abbrev pub a : Attempt
  a = long.attempt

  abbrev pub more : List (List ℕ)
  more = long.more

  pub on : IsOn l s n a
  on = long.on

  -- the response to the attempt
  pub its : HasFirst more (response a s) (response a t)
  its = frame.gained_so link piece x o s is h r next receives a on (HasFirst more) long.gains

  pub its_large : (response a t).large ≡ true
  its_large =
      ap (λ (p : Response). p.large) (frame.after_is link piece x o s is h r next receives a on)
      ∙ ap (λ (z : Seen). (response_of m z n a).large) (sym (read.read_l link piece x o s is h r next receives)) ∙ long.large

  headed : is_some (response a s).head ≡ true
  headed =
      not_none (response a s).head (ap (λ (p : Response). is_none p.head) (frame.before_is link piece x o s is h r next receives a on) ∙ long.headed)

  abbrev pub out_a : is_outstanding a ≡ true
  out_a = frame.out link piece x o s is h r next receives a on

  pub goes_a : a.row.ended ≡ None
  goes_a = frame.ended link piece x o s is h r next receives a on

  pub its_place : (at : Placed) × ((a.row.placed ≡ Some at) × (at.link ≡ l.number))
  its_place = some_placed a.row.placed l.number (and_parts (is_outstanding a) (holds (λ (at : Placed). at.link == l.number) a.row.placed) on.out).1

  abbrev pub at : Placed
  at = its_place.0

  pub placed : a.row.placed ≡ Some at
  placed = its_place.1.0

  pub at_link : at.link ≡ link
  at_link = its_place.1.1 ∙ own

  -- its call, which is committed to it, since a head came before
  abbrev pub c : Call
  c = frame.c link piece x o s is h r next receives a on

  abbrev pub number : ℕ
  number = a.row.call

  pub at_c : numbered s.calls number ≡ Some c
  at_c = frame.at link piece x o s is h r next receives a on

  abbrev pub has : HasSlot (coming link piece x) s c number
  has = frame.has link piece x o s is h r next receives a on

  pub open_now : c.end ≡ None
  open_now = frame.open_now link piece x o s is h r next receives a on

  pub number_is : c.number ≡ number
  number_is = frame.number_is link piece x o s is h r next receives a on

  pub committed : commitment c s ≡ Some a
  committed = frame.committed link piece x o s is h r next receives a on headed

  pub live : is_committed_live a.place has.slot.call ≡ true
  live = frame.committed_live link piece x o s is h r next receives a on headed

  open_slot : has.slot.call.ended ≡ None
  open_slot = no_cause c.end has.slot.call.ended has.sees.serves.sees.ended open_now

  -- the messages are reported to the channel, and then that one
  pub its_news : h.news ≡ large_news a.place (seen_at r) more
  its_news = news_are ∙ long.news_are

  pub no_end_kept : ends_kept (large_news a.place (seen_at r) more) [] ≡ []
  no_end_kept = no_end a.place (seen_at r) more

  abbrev pub x1 : StateSeen
  x1 = reported_.read link h x (large_news a.place (seen_at r) more) its_news no_end_kept

  pub row_x : row_at x1.book a.place ≡ Some a.row
  row_x = frame.row_is link piece x o s is h r next receives a on

  pub reports_that : IsReported number (with_more more has.slot.call) has.slot x1 (received_all link (map (message_news a.place (seen_at r)) more) x1)
  reports_that =
      all_reported link a.place (seen_at r) number more x1 a.row has.slot row_x refl goes_a has.there live (due_right (coming link piece x) s c has.slot has.sees)
      (deadline_right (coming link piece x) s c has.slot has.sees)

  abbrev pub z0 : StateSeen
  z0 = recalled reports_that.calls x1

  abbrev pub z : StateSeen
  z = coming link left z0

  abbrev pub g : Stepped → Stepped
  g k = closed_by ending.Response z0.book.moment k

  reported_so : reported a.place (news.TooLarge a.place (seen_at r)) z0 ≡ call_asked g number z0
  reported_so =
      reported_large a.place (seen_at r) number z0 a.row (with_call (with_more more has.slot.call) has.slot) row_x refl goes_a reports_that.put.mine live open_slot

  abbrev pub v : StateSeen
  v = sealed (call_asked g number z0)

  pub received_is : frame_received link h x ≡ sealed_one link v
  received_is =
      received_so link h x (large_news a.place (seen_at r) more) its_news no_end_kept (call_asked g number z0)
      (messages_first link a.place (seen_at r) more x1 ∙ ap (reported a.place (news.TooLarge a.place (seen_at r))) reports_that.is ∙ reported_so)
      ∙ sealed_after link (call_asked g number z0)

  pub closed_is : closed ending.Response number z ≡ coming link left v
  closed_is = ap sealed (coming_asked link left g number z0) ∙ coming_sealed link left (call_asked g number z0)

  -- what came for applications
  came_own : came c t ≡ came c s ++ message_items more
  came_own =
      ap (λ (q : Option Attempt). option_map_or (λ (k : Attempt). response_items (response k t)) q []) committed ∙ items_more (response a s) (response a t) more its.head its.messages
      ∙ ap (λ (q : Option Attempt). option_map_or (λ (k : Attempt). response_items (response k s)) q [] ++ message_items more) (sym committed)

  -- the books
  pub books_t : AgreesOffLinks z t
  books_t = own_came.books_agree link piece x o s is h r next receives a on long.others more reports_that.calls reports_that.put came_own long.retiring

  -- the link of the channel
  abbrev pub z_slot : LinkSlot
  z_slot = own_links.slot_then link piece x o s is h r next receives

  pub slot_is : with_link (received_link piece) slot ≡ record slot { link = out_.link }
  slot_is = own_links.slot_is link piece x o s is h r next receives

  pub z_there : numbered z.links link ≡ Some z_slot
  z_there = own_links.there link piece x o s is h r next receives reports_that.calls

  pub z_count : length t.links ≡ length z.links
  z_count = own_links.count link piece x o s is h r next receives reports_that.calls

  pub sees_l : SeesLinkOf l s (with_rest piece slot)
  sees_l = read.sees link piece x o s is h r next receives

  -- each link, as far as it is noted in the ledger: the one of the frame, and the others
  pub others_z : (k : ℕ) (q : Link) → numbered t.links k ≡ Some q → (link == k) ≡ false → HasLink z t q k
  others_z = own_links.others_then link piece x o s is h r next receives reports_that.calls

  pub noted_links : (k : ℕ) (q : Link) → numbered t.links k ≡ Some q → HasNotedLink z t q k
  noted_links k q got = by (link == k) refl
    where
      has_m : HasNotedLink z t m link
      has_m = record { slot = z_slot; there = z_there; over = sees_l.over; retiring = long.retiring ∙ sees_l.retiring }

      by : (e : Bool) → (link == k) ≡ e → HasNotedLink z t q k
      by false e =
          let had : HasLink z t q k = others_z k q got e in
          record { slot = had.slot; there = had.there; over = had.sees.over; retiring = had.sees.retiring }
      by true e =
          let same : link ≡ k = eqb-true link k e in
          let both : Some m ≡ Some q = sym there_m ∙ ap (numbered t.links) same ∙ got in
          let one : m ≡ q = (cc) in
          subst (λ (j : ℕ). HasNotedLink z t q j) same (subst (λ (b : Link). HasNotedLink z t b link) one has_m)

  pub unreset_a : a.reset ≡ false
  unreset_a = own_came.unreset link piece x o s is h r next receives a on

  pub number_a : link_number a ≡ link
  number_a = ap (λ (q : Option Placed). option_map_or (λ (p : Placed). p.link) q 0) placed ∙ at_link
