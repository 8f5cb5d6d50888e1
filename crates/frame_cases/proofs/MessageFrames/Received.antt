-- Messages are handled: they came for the application of the call that is committed to their attempt, and nothing follows at once.
use Rattle.std.proofs.Common.{◌≡◌, ◌++◌, ◌==◌, ◌∷◌, ap, refl, subst, sym, ◌∙◌, true, false, List, [], Option, None, Some, ℕ, drop, is_some, map}
use Rattle.std.specs.Option.{option_map, option_map_or, option_to_list}
use Rattle.call_actions.specs.TakeActions.Serves.{came}
use Rattle.call_core.specs.Steps.{is_committed_live}
use Rattle.channel_actions.specs.Agrees.{Agrees}
use Rattle.channel_actions.specs.Calls.{HasSlot, SeesCall}
use Rattle.channel_actions.specs.Quiescent.{IsAt}
use Rattle.channel_actions.specs.Links.{lines_in}
use Rattle.call_cases.proofs.CallPosts.Asked.{deadline_right, due_right}
use Rattle.attempt_cases.proofs.DrainEvents.Links.{read_so}
use Rattle.call_cases.proofs.FullSends.Headless.{no_items}
use Rattle.channel_core.specs.Arrivals.{frame_received, received_all}
use Rattle.channel_core.specs.Books.{slot_at}
use Rattle.channel_core.specs.States.{StateSeen}
use Rattle.channel_core.specs.Tables.{Received, received_in, sealed_in}
use Rattle.channel_core.specs.declared.state.links.LinkSlot.{LinkSlot}
use Rattle.channel_core.specs.declared.state.slots.CallSlot.{CallSlot}
use Rattle.frame_cases.proofs.MessageFrames.Alone.{messages_come_alone}
use Rattle.frame_cases.proofs.MessageFrames.Report as reported_
use Rattle.frame_cases.proofs.MessageFrames.Report.{IsReported, all_reported, no_ends, recalled_so, with_more}
use Rattle.frame_cases.proofs.OwnFrames.Came as own_came
use Rattle.frame_cases.proofs.OwnFrames.Came.{items_more, message_items}
use Rattle.frame_cases.proofs.OwnFrames.Frame as frame
use Rattle.frame_cases.proofs.PassedBytes.Agreeing.{HasCame, recalled}
use Rattle.frame_cases.proofs.QuietFrames.Received as quiet
use Rattle.frame_cases.proofs.QuietFrames.Lines as lines
use Rattle.frame_cases.proofs.QuietFrames.ReadStill as read
use Rattle.frame_cases.specs.FrameKinds.Laws.{Messages, MessagesAreHandled, Quiet, kind_of}
use Rattle.frame_cases.specs.MessageFrames.Laws.{HasMessages, IsReadWithMessages}
use Rattle.frame_cases.specs.PassedBytes.Laws.{relinked}
use Rattle.frame_cases.specs.PieceWalks.Points.{HasReceived, IsReceiving, coming}
use Rattle.grpc_base.specs.declared.event.Reply.{Reply}
use Rattle.grpc_base.specs.declared.event.Reply.TheVariants as reply
use Rattle.grpc_base.specs.declared.fields.Field.{Field}
use Rattle.grpc_link.specs.Links.{Report as Reported}
use Rattle.grpc_link.specs.Response.{message_news}
use Rattle.h2_frame.specs.Frames.{FrameSeen}
use Rattle.h2_frame.specs.Numbers.{goaway_type}
use Rattle.link_actions.specs.ResponseActions.Laws.{seen_at}
use Rattle.link_actions.specs.StreamActions.Laws.{IsOn}
use Rattle.session_actions.specs.Attempts.{commitment}
use Rattle.session_actions.specs.Deliveries.{response_items}
use Rattle.session_actions.specs.Responses.{response}
use Rattle.session_actions.specs.Words.{numbered}
use Rattle.session_actions.specs.Writing.{frame_read, next_frame_read, owed_for}
use Rattle.session_actions.specs.declared.action.Action.{Action}
use Rattle.session_actions.specs.declared.action.Action.TheVariants as action
use Rattle.session_actions.specs.declared.attempt.Attempt.{Attempt}
use Rattle.session_actions.specs.declared.call.Call.{Call}
use Rattle.session_actions.specs.declared.entry.OpenEntry.{OpenEntry}
use Rattle.session_actions.specs.declared.entry.Stage.TheVariants as stage
use Rattle.session_actions.specs.declared.link.Link.{Link}
use Rattle.session_actions.specs.declared.link.ReadFrame.{ReadFrame}
use Rattle.session_actions.specs.declared.response.Response.{Response}
use Rattle.session_actions.specs.declared.seen.Seen.{Seen}
use Rattle.session_order.proofs.Quiescence.{quiescence_is_exact}
use Rattle.session_order.specs.Quiescent as order
use Rattle.session_order.specs.Stirs.{stirs}
use Rattle.session_order.specs.declared.line.Line.{Line}
use Rattle.session_order.specs.declared.line.Line.TheVariants as line

-- where nothing came
pub items_none : (hs : List Reply) (ms : List (List ℕ)) → hs ++ message_items ms ≡ [] → ms ≡ []
items_none [] [] e = refl
items_none [] (m ∷ ms) e = absurd (let bad : reply.Message m ∷ message_items ms ≡ [] = e in (cc))
items_none (r ∷ hs) ms e = absurd (let bad : r ∷ (hs ++ message_items ms) ≡ [] = e in (cc))

after_none : (xs ys : List (List ℕ)) → xs ++ ys ≡ [] → ys ≡ []
after_none [] ys e = e
after_none (x ∷ xs) ys e = absurd (let bad : x ∷ (xs ++ ys) ≡ [] = e in (cc))

-- a response as it was, but for its messages
record IsAsItWas (p q : Response) : Type 0 where
  pub head : q.head ≡ p.head
  pub large : q.large ≡ p.large
  pub end : q.end ≡ p.end

module _ (link : ℕ) (piece : List ℕ) (x : StateSeen) (o : OpenEntry) (s : Seen) (is : IsReceiving link piece x o s) (h : Received) (r : ReadFrame)
    (next : next_frame_read link s ≡ Some (action.FrameRead link r)) (receives : received_in link piece x.links ≡ Some h) (no_goaway : (r.frame.kind == goaway_type) ≡ false)
    (kind : kind_of h.news ≡ Messages) where
  abbrev l : Link
  l = is.l

  abbrev m : Link
  m = read.m link piece x o s is h r next receives

  abbrev t : Seen
  t = read.t link piece x o s is h r next receives

  abbrev slot : LinkSlot
  slot = read.slot link piece x o s is h r next receives

  abbrev left : List ℕ
  left = drop h.taken piece

  abbrev frames : List FrameSeen
  frames = owed_for r.frame l s

  abbrev out : Reported
  out = read.out link piece x o s is h r next receives

  abbrev n : ℕ
  n = r.frame.stream

  own : l.number ≡ link
  own = read.own link piece x o s is h r next receives

  places : (i : ℕ) (b : Attempt) → numbered s.attempts i ≡ Some b → b.place ≡ i
  places = read.places link piece x o s is h r next receives

  quiescent_s : order.IsQuiescent o s
  quiescent_s = quiet.quiescent_s link piece x o s is h r next receives

  -- what is reported
  news_are : h.news ≡ out.news
  news_are = ap (λ (k : Received). k.news) (read.h_is link piece x o s is h r next receives) ∙ ap (λ (k : Reported). k.news) (read.reported_is link piece x o s is h r next receives)

  alone : IsReadWithMessages l m s (frame_read l.number r s) n (seen_at r) out.news out.link.link.wire (lines_in l s) out.link.readers
  alone =
      messages_come_alone l s slot.link.link.wire (lines_in l s) slot.link.readers r (read.going link piece x o s is h r next receives).streams
      (read_so l s slot.link.readers (read.going link piece x o s is h r next receives).readers) (read.come link piece x o s is h r next receives).comes
      (read.shown link piece x o s is h r next receives).unbroken is.fair.listed no_goaway (ap kind_of (sym news_are) ∙ kind)

  abbrev a : Attempt
  a = alone.attempt

  abbrev more : List (List ℕ)
  more = alone.more

  on : IsOn l s n a
  on = alone.on

  some_more : more ≡ [] → ⊥
  some_more e =
      let bad : Quiet ≡ Messages
      = sym (ap (λ (ms : List (List ℕ)). kind_of (map (message_news a.place (seen_at r)) ms)) e) ∙ ap kind_of (sym alone.news_are ∙ sym news_are) ∙ kind in
      (cc)

  -- the response to its attempt
  its : HasMessages more (response a s) (response a t)
  its = frame.gained_so link piece x o s is h r next receives a on (HasMessages more) alone.gains

  headed : is_some (response a s).head ≡ true
  headed = by (response a s).head refl
    where
      by : (q : Option (List Field)) → (response a s).head ≡ q → is_some (response a s).head ≡ true
      by (Some meta) e = ap (λ (q : Option (List Field)). is_some q) e
      by None e =
          absurd (some_more (after_none (response a s).messages more (sym its.messages
          ∙ items_none (option_to_list (option_map (λ (meta : List Field). reply.Head meta) (response a t).head)) (response a t).messages (no_items a t (its.head ∙ e)))))

  -- its call, which is committed to it
  abbrev c : Call
  c = frame.c link piece x o s is h r next receives a on

  abbrev number : ℕ
  number = a.row.call

  at : numbered s.calls number ≡ Some c
  at = frame.at link piece x o s is h r next receives a on

  abbrev has : HasSlot (coming link piece x) s c number
  has = frame.has link piece x o s is h r next receives a on

  committed : commitment c s ≡ Some a
  committed = frame.committed link piece x o s is h r next receives a on headed

  committed_live : is_committed_live a.place has.slot.call ≡ true
  committed_live = frame.committed_live link piece x o s is h r next receives a on headed

  -- the channel reports it
  abbrev x1 : StateSeen
  x1 = reported_.read link h x (map (message_news a.place (seen_at r)) more) (news_are ∙ alone.news_are) (no_ends a.place (seen_at r) more [])

  reports_that : IsReported number (with_more more has.slot.call) has.slot x1 (received_all link (map (message_news a.place (seen_at r)) more) x1)
  reports_that =
      all_reported link a.place (seen_at r) number more x1 a.row has.slot (frame.row_is link piece x o s is h r next receives a on) refl (frame.ended link piece x o s is h r next receives a on) has.there
      committed_live (due_right (coming link piece x) s c has.slot has.sees) (deadline_right (coming link piece x) s c has.slot has.sees)

  received_is : frame_received link h x ≡ relinked (read.slots link piece x o s is h r next receives) (read.columns link piece x o s is h r next receives) (recalled reports_that.calls x)
  received_is =
      recalled_so link h x (map (message_news a.place (seen_at r)) more) (news_are ∙ alone.news_are) (no_ends a.place (seen_at r) more []) is.agrees.sets.resets reports_that.calls reports_that.is
      ∙ ap (λ (k : Received). relinked (sealed_in link k.links) (read.columns link piece x o s is h r next receives) (recalled reports_that.calls x)) (read.h_is link piece x o s is h r next receives)

  -- each response is as it was, but for its messages
  each_was : (i : ℕ) (b : Attempt) → numbered s.attempts i ≡ Some b → IsAsItWas (response b s) (response b t)
  each_was =
      frame.each_so link piece x o s is h r next receives a on alone.others IsAsItWas (record { head = its.head; large = its.large; end = its.end })
      (λ p q k. record { head = k.head; large = k.large; end = k.end })

  -- so nothing follows
  unstirred : (k : Line) → stirs (action.FrameRead link r) k ≡ false → order.IsStill k o t
  unstirred k e = quiet.unstirred link piece x o s is h r next receives k e

  quiescent_t : order.IsQuiescent o t
  quiescent_t line.Head =
      lines.heads_stay s link l is.here own r frames (Some o) places (read.less link piece x o s is h r next receives) (λ i b got. ap (λ (q : Option (List Field)). is_some q) (each_was i b got).head)
      o (quiescent_s line.Head)
  quiescent_t line.Response =
      lines.larges_stay s link l is.here own r frames (Some o) places (read.less link piece x o s is h r next receives) (λ i b got. (each_was i b got).large) o (quiescent_s line.Response)
  quiescent_t line.Link =
      lines.links_stay s link l is.here own r frames (Some o) places (read.less link piece x o s is h r next receives) alone.retiring alone.settings o (quiescent_s line.Link)
  quiescent_t line.WireEnd =
      lines.ends_stay s link l is.here own r frames (Some o) places (read.less link piece x o s is h r next receives) alone.retiring (λ i b got. (each_was i b got).end) o (quiescent_s line.WireEnd)
  quiescent_t line.Cut = unstirred line.Cut refl
  quiescent_t line.Transparent = unstirred line.Transparent refl
  quiescent_t line.Inherited = unstirred line.Inherited refl
  quiescent_t line.Row = unstirred line.Row refl
  quiescent_t line.Final = unstirred line.Final refl
  quiescent_t line.Cancelled = unstirred line.Cancelled refl
  quiescent_t line.Request = unstirred line.Request refl
  quiescent_t line.Overflow = unstirred line.Overflow refl
  quiescent_t line.Pick = unstirred line.Pick refl
  quiescent_t line.Reset = unstirred line.Reset refl
  quiescent_t line.Shut = unstirred line.Shut refl
  quiescent_t line.Retire = unstirred line.Retire refl
  quiescent_t line.Begin = unstirred line.Begin refl
  quiescent_t line.Give = unstirred line.Give refl
  quiescent_t line.Drop = unstirred line.Drop refl
  quiescent_t line.Add = unstirred line.Add refl

  at_t : IsAt stage.Replied o t
  at_t =
      let three = (quiescence_is_exact o t).1 quiescent_t in
      record { current = refl; stage_is = is.at.stage_is; quiescent = record { calls = three.0; links = three.1; policies = three.2 } }

  -- what came for applications
  came_own : came c t ≡ came c s ++ message_items more
  came_own =
      ap (λ (q : Option Attempt). option_map_or (λ (k : Attempt). response_items (response k t)) q []) committed
      ∙ items_more (response a s) (response a t) more its.head its.messages
      ∙ sym (ap (λ (q : Option Attempt). option_map_or (λ (k : Attempt). response_items (response k s)) q [] ++ message_items more) committed)

  each_came : (j : ℕ) (d : Call) (held : CallSlot) → numbered s.calls j ≡ Some d → slot_at x.book j ≡ Some held → SeesCall (coming link piece x) s d held → HasCame reports_that.calls t j d held
  each_came = own_came.each_came link piece x o s is h r next receives a on alone.others more reports_that.calls reports_that.put came_own

  agrees_t : Agrees (coming link left (frame_received link h x)) t
  agrees_t =
      subst (λ (v : StateSeen). Agrees (coming link left v) t) (sym received_is)
      (read.agrees_reported link piece x o s is h r next receives alone.streams alone.reads alone.retiring reports_that.calls reports_that.put.long each_came)

  pub received_messages : HasReceived link left (frame_received link h x) o s
  received_messages = record {
    actions = action.FrameRead link r ∷ [];
    seen = t;
    entry = o;
    does = (read.follows link piece x o s is h r next receives, sym (read.after_is link piece x o s is h r next receives));
    posts = refl;
    same = record { moment = refl; word = refl; event = refl; entries = refl; setup = refl };
    at = at_t;
    reply = refl;
    fresh = is.fresh;
    link_ = m;
    here = read.there link piece x o s is h r next receives;
    fair = read.fair_now link piece x o s is h r next receives;
    few = is.few;
    left = λ e. read.left_is link piece x o s is h r next receives;
    agrees = agrees_t;
  }

pub messages_are_handled : MessagesAreHandled
messages_are_handled link piece x o s a h is next receives case =
    received_messages link piece x o s is h case.frame (next ∙ ap (λ (b : Action). Some b) case.is) receives case.stays case.kind_is
