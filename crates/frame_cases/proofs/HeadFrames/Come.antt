-- A head is read: what it brings, and that nothing but a commitment follows.
use Rattle.std.proofs.Common.{◌≡◌, ◌++◌, ◌&&◌, ◌==◌, ◌∷◌, ap, refl, subst, sym, ◌∙◌, Bool, true, false, List, [], Option, None, Some, ℕ, drop, is_none, is_some, map}
use Rattle.std.proofs.lemmas.Bool.{eq-eqb}
use Rattle.std.specs.Option.{option_map, option_map_or, option_to_list}
use Rattle.attempt_ledger.specs.declared.news.News.TheVariants as news
use Rattle.channel_actions.specs.Calls.{HasSlot}
use Rattle.channel_actions.specs.GoingCalls.Going.{CallsGoOn}
use Rattle.channel_actions.specs.Links.{lines_in}
use Rattle.attempt_cases.proofs.DrainEvents.Links.{read_so}
use Rattle.call_cases.proofs.FullSends.Headless.{no_items}
use Rattle.channel_core.specs.States.{StateSeen}
use Rattle.channel_core.specs.Tables.{Received, received_in}
use Rattle.channel_core.specs.declared.state.links.LinkSlot.{LinkSlot}
use Rattle.frame_cases.proofs.HeadFrames.Alone.{heads_come_alone}
use Rattle.frame_cases.proofs.MessageFrames.Received.{items_none}
use Rattle.frame_cases.proofs.OwnFrames.Calls as calls
use Rattle.frame_cases.proofs.OwnFrames.Came.{message_items}
use Rattle.frame_cases.proofs.OwnFrames.Frame as frame
use Rattle.frame_cases.proofs.QuietFrames.Received as quiet
use Rattle.frame_cases.proofs.QuietFrames.Lines as lines
use Rattle.frame_cases.proofs.QuietFrames.ReadStill as read
use Rattle.frame_cases.specs.FrameKinds.Laws.{Heads, kind_of}
use Rattle.frame_cases.specs.HeadFrames.Laws.{HasHead, IsReadWithHead}
use Rattle.frame_cases.specs.PieceWalks.Points.{IsReceiving, coming}
use Rattle.grpc_base.specs.declared.event.Reply.{Reply}
use Rattle.grpc_base.specs.declared.event.Reply.TheVariants as reply
use Rattle.grpc_base.specs.declared.fields.Field.{Field}
use Rattle.grpc_link.specs.Links.{Report as Reported}
use Rattle.h2_frame.specs.Frames.{FrameSeen}
use Rattle.h2_frame.specs.Numbers.{goaway_type}
use Rattle.link_actions.specs.ResponseActions.Laws.{seen_at}
use Rattle.link_actions.specs.StreamActions.Laws.{IsOn}
use Rattle.session_actions.specs.Attempts.{commitment, is_outstanding}
use Rattle.session_actions.specs.Commitments.{has_head_in, is_free_call, is_headed}
use Rattle.session_actions.specs.Deliveries.{response_items}
use Rattle.session_actions.specs.Responses.{response}
use Rattle.session_actions.specs.Words.{holds, numbered}
use Rattle.session_actions.specs.Writing.{frame_read, next_frame_read, owed_for}
use Rattle.session_actions.specs.declared.action.Action.TheVariants as action
use Rattle.session_actions.specs.declared.attempt.Attempt.{Attempt}
use Rattle.session_actions.specs.declared.call.Call.{Call}
use Rattle.session_actions.specs.declared.entry.OpenEntry.{OpenEntry}
use Rattle.session_actions.specs.declared.link.Link.{Link}
use Rattle.session_actions.specs.declared.link.ReadFrame.{ReadFrame}
use Rattle.session_actions.specs.declared.response.Response.{Response}
use Rattle.session_actions.specs.declared.seen.Seen.{Seen}
use Rattle.session_order.proofs.Changed.{passes_not}
use Rattle.session_order.specs.Quiescent as order
use Rattle.session_order.specs.Lines.{is_line}
use Rattle.session_order.specs.Stirs.{stirs}
use Rattle.session_order.specs.declared.line.Line.{Line}
use Rattle.session_order.specs.declared.line.Line.TheVariants as line

abbrev head_item : Option (List Field) → List Reply
head_item o = option_to_list (option_map (λ (meta : List Field). reply.Head meta) o)

-- a response that goes on as it did
record GoesAsBefore (p q : Response) : Type 0 where
  pub large : q.large ≡ p.large
  pub end : q.end ≡ p.end

module _ (link : ℕ) (piece : List ℕ) (x : StateSeen) (o : OpenEntry) (s : Seen) (is : IsReceiving link piece x o s) (h : Received) (r : ReadFrame)
    (next : next_frame_read link s ≡ Some (action.FrameRead link r)) (receives : received_in link piece x.links ≡ Some h) (no_goaway : (r.frame.kind == goaway_type) ≡ false)
    (kind : kind_of h.news ≡ Heads) where
  abbrev l : Link
  l = is.l

  abbrev m : Link
  m = read.m link piece x o s is h r next receives

  abbrev t : Seen
  t = read.t link piece x o s is h r next receives

  abbrev slot : LinkSlot
  slot = read.slot link piece x o s is h r next receives

  abbrev frames : List FrameSeen
  frames = owed_for r.frame l s

  abbrev out : Reported
  out = read.out link piece x o s is h r next receives

  abbrev n : ℕ
  n = r.frame.stream

  own : l.number ≡ link
  own = read.own link piece x o s is h r next receives

  places : (i : ℕ) (b : Attempt) → numbered s.attempts i ≡ Some b → b.place ≡ i
  places = read.places link piece x o s is h r next receives

  pub quiescent_s : order.IsQuiescent o s
  quiescent_s = quiet.quiescent_s link piece x o s is h r next receives

  -- what is reported
  news_are : h.news ≡ out.news
  news_are = ap (λ (k : Received). k.news) (read.h_is link piece x o s is h r next receives) ∙ ap (λ (k : Reported). k.news) (read.reported_is link piece x o s is h r next receives)

  pub alone : IsReadWithHead l m s (frame_read l.number r s) n (seen_at r) out.news out.link.link.wire (lines_in l s) out.link.readers
  alone =
      heads_come_alone l s slot.link.link.wire (lines_in l s) slot.link.readers r (read.going link piece x o s is h r next receives).streams
      (read_so l s slot.link.readers (read.going link piece x o s is h r next receives).readers) (read.come link piece x o s is h r next receives).comes
      (read.shown link piece x o s is h r next receives).unbroken is.fair.listed no_goaway (ap kind_of (sym news_are) ∙ kind)

  abbrev pub a : Attempt
  a = alone.attempt

  abbrev pub meta : List Field
  meta = alone.meta

  pub on : IsOn l s n a
  on = alone.on

  pub single : h.news ≡ news.Head a.place meta (seen_at r) ∷ []
  single = news_are ∙ alone.news_are

  pub its : HasHead meta (response a s) (response a t)
  its = frame.gained_so link piece x o s is h r next receives a on (HasHead meta) alone.gains

  pub out_a : is_outstanding a ≡ true
  out_a = frame.out link piece x o s is h r next receives a on

  pub going : CallsGoOn (coming link piece x)
  going = frame.going link piece x o s is h r next receives

  abbrev pub c : Call
  c = frame.c link piece x o s is h r next receives a on

  abbrev pub number : ℕ
  number = a.row.call

  pub at : numbered s.calls number ≡ Some c
  at = frame.at link piece x o s is h r next receives a on

  abbrev pub has : HasSlot (coming link piece x) s c number
  has = frame.has link piece x o s is h r next receives a on

  -- nothing came before it, and it alone now
  pub unconfigured_before : response_items (response a s) ≡ []
  unconfigured_before = no_items a s its.was

  no_messages : (response a s).messages ≡ []
  no_messages = items_none (head_item (response a s).head) (response a s).messages unconfigured_before

  pub head_now : response_items (response a t) ≡ reply.Head meta ∷ []
  head_now =
      ap (λ (q : Option (List Field)). head_item q ++ message_items (response a t).messages) its.head
      ∙ ap (λ (ms : List (List ℕ)). reply.Head meta ∷ message_items ms) (its.messages ∙ no_messages)

  -- no response ends by it
  each_goes : (i : ℕ) (b : Attempt) → numbered s.attempts i ≡ Some b → GoesAsBefore (response b s) (response b t)
  each_goes =
      frame.each_so link piece x o s is h r next receives a on alone.others GoesAsBefore (record { large = its.large; end = its.end }) (λ p q k. record { large = k.large; end = k.end })

  -- no other head came
  pub other_headed : (i : ℕ) (b : Attempt) → numbered s.attempts i ≡ Some b → (b.place == a.place) ≡ false → is_headed t b ≡ false
  other_headed i b got off =
      ap (λ (q : Option (List Field)). is_outstanding b && holds (λ (d : Call). is_free_call s d && is_some q) (numbered s.calls b.row.call))
      (frame.others_new link piece x o s is h r next receives a on alone.others i b got off).head
      ∙ passes_not (is_headed s) s.attempts i b (quiescent_s line.Head) got

  pub itself : (i : ℕ) (b : Attempt) → numbered s.attempts i ≡ Some b → (b.place == a.place) ≡ true → a ≡ b
  itself i b got e = frame.itself link piece x o s is h r next receives a on i b got e

  -- whether it commits its call
  pub own_headed : is_headed t a ≡ is_free_call s c
  own_headed =
      ap (λ (b : Bool). b && holds (has_head_in a t) (numbered s.calls number)) out_a ∙ ap (holds (has_head_in a t)) at
      ∙ ap (λ (q : Option (List Field)). is_free_call s c && is_some q) its.head ∙ with_true (is_free_call s c)
    where
      with_true : (b : Bool) → (b && true) ≡ b
      with_true true = refl
      with_true false = refl

  -- nothing else follows
  unstirred : (k : Line) → stirs (action.FrameRead link r) k ≡ false → order.IsStill k o t
  unstirred k e = quiet.unstirred link piece x o s is h r next receives k e

  pub still_t : (k : Line) → is_line k line.Head ≡ false → order.IsStill k o t
  still_t line.Head e = absurd (let bad : true ≡ false = e in let no : ⊥ = (cc) in no)
  still_t line.Response e =
      lines.larges_stay s link l is.here own r frames (Some o) places (read.less link piece x o s is h r next receives) (λ i b got. (each_goes i b got).large) o (quiescent_s line.Response)
  still_t line.Link e =
      lines.links_stay s link l is.here own r frames (Some o) places (read.less link piece x o s is h r next receives) alone.retiring alone.settings o (quiescent_s line.Link)
  still_t line.WireEnd e =
      lines.ends_stay s link l is.here own r frames (Some o) places (read.less link piece x o s is h r next receives) alone.retiring (λ i b got. (each_goes i b got).end) o (quiescent_s line.WireEnd)
  still_t line.Cut e = unstirred line.Cut refl
  still_t line.Transparent e = unstirred line.Transparent refl
  still_t line.Inherited e = unstirred line.Inherited refl
  still_t line.Row e = unstirred line.Row refl
  still_t line.Final e = unstirred line.Final refl
  still_t line.Cancelled e = unstirred line.Cancelled refl
  still_t line.Request e = unstirred line.Request refl
  still_t line.Overflow e = unstirred line.Overflow refl
  still_t line.Pick e = unstirred line.Pick refl
  still_t line.Reset e = unstirred line.Reset refl
  still_t line.Shut e = unstirred line.Shut refl
  still_t line.Retire e = unstirred line.Retire refl
  still_t line.Begin e = unstirred line.Begin refl
  still_t line.Give e = unstirred line.Give refl
  still_t line.Drop e = unstirred line.Drop refl
  still_t line.Add e = unstirred line.Add refl
