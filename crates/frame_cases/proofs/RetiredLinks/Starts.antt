-- GOAWAY is read, and the subchannel of its link went down: channel and session agree then but for links, and the first end is next.
use Rattle.std.proofs.Common.{◌≡◌, ◌||◌, ◌++◌, ◌==◌, ◌∷◌, ap, refl, subst, sym, ◌∙◌, Bool, true, false, List, [], None, Some, ℕ, drop, if◌then◌else◌, is_some, map}
use Rattle.attempt_cases.proofs.DialEvents.Nets.{one_call_more}
use Rattle.attempt_cases.proofs.DrainEvents.Links.{read_so}
use Rattle.attempt_cases.proofs.NetSteps.Clocks.{clock_goes_on, entry_goes_on}
use Rattle.attempt_cases.proofs.NetSteps.Stepped.{booked}
use Rattle.attempt_cases.proofs.NetSteps.Subbed.{current_stays, noted_same}
use Rattle.attempt_ledger.specs.declared.news.News.TheVariants as news
use Rattle.call_cases.proofs.EndsFollow.Steps.{placed_of}
use Rattle.channel_actions.proofs.Gone.{sub_noted}
use Rattle.channel_actions.proofs.KeptSessions.Along.{kept_along}
use Rattle.channel_actions.specs.Agrees.{Agrees}
use Rattle.channel_actions.specs.Columns.{links_noted}
use Rattle.channel_actions.specs.KeptSessions.Kept.{IsKept}
use Rattle.channel_actions.specs.Links.{lines_in}
use Rattle.channel_core.specs.Books.{link_at}
use Rattle.channel_core.specs.States.{StateSeen}
use Rattle.channel_core.specs.Steps.{sub_of}
use Rattle.channel_core.specs.Tables.{Received, received_in, retired_in}
use Rattle.channel_core.specs.declared.state.links.LinkSlot.{LinkSlot}
use Rattle.channel_net.specs.Runs.{Down}
use Rattle.channel_net.specs.Steps.{NetSeen, net_down}
use Rattle.end_cases.specs.AttemptEnds.Ahead.{AgreesOffLinks}
use Rattle.event_cases.proofs.LostLinks.Down.{GoesDown, IsDown, down_next}
use Rattle.frame_cases.proofs.PassedBytes.Agreeing.{IsReportedOff, nothing_came, reported_books}
use Rattle.frame_cases.proofs.PassedBytes.Same.{drained_through}
use Rattle.frame_cases.proofs.QuietFrames.Received as quiet
use Rattle.frame_cases.proofs.QuietFrames.Lines as lines
use Rattle.frame_cases.proofs.QuietFrames.ReadStill as read
use Rattle.frame_cases.proofs.RetiredLinks.Downed.{downed_books}
use Rattle.frame_cases.proofs.RetiredLinks.Shapes.{AfterGoaway}
use Rattle.frame_cases.specs.PassedBytes.Laws.{relinked}
use Rattle.frame_cases.specs.PieceWalks.Points.{IsReceiving, coming}
use Rattle.grpc_link.specs.Links.{Report as Reported}
use Rattle.h2_frame.specs.Frames.{FrameSeen}
use Rattle.h2_frame.specs.Numbers.{goaway_type}
use Rattle.h2_frame.specs.Payloads.{last_stream}
use Rattle.h2_link.specs.Steps.{reported}
use Rattle.h2_link.specs.Wire.{Wire}
use Rattle.link_actions.proofs.History.{used_same}
use Rattle.link_actions.proofs.ResponseActions.Goaways.{goaways_are_reported}
use Rattle.link_actions.specs.ResponseActions.Laws.{IsRetired, ended_as, left_out_end, seen_at}
use Rattle.link_actions.specs.Sees.{AttemptsStandInPlace}
use Rattle.link_actions.specs.StreamActions.Laws.{left_out}
use Rattle.session_actions.specs.AttemptEnds.{unsent_end}
use Rattle.session_actions.specs.Entries.{entry}
use Rattle.session_actions.specs.Links.{is_retiring}
use Rattle.session_actions.specs.Refusals.{is_shutdown_sub}
use Rattle.session_actions.specs.Sessions.{Does}
use Rattle.session_actions.specs.Words.{numbered}
use Rattle.session_actions.specs.Writing.{next_frame_read, owed_for, waiting_on}
use Rattle.session_actions.specs.declared.action.Action.{Action}
use Rattle.session_actions.specs.declared.action.Action.TheVariants as action
use Rattle.session_actions.specs.declared.attempt.Attempt.{Attempt}
use Rattle.session_actions.specs.declared.entry.OpenEntry.{OpenEntry}
use Rattle.session_actions.specs.declared.link.Link.{Link}
use Rattle.session_actions.specs.declared.link.ReadFrame.{ReadFrame}
use Rattle.session_actions.specs.declared.policy.PolicyUse.{PolicyUse}
use Rattle.session_actions.specs.declared.seen.Seen.{Seen}
use Rattle.session_order.proofs.Changed.{changed_away}
use Rattle.session_order.specs.Quiescent as order
use Rattle.session_order.specs.Lines.{is_line}
use Rattle.session_order.specs.Stirs.{stirs}
use Rattle.session_order.specs.declared.line.Line.{Line}
use Rattle.session_order.specs.declared.line.Line.TheVariants as line

or_true : (b : Bool) → (b || true) ≡ true
or_true true = refl
or_true false = refl

module _ (link : ℕ) (piece : List ℕ) (x : StateSeen) (o : OpenEntry) (s : Seen) (is : IsReceiving link piece x o s) (h : Received) (r : ReadFrame)
    (next : next_frame_read link s ≡ Some (action.FrameRead link r)) (receives : received_in link piece x.links ≡ Some h) (goes : (r.frame.kind == goaway_type) ≡ true)
    (said : AfterGoaway is.l (read.m link piece x o s is h r next receives) s (read.t link piece x o s is h r next receives) (last_stream r.frame.payload)) where
  abbrev pub l : Link
  l = is.l

  abbrev pub m : Link
  m = read.m link piece x o s is h r next receives

  abbrev pub t : Seen
  t = read.t link piece x o s is h r next receives

  abbrev pub slot : LinkSlot
  slot = read.slot link piece x o s is h r next receives

  abbrev pub left : List ℕ
  left = drop h.taken piece

  abbrev frames : List FrameSeen
  frames = owed_for r.frame l s

  abbrev f : Link → Link
  f = read.f link piece x o s is h r next receives

  abbrev pub out_ : Reported
  out_ = read.out link piece x o s is h r next receives

  abbrev w : Wire
  w = slot.link.link.wire

  abbrev pub last : ℕ
  last = last_stream r.frame.payload

  abbrev pub h0 : Agrees (coming link piece x) s
  h0 = is.agrees

  pub own : l.number ≡ link
  own = read.own link piece x o s is h r next receives

  pub kept_t : IsKept t
  kept_t = read.kept_t link piece x o s is h r next receives

  pub places : AttemptsStandInPlace 1 s.attempts
  places = placed_of 1 s.attempts h0.kept.book.places

  pub there_m : numbered t.links link ≡ Some m
  there_m = read.there link piece x o s is h r next receives

  pub going_m : m.over ≡ None
  going_m = (read.shown link piece x o s is h r next receives).unbroken

  -- what is reported
  pub retired_ : IsRetired l s w (reported w r.frame).wire out_ slot.link.readers last (seen_at r)
  retired_ =
      goaways_are_reported l s w (lines_in l s) slot.link.readers r (read.going link piece x o s is h r next receives).streams
      (read_so l s slot.link.readers (read.going link piece x o s is h r next receives).readers) (read.come link piece x o s is h r next receives).comes goes

  pub news_are : h.news ≡ map (ended_as left_out_end (seen_at r)) (left_out l s last) ++ map (ended_as unsent_end (seen_at r)) (waiting_on l s) ++ (if is_retiring l then [] else news.Retiring ∷ [])
  news_are =
      ap (λ (k : Received). k.news) (read.h_is link piece x o s is h r next receives) ∙ ap (λ (k : Reported). k.news) (read.reported_is link piece x o s is h r next receives) ∙ retired_.news

  -- nothing else follows at once
  pub quiescent_s : order.IsQuiescent o s
  quiescent_s = quiet.quiescent_s link piece x o s is h r next receives

  unstirred : (k : Line) → stirs (action.FrameRead link r) k ≡ false → order.IsStill k o t
  unstirred k e = quiet.unstirred link piece x o s is h r next receives k e

  places_s : (i : ℕ) (b : Attempt) → numbered s.attempts i ≡ Some b → b.place ≡ i
  places_s = read.places link piece x o s is h r next receives

  pub still_t : (k : Line) → is_line k line.WireEnd ≡ false → is_line k line.Link ≡ false → order.IsStill k o t
  still_t line.Head e g = lines.heads_stay s link l is.here own r frames (Some o) places_s (read.less link piece x o s is h r next receives) said.heads o (quiescent_s line.Head)
  still_t line.Response e g = lines.larges_stay s link l is.here own r frames (Some o) places_s (read.less link piece x o s is h r next receives) said.larges o (quiescent_s line.Response)
  still_t line.Link e g = absurd (cc)
  still_t line.WireEnd e g = absurd (cc)
  still_t line.Cut e g = unstirred line.Cut refl
  still_t line.Transparent e g = unstirred line.Transparent refl
  still_t line.Inherited e g = unstirred line.Inherited refl
  still_t line.Row e g = unstirred line.Row refl
  still_t line.Final e g = unstirred line.Final refl
  still_t line.Cancelled e g = unstirred line.Cancelled refl
  still_t line.Request e g = unstirred line.Request refl
  still_t line.Overflow e g = unstirred line.Overflow refl
  still_t line.Pick e g = unstirred line.Pick refl
  still_t line.Reset e g = unstirred line.Reset refl
  still_t line.Shut e g = unstirred line.Shut refl
  still_t line.Retire e g = unstirred line.Retire refl
  still_t line.Begin e g = unstirred line.Begin refl
  still_t line.Give e g = unstirred line.Give refl
  still_t line.Drop e g = unstirred line.Drop refl
  still_t line.Add e g = unstirred line.Add refl

  -- the channel then, before its subchannel went down
  abbrev pub z0 : StateSeen
  z0 = coming link left (relinked (retired_in link h.links) (links_noted t) x)

  reported_off : IsReportedOff link (coming link piece x) z0 o o s t
  reported_off = record {
    state = refl;
    current = is.at.current;
    seen = refl;
    moment = refl;
    word = refl;
    drawn = refl;
    kept = kept_t;
    long = refl;
    handled = λ j d held got there sees. nothing_came x.book.calls s t j d held there (said.came_same d) sees.serves.left;
    drained_same = drained_through s f link (Some o) (λ stream k. used_same stream k r frames);
    noted = refl;
  }

  pub books_t : AgreesOffLinks z0 t
  books_t = reported_books link (coming link piece x) z0 o o s t h0 reported_off

  -- it goes down
  pub sub_is : sub_of (link_at z0.book link) ≡ l.sub
  sub_is = sub_noted (links_noted t) t link m there_m refl

  pub goes_down : GoesDown t.links s.wants (Some o) link z0 o o s
  goes_down = record {
    quiescent = quiescent_s;
    own = is.known.own;
    boards = is.known.early.boards;
    kept_s = h0.kept;
    net = h0.net;
    link_ = l;
    there = is.here;
    sub_is = sub_is;
    m = m;
    there_m = there_m;
    away = λ k other. changed_away f link k s.links other;
    goes_down = ap (λ (b : Bool). is_some m.over || b) said.retiring ∙ or_true (is_some m.over);
    settings = said.settings;
    now_is = refl;
    still = still_t;
    kept = kept_t;
  }

  pub dn : IsDown link z0 o s t
  dn = down_next t.links s.wants (Some o) link z0 o o s goes_down

  abbrev pub t1 : Seen
  t1 = dn.seen

  pub kept_t1 : IsKept t1
  kept_t1 = kept_along dn.actions t t1 kept_t dn.does

  abbrev pub net1 : NetSeen
  net1 = net_down (sub_of (link_at z0.book link)) link x.net

  abbrev pub z1 : StateSeen
  z1 = record z0 { net = net1 }

  abbrev pub those : List Action
  those = action.FrameRead link r ∷ dn.actions

  pub does : Does those s t1
  does = (
    read.follows link piece x o s is h r next receives,
    subst (λ (v : Seen). Does dn.actions v t1) (sym (read.after_is link piece x o s is h r next receives)) dn.does,
  )

  pub entry_same : entry t1 ≡ entry t
  entry_same = entry_goes_on t t1 o o dn.boarded refl dn.current

  shut_same : (k : ℕ) → is_shutdown_sub t1 k ≡ is_shutdown_sub t k
  shut_same k = dn.shut k

  generations : map (λ (g : PolicyUse). g.generation) t1.policies ≡ x.book.ledger.generations
  generations = dn.generations ∙ h0.columns.generations

  pub books : AgreesOffLinks z1 t1
  books = downed_books net1 z0 t t1 books_t (record {
    boarded = dn.boarded;
    goes = record { actions = dn.actions; does = dn.does; apart = dn.of; earlier = booked t kept_t; later = booked t1 kept_t1 };
    kept = kept_t1;
    clock = clock_goes_on t t1 o o dn.boarded refl dn.current z0 z0 books_t.clock refl refl refl refl refl books_t.clock.draws.1;
    generations = generations;
    noted = noted_same t t1 dn.boarded entry_same shut_same dn.links;
    policy = λ held unshut. current_stays s t1 dn.generations ∙ h0.configs.policy held unshut;
    net = dn.net;
    orderly = one_call_more (Down (sub_of (link_at z0.book link)) link) x.net h0.orderly;
  })
