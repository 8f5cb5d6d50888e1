-- The server's first SETTINGS are handled.
use Rattle.std.proofs.Common.{◌≡◌, ◌&&◌, ◌||◌, ◌==◌, ◌∷◌, ap, refl, subst, sym, ◌∙◌, Bool, true, false, List, [], Option, None, Some, ℕ, drop, if◌then◌else◌, is_none, is_some, map, not, option_and_then, suc, zero}
use Rattle.std.proofs.lemmas.Bool.{eqb-false, eqb-true}
use Rattle.std.specs.Option.{option_map, option_map_or}
use Rattle.attempt_ledger.specs.declared.ledger.LinkSeen.{LinkSeen}
use Rattle.attempt_ledger.specs.declared.news.News.{News}
use Rattle.attempt_ledger.specs.declared.news.News.TheVariants as news
use Rattle.channel_actions.proofs.BoardActions.Boards.{one_boarded}
use Rattle.channel_actions.proofs.Gone.{all_numbered}
use Rattle.channel_actions.proofs.KeptSessions.Along.{kept_along}
use Rattle.channel_actions.proofs.Links.Frames.Frame.{links_stay}
use Rattle.call_cases.proofs.OtherCalls.Sets.{sets_stay}
use Rattle.call_cases.proofs.OtherCalls.Slots.{all_calls_stay}
use Rattle.channel_actions.proofs.Stamps.{numbered_map}
use Rattle.channel_actions.specs.Agrees.{Agrees}
use Rattle.channel_actions.specs.BoardActions.Boards.{IsBoarded}
use Rattle.channel_actions.specs.Columns.{links_noted}
use Rattle.attempt_cases.proofs.DialEvents.Nets.{one_call_more}
use Rattle.attempt_cases.proofs.NetSteps.Alike.{links_without_difference_agree}
use Rattle.attempt_cases.proofs.NetSteps.Clocks.{clock_goes_on, entry_goes_on}
use Rattle.attempt_cases.proofs.NetSteps.Stepped.{net_steps_keep}
use Rattle.attempt_cases.proofs.NetSteps.Subbed.{current_stays, noted_same, subbed_generations, subbed_links, subbed_shut, subbed_subs}
use Rattle.channel_actions.specs.PrefacedLinks.Prefaced.{LinksArePrefaced, has_preface, has_preface_come, is_ready_prefaced}
use Rattle.channel_core.specs.Arrivals.{frame_received, handled, read_to}
use Rattle.channel_core.specs.States.{StateSeen}
use Rattle.channel_core.specs.Steps.{links_sealed, resets_taken, sealed_one, sub_of}
use Rattle.channel_core.specs.Tables.{Received, received_in, sealed_in}
use Rattle.channel_core.specs.declared.state.links.LinkSlot.{LinkSlot}
use Rattle.channel_net.specs.Lists.{link_of}
use Rattle.channel_net.specs.Runs.{Ready}
use Rattle.channel_net.specs.Steps as net
use Rattle.channel_net.specs.Steps.{NetSeen, board_reported, owns}
use Rattle.frame_cases.proofs.FrameKinds.Reported as frame_reported
use Rattle.frame_cases.proofs.FirstSettings.Lines.{none_in, settings_given}
use Rattle.frame_cases.proofs.QuietFrames.Received as quiet
use Rattle.frame_cases.proofs.QuietFrames.Lines as lines
use Rattle.frame_cases.proofs.QuietFrames.ReadStill as read
use Rattle.frame_cases.proofs.QuietFrames.Responses as responses
use Rattle.frame_cases.specs.FrameKinds.Laws.{Prefaces, kind_of}
use Rattle.frame_cases.specs.FirstSettings.Laws.{PrefacedFramesAreHandled}
use Rattle.frame_cases.specs.PassedBytes.Laws.{relinked}
use Rattle.frame_cases.specs.PieceWalks.Points.{HasReceived, IsReceiving, coming}
use Rattle.frame_cases.specs.QuietFrames.Laws.{HasNothingNew, IsReadStill}
use Rattle.channel_actions.specs.Links.{lines_in}
use Rattle.attempt_cases.proofs.DrainEvents.Links.{read_so}
use Rattle.grpc_base.specs.declared.event.Conn.{Conn}
use Rattle.grpc_base.specs.declared.event.Conn.TheVariants as conn
use Rattle.h2_frame.specs.Numbers.{goaway_type}
use Rattle.ledger_stamps.specs.Steps.{changed_at, read_link}
use Rattle.lb_policy.specs.Table.{is_ready}
use Rattle.link_actions.proofs.History.{settings_more}
use Rattle.net_actions.proofs.Dialling.{here, settings_come}
use Rattle.net_actions.specs.Sees.{IsShaped, IsSub, Sees}
use Rattle.session_actions.specs.Actions.{following}
use Rattle.session_actions.specs.Closing.{noted_gone}
use Rattle.session_actions.specs.Links.{has_settings, is_settings}
use Rattle.session_actions.specs.Sessions.{Does, link_seen}
use Rattle.session_actions.specs.Subchannels.{is_connecting, is_to_be_ready, is_to_go_down, link_of_sub, settings_arrived}
use Rattle.session_actions.specs.Words.{changed, holds, is_number, numbered}
use Rattle.session_actions.specs.Writing.{frame_read, next_frame_read, owed_for}
use Rattle.session_actions.specs.declared.action.Action.{Action}
use Rattle.session_actions.specs.declared.action.Action.TheVariants as action
use Rattle.session_actions.specs.declared.entry.OpenEntry.{OpenEntry}
use Rattle.session_actions.specs.declared.link.Link.{Link}
use Rattle.session_actions.specs.declared.link.ReadFrame.{ReadFrame}
use Rattle.session_actions.specs.declared.policy.PolicyUse.{PolicyUse}
use Rattle.session_actions.specs.declared.seen.Seen.{Seen}
use Rattle.session_actions.specs.declared.subchannel.Subchannel.{Subchannel}
use Rattle.session_order.proofs.Boards.{connecting_live, same_sub, with_sub_current}
use Rattle.session_order.proofs.Quiescence.{quiescence_is_exact, first_line_gives}
use Rattle.session_order.proofs.Changed.{changed_away, changed_here, passes_not}
use Rattle.session_order.proofs.Turns.{ready_leaves}
use Rattle.session_order.specs.Quiescent as order
use Rattle.session_order.specs.Quiescent.{is_link_new}
use Rattle.session_order.specs.Lines.{is_before, is_line}
use Rattle.session_order.specs.Stirs.{SawLess, stirs}
use Rattle.subchannel.specs.Records.{SubRecord, prefaced}
use Rattle.link_actions.specs.StreamActions.Laws.{IsOn}
use Rattle.link_actions.specs.StreamActions.Sees.{response_of}
use Rattle.session_actions.specs.declared.attempt.Attempt.{Attempt}
use Rattle.session_actions.specs.Entries.{entry}
use Rattle.session_actions.specs.Refusals.{is_gone}
use Rattle.h2_frame.specs.Frames.{FrameSeen}
use Rattle.session_order.specs.declared.line.Line.{Line}
use Rattle.session_order.specs.declared.line.Line.TheVariants as line

-- a subchannel that has a link is READY, or CONNECTING
linked_by : (c : Conn) (until : Option ℕ) (linked : Bool) → IsShaped c until linked → linked ≡ true → is_ready c ≡ false → is_connecting c ≡ true
linked_by conn.Connecting until linked shape e unready = refl
linked_by conn.Ready until linked shape e unready = absurd (cc)
linked_by conn.Idle until linked shape e unready = absurd (let f : linked ≡ false = shape.1 in let bad : true ≡ false = sym e ∙ f in let no_one : ⊥ = (cc) in no_one)
linked_by conn.Failure until linked shape e unready = absurd (let f : linked ≡ false = shape.1 in let bad : true ≡ false = sym e ∙ f in let no_one : ⊥ = (cc) in no_one)
linked_by conn.Shutdown until linked shape e unready = absurd (let f : linked ≡ false = shape.1 in let bad : true ≡ false = sym e ∙ f in let no_one : ⊥ = (cc) in no_one)

never_prefaced : (ready prefaced : Bool) → (not ready || prefaced) ≡ true → prefaced ≡ false → ready ≡ false
never_prefaced false prefaced e f = refl
never_prefaced true prefaced e f = absurd (let bad : true ≡ false = sym e ∙ f in let no : ⊥ = (cc) in no)

number_is : (k : ℕ) (o : Option ℕ) → is_number k o ≡ true → o ≡ Some k
number_is k None e = absurd (cc)
number_is k (Some j) e = ap (λ (n : ℕ). Some n) (eqb-true j k e)

same_owned : (o : Option ℕ) (k : ℕ) → option_map_or (λ (own : ℕ). own == k) o false ≡ is_number k o
same_owned None k = refl
same_owned (Some j) k = refl

there_is : {X : Type 0} (o : Option X) → is_some o ≡ true → (x : X) × (o ≡ Some x)
there_is None e = absurd (cc)
there_is (Some x) e = (x, refl)

both_parts : (a b : Bool) → (a && b) ≡ true → (a ≡ true) × (b ≡ true)
both_parts true true e = (refl, refl)
both_parts true false e = absurd (cc)
both_parts false b e = absurd (cc)

not_so : (b : Bool) → not b ≡ true → b ≡ false
not_so true e = absurd (cc)
not_so false e = refl

or_yes : (b : Bool) → (b || true) ≡ true
or_yes true = refl
or_yes false = refl

or_second : (a b : Bool) → (a || b) ≡ false → b ≡ false
or_second true b e = absurd (cc)
or_second false b e = e

gone_sub : (k : Link) (n : ℕ) (c : Bool) → (if c then record k { gone = Some n } else k).sub ≡ k.sub
gone_sub k n true = refl
gone_sub k n false = refl

abbrev made_ready : Subchannel → Subchannel
made_ready b = record b { state = conn.Ready; dials = 0; until = None }

-- a subchannel, as the net has it
record IsSeen (b : Subchannel) (n : ℕ) (v : NetSeen) : Type 0 where
  pub r : SubRecord
  pub is : IsSub b r n (link_of v.links n)

sub_seen : (n : ℕ) (s : Seen) (v : NetSeen) (b : Subchannel) → Sees s v → numbered s.subs n ≡ Some b → IsSeen b n v
sub_seen zero s v b h e = absurd (cc)
sub_seen (suc place) s v b h e = let both = here place s v b h e in record { r = both.r; is = both.is }

-- the line of links, and the others
link_or_other : (P : Line → Type 0) → P line.Link → ((k : Line) → is_line k line.Link ≡ false → P k) → (k : Line) → P k
link_or_other P here_ other line.Link = here_
link_or_other P here_ other line.Cut = other line.Cut refl
link_or_other P here_ other line.Transparent = other line.Transparent refl
link_or_other P here_ other line.Inherited = other line.Inherited refl
link_or_other P here_ other line.Row = other line.Row refl
link_or_other P here_ other line.Final = other line.Final refl
link_or_other P here_ other line.Cancelled = other line.Cancelled refl
link_or_other P here_ other line.Request = other line.Request refl
link_or_other P here_ other line.Overflow = other line.Overflow refl
link_or_other P here_ other line.Head = other line.Head refl
link_or_other P here_ other line.Response = other line.Response refl
link_or_other P here_ other line.Pick = other line.Pick refl
link_or_other P here_ other line.WireEnd = other line.WireEnd refl
link_or_other P here_ other line.Reset = other line.Reset refl
link_or_other P here_ other line.Shut = other line.Shut refl
link_or_other P here_ other line.Retire = other line.Retire refl
link_or_other P here_ other line.Begin = other line.Begin refl
link_or_other P here_ other line.Give = other line.Give refl
link_or_other P here_ other line.Drop = other line.Drop refl
link_or_other P here_ other line.Add = other line.Add refl

-- the channel where the server's SETTINGS are reported, and nothing else
module _ (link : ℕ) (h : Received) (x : StateSeen) (resets : x.resets ≡ []) (ready : h.news ≡ news.Ready ∷ []) where
  abbrev columns : List LinkSeen
  columns = changed_at (read_link h.read) x.book.ledger.links link

  abbrev reported : StateSeen
  reported = read_to link h.read (record x { links = h.links })

  pub prefaced_is : frame_received link h x ≡ record (relinked (sealed_in link h.links) columns x) { net = net.net_ready (sub_of (numbered columns link)) link x.net }
  prefaced_is =
      ap (λ (ns : List News). handled link ns reported) ready
      ∙ ap (λ (rs : List ℕ). links_sealed rs (resets_taken (sealed_one link (record reported { net = net.net_ready (sub_of (numbered columns link)) link x.net })))) resets

module _ (link : ℕ) (piece : List ℕ) (x : StateSeen) (o : OpenEntry) (s : Seen) (is : IsReceiving link piece x o s) (h : Received) (r : ReadFrame)
    (next : next_frame_read link s ≡ Some (action.FrameRead link r)) (receives : received_in link piece x.links ≡ Some h) (no_goaway : (r.frame.kind == goaway_type) ≡ false)
    (kind : kind_of h.news ≡ Prefaces) (are_prefaced : LinksArePrefaced s) where
  abbrev l : Link
  l = is.l

  abbrev m : Link
  m = read.m link piece x o s is h r next receives

  abbrev t : Seen
  t = read.t link piece x o s is h r next receives

  abbrev slot : LinkSlot
  slot = read.slot link piece x o s is h r next receives

  abbrev y : StateSeen
  y = read.y link piece x o s is h r next receives

  abbrev left : List ℕ
  left = drop h.taken piece

  abbrev frames : List FrameSeen
  frames = owed_for r.frame l s

  abbrev noted : List LinkSeen
  noted = changed_at (read_link h.read) x.book.ledger.links link

  unstirred : (k : Line) → stirs (action.FrameRead link r) k ≡ false → order.IsStill k o t
  unstirred k e = quiet.unstirred link piece x o s is h r next receives k e

  preface : frame_reported.AwaitsPreface link piece x o s is h r next receives no_goaway
  preface = frame_reported.prefaces link piece x o s is h r next receives no_goaway kind

  first : (is_settings r.frame ≡ true) × (not (has_settings l) ≡ true)
  first = both_parts (is_settings r.frame) (not (has_settings l)) preface.first

  still : IsReadStill l m s (frame_read l.number r s) (read.out link piece x o s is h r next receives).link.link.wire (lines_in l s) (read.out link piece x o s is h r next receives).link.readers
  still =
      responses.apart_still l s slot.link.link.wire (lines_in l s) slot.link.readers r (read.going link piece x o s is h r next receives).streams
      (read_so l s slot.link.readers (read.going link piece x o s is h r next receives).readers) (read.come link piece x o s is h r next receives).comes
      (read.shown link piece x o s is h r next receives).unbroken is.fair.listed no_goaway preface.off

  agrees_t : Agrees (coming link left y) t
  agrees_t = read.agrees_read link piece x o s is h r next receives still

  -- of which subchannel the link is
  sub_is : (b : Subchannel) × (numbered s.subs l.sub ≡ Some b)
  sub_is = there_is (numbered s.subs l.sub) (all_numbered (λ (k : Link). is_some (numbered s.subs k.sub)) s.links link l is.here is.agrees.kept.dialled)

  abbrev b : Subchannel
  b = sub_is.0

  noted_sub : sub_of (numbered (changed_at (read_link h.read) x.book.ledger.links link) link) ≡ l.sub
  noted_sub =
      ap (λ (ks : List LinkSeen). sub_of (numbered ks link)) (sym agrees_t.columns.links)
      ∙ ap sub_of (numbered_map (λ (k : Link). link_seen (noted_gone t k)) t.links link ∙ ap (option_map (λ (k : Link). link_seen (noted_gone t k))) (read.there link piece x o s is h r next receives))
      ∙ gone_sub m (entry t) (is_none m.gone && is_gone m t)

  received_is : frame_received link h x ≡ record y { net = net.net_ready l.sub link x.net }
  received_is =
      prefaced_is link h x is.agrees.sets.resets preface.news_is
      ∙ ap (λ (k : Received). record (relinked (sealed_in link k.links) noted x) { net = net.net_ready (sub_of (numbered noted link)) link x.net }) (read.h_is link piece x o s is h r next receives)
      ∙ ap (λ (n : ℕ). record y { net = net.net_ready n link x.net }) noted_sub

  -- lines
  quiescent_s : order.IsQuiescent o s
  quiescent_s = quiet.quiescent_s link piece x o s is h r next receives

  own : l.number ≡ link
  own = read.own link piece x o s is h r next receives

  places : (i : ℕ) (a : Attempt) → numbered s.attempts i ≡ Some a → a.place ≡ i
  places = read.places link piece x o s is h r next receives

  less : SawLess l.number r s
  less = read.less link piece x o s is h r next receives

  new : (n : ℕ) (a : Attempt) → IsOn l s n a → HasNothingNew (response_of l s n a) (response_of m t n a)
  new = read.new link piece x o s is h r next receives still

  others_t : (k : Line) → is_line k line.Link ≡ false → order.IsStill k o t
  others_t line.Link e = absurd (cc)
  others_t line.Head e = lines.head_line s link l is.here own r frames (Some o) places less new still.retiring o (quiescent_s line.Head)
  others_t line.Response e = lines.response_line s link l is.here own r frames (Some o) places less new still.retiring o (quiescent_s line.Response)
  others_t line.WireEnd e = lines.end_line s link l is.here own r frames (Some o) places less new still.retiring o (quiescent_s line.WireEnd)
  others_t line.Cut e = unstirred line.Cut refl
  others_t line.Transparent e = unstirred line.Transparent refl
  others_t line.Inherited e = unstirred line.Inherited refl
  others_t line.Row e = unstirred line.Row refl
  others_t line.Final e = unstirred line.Final refl
  others_t line.Cancelled e = unstirred line.Cancelled refl
  others_t line.Request e = unstirred line.Request refl
  others_t line.Overflow e = unstirred line.Overflow refl
  others_t line.Pick e = unstirred line.Pick refl
  others_t line.Reset e = unstirred line.Reset refl
  others_t line.Shut e = unstirred line.Shut refl
  others_t line.Retire e = unstirred line.Retire refl
  others_t line.Begin e = unstirred line.Begin refl
  others_t line.Give e = unstirred line.Give refl
  others_t line.Drop e = unstirred line.Drop refl
  others_t line.Add e = unstirred line.Add refl

  -- a subchannel that has not the link
  fresh : (c : Subchannel) (k : ℕ) → numbered s.subs k ≡ Some c → is_number link c.link ≡ false → is_link_new t c ≡ false
  fresh c k got e =
      lines.new_other s link l is.here own r frames (Some o) places less new still.retiring c e ∙ passes_not (is_link_new s) s.subs k c (quiescent_s line.Link) got

  has_it : (c : Subchannel) (k : ℕ) → numbered s.subs k ≡ Some c → (k ≡ l.sub → ⊥) → (e : Bool) → is_number link c.link ≡ e → e ≡ false
  has_it c k got away true e = absurd (away (sym (is.known.own k link c l got (number_is link c.link e) is.here)))
  has_it c k got away false e = refl

  fresh_other : (c : Subchannel) (k : ℕ) → numbered s.subs k ≡ Some c → (k ≡ l.sub → ⊥) → is_link_new t c ≡ false
  fresh_other c k got away = fresh c k got (has_it c k got away (is_number link c.link) refl)

  one_sub : (c : Subchannel) (k : ℕ) → numbered s.subs k ≡ Some c → k ≡ l.sub → c ≡ b
  one_sub c k got e = same_sub c b (numbered s.subs l.sub) (ap (numbered s.subs) (sym e) ∙ got) sub_is.1

  seen : IsSeen b l.sub x.net
  seen = sub_seen l.sub s x.net b is.agrees.net sub_is.1

  owns_is : owns l.sub link x.net ≡ is_number link b.link
  owns_is = ap (λ (q : Option ℕ). option_map_or (λ (own : ℕ). own == link) q false) (sym seen.is.link_is) ∙ same_owned b.link link

  -- that subchannel has another link, or none
  module _ (apart : is_number link b.link ≡ false) where
    fresh_by : (c : Subchannel) (k : ℕ) → numbered s.subs k ≡ Some c → (e : Bool) → (k == l.sub) ≡ e → is_link_new t c ≡ false
    fresh_by c k got true e = fresh c k got (ap (λ (z : Subchannel). is_number link z.link) (one_sub c k got (eqb-true k l.sub e)) ∙ apart)
    fresh_by c k got false e = fresh_other c k got (eqb-false k l.sub e)

    link_t : order.IsStill line.Link o t
    link_t = none_in (is_link_new t) s.subs (λ k c got. fresh_by c k got (k == l.sub) refl)

    quiescent_t : order.IsQuiescent o t
    quiescent_t = link_or_other (λ (k : Line). order.IsStill k o t) link_t others_t

    net_same : net.net_ready l.sub link x.net ≡ x.net
    net_same = ap (λ (c : Bool). if c then board_reported prefaced l.sub x.net else x.net) (owns_is ∙ apart)

    received_apart : HasReceived link left (frame_received link h x) o s
    received_apart =
        let three = (quiescence_is_exact o t).1 quiescent_t in
        record {
          actions = action.FrameRead link r ∷ [];
          seen = t;
          entry = o;
          does = (read.follows link piece x o s is h r next receives, sym (read.after_is link piece x o s is h r next receives));
          posts = refl;
          same = record { moment = refl; word = refl; event = refl; entries = refl; setup = refl };
          at = record { current = refl; stage_is = is.at.stage_is; quiescent = record { calls = three.0; links = three.1; policies = three.2 } };
          reply = refl;
          fresh = is.fresh;
          link_ = m;
          here = read.there link piece x o s is h r next receives;
          fair = read.fair_now link piece x o s is h r next receives;
          few = is.few;
          left = λ e. read.left_is link piece x o s is h r next receives;
          agrees = subst (λ (v : StateSeen). Agrees (coming link left v) t) (sym (received_is ∙ ap (λ (n : NetSeen). record y { net = n }) net_same)) agrees_t;
        }

  -- it has this link, and so it is CONNECTING: it becomes READY
  module _ (its : b.link ≡ Some link) where
    linked : seen.r.linked ≡ true
    linked = sym seen.is.linked ∙ ap (λ (q : Option ℕ). is_some q) (sym seen.is.link_is ∙ its)

    ungreeted : has_preface s.links b ≡ false
    ungreeted =
        ap (holds (has_preface_come s.links)) its ∙ ap (holds has_settings) is.here ∙ not_so (has_settings l) first.1

    not_ready : is_ready b.state ≡ false
    not_ready = never_prefaced (is_ready b.state) (has_preface s.links b) (all_numbered (is_ready_prefaced s.links) s.subs l.sub b sub_is.1 are_prefaced.ready) ungreeted

    connecting : is_connecting b.state ≡ true
    connecting = ap is_connecting seen.is.state ∙ linked_by seen.r.state seen.r.until seen.r.linked seen.is.shape linked (ap is_ready (sym seen.is.state) ∙ not_ready)

    prefaces_now : has_settings m ≡ true
    prefaces_now = settings_more l r frames ∙ ap (λ (c : Bool). has_settings l || c) first.0 ∙ or_yes (has_settings l)

    to_be_ready : is_to_be_ready t b ≡ true
    to_be_ready =
        ap (λ (c : Bool). c && holds has_settings (link_of_sub b t)) connecting
        ∙ ap (λ (q : Option ℕ). holds has_settings (option_and_then (numbered t.links) q)) its ∙ ap (holds has_settings) (read.there link piece x o s is h r next receives) ∙ prefaces_now

    abbrev act : Action
    act = action.SettingsArrive l.sub

    next_is : following t ≡ Some act
    next_is =
        first_line_gives line.Link act o t refl
        (link_or_other (λ (k : Line). is_before o.event k line.Link ≡ true → order.IsStill k o t) (λ before. absurd (cc)) (λ k e before. others_t k e))
        (settings_given t l.sub b sub_is.1 seen.is.number_is to_be_ready (λ k c got away. fresh_other c k got away))

    abbrev v : Seen
    v = settings_arrived l.sub t

    boarded : IsBoarded t v
    boarded = one_boarded t act refl

    on : v.current ≡ Some o
    on = with_sub_current t l.sub made_ready

    does_v : Does (act ∷ []) t v
    does_v = (next_is, refl)

    -- nothing follows
    new_as : (c : Subchannel) → is_link_new v c ≡ is_link_new t c
    new_as c = ap (λ (ks : List Link). is_link_new (record t { links = ks }) c) (subbed_links made_ready l.sub t)

    ready_fresh : is_link_new t (made_ready b) ≡ false
    ready_fresh =
        lines.down_same s link l is.here own r frames (Some o) places less new still.retiring b
        ∙ or_second (is_to_be_ready s b) (is_to_go_down s b) (passes_not (is_link_new s) s.subs l.sub b (quiescent_s line.Link) sub_is.1)

    fresh_v : (c : Subchannel) (k : ℕ) → numbered (changed made_ready l.sub s.subs) k ≡ Some c → (e : Bool) → (k == l.sub) ≡ e → is_link_new t c ≡ false
    fresh_v c k got true e =
        let at : numbered (changed made_ready l.sub s.subs) l.sub ≡ Some c = ap (numbered (changed made_ready l.sub s.subs)) (sym (eqb-true k l.sub e)) ∙ got in
        let one : c ≡ made_ready b
        = same_sub c (made_ready b) (numbered (changed made_ready l.sub s.subs) l.sub) at (changed_here made_ready l.sub s.subs b sub_is.1) in
        ap (is_link_new t) one ∙ ready_fresh
    fresh_v c k got false e = fresh_other c k (sym (changed_away made_ready l.sub k s.subs (eqb-false k l.sub e)) ∙ got) (eqb-false k l.sub e)

    link_v : order.IsStill line.Link o v
    link_v =
        none_in (is_link_new v) v.subs
        (λ k c got. new_as c ∙ fresh_v c k (ap (λ (bs : List Subchannel). numbered bs k) (sym (subbed_subs made_ready l.sub t)) ∙ got) (k == l.sub) refl)

    quiescent_v : order.IsQuiescent o v
    quiescent_v =
        link_or_other (λ (k : Line). order.IsStill k o v) link_v
        (λ k e. ready_leaves l.sub o t refl (b, sub_is.1, connecting) k o on refl (others_t k e))

    -- and all agree
    abbrev z : StateSeen
    z = coming link left y

    abbrev ready_z : StateSeen
    ready_z = record z { net = net.net_ready l.sub link x.net }

    generations : map (λ (g : PolicyUse). g.generation) v.policies ≡ map (λ (g : PolicyUse). g.generation) t.policies
    generations = subbed_generations made_ready l.sub t

    noted_v : links_noted v ≡ links_noted t
    noted_v =
        noted_same t v boarded (entry_goes_on t v o o boarded refl on) (subbed_shut made_ready l.sub t b sub_is.1 (sym (connecting_live b.state connecting)))
        (subbed_links made_ready l.sub t)

    agrees_v : Agrees ready_z v
    agrees_v = net_steps_keep all_calls_stay sets_stay kept_along z ready_z t v agrees_t (record {
      channel = refl;
      actions = act ∷ [];
      does = does_v;
      board = (refl, tt);
      clock = clock_goes_on t v o o boarded refl on z ready_z agrees_t.clock refl refl refl refl refl agrees_t.clock.draws.1;
      generations = generations ∙ agrees_t.columns.generations;
      noted = noted_v ∙ agrees_t.columns.links;
      policy = λ held unshut. current_stays t v generations ∙ agrees_t.configs.policy held unshut;
      links = links_without_difference_agree links_stay z ready_z t v agrees_t.kept (kept_along (act ∷ []) t v agrees_t.kept does_v) boarded (subbed_links made_ready l.sub t) refl agrees_t.links;
      net = settings_come l.sub link t x.net b agrees_t.net sub_is.1 connecting its;
      orderly = one_call_more (Ready l.sub link) x.net agrees_t.orderly;
    })

    received_ready : HasReceived link left (frame_received link h x) o s
    received_ready =
        let three = (quiescence_is_exact o v).1 quiescent_v in
        record {
          actions = action.FrameRead link r ∷ act ∷ [];
          seen = v;
          entry = o;
          does = (
            read.follows link piece x o s is h r next receives,
            subst (λ (u : Seen). Does (act ∷ []) u v) (sym (read.after_is link piece x o s is h r next receives)) does_v,
          );
          posts = refl;
          same = record { moment = refl; word = refl; event = refl; entries = ap (λ (u : Seen). u.entries) boarded; setup = ap (λ (u : Seen). u.setup) boarded };
          at = record { current = on; stage_is = is.at.stage_is; quiescent = record { calls = three.0; links = three.1; policies = three.2 } };
          reply = refl;
          fresh = is.fresh;
          link_ = m;
          here = ap (λ (ks : List Link). numbered ks link) (subbed_links made_ready l.sub t) ∙ read.there link piece x o s is h r next receives;
          fair = read.fair_now link piece x o s is h r next receives;
          few = is.few;
          left = λ e. read.left_is link piece x o s is h r next receives;
          agrees = subst (λ (u : StateSeen). Agrees (coming link left u) v) (sym received_is) agrees_v;
        }

  pub received_preface : HasReceived link left (frame_received link h x) o s
  received_preface = by (is_number link b.link) refl
    where
      by : (e : Bool) → is_number link b.link ≡ e → HasReceived link left (frame_received link h x) o s
      by true e = received_ready (number_is link b.link e)
      by false e = received_apart e

pub prefaced_frames_are_handled : PrefacedFramesAreHandled
prefaced_frames_are_handled link piece x o s a h is next receives case =
    received_preface link piece x o s is h case.0.frame (next ∙ ap (λ (b : Action). Some b) case.0.is) receives case.0.stays case.0.kind_is case.1
