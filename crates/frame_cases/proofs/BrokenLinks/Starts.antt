-- Bytes break a link: it is over in channel and session, its subchannel went down, and the first attempt on it is next to end.
use Rattle.std.proofs.Common.{◌≡◌, ◌-◌, ◌++◌, ◌==◌, ◌∷◌, ◌≤◌, ap, arith, refl, subst, sym, ◌∙◌, Bool, true, false, List, [], Option, None, Some, ℕ, if◌then◌else◌, is_none, is_some, length}
use Rattle.std.proofs.Math.Nat.{min-eq_left}
use Rattle.std.proofs.lemmas.Bool.{eqb-false}
use Rattle.std.specs.Option.{option_map}
use Rattle.std.specs.Prelude.{option_and_then}
use Rattle.attempt_ledger.specs.declared.ledger.LinkSeen.{LinkSeen}
use Rattle.attempt_ledger.specs.declared.news.News.{News}
use Rattle.attempt_ledger.specs.declared.news.News.TheVariants as news
use Rattle.channel_actions.proofs.Links.Prefaced.Along.{prefaced_along}
use Rattle.channel_actions.proofs.KeptSessions.Along.{kept_stays}
use Rattle.channel_actions.proofs.Streams.Own.Along.{streams_along}
use Rattle.channel_actions.proofs.Stamps.{counted_at}
use Rattle.channel_actions.specs.Agrees.{Agrees}
use Rattle.call_cases.specs.EndsFollow.Cuts.{NoStreamIsToReset}
use Rattle.channel_actions.specs.KeptSessions.Kept.{IsKept}
use Rattle.channel_actions.specs.Links.{IsGoing, SeesLinkOf, lines_in}
use Rattle.end_cases.proofs.AttemptEnds.Unowed.{agrees_ahead}
use Rattle.attempt_cases.proofs.DrainEvents.Rooms.{one_some}
use Rattle.event_cases.proofs.LostLinks.Down.{IsDown}
use Rattle.event_cases.proofs.LostLinks.Over.{GoesOver}
use Rattle.event_cases.proofs.LostLinks.OverAgrees as agreeing
use Rattle.event_cases.proofs.LostLinks.OverAgrees.{IsSlots}
use Rattle.event_cases.proofs.LostLinks.OverStarts as starts
use Rattle.event_cases.proofs.LostLinks.Stirred.{unstirred}
use Rattle.end_cases.specs.AttemptEnds.Ahead.{AgreesAhead}
use Rattle.end_cases.specs.AttemptEnds.Ends.{AreHeld}
use Rattle.end_cases.specs.AttemptEnds.Laws.{all_sealed}
use Rattle.end_cases.specs.AttemptEnds.Runs.{RunsRise}
use Rattle.channel_core.proofs.BookLaws.{number_changed, number_other}
use Rattle.channel_core.proofs.Resting.{changed_length}
use Rattle.channel_core.specs.Arrivals.{frame_received, lost, read_to}
use Rattle.channel_core.specs.Arrivals as arrivals
use Rattle.channel_core.specs.States.{StateSeen}
use Rattle.channel_core.specs.Steps.{marked_dead, stamped_gone, with_ledger_links}
use Rattle.channel_core.specs.Tables.{Received, received_by, received_in, received_link, with_link}
use Rattle.channel_core.specs.declared.state.links.LinkSlot.{LinkSlot}
use Rattle.frame_cases.proofs.BrokenLinks.Waits.{sooner_by, waits_late}
use Rattle.frame_cases.proofs.BrokenLinks.Walk.{BreakGoesOn}
use Rattle.frame_cases.proofs.PassedBytes.Noted.{reread}
use Rattle.frame_cases.proofs.PieceWalks.Slots.{IsSlot, receives_now, others_coming}
use Rattle.frame_cases.proofs.PieceWalks.Stops.{kept_slot, sees_old}
use Rattle.frame_cases.proofs.PieceWalks.Walk.{same_event}
use Rattle.frame_cases.proofs.QuietFrames.ReadStill.{frame_follows}
use Rattle.frame_cases.specs.PieceWalks.Points.{IsReceiving, coming, with_rest}
use Rattle.grpc_base.specs.declared.event.Event.TheVariants as event
use Rattle.grpc_link.specs.Links.{reported_all}
use Rattle.h2_link.specs.Received.{prefix_of, received_with}
use Rattle.h2_link.specs.Steps.{broke}
use Rattle.h2_link.specs.Wire.{Report, Wire}
use Rattle.ledger_stamps.specs.Steps.{changed_at, read_link}
use Rattle.link_actions.proofs.LossActions.Over.{breaks_are_same}
use Rattle.link_actions.proofs.Reading.{reads_are_same}
use Rattle.link_actions.specs.Laws.{IsSameRead}
use Rattle.link_actions.specs.LossActions.Laws.{with_over}
use Rattle.link_actions.specs.LossActions.Sees.{SeesOver}
use Rattle.session_actions.specs.Actions.{after, after_if, following}
use Rattle.session_actions.specs.Events.{is_loss}
use Rattle.session_actions.specs.Links.{read_bytes}
use Rattle.session_actions.specs.Reading.{next_read}
use Rattle.session_actions.specs.Sessions.{Does}
use Rattle.session_actions.specs.Words.{numbered}
use Rattle.session_actions.specs.Writing.{link_broken, next_frame_read, read_action, read_next}
use Rattle.session_actions.specs.declared.action.Action.{Action}
use Rattle.session_actions.specs.declared.action.Action.TheVariants as action
use Rattle.session_actions.specs.declared.entry.OpenEntry.{OpenEntry}
use Rattle.session_actions.specs.declared.link.Link.{Link}
use Rattle.session_actions.specs.declared.link.LinkOver.{LinkOver}
use Rattle.session_actions.specs.declared.link.LinkOver.TheVariants as over
use Rattle.session_actions.specs.declared.link.NextRead.{NextRead}
use Rattle.session_actions.specs.declared.link.NextRead.TheVariants as nextread
use Rattle.session_actions.specs.declared.seen.Seen.{Seen}
use Rattle.session_order.proofs.Quiescence.{quiescence_is_exact}
use Rattle.session_order.proofs.Overs.{broken_leaves}
use Rattle.session_order.specs.Quiescent as order
use Rattle.session_order.specs.declared.line.Line.TheVariants as line

-- bytes that break a link are of one that is not over
pub record ShowsBreak (l : Link) (s : Seen) (code : ℕ) : Type 0 where
  pub unbroken : l.over ≡ None
  pub shows : next_read l s ≡ nextread.Broken code

none_of_it : (o : Option LinkOver) → is_none o ≡ true → o ≡ None
none_of_it None e = refl
none_of_it (Some why) e = absurd (cc)

shows_by : (link code : ℕ) (n : NextRead) → read_action link n ≡ Some (action.LinkBreaks link code) → n ≡ nextread.Broken code
shows_by link code nextread.Nothing e = absurd (cc)
shows_by link code (nextread.Frame q) e = absurd (cc)
shows_by link code (nextread.Broken k) e = let same : k ≡ code = (cc) in ap (λ (z : ℕ). nextread.Broken z) same

shows_if : (link code : ℕ) (l : Link) (s : Seen) (b : Bool) → is_none l.over ≡ b → (if b then read_action link (next_read l s) else None) ≡ Some (action.LinkBreaks link code)
    → ShowsBreak l s code
shows_if link code l s true none e = record { unbroken = none_of_it l.over none; shows = shows_by link code (next_read l s) e }
shows_if link code l s false none e = absurd (cc)

-- what the link sees of it
prefix_broken : (l : Link) (s : Seen) (w : Wire) (code : ℕ) (f : Option (ℕ × Report)) → IsSameRead l s w (nextread.Broken code) f
    → (taken : ℕ) × (f ≡ Some (taken, broke w code))
prefix_broken l s w code None same = absurd same
prefix_broken l s w code (Some v) same = (v.0, ap (λ (t : Report). Some (v.0, t)) same)

module _ (link : ℕ) (piece : List ℕ) (x : StateSeen) (o : OpenEntry) (s : Seen) (is : IsReceiving link piece x o s) (h : Received) (code : ℕ)
    (next : next_frame_read link s ≡ Some (action.LinkBreaks link code)) (receives : received_in link piece x.links ≡ Some h) where
  abbrev pub l : Link
  l = is.l

  abbrev h0 : Agrees (coming link piece x) s
  h0 = is.agrees

  abbrev pub act : Action
  act = action.LinkBreaks link code

  pub own : l.number ≡ link
  own = counted_at (λ (k : Link). k.number) s.links link l h0.kept.links is.here

  pub shown : ShowsBreak l s code
  shown = shows_if link code l s (is_none l.over) refl (sym (ap (option_and_then (read_next link s)) is.here) ∙ next)

  -- the slot, and what it receives
  abbrev pub kept : IsSlot link piece x (h0.links.each link l is.here).slot
  kept = kept_slot link piece x o s h0 is.at.current l is.here

  abbrev pub slot : LinkSlot
  slot = kept.old

  pub sees : SeesLinkOf l s (with_rest piece slot)
  sees = sees_old link piece x o s h0 is.at.current l is.here

  pub going : IsGoing l s (with_rest piece slot)
  going = sees.going shown.unbroken

  abbrev pub w : Wire
  w = slot.link.link.wire

  abbrev pub bytes : List ℕ
  bytes = slot.link.link.rest ++ piece

  abbrev pub hb : Received
  hb = received_by slot link piece x.links

  pub h_is : h ≡ hb
  h_is =
      one_some h hb (received_in link piece x.links) receives
      (receives_now link piece x slot kept.there (sym sees.over ∙ ap (λ (q : Option LinkOver). is_some q) shown.unbroken) going.streams.sees.sees.reads.whole)

  pub prefix : (taken : ℕ) × (prefix_of w bytes ≡ Some (taken, broke w code))
  prefix =
      prefix_broken l s w code (prefix_of w bytes)
      (subst (λ (n : NextRead). IsSameRead l s w n (prefix_of w bytes)) shown.shows (reads_are_same l s w bytes going.streams.sees.sees going.rest))

  pub news_is : h.news ≡ news.Broken code ∷ []
  news_is =
      ap (λ (k : Received). k.news) h_is
      ∙ ap (λ (f : Option (ℕ × Report)). (reported_all (record { link = (received_with slot.link.link piece f).link; readers = slot.link.readers }) (received_with slot.link.link piece f).news).news) prefix.1

  pub few : read_bytes l ≤ 18446744073709551615
  few = let a = is.fair.within in let c = is.few in omega (arith, a, c)

  pub read_is : h.read ≡ read_bytes l
  read_is =
      ap (λ (k : Received). k.read) h_is ∙ ap (λ (f : Option (ℕ × Report)). (received_with slot.link.link piece f).link.wire.read) prefix.1
      ∙ going.streams.sees.sees.reads.read ∙ min-eq_left few

  -- the channel, once it received them
  abbrev pub received_x : StateSeen
  received_x = record x { links = h.links }

  pub reported_is : read_to link h.read received_x ≡ received_x
  reported_is = ap (λ (ks : List LinkSeen). with_ledger_links ks received_x) (reread link h.read s x.book.ledger.links l is.here h0.columns.links read_is)

  pub received_is : frame_received link h x ≡ all_sealed (link ∷ []) (lost link false received_x)
  received_is =
      ap (λ (ns : List News). arrivals.handled link ns (read_to link h.read received_x)) news_is ∙ ap (arrivals.handled link (news.Broken code ∷ [])) reported_is

  pub links_are : h.links ≡ changed_at (with_link (received_link piece)) x.links link
  links_are = ap (λ (k : Received). k.links) h_is

  pub coming_there : numbered (coming link piece x).links link ≡ Some (with_rest piece slot)
  coming_there = number_changed (with_rest piece) x.links link ∙ ap (option_map (with_rest piece)) kept.there

  pub slots : IsSlots link (coming link piece x) h.links
  slots = record {
    count = ap (λ (ks : List LinkSlot). length ks) links_are ∙ changed_length (with_link (received_link piece)) x.links link ∙ sym (changed_length (with_rest piece) x.links link);
    others = λ n off.
        ap (λ (ks : List LinkSlot). numbered ks n) links_are ∙ number_other (with_link (received_link piece)) x.links link n (λ same. eqb-false link n off (sym same))
        ∙ sym (others_coming link piece x n off);
    own = λ old at. (
      with_link (received_link piece) slot,
      (
        ap (λ (ks : List LinkSlot). numbered ks link) links_are ∙ number_changed (with_link (received_link piece)) x.links link
            ∙ ap (option_map (with_link (received_link piece))) kept.there,
        ap (λ (k : LinkSlot). k.retiring) (one_some (with_rest piece slot) old (numbered (coming link piece x).links link) coming_there at),
      ),
    );
  }

  -- the session
  pub follows : following s ≡ Some act
  follows = frame_follows o s act is.at (same_event o s link is.whole is.at is.reply is.event_is ∙ next)

  pub after_is : after act s ≡ link_broken link s
  after_is = ap (λ (c : Option OpenEntry). after_if c act s) is.at.current

  pub quiescent_s : order.IsQuiescent o s
  quiescent_s = (quiescence_is_exact o s).0 (is.at.quiescent.calls, is.at.quiescent.links, is.at.quiescent.policies)

  abbrev pub broken_over : GoesOver over.Broken act link (coming link piece x) o s
  broken_over = record {
    agrees = h0;
    current = is.at.current;
    quiescent = quiescent_s;
    own = is.known.own;
    boards = is.known.early.boards;
    link_ = l;
    there = is.here;
    stage_ = o.stage;
    reply_ = o.reply;
    now = s.current;
    now_is = is.at.current;
    next = follows;
    then_ = after_is;
    still = λ m e f. broken_leaves link code o s is.at.current tt m o is.at.current (unstirred link m e f) (quiescent_s m);
    over = subst (λ (n : ℕ). SeesOver (with_over over.Broken l) (link_broken n s)) own
        (breaks_are_same l s w (lines_in l s) bytes prefix.0 code (broke w code) going.streams shown.unbroken going.rest prefix.1 refl).over;
    kept = subst IsKept after_is (kept_stays s act h0.kept follows);
    of = record { acts = refl; passes = λ c here other. refl };
  }

  abbrev pub lost_l : Link
  lost_l = starts.lost over.Broken act link (coming link piece x) o s broken_over

  abbrev pub t : Seen
  t = starts.after_ over.Broken act link (coming link piece x) o s broken_over

  pub number_is : lost_l.number ≡ link
  number_is = starts.own over.Broken act link (coming link piece x) o s broken_over

  abbrev pub down : IsDown link (coming link piece x) o s (link_broken link s)
  down = agreeing.dn over.Broken act link (coming link piece x) o s broken_over

  abbrev pub those : List Action
  those = agreeing.actions over.Broken act link (coming link piece x) o s broken_over

  pub does_t : Does those s t
  does_t = agreeing.does over.Broken act link (coming link piece x) o s broken_over

  pub agrees_t : Agrees (stamped_gone link (marked_dead link received_x)) t
  agrees_t = agreeing.agrees over.Broken act link (coming link piece x) o s broken_over h.links slots

  module _ (rising : RunsRise s) (held : AreHeld x) where
    pub break_goes_on : BreakGoesOn is.whole (link ∷ []) lost_l (marked_dead link received_x) o t
    break_goes_on = record {
      event_is = is.event_is ∙ ap (λ (n : ℕ). event.Arrived n is.whole) (sym number_is);
      stage_is = is.at.stage_is;
      goes = record {
        current = down.current;
        late = waits_late;
        sooner = sooner_by (is_loss o.event) (ap is_loss is.event_is);
        still = λ m off waits. down.still m off;
        over = starts.over_after over.Broken act link (coming link piece x) o s broken_over;
        quiet = starts.quiet_after over.Broken act link (coming link piece x) o s broken_over;
        agrees = subst (λ (n : ℕ). AgreesAhead [] (link ∷ []) (stamped_gone n (marked_dead link received_x)) t) (sym number_is)
            (agrees_ahead (link ∷ []) (stamped_gone link (marked_dead link received_x)) t agrees_t (subst NoStreamIsToReset (sym down.boarded) is.known.early.resets) (down.still line.Reset refl));
        prefaced = prefaced_along those s t h0.kept is.known.prefaced does_t;
        streams = streams_along those s t h0.kept is.known.prefaced is.known.streams does_t;
        rising = subst RunsRise (sym down.boarded) rising;
        going = record { calls = is.known.going.calls; allows = is.known.going.allows };
        held = held;
      };
    }
