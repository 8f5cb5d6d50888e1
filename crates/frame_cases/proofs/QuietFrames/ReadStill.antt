-- A frame is read that leaves all responses without anything new: channel and session agree after it, but for what its news bring.
use Rattle.std.proofs.Common.{◌≡◌, ◌+◌, ◌-◌, ◌++◌, ◌==◌, ◌∷◌, ◌≤◌, ◌<◌, ap, arith, false, refl, subst, sym, ◌∙◌, List, [], Option, None, Some, ℕ, drop, is_some, length, min}
use Rattle.std.proofs.lemmas.Bool.{eqb-false}
use Rattle.std.proofs.lemmas.List.{length-drop}
use Rattle.std.proofs.Math.Nat.{min-eq_left}
use Rattle.std.proofs.Math.Seq.{drop-append-add}
use Rattle.std.specs.Option.{option_and_then, option_map, option_map_or, option_or}
use Rattle.attempt_buffer.proofs.SpotLaws.{drop_on}
use Rattle.attempt_ledger.specs.declared.ledger.LinkSeen.{LinkSeen}
use Rattle.call_actions.proofs.Lists.{changed_here}
use Rattle.channel_actions.proofs.Calls.Kept.Fresh.{frames_are_fresh}
use Rattle.channel_actions.proofs.KeptSessions.Along.{kept_stays}
use Rattle.channel_actions.proofs.Links.Frames.NoDifference.{actions_make_no_difference}
use Rattle.channel_actions.proofs.Settles.{follows_by, is_with_open}
use Rattle.channel_actions.proofs.Stamps.{counted_at}
use Rattle.channel_actions.specs.Agrees.{Agrees}
use Rattle.channel_actions.specs.Calls.{SeesCall}
use Rattle.channel_actions.specs.Quiescent.{IsAt}
use Rattle.channel_actions.specs.Columns.{links_noted}
use Rattle.channel_actions.specs.KeptSessions.Kept.{IsKept}
use Rattle.channel_actions.specs.LinkFrames.Alike.{SeesNoDifference}
use Rattle.channel_actions.specs.Links.{HasLink, IsGoing, SeesLinkOf, lines_in}
use Rattle.call_actions.specs.TakeActions.Serves.{came}
use Rattle.attempt_cases.proofs.DrainEvents.Links.{own_lines, read_then}
use Rattle.attempt_cases.proofs.DrainEvents.Rooms.{length_changed, one_some}
use Rattle.channel_core.proofs.BookLaws.{number_changed, number_other}
use Rattle.channel_core.proofs.Resting.{changed_length}
use Rattle.channel_core.specs.Arrivals.{frame_received}
use Rattle.channel_core.specs.States.{StateSeen}
use Rattle.channel_core.specs.Tables.{Received, received_by, received_in, sealed_in}
use Rattle.channel_core.specs.declared.state.links.LinkSlot.{LinkSlot}
use Rattle.channel_core.specs.Books.{slot_at}
use Rattle.channel_core.specs.declared.state.slots.CallSlot.{CallSlot}
use Rattle.frame_cases.proofs.PassedBytes.Agreeing.{HasCame, IsReportedOn, nothing_came, recalled, reported_keeps}
use Rattle.frame_cases.proofs.PassedBytes.Noted.{IsReadOn, noted_read}
use Rattle.frame_cases.proofs.PassedBytes.Same.{drained_through}
use Rattle.frame_cases.proofs.PieceWalks.Slots.{IsSlot, after_slot, receives_now, other_slots, others_coming, own_slot, slot_count, unreported}
use Rattle.frame_cases.proofs.PieceWalks.Stops.{kept_slot, sees_old}
use Rattle.frame_cases.proofs.PieceWalks.Walk.{same_event}
use Rattle.frame_cases.proofs.QuietFrames.Lines as lines
use Rattle.frame_cases.proofs.QuietFrames.Read.{listed_more, HasCome, IsReading, ShowsFrame, has_come, reads_so, shows_frame}
use Rattle.frame_cases.specs.PassedBytes.Laws.{relinked}
use Rattle.frame_cases.specs.PieceWalks.Points.{IsReceiving, IsReadFairly, coming, with_rest}
use Rattle.frame_cases.specs.QuietFrames.Laws.{HasNothingNew, IsReadStill}
use Rattle.grpc_link.specs.Links as grpc
use Rattle.grpc_link.specs.Links.{GrpcSeen, found, reported_all, reported_of}
use Rattle.grpc_link.specs.Readers.{ReaderSeen, stepped}
use Rattle.grpc_link.specs.Links.{Report as Reported}
use Rattle.h2_frame.specs.Frames.{FrameSeen}
use Rattle.h2_link.proofs.Prefixes.{afterwards}
use Rattle.h2_link.specs.Received.{prefix_as, prefix_of, received_with}
use Rattle.h2_link.specs.declared.news.LinkNews.{LinkNews}
use Rattle.h2_link.specs.declared.news.LinkNews.TheVariants as report
use Rattle.h2_link.specs.Steps.{sealed_wire, reported}
use Rattle.h2_link.specs.Wire.{Report, Wire}
use Rattle.ledger_stamps.specs.Steps.{changed_at, read_link}
use Rattle.link_actions.proofs.History.{bytes_more, used_same}
use Rattle.link_actions.proofs.Lists.{on_if}
use Rattle.link_actions.proofs.Reading.{reads_are_same}
use Rattle.link_actions.specs.Laws.{IsSameRead}
use Rattle.link_actions.specs.ResponseActions.Readers as responses
use Rattle.link_actions.proofs.ResetActions.Cuts.{none_is_ahead, none_is_left, seals_keep}
use Rattle.link_actions.specs.ResponseActions.Laws.{frame_reported}
use Rattle.link_actions.specs.StreamActions.Laws.{IsOn}
use Rattle.link_actions.specs.StreamActions.Sees.{SeesStreams, response_of}
use Rattle.session_actions.specs.Actions.{after, after_if, following, following_in, of_calls, of_links, of_policies, of_stage}
use Rattle.session_actions.specs.Events.{frame_action}
use Rattle.session_actions.specs.Links.{is_retiring, read_bytes}
use Rattle.session_actions.specs.Reading.{next_read}
use Rattle.session_actions.specs.declared.link.NextRead.{NextRead}
use Rattle.session_actions.specs.declared.link.NextRead.TheVariants as nextread
use Rattle.session_actions.specs.Words.{changed, numbered}
use Rattle.session_actions.specs.Writing.{frame_read, frame_read_on, next_frame_read, owed_for, with_frame_read}
use Rattle.session_actions.specs.declared.action.Action.{Action}
use Rattle.session_actions.specs.declared.action.Action.TheVariants as action
use Rattle.session_actions.specs.declared.attempt.Attempt.{Attempt}
use Rattle.session_actions.specs.declared.call.Call.{Call}
use Rattle.session_actions.specs.declared.entry.OpenEntry.{OpenEntry}
use Rattle.session_actions.specs.declared.entry.Stage.TheVariants as stage
use Rattle.session_actions.specs.declared.link.Link.{Link}
use Rattle.session_actions.specs.declared.link.LinkOver.{LinkOver}
use Rattle.session_actions.specs.declared.link.ReadFrame.{ReadFrame}
use Rattle.session_actions.specs.declared.seen.Seen.{Seen}
use Rattle.session_order.specs.Stirs.{SawLess}

-- the next action at a point between two frames
pub frame_follows : (o : OpenEntry) (s : Seen) (a : Action) → IsAt stage.Replied o s → frame_action o s ≡ Some a → following s ≡ Some a
frame_follows o s a at next =
    let staged : of_stage o s o.stage ≡ Some a
    = ap (of_stage o s) at.stage_is ∙ ap (λ (f : Option Action). option_or f (Some action.SettlingBegins)) next in
    ap (option_and_then (following_in s)) at.current
    ∙ follows_by (of_calls o s) (of_links o s) (of_policies o s) (of_stage o s o.stage) a at.quiescent.calls at.quiescent.links at.quiescent.policies staged

-- what a link reports leaves what it keeps of a frame
rest_by : (g : GrpcSeen) (tag : ℕ) (n : LinkNews) (o : Option (ℕ × ReaderSeen)) → (reported_of g tag n o).link.link.rest ≡ g.link.rest
rest_by g tag n None = refl
rest_by g tag n (Some x) = on_if (λ (t : Reported). t.link.link.rest ≡ g.link.rest) (stepped x.1 tag n).reader.over _ _ (λ e. refl) (λ e. refl)

rest_one : (g : GrpcSeen) (n : LinkNews) → (grpc.reported g n).link.link.rest ≡ g.link.rest
rest_one g report.Ready = refl
rest_one g report.Retiring = refl
rest_one g (report.Broken code) = refl
rest_one g (report.Fields tag fields end seen) = rest_by g tag (report.Fields tag fields end seen) (found tag g.readers)
rest_one g (report.Data tag bytes end seen) = rest_by g tag (report.Data tag bytes end seen) (found tag g.readers)
rest_one g (report.Reset tag code seen) = rest_by g tag (report.Reset tag code seen) (found tag g.readers)
rest_one g (report.Fault tag code seen) = rest_by g tag (report.Fault tag code seen) (found tag g.readers)
rest_one g (report.Unseen tag seen) = rest_by g tag (report.Unseen tag seen) (found tag g.readers)

rest_all : (g : GrpcSeen) (ns : List LinkNews) → (reported_all g ns).link.link.rest ≡ g.link.rest
rest_all g [] = refl
rest_all g (n ∷ ns) = rest_all (grpc.reported g n).link ns ∙ rest_one g n

module _ (link : ℕ) (piece : List ℕ) (x : StateSeen) (o : OpenEntry) (s : Seen) (is : IsReceiving link piece x o s) (h : Received) (r : ReadFrame)
    (next : next_frame_read link s ≡ Some (action.FrameRead link r)) (receives : received_in link piece x.links ≡ Some h) where
  abbrev pub l : Link
  l = is.l

  abbrev pub h0 : Agrees (coming link piece x) s
  h0 = is.agrees

  pub own : l.number ≡ link
  own = counted_at (λ (k : Link). k.number) s.links link l h0.kept.links is.here

  pub here_own : numbered s.links l.number ≡ Some l
  here_own = ap (numbered s.links) own ∙ is.here

  pub shown : ShowsFrame link l s r
  shown = shows_frame link l s r is.here next

  -- the slot
  abbrev pub kept : IsSlot link piece x (h0.links.each link l is.here).slot
  kept = kept_slot link piece x o s h0 is.at.current l is.here

  abbrev pub slot : LinkSlot
  slot = kept.old

  pub sees : SeesLinkOf l s (with_rest piece slot)
  sees = sees_old link piece x o s h0 is.at.current l is.here

  pub going : IsGoing l s (with_rest piece slot)
  going = sees.going shown.unbroken

  abbrev pub w : Wire
  w = slot.link.link.wire

  abbrev pub bytes : List ℕ
  bytes = slot.link.link.rest ++ piece

  abbrev pub hb : Received
  hb = received_by slot link piece x.links

  pub h_is : h ≡ hb
  h_is =
      one_some h hb (received_in link piece x.links) receives
      (receives_now link piece x slot kept.there (sym sees.over ∙ ap (λ (q : Option LinkOver). is_some q) shown.unbroken) going.streams.sees.sees.reads.whole)

  -- the frame
  pub reading : IsReading l s r bytes
  reading = reads_so l s r bytes going.rest shown.shows

  pub come : HasCome l w r reading.size bytes
  come = has_come l s w (lines_in l s) r bytes going.streams reading

  prefix : prefix_of w bytes ≡ Some (reading.size, reported w r.frame)
  prefix = ap (prefix_as w bytes) reading.is

  longer : length slot.link.link.rest < reading.size
  longer = afterwards w slot.link.link.rest piece (reading.size, reported w r.frame) (is.part slot kept.there shown.unbroken) prefix

  abbrev pub out : Reported
  out = frame_reported w slot.link.readers r.frame

  taken : hb.taken ≡ reading.size - length slot.link.link.rest
  taken = ap (λ (f : Option (ℕ × Report)). (received_with slot.link.link piece f).taken) prefix

  read_is : hb.read ≡ (reported w r.frame).wire.read
  read_is = ap (λ (f : Option (ℕ × Report)). (received_with slot.link.link piece f).link.wire.read) prefix

  pub reported_is : reported_all (record { link = (received_with slot.link.link piece (prefix_of w bytes)).link; readers = slot.link.readers }) (received_with slot.link.link piece (prefix_of w bytes)).news ≡ out
  reported_is =
      ap (λ (f : Option (ℕ × Report)). reported_all (record { link = (received_with slot.link.link piece f).link; readers = slot.link.readers }) (received_with slot.link.link piece f).news) prefix

  -- the session after it
  abbrev pub frames : List FrameSeen
  frames = owed_for r.frame l s

  abbrev pub f : Link → Link
  f k = with_frame_read r frames k

  abbrev pub m : Link
  m = f l

  abbrev pub t : Seen
  t = record s { links = changed f link s.links; current = Some o }

  pub on_is : frame_read_on r s l ≡ t
  on_is =
      ap (λ (n : ℕ). record s { links = changed f n s.links }) own ∙ ap (λ (c : Option OpenEntry). record s { links = changed f link s.links; current = c }) is.at.current

  pub read_l : frame_read l.number r s ≡ t
  read_l = ap (λ (q : Option Link). option_map_or (frame_read_on r s) q s) here_own ∙ on_is

  pub after_is : after (action.FrameRead link r) s ≡ t
  after_is =
      ap (λ (c : Option OpenEntry). after_if c (action.FrameRead link r) s) is.at.current ∙ ap (λ (q : Option Link). option_map_or (frame_read_on r s) q s) is.here ∙ on_is

  pub follows : following s ≡ Some (action.FrameRead link r)
  follows = frame_follows o s (action.FrameRead link r) is.at (same_event o s link is.whole is.at is.reply is.event_is ∙ next)

  pub kept_t : IsKept t
  kept_t = subst IsKept after_is (kept_stays s (action.FrameRead link r) h0.kept follows)

  pub there : numbered t.links link ≡ Some m
  there = changed_here f link s.links l is.here

  pub less : SawLess l.number r s
  less = frames_are_fresh s link r h0.kept is.known.early next l is.here

  pub places : (i : ℕ) (a : Attempt) → numbered s.attempts i ≡ Some a → a.place ≡ i
  places i a got = counted_at (λ (q : Attempt). q.place) s.attempts i a h0.kept.attempts got

  -- the channel after it
  abbrev pub left : List ℕ
  left = drop h.taken piece

  abbrev pub slots : List LinkSlot
  slots = sealed_in link hb.links

  abbrev pub columns : List LinkSeen
  columns = changed_at (read_link h.read) x.book.ledger.links link

  abbrev pub y : StateSeen
  y = relinked slots columns x

  pub unreported_is : h.news ≡ [] → frame_received link h x ≡ y
  unreported_is none = unreported link h x h0.sets.resets none ∙ ap (λ (k : Received). relinked (sealed_in link k.links) columns x) h_is

  abbrev slot_now : LinkSlot
  slot_now = after_slot link piece x slot kept.there

  slot_is : slot_now ≡ record slot { link = record out.link { link = record out.link.link { wire = sealed_wire out.link.link.wire } } }
  slot_is = ap (λ (q : Reported). record slot { link = record q.link { link = record q.link.link { wire = sealed_wire q.link.link.wire } } }) reported_is

  pub rest_now : out.link.link.rest ≡ []
  rest_now = rest_all (record { link = record { wire = (reported w r.frame).wire; rest = [] }; readers = slot.link.readers }) (reported w r.frame).news

  -- how far it was read
  pub end_within : r.end ≤ length l.received
  end_within =
      let size : reading.size ≤ length bytes = come.within in
      let long : length bytes ≡ length l.received - read_bytes l = ap (λ (b : List ℕ). length b) (sym going.rest) ∙ length-drop (read_bytes l) l.received in
      let some : length slot.link.link.rest < reading.size = longer in
      omega (arith, size, long, some, reading.end, is.fair.within)

  wire_read : (reported w r.frame).wire.read ≡ r.end
  wire_read =
      let same : IsSameRead l s w (next_read l s) (prefix_of w bytes) = reads_are_same l s w bytes going.streams.sees.sees going.rest in
      let shown_so : IsSameRead l s w (nextread.Frame r) (Some (reading.size, reported w r.frame))
      = subst (λ (n : NextRead). IsSameRead l s w n (Some (reading.size, reported w r.frame))) shown.shows (subst (IsSameRead l s w (next_read l s)) prefix same) in
      let few : r.end ≤ 18446744073709551615 = (let a = end_within in let c = is.few in omega (arith, a, c)) in
      shown_so.1.read ∙ ap (λ (n : ℕ). min n 18446744073709551615) (bytes_more l r frames) ∙ min-eq_left few

  pub read_h : h.read ≡ r.end
  read_h = ap (λ (k : Received). k.read) h_is ∙ read_is ∙ wire_read

  pub left_is : drop (read_bytes m) m.received ≡ left
  left_is =
      let size : reading.size ≡ length slot.link.link.rest + h.taken
      = (let a = ap (λ (k : Received). k.taken) h_is ∙ taken in let c = longer in omega (arith, a, c)) in
      ap (λ (n : ℕ). drop n l.received) (bytes_more l r frames ∙ reading.end) ∙ sym (drop_on (read_bytes l) reading.size l.received)
      ∙ ap (drop reading.size) going.rest ∙ ap (λ (n : ℕ). drop n bytes) size ∙ drop-append-add slot.link.link.rest piece h.taken

  pub fair_now : IsReadFairly m
  fair_now = record {
    within = subst (λ (n : ℕ). n ≤ length l.received) (sym (bytes_more l r frames)) end_within;
    listed = listed_more l r frames is.fair.listed reading.next;
  }

  -- what is noted of it
  pub noted_as : is_retiring m ≡ is_retiring l → links_noted t ≡ columns
  noted_as retiring =
      let on : IsReadOn l m r.end = record { number = refl; sub = refl; up = refl; gone = refl; over = refl; retiring = retiring; read = bytes_more l r frames } in
      noted_read o o s f link r.end l is.here on
      ∙ ap (λ (ks : List LinkSeen). changed_at (read_link r.end) ks link) (ap links_noted (sym (is_with_open o s is.at.current)) ∙ h0.columns.links)
      ∙ ap (λ (n : ℕ). changed_at (read_link n) x.book.ledger.links link) (sym read_h)

  -- where the link agrees but for what its bytes and seals are
  module _ (streams : SeesStreams m (frame_read l.number r s) out.link.link.wire (lines_in l s)) (reads : responses.SeesReaders m (frame_read l.number r s) out.link.readers)
      (retiring : is_retiring m ≡ is_retiring l) where
    streams_now : SeesStreams m t (sealed_wire out.link.link.wire) (lines_in m t)
    streams_now =
        let sees_t : SeesStreams m t out.link.link.wire (lines_in l s) = subst (λ (z : Seen). SeesStreams m z out.link.link.wire (lines_in l s)) read_l streams in
        let sealed_t : SeesStreams m t (sealed_wire out.link.link.wire) (lines_in l s)
        = none_is_left m t (sealed_wire out.link.link.wire) (lines_in l s) (seals_keep [] m t out.link.link.wire (lines_in l s) (none_is_ahead m t out.link.link.wire (lines_in l s) sees_t)) in
        own_lines m t (sealed_wire out.link.link.wire) (lines_in l s) kept_t sealed_t

    going_now : IsGoing m t (with_rest left slot_now)
    going_now =
        subst (λ (q : LinkSlot). IsGoing m t (with_rest left q)) (sym slot_is) (record {
          streams = streams_now;
          readers = read_then m t out.link.readers (subst (λ (z : Seen). responses.SeesReaders m z out.link.readers) read_l reads);
          rest = left_is ∙ ap (λ (b : List ℕ). b ++ left) (sym rest_now);
          closed = refl;
        })

    sees_now : SeesLinkOf m t (with_rest left slot_now)
    sees_now = record {
      over = sees.over ∙ sym (ap (λ (q : LinkSlot). q.dead) slot_is);
      retiring = retiring ∙ sees.retiring ∙ sym (ap (λ (q : LinkSlot). q.retiring) slot_is);
      going = λ e. going_now;
    }

    -- the other links, and what was written
    others_now : (k : ℕ) → (link == k) ≡ false → numbered (coming link left y).links k ≡ numbered (coming link piece x).links k
    others_now k e =
        number_other (with_rest left) y.links link k (λ same. eqb-false link k e (sym same))
        ∙ other_slots link piece x slot kept.there k e ∙ sym (others_coming link piece x k e)

    count_now : length t.links ≡ length (coming link left y).links
    count_now =
        length_changed f link s.links ∙ h0.links.count ∙ changed_length (with_rest piece) x.links link
        ∙ sym (changed_length (with_rest left) y.links link ∙ slot_count link piece x slot kept.there)

    there_now : numbered (coming link left y).links link ≡ Some (with_rest left slot_now)
    there_now =
        number_changed (with_rest left) y.links link
        ∙ ap (option_map (with_rest left)) (own_slot link piece x slot kept.there)

    -- all agrees, with what came for applications
    module _ (calls : List CallSlot) (long : length calls ≡ length x.book.calls)
        (handled : (number : ℕ) (c : Call) (held : CallSlot) → numbered s.calls number ≡ Some c → slot_at x.book number ≡ Some held → SeesCall (coming link piece x) s c held
        → HasCame calls t number c held) where
      abbrev reported_z : StateSeen
      reported_z = coming link left (relinked slots columns (recalled calls x))

      has_now : HasLink reported_z t m link
      has_now = record { slot = with_rest left slot_now; there = there_now; sees = sees_now }

      reported_on : IsReportedOn link (coming link piece x) reported_z o o s t
      reported_on = record {
        state = refl;
        current = is.at.current;
        seen = refl;
        moment = refl;
        word = refl;
        drawn = refl;
        kept = kept_t;
        cannot = subst (SeesNoDifference (λ (k : ℕ). link == k) s) after_is (actions_make_no_difference (action.FrameRead link r) s h0.kept tt);
        slots = others_now;
        count = count_now;
        long = long;
        handled = handled;
        drained_same = drained_through s f link (Some o) (λ stream k. used_same stream k r frames);
        noted = noted_as retiring;
        own = λ k got. subst (λ (q : Link). HasLink reported_z t q link) (one_some m k (numbered t.links link) there got) has_now;
      }

      pub agrees_reported : Agrees reported_z t
      agrees_reported = reported_keeps link (coming link piece x) reported_z o o s t h0 reported_on

    -- where nothing came
    pub agrees_passed : ((c : Call) → came c t ≡ came c s) → Agrees (coming link left y) t
    agrees_passed same = agrees_reported x.book.calls refl (λ number c held got has k. nothing_came x.book.calls s t number c held has (same c) k.serves.left)

  -- where the responses gain nothing
  module _ (quiet : IsReadStill l m s (frame_read l.number r s) out.link.link.wire (lines_in l s) out.link.readers) where
    pub new : (n : ℕ) (a : Attempt) → IsOn l s n a → HasNothingNew (response_of l s n a) (response_of m t n a)
    new n a on = subst (λ (z : Seen). HasNothingNew (response_of l s n a) (response_of m z n a)) read_l (quiet.responses n a on)

    pub agrees_read : Agrees (coming link left y) t
    agrees_read = agrees_passed quiet.streams quiet.reads quiet.retiring (lines.came_same s link l is.here own r frames (Some o) places less new)
