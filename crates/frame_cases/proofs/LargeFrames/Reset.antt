-- After a message that is too long, and the end of its call: the attempt is cut off, and the links of the channel are ahead of the session by the reset of its stream
-- alone, where one is owed. So they agree once it is made.
use Rattle.std.proofs.Common.{◌≡◌, ◌++◌, ◌&&◌, ◌||◌, ◌==◌, ◌∷◌, ap, refl, subst, sym, ◌∙◌, Bool, true, false, List, [], Option, None, Some, ℕ, drop, if◌then◌else◌, is_some, length, option_and_then, option_map}
use Rattle.std.proofs.lemmas.Bool.{eq-eqb, eqb-true}
use Rattle.std.specs.List.{list_all, list_any}
use Rattle.std.specs.Prelude.{unwrap_or}
use Rattle.attempt_ledger.specs.declared.row.Placed.{Placed}
use Rattle.attempt_ledger.specs.declared.row.RowEnd.{RowEnd}
use Rattle.call_cases.proofs.EndsFollow.Codes.{is_cancel}
use Rattle.call_cases.proofs.EndsFollow.Steps.{placed_of}
use Rattle.call_cases.proofs.LinkEnds.After.{IsCutting, closed_ahead, closed_at, closed_keeps, closed_length, closed_readers, cut_at, cut_length, links_still, slots_closed, slots_cut, some_closed}
use Rattle.call_cases.proofs.EndsFollow.Streams.{put}
use Rattle.call_cases.proofs.LinkEnds.Codes.{with_code}
use Rattle.call_cases.proofs.LinkEnds.Cutting as cutting_
use Rattle.call_cases.proofs.LinkEnds.Cutting.{owed_on}
use Rattle.call_cases.proofs.LinkEnds.Ends as ends
use Rattle.call_cases.proofs.LinkEnds.Ends.{link_on, reset_after}
use Rattle.call_cases.proofs.LinkEnds.Resets.{CatchUp, HasToCatchUp, CatchesUp}
use Rattle.call_cases.specs.EndsFollow.Cuts.{AttemptsAreCutOff}
use Rattle.call_cases.specs.LinkEnds.Cuts.{links_closed, links_cut}
use Rattle.call_cases.specs.LinkEnds.Laws.{StreamsAreResetToo, with_cuts}
use Rattle.channel_actions.proofs.Gone.{all_numbered}
use Rattle.channel_actions.proofs.KeptSessions.Along.{kept_stays}
use Rattle.channel_actions.specs.KeptSessions.Kept.{IsKept}
use Rattle.channel_actions.specs.Links.{lines_in}
use Rattle.channel_core.specs.Tables.{reset_link, with_link}
use Rattle.channel_core.specs.declared.state.links.LinkSlot.{LinkSlot}
use Rattle.frame_cases.proofs.EndedFrames.Owed as owed
use Rattle.frame_cases.proofs.LargeFrames.Apart.{left_later, readers_later}
use Rattle.frame_cases.proofs.LargeFrames.Gone.{cut_nothing}
use Rattle.frame_cases.proofs.LargeFrames.Links as left_links
use Rattle.grpc_base.specs.ErrorCodes.{cancel}
use Rattle.grpc_base.specs.declared.event.EndCause.TheVariants as ending
use Rattle.grpc_link.specs.Links.{without, without_at}
use Rattle.grpc_link.specs.declared.readers.TagReader.{TagReader}
use Rattle.h2_link.specs.Steps.{cut}
use Rattle.h2_link.specs.Wire.{Wire}
use Rattle.link_actions.proofs.ResponseActions.Ended.{ends_keep_readers}
use Rattle.link_actions.proofs.ResponseActions.Found.{find_none}
use Rattle.link_actions.specs.ResetActions.Ahead.{SeesAhead}
use Rattle.link_actions.specs.ResponseActions.Laws.{IsEnded}
use Rattle.link_actions.specs.ResponseActions.Readers.{SeesReaders}
use Rattle.link_actions.specs.Sees.{AttemptsStandInPlace}
use Rattle.link_actions.specs.StreamActions.Laws.{IsOn, reset_for}
use Rattle.link_actions.specs.StreamActions.Sees.{response_of}
use Rattle.session_actions.specs.AttemptEnds.{attempt_ended, code_to_reset, cut_end, end_of, is_framing, is_reset, reset_code_of, with_end}
use Rattle.session_actions.specs.Links.{has_written_end, link_number, link_of, read_bytes, stream_number}
use Rattle.session_actions.specs.Responses.{is_read_by}
use Rattle.session_actions.specs.declared.response.Outcome.{Outcome}
use Rattle.session_actions.specs.declared.response.Response.{Response}
use Rattle.session_order.specs.declared.line.Line.TheVariants as line
use Rattle.channel_core.specs.States.{StateSeen}
use Rattle.channel_core.specs.Tables.{Received, received_in}
use Rattle.frame_cases.proofs.LargeFrames.Next as next_
use Rattle.frame_cases.proofs.LargeFrames.Starts as starts
use Rattle.frame_cases.proofs.QuietFrames.ReadStill as read
use Rattle.frame_cases.specs.FrameKinds.Laws.{Large, kind_of}
use Rattle.frame_cases.specs.PieceWalks.Points.{IsReceiving}
use Rattle.h2_frame.specs.Numbers.{goaway_type}
use Rattle.session_actions.specs.CallEnds.{call_ended}
use Rattle.session_actions.specs.Reading.{is_outstanding_on}
use Rattle.session_actions.specs.Words.{holds, numbered}
use Rattle.session_actions.specs.Writing.{next_frame_read}
use Rattle.session_actions.specs.declared.action.Action.TheVariants as action
use Rattle.session_actions.specs.declared.attempt.Attempt.{Attempt}
use Rattle.session_actions.specs.declared.entry.OpenEntry.{OpenEntry}
use Rattle.session_actions.specs.declared.link.Link.{Link}
use Rattle.session_actions.specs.declared.link.ReadFrame.{ReadFrame}
use Rattle.session_actions.specs.declared.seen.Seen.{Seen}

-- a code is CANCEL, or none
none_or_cancel : (o : Option ℕ) → is_cancel o ≡ true → (n : ℕ) → reset_for n o ≡ with_code cancel (if is_some o then n ∷ [] else [])
none_or_cancel None e n = refl
none_or_cancel (Some k) e n = let one : ℕ → List (ℕ × ℕ) = λ c. (n, c) ∷ [] in ap one (eqb-true k cancel e)

module _ (link : ℕ) (piece : List ℕ) (x : StateSeen) (o : OpenEntry) (s : Seen) (is : IsReceiving link piece x o s) (h : Received) (r : ReadFrame)
    (next : next_frame_read link s ≡ Some (action.FrameRead link r)) (receives : received_in link piece x.links ≡ Some h) (no_goaway : (r.frame.kind == goaway_type) ≡ false)
    (kind : kind_of h.news ≡ Large) where
  abbrev t : Seen
  t = starts.t link piece x o s is h r next receives no_goaway kind

  abbrev a : Attempt
  a = starts.a link piece x o s is h r next receives no_goaway kind

  abbrev number : ℕ
  number = a.row.call

  abbrev z : StateSeen
  z = starts.z link piece x o s is h r next receives no_goaway kind

  abbrev m : Link
  m = starts.m link piece x o s is h r next receives no_goaway kind

  abbrev n : ℕ
  n = r.frame.stream

  abbrev left : List ℕ
  left = drop h.taken piece

  abbrev slot : LinkSlot
  slot = starts.z_slot link piece x o s is h r next receives no_goaway kind

  -- the session once its call has ended
  abbrev v : Seen
  v = call_ended number ending.Response t

  kept_t : IsKept t
  kept_t = starts.kept_t link piece x o s is h r next receives no_goaway kind

  kept_v : IsKept v
  kept_v = kept_stays t (next_.act link piece x o s is h r next receives no_goaway kind) kept_t (next_.next_t link piece x o s is h r next receives no_goaway kind)

  places_t : AttemptsStandInPlace 1 t.attempts
  places_t = placed_of 1 t.attempts kept_t.book.places

  quiet : list_any (λ (b : Attempt). is_some (reset_code_of v b)) v.attempts ≡ false
  quiet = next_.still_ended link piece x o s is h r next receives no_goaway kind line.Reset refl

  abbrev cuts : List Attempt
  cuts = a ∷ []

  module _ (t2 : Seen) (off : AttemptsAreCutOff cuts v t2) where
    abbrev e : RowEnd
    e = end_of a cut_end v

    abbrev t3 : Seen
    t3 = attempt_ended a.place e v

    off3 : AttemptsAreCutOff cuts v t3
    off3 = (off.0, refl)

    after_ : IsCutting t3
    after_ = ends.after z v t3 cuts kept_v is.known.early.resets quiet off3

    cutting : IsCutting v
    cutting = ends.cutting z v t3 cuts kept_v is.known.early.resets quiet off3

    same_links : t3.links ≡ v.links
    same_links = ends.same_links z v t3 cuts kept_v is.known.early.resets quiet off3

    -- the other links
    after_other : (k : ℕ) (q : Link) → numbered v.links k ≡ Some q → (link == k) ≡ false → HasToCatchUp (links_closed cuts (links_cut cuts z.links)) t3 q k
    after_other k q got apart =
        ends.has_after z v t3 cuts kept_v is.known.early.resets quiet off3 k q got
        (link_on z t number ending.Response k q (starts.others_z link piece x o s is h r next receives no_goaway kind k q got apart))

    -- the link of the frame
    ended_m : IsEnded m t (starts.out_ link piece x o s is h r next receives no_goaway kind).link.link.wire (lines_in (starts.l link piece x o s is h r next receives no_goaway kind) s) (starts.out_ link piece x o s is h r next receives no_goaway kind).link.readers n a
    ended_m =
        subst (λ (q : Seen). IsEnded m q (starts.out_ link piece x o s is h r next receives no_goaway kind).link.link.wire (lines_in (starts.l link piece x o s is h r next receives no_goaway kind) s) (starts.out_ link piece x o s is h r next receives no_goaway kind).link.readers n a) (read.read_l link piece x o s is h r next receives) (starts.long link piece x o s is h r next receives no_goaway kind).ended

    goes_m : (response_of m t n a).end ≡ None
    goes_m = ap (λ (q : Seen). (response_of m q n a).end) (sym (read.read_l link piece x o s is h r next receives)) ∙ (starts.long link piece x o s is h r next receives no_goaway kind).goes

    here_m : numbered t.links m.number ≡ Some m
    here_m = ap (numbered t.links) (starts.own link piece x o s is h r next receives no_goaway kind) ∙ starts.there_m link piece x o s is h r next receives no_goaway kind

    on_v : IsOn m v n a
    on_v = record { there = (starts.on link piece x o s is h r next receives no_goaway kind).there; out = (starts.on link piece x o s is h r next receives no_goaway kind).out; stream = (starts.on link piece x o s is h r next receives no_goaway kind).stream }

    link_v : link_of a v ≡ Some m
    link_v =
        ap (λ (q : Option Placed). option_and_then (λ (p : Placed). numbered v.links p.link) q) (starts.placed link piece x o s is h r next receives no_goaway kind) ∙ ap (numbered v.links) (starts.at_link link piece x o s is h r next receives no_goaway kind) ∙ starts.there_m link piece x o s is h r next receives no_goaway kind

    reads_m : list_all (is_read_by (read_bytes m)) m.traffic ≡ true
    reads_m = all_numbered (λ (k : Link). list_all (is_read_by (read_bytes k)) k.traffic) t.links link m (starts.there_m link piece x o s is h r next receives no_goaway kind) kept_t.reads

    code_v : code_to_reset a e n v m ≡ ended_m.code
    code_v =
        ap (λ (p : Response). if is_reset e.cause || is_some m.over || (has_written_end n m && p.closes) then None
        else if is_framing e.cause then option_and_then (λ (k : Outcome). k.reset) p.end else Some cancel) (next_.response_same link piece x o s is h r next receives no_goaway kind a)
        ∙ ended_m.by_cut e goes_m refl

    code_is : reset_code_of t3 (with_end e a) ≡ ended_m.code
    code_is = owed.its_code m v n a cut_end ended_m.code here_m on_v link_v places_t (starts.unreset_a link piece x o s is h r next receives no_goaway kind) reads_m code_v

    stream_a : stream_number a ≡ n
    stream_a = ap (λ (q : Option ℕ). unwrap_or q 0) (starts.on link piece x o s is h r next receives no_goaway kind).stream

    number_a : link_number a ≡ link
    number_a = starts.number_a link piece x o s is h r next receives no_goaway kind

    here_a : (link_number a == m.number) ≡ true
    here_a = eq-eqb (link_number a) m.number (number_a ∙ sym (starts.own link piece x o s is h r next receives no_goaway kind))

    nothing : owed_on m.number v ≡ []
    nothing = ends.nothing z v t3 cuts kept_v is.known.early.resets quiet off3 m.number

    owed_by : (b : Bool) → is_some ended_m.code ≡ b → owed_on m.number t3 ≡ (if b then n ∷ [] else [])
    owed_by true some =
        cutting_.owes_more v a off.0 places_t m.number (ap (λ (o : Option ℕ). is_some o && (link_number a == m.number)) code_is ∙ ap (λ (b : Bool). b && (link_number a == m.number)) some ∙ here_a)
        ∙ ap (put (stream_number a)) nothing ∙ ap (λ (k : ℕ). k ∷ []) stream_a
    owed_by false none =
        cutting_.owes_same v a off.0 places_t m.number (ap (λ (o : Option ℕ). is_some o && (link_number a == m.number)) code_is ∙ ap (λ (b : Bool). b && (link_number a == m.number)) none)
        ∙ nothing

    its_cancel : is_cancel ended_m.code ≡ true
    its_cancel =
        ap is_cancel (sym code_is)
        ∙ all_numbered (λ (b : Attempt). is_cancel (reset_code_of t3 b)) t3.attempts a.place (with_end e a) (owed.its_own v a e places_t (starts.on link piece x o s is h r next receives no_goaway kind).there quiet) after_.cancels

    owed_is : reset_for n ended_m.code ≡ with_code cancel (owed_on m.number t3)
    owed_is = none_or_cancel ended_m.code its_cancel n ∙ ap (with_code cancel) (sym (owed_by (is_some ended_m.code) refl))

    both : SeesAhead (reset_for n ended_m.code) m (attempt_ended a.place e t) (starts.out_ link piece x o s is h r next receives no_goaway kind).link.link.wire (lines_in (starts.l link piece x o s is h r next receives no_goaway kind) s)
    both = (ended_m.follows e).0

    ahead : SeesAhead (with_code cancel (owed_on m.number t3)) m t3 (starts.out_ link piece x o s is h r next receives no_goaway kind).link.link.wire (lines_in (starts.l link piece x o s is h r next receives no_goaway kind) s)
    ahead =
        subst (λ (rs : List (ℕ × ℕ)). SeesAhead rs m t3 (starts.out_ link piece x o s is h r next receives no_goaway kind).link.link.wire (lines_in (starts.l link piece x o s is h r next receives no_goaway kind) s)) owed_is (record {
          wire = both.wire;
          sees =
              (left_later t a ending.Response e places_t (starts.on link piece x o s is h r next receives no_goaway kind).there (starts.c link piece x o s is h r next receives no_goaway kind) (starts.at_c link piece x o s is h r next receives no_goaway kind)).streams m both.wire (lines_in (starts.l link piece x o s is h r next receives no_goaway kind) s) both.sees;
          same = both.same;
          queue = both.queue;
        })

    readers_m : SeesReaders m t3 (starts.out_ link piece x o s is h r next receives no_goaway kind).link.readers
    readers_m =
        readers_later t a ending.Response e places_t (starts.on link piece x o s is h r next receives no_goaway kind).there (starts.c link piece x o s is h r next receives no_goaway kind) (starts.at_c link piece x o s is h r next receives no_goaway kind) m (starts.out_ link piece x o s is h r next receives no_goaway kind).link.readers
        (ends_keep_readers m t a.place a e (starts.out_ link piece x o s is h r next receives no_goaway kind).link.readers ended_m.readers_are (starts.on link piece x o s is h r next receives no_goaway kind).there places_t)

    -- to give the attempt up there changes nothing: it has neither a stream nor a reader any more
    there_3 : numbered t3.attempts a.place ≡ Some (with_end e a)
    there_3 = owed.its_own v a e places_t (starts.on link piece x o s is h r next receives no_goaway kind).there quiet

    and_false : (b : Bool) → (b && false) ≡ false
    and_false true = refl
    and_false false = refl

    off_m : is_outstanding_on m (with_end e a) ≡ false
    off_m = ap (λ (b : Bool). b && holds (λ (p : Placed). p.link == m.number) a.row.placed) (and_false (is_some a.row.placed))

    wire_is : slot.link.link.wire ≡ (starts.out_ link piece x o s is h r next receives no_goaway kind).link.link.wire
    wire_is = ap (λ (q : LinkSlot). q.link.link.wire) (starts.slot_is link piece x o s is h r next receives no_goaway kind)

    readers_are : slot.link.readers ≡ (starts.out_ link piece x o s is h r next receives no_goaway kind).link.readers
    readers_are = ap (λ (q : LinkSlot). q.link.readers) (starts.slot_is link piece x o s is h r next receives no_goaway kind)

    wire_same : cut (starts.out_ link piece x o s is h r next receives no_goaway kind).link.link.wire a.place cancel ≡ (starts.out_ link piece x o s is h r next receives no_goaway kind).link.link.wire
    wire_same =
        cut_nothing m t3 (with_end e a) there_3 off_m after_.places (starts.out_ link piece x o s is h r next receives no_goaway kind).link.link.wire ahead.wire (lines_in (starts.l link piece x o s is h r next receives no_goaway kind) s) ahead.sees
        (ap (λ (w : Wire). w.live) ahead.same) (ap (λ (w : Wire). w.waiting) ahead.same)

    readers_same : without a.place (starts.out_ link piece x o s is h r next receives no_goaway kind).link.readers ≡ (starts.out_ link piece x o s is h r next receives no_goaway kind).link.readers
    readers_same = ap (without_at (starts.out_ link piece x o s is h r next receives no_goaway kind).link.readers) (find_none a.place 0 (starts.out_ link piece x o s is h r next receives no_goaway kind).link.readers ended_m.readers_are.own)

    unchanged : with_link (reset_link a.place) slot ≡ slot
    unchanged =
        ap (λ (w : Wire). record slot { link = record { link = record slot.link.link { wire = w }; readers = without a.place slot.link.readers } })
        (ap (λ (w : Wire). cut w a.place cancel) wire_is ∙ wire_same ∙ sym wire_is)
        ∙ ap (λ (rs : List TagReader). record slot { link = record { link = slot.link.link; readers = rs } }) (ap (without a.place) readers_are ∙ readers_same ∙ sym readers_are)

    cut_slot : slots_cut link cuts slot ≡ slot
    cut_slot = ap (λ (b : Bool). if b then with_link (reset_link a.place) slot else slot) (eq-eqb (link_number a) link number_a) ∙ unchanged

    some_cut : list_any (λ (b : Attempt). link_number b == link) cuts ≡ true
    some_cut = ap (λ (b : Bool). b || false) (eq-eqb (link_number a) link number_a)

    slot_ahead : SeesAhead (with_code cancel (owed_on m.number t3)) m t3 slot.link.link.wire (lines_in (starts.l link piece x o s is h r next receives no_goaway kind) s)
    slot_ahead = subst (λ (w : Wire). SeesAhead (with_code cancel (owed_on m.number t3)) m t3 w (lines_in (starts.l link piece x o s is h r next receives no_goaway kind) s)) (sym wire_is) ahead

    own_going : CatchesUp m t3 (slots_closed link cuts slot)
    own_going = record {
      lines = lines_in (starts.l link piece x o s is h r next receives no_goaway kind) s;
      ahead = closed_ahead m t3 (lines_in (starts.l link piece x o s is h r next receives no_goaway kind) s) link cuts (with_code cancel (owed_on m.number t3)) slot slot_ahead;
      readers = subst (SeesReaders m t3) (sym (closed_readers link cuts slot ∙ readers_are)) readers_m;
      rest = read.left_is link piece x o s is h r next receives ∙ ap (λ (b : List ℕ). b ++ left) (sym (read.rest_now link piece x o s is h r next receives)) ∙ sym (ap (λ (q : LinkSlot). q.link.link.rest ++ left) (starts.slot_is link piece x o s is h r next receives no_goaway kind)) ∙ sym (closed_keeps link cuts slot).rest;
      closed = some_closed link cuts slot some_cut;
    }

    after_own : HasToCatchUp (links_closed cuts (links_cut cuts z.links)) t3 m link
    after_own = record {
      own = starts.own link piece x o s is h r next receives no_goaway kind;
      slot = slots_closed link cuts slot;
      there = closed_at link cuts (links_cut cuts z.links)
          ∙ ap (option_map (slots_closed link cuts)) (cut_at link cuts z.links ∙ ap (option_map (slots_cut link cuts)) (starts.z_there link piece x o s is h r next receives no_goaway kind) ∙ ap (λ (q : LinkSlot). Some q) cut_slot);
      over = (starts.sees_l link piece x o s is h r next receives no_goaway kind).over ∙ sym (closed_keeps link cuts slot).dead;
      retiring = (starts.long link piece x o s is h r next receives no_goaway kind).retiring ∙ (starts.sees_l link piece x o s is h r next receives no_goaway kind).retiring ∙ sym (closed_keeps link cuts slot).retiring;
      going = λ goes. own_going;
    }

    each_after : (k : ℕ) (q : Link) → numbered v.links k ≡ Some q → HasToCatchUp (links_closed cuts (links_cut cuts z.links)) t3 q k
    each_after k q got = by (link == k) refl
      where
        by : (b : Bool) → (link == k) ≡ b → HasToCatchUp (links_closed cuts (links_cut cuts z.links)) t3 q k
        by false apart = after_other k q got apart
        by true here =
            let same : link ≡ k = eqb-true link k here in
            let two : Some m ≡ Some q = sym (starts.there_m link piece x o s is h r next receives no_goaway kind) ∙ ap (numbered t.links) same ∙ got in
            let one : m ≡ q = (cc) in
            subst (λ (j : ℕ). HasToCatchUp (links_closed cuts (links_cut cuts z.links)) t3 q j) same
            (subst (λ (b : Link). HasToCatchUp (links_closed cuts (links_cut cuts z.links)) t3 b link) one after_own)

    all_after : CatchUp (links_closed cuts (links_cut cuts z.links)) t3
    all_after = record {
      count = ap (λ (ls : List Link). length ls) same_links ∙ starts.z_count link piece x o s is h r next receives no_goaway kind ∙ sym (closed_length cuts (links_cut cuts z.links) ∙ cut_length cuts z.links);
      each = λ k q got. each_after k q (sym (ap (λ (ls : List Link). numbered ls k) same_links) ∙ got);
      opened = (links_still cuts v t3 off3 cutting).1;
      places = after_.places;
      cancels = after_.cancels;
      unreset = after_.unreset;
    }

    pub reset_one : StreamsAreResetToo (with_cuts cuts z) t2
    reset_one = subst (λ (q : Seen). StreamsAreResetToo (with_cuts cuts z) q) (sym off.1) (reset_after z t3 cuts all_after)

  pub reset_then : left_links.IsResetThen link piece x o s is h r next receives no_goaway kind
  reset_then t2 off = reset_one t2 off
