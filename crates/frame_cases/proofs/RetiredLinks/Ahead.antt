-- After GOAWAY, and before the first end: each link of the channel is as the session will be once the attempts have ended whose ends are owed, ahead by the resets of
-- those that have a stream.
use Rattle.std.proofs.Common.{◌≡◌, ◌&&◌, ◌++◌, ◌==◌, ◌∷◌, ◌≤◌, ap, arith, refl, subst, sym, ◌∙◌, Bool, true, false, List, [], None, Option, Some, ℕ, suc, drop, filter, is_none, is_some, length, map, slice_get, if◌then◌else◌}
use Rattle.std.proofs.Math.Nat.{min-eq_left}
use Rattle.std.proofs.lemmas.Bool.{and_parts, eqb-false, eqb-true, or_parts}
use Rattle.std.specs.List.{AllByRecursion}
use Rattle.std.specs.Option.{option_map, option_map_or}
use Rattle.attempt_cases.proofs.DrainEvents.Links.{read_so, read_then}
use Rattle.attempt_cases.proofs.DrainEvents.Rooms.{length_changed}
use Rattle.attempt_ledger.specs.declared.news.EndNews.{EndNews}
use Rattle.attempt_ledger.specs.declared.row.Placed.{Placed}
use Rattle.attempt_ledger.specs.declared.row.RowEnd.{RowEnd}
use Rattle.call_cases.proofs.LinkEnds.Cutting.{counted_places}
use Rattle.channel_actions.proofs.Links.Frames.Frame.{others_agree}
use Rattle.channel_actions.proofs.Links.Frames.Readers.{readers_still}
use Rattle.channel_actions.proofs.Links.Frames.Streams.{streams_still}
use Rattle.channel_actions.proofs.Links.Frames.Differences.{no_difference}
use Rattle.channel_actions.proofs.Links.Frames.NoDifference.{actions_make_no_difference}
use Rattle.channel_actions.proofs.Lines.{all_at_places}
use Rattle.channel_actions.proofs.Stamps.{counted_at}
use Rattle.channel_actions.specs.KeptSessions.Kept.{NumbersCountUp, IsKept}
use Rattle.channel_actions.specs.LinkFrames.Alike.{AttemptsAreAlike, SeesNoDifference, IsAlike, Numbers, is_on}
use Rattle.channel_actions.specs.Links.{HasLink, IsGoing, SeesLinkOf, lines_in}
use Rattle.channel_core.proofs.BookLaws.{number_changed, number_other}
use Rattle.channel_core.proofs.Resting.{changed_length}
use Rattle.channel_core.specs.States.{StateSeen}
use Rattle.channel_core.specs.Steps.{ends_kept}
use Rattle.channel_core.specs.Tables as tables
use Rattle.channel_core.specs.Tables.{Received, received_in, received_link, retired_in, with_link}
use Rattle.channel_core.specs.declared.state.links.LinkSlot.{LinkSlot}
use Rattle.end_cases.proofs.AttemptEnds.LeftLinks.{places_left, rows_long}
use Rattle.end_cases.proofs.CutEnds.AsFar.{AreSameRows, IsAsFar, as_far}
use Rattle.end_cases.proofs.CutEnds.LeftCuts.{AreOwned, owned_left, rows_self}
use Rattle.end_cases.specs.AttemptEnds.Ahead.{HasLinkAhead, IsAhead, LinksAhead, is_owed_on, owed_reset, resets_owed}
use Rattle.end_cases.specs.AttemptEnds.Left.{all_left, rows_ended}
use Rattle.frame_cases.proofs.PieceWalks.Slots.{others_coming}
use Rattle.frame_cases.proofs.QuietFrames.ReadStill as read
use Rattle.frame_cases.proofs.RetiredLinks.Ends as ends
use Rattle.frame_cases.proofs.RetiredLinks.Ends.{IsEndOf, owed_end, owed_ends, places_owed}
use Rattle.link_actions.specs.ReaderActions.Laws.{GoawaysLeaveReaders}
use Rattle.link_actions.specs.ResetActions.Laws.{AttemptsAreEndedAt, GoawaysGoAhead, GoawaysOweResets, OweAt, OwesIf, cancels_of}
use Rattle.frame_cases.proofs.RetiredLinks.Rows.{rows_are_ended}
use Rattle.frame_cases.proofs.RetiredLinks.RowsThen.{IsEndedBy, alike_each, owe_each, places, row_off, row_on, row_then, rows_at}
use Rattle.frame_cases.proofs.RetiredLinks.Shapes.{AfterGoaway, IsPlainEnd, is_left}
use Rattle.frame_cases.proofs.RetiredLinks.Starts as starts
use Rattle.frame_cases.proofs.RetiredLinks.Report.{slot_there}
use Rattle.frame_cases.specs.PieceWalks.Points.{IsReceiving, coming, with_rest}
use Rattle.grpc_link.specs.Links.{Report as Reported}
use Rattle.h2_frame.specs.Numbers.{goaway_type}
use Rattle.h2_frame.specs.Payloads.{last_stream}
use Rattle.h2_link.specs.Steps.{reported}
use Rattle.h2_link.specs.Wire.{Wire}
use Rattle.lb_policy.specs.Table.{is_one_of}
use Rattle.link_actions.proofs.History.{bytes_more}
use Rattle.link_actions.proofs.ResetActions.Cuts.{none_is_ahead}
use Rattle.link_actions.specs.ResetActions.Ahead.{SeesAhead}
use Rattle.link_actions.specs.ResetActions.Laws.{IsCut}
use Rattle.link_actions.specs.ResponseActions.Laws.{left_out_end, seen_at}
use Rattle.link_actions.specs.ResponseActions.Readers as responses
use Rattle.link_actions.specs.Sees.{AttemptsStandInPlace, by_stream}
use Rattle.link_actions.specs.StreamActions.Laws.{AreAllOf, left_out}
use Rattle.link_actions.specs.StreamActions.Sees.{SeesStreams}
use Rattle.session_actions.specs.AttemptEnds.{is_framing, is_reset, reset_code_of, unsent_end}
use Rattle.session_actions.specs.Configs.{chosen_of}
use Rattle.session_actions.specs.Entries.{entry, now}
use Rattle.session_actions.specs.Links.{link_number, read_bytes}
use Rattle.session_actions.specs.Reading.{is_outstanding_on}
use Rattle.session_actions.specs.Words.{holds, numbered}
use Rattle.session_actions.specs.Writing.{next_frame_read}
use Rattle.session_actions.specs.declared.action.Action.TheVariants as action
use Rattle.session_actions.specs.declared.attempt.Attempt.{Attempt}
use Rattle.session_actions.specs.declared.entry.OpenEntry.{OpenEntry}
use Rattle.session_actions.specs.declared.link.Link.{Link}
use Rattle.session_actions.specs.declared.link.ReadFrame.{ReadFrame}
use Rattle.session_actions.specs.declared.seen.Seen.{Seen}
use Rattle.session_order.proofs.Changed.{passes_not}
use Rattle.session_order.specs.Quiescent as order
use Rattle.session_order.specs.declared.line.Line.TheVariants as line

-- how such an end comes
pub plain_reset : (o : Option ℕ) → is_reset (if is_some o then left_out_end else unsent_end).cause ≡ false
plain_reset None = refl
plain_reset (Some n) = refl

pub plain_framing : (o : Option ℕ) → is_framing (if is_some o then left_out_end else unsent_end).cause ≡ false
plain_framing None = refl
plain_framing (Some n) = refl

none_by : {X : Type 0} (o : Option X) → is_some o ≡ false → o ≡ None
none_by None e = refl
none_by (Some x) e = absurd (cc)

-- one on the link is on no other, and on none once it has ended
abbrev touched : ℕ → Numbers
touched link k = link == k

linked_by : (p : Option Placed) (n k : ℕ) (going : Bool) → ((is_some p && going) && holds (λ (at : Placed). at.link == n) p) ≡ true → (n == k) ≡ false
    → ((is_some p && going) && holds (λ (at : Placed). at.link == k) p) ≡ false
linked_by None n k going out off = refl
linked_by (Some at) n k true out off = ap (λ (j : ℕ). j == k) (eqb-true at.link n out) ∙ off
linked_by (Some at) n k false out off = refl

ended_off : (p : Option Placed) (b : Bool) → ((is_some p && false) && b) ≡ false
ended_off None b = refl
ended_off (Some at) b = refl

number_by : (p : Option Placed) (n : ℕ) (going : Bool) → ((is_some p && going) && holds (λ (at : Placed). at.link == n) p) ≡ true → option_map_or (λ (at : Placed). at.link) p 0 ≡ n
number_by None n going out = absurd (cc)
number_by (Some at) n true out = eqb-true at.link n out
number_by (Some at) n false out = absurd (cc)

-- none of a list passes
none_pass : {X : Type 0} (p : X → Bool) (xs : List X) → ((j : ℕ) (y : X) → slice_get xs j ≡ Some y → p y ≡ false) → filter p xs ≡ []
none_pass p [] off = refl
none_pass p (y ∷ ys) off =
    ap (λ (b : Bool). if b then y ∷ filter p ys else filter p ys) (off 0 y refl) ∙ none_pass p ys (λ j z at. off (suc j) z at)

and_last : (a b : Bool) → b ≡ false → (a && b) ≡ false
and_last true b e = e
and_last false b e = refl

some_of : {X : Type 0} (o : Option X) (y : X) (f : X → X) → option_map f o ≡ Some y → (x : X) × ((o ≡ Some x) × (y ≡ f x))
some_of None y f e = absurd (cc)
some_of (Some x) y f e = (x, (refl, (cc)))

module _ (link : ℕ) (piece : List ℕ) (x : StateSeen) (o : OpenEntry) (s : Seen) (is : IsReceiving link piece x o s) (h : Received) (r : ReadFrame)
    (next : next_frame_read link s ≡ Some (action.FrameRead link r)) (receives : received_in link piece x.links ≡ Some h) (goes : (r.frame.kind == goaway_type) ≡ true)
    (said : AfterGoaway is.l (read.m link piece x o s is h r next receives) s (read.t link piece x o s is h r next receives) (last_stream r.frame.payload)) where
  abbrev l : Link
  l = is.l

  abbrev m : Link
  m = read.m link piece x o s is h r next receives

  abbrev t : Seen
  t = read.t link piece x o s is h r next receives

  abbrev t1 : Seen
  t1 = starts.t1 link piece x o s is h r next receives goes said

  abbrev z1 : StateSeen
  z1 = starts.z1 link piece x o s is h r next receives goes said

  abbrev slot : LinkSlot
  slot = read.slot link piece x o s is h r next receives

  abbrev left : List ℕ
  left = drop h.taken piece

  abbrev out_ : Reported
  out_ = read.out link piece x o s is h r next receives

  abbrev w : Wire
  w = slot.link.link.wire

  abbrev last : ℕ
  last = last_stream r.frame.payload

  own : l.number ≡ link
  own = read.own link piece x o s is h r next receives

  kept_t : IsKept t
  kept_t = starts.kept_t link piece x o s is h r next receives goes said

  places_s : AttemptsStandInPlace 1 s.attempts
  places_s = starts.places link piece x o s is h r next receives goes said

  -- the ends that are owed
  abbrev pub these : List (ℕ × EndNews)
  these = ends_kept h.news []

  abbrev pub later : List (ℕ × RowEnd)
  later = owed_ends (entry t) (now t) these

  abbrev pub rows : List Attempt
  rows = rows_ended later s.attempts

  each_end : AllByRecursion (IsEndOf l s last (seen_at r)) these
  each_end = ends.each_end l s last (seen_at r) h.news places_s (starts.news_are link piece x o s is h r next receives goes said)

  all_of : AreAllOf l s last later
  all_of = ends.all_of l s last (seen_at r) h.news places_s (starts.news_are link piece x o s is h r next receives goes said) (entry t) (now t)

  pub tags_at : (n : ℕ) (a : Attempt) → numbered s.attempts n ≡ Some a → is_one_of (places later) n ≡ is_left l last a
  tags_at n a at =
      ap (λ (ks : List ℕ). is_one_of ks n) (places_owed (entry t) (now t) these)
      ∙ ends.tags_at l s last (seen_at r) h.news places_s (starts.news_are link piece x o s is h r next receives goes said) n a at

  pub seen_is : seen_at r ≡ read_bytes m
  seen_is =
      let p = read.end_within link piece x o s is h r next receives in
      let q = is.few in
      min-eq_left (let few : r.end ≤ 18446744073709551615 = omega (arith, p, q) in few) ∙ sym (bytes_more l r (read.frames link piece x o s is h r next receives))

  plain_one : (e : ℕ × EndNews) → IsEndOf l s last (seen_at r) e → IsPlainEnd (entry t) (read_bytes m) (owed_end (entry t) (now t) e.1)
  plain_one e k = record {
    entry_is = refl;
    seen_is = ap (λ (n : EndNews). n.seen) k.news_is ∙ seen_is;
    unreset = ap (λ (n : EndNews). is_reset n.cause) k.news_is ∙ plain_reset k.attempt.row.stream;
    unbroken = ap (λ (n : EndNews). is_framing n.cause) k.news_is ∙ plain_framing k.attempt.row.stream;
  }

  all_plain : (es : List (ℕ × EndNews)) → AllByRecursion (IsEndOf l s last (seen_at r)) es
      → AllByRecursion (λ (e : ℕ × RowEnd). IsPlainEnd (entry t) (read_bytes m) e.1) (owed_ends (entry t) (now t) es)
  all_plain [] all = tt
  all_plain (e ∷ es) all = (plain_one e all.0, all_plain es all.1)

  plain : AllByRecursion (λ (e : ℕ × RowEnd). IsPlainEnd (entry t) (read_bytes m) e.1) later
  plain = all_plain these each_end

  -- the session, once they have come
  abbrev pub u0 : Seen
  u0 = all_left later t

  abbrev pub u1 : Seen
  u1 = all_left later t1

  places_u0 : AttemptsStandInPlace 1 u0.attempts
  places_u0 = places_left later s.attempts places_s

  owned_u0 : AreOwned u0
  owned_u0 = owned_left later t kept_t.owned

  counted_u0 : NumbersCountUp 1 (map (λ (a : Attempt). a.place) u0.attempts)
  counted_u0 = counted_places 1 u0.attempts places_u0

  ended_at : AttemptsAreEndedAt (map (λ (e : ℕ × RowEnd). e.0) later) s.attempts rows
  ended_at = rows_are_ended later s.attempts places_s

  row_is : (i : ℕ) (a b : Attempt) → slice_get s.attempts i ≡ Some a → slice_get rows i ≡ Some b → b ≡ row_then later (suc i) a
  row_is i a b at to =
      let both : Some b ≡ Some (row_then later (suc i) a) = sym to ∙ rows_at later (suc i) s.attempts ∙ ap (option_map (row_then later (suc i))) at in (cc)

  place_is : (i : ℕ) (a : Attempt) → slice_get s.attempts i ≡ Some a → a.place ≡ suc i
  place_is i a at = read.places link piece x o s is h r next receives (suc i) a at

  -- what is owed
  none_owed : (i : ℕ) (a : Attempt) → slice_get s.attempts i ≡ Some a → reset_code_of t a ≡ None
  none_owed i a at =
      none_by (reset_code_of t a)
      (passes_not (order.is_to_reset t) s.attempts (suc i) a (starts.still_t link piece x o s is h r next receives goes said line.Reset refl refl) at)

  out_left : (a : Attempt) → is_left l last a ≡ true → is_outstanding_on l a ≡ true
  out_left a e = (and_parts (is_outstanding_on l a) _ e).0

  owes_by : (i : ℕ) (a b : Attempt) (c : Bool) → slice_get s.attempts i ≡ Some a → b ≡ row_then later (suc i) a → is_one_of (places later) (suc i) ≡ c → OwesIf (reset_code_of u0) l c a b
  owes_by i a b true at same e =
      let k : IsEndedBy (IsPlainEnd (entry t) (read_bytes m)) a (row_then later (suc i) a) = row_on (IsPlainEnd (entry t) (read_bytes m)) later (suc i) a plain e in
      let is_left_ : is_left l last a ≡ true = sym (tags_at (suc i) a at) ∙ e in
      (out_left a is_left_, ap (reset_code_of t) (same ∙ k.is) ∙ said.codes (suc i) a k.end at is_left_ k.plain)
  owes_by i a b false at same e = ap (reset_code_of t) (same ∙ row_off later (suc i) a e) ∙ none_owed i a at

  owe_at : OweAt (reset_code_of u0) l (map (λ (e : ℕ × RowEnd). e.0) later) s.attempts rows
  owe_at =
      owe_each (reset_code_of u0) l (places later) s.attempts rows (rows_long later s.attempts)
      (λ i a b at to.
      subst (λ (n : ℕ). OwesIf (reset_code_of u0) l (is_one_of (places later) n) a b) (sym (place_is i a at))
      (owes_by i a b (is_one_of (places later) (suc i)) at (row_is i a b at to) refl))

  -- of other links nothing
  owed_off_by : (i : ℕ) (q : Link) (a b : Attempt) (c : Bool) → (link == q.number) ≡ false → slice_get s.attempts i ≡ Some a → b ≡ row_then later (suc i) a
      → is_one_of (places later) (suc i) ≡ c → is_owed_on q u0 b ≡ false
  owed_off_by i q a b true off at same e =
      let k : IsEndedBy (IsPlainEnd (entry t) (read_bytes m)) a (row_then later (suc i) a) = row_on (IsPlainEnd (entry t) (read_bytes m)) later (suc i) a plain e in
      let on : link_number a ≡ link = number_by a.row.placed l.number (is_none a.row.ended) (out_left a (sym (tags_at (suc i) a at) ∙ e)) ∙ own in
      and_last (is_some (reset_code_of u0 b)) (link_number b == q.number)
      (ap (λ (z : Attempt). link_number z == q.number) (same ∙ k.is) ∙ ap (λ (n : ℕ). n == q.number) on ∙ off)
  owed_off_by i q a b false off at same e =
      ap (λ (c : Option ℕ). is_some c && (link_number b == q.number)) (ap (reset_code_of t) (same ∙ row_off later (suc i) a e) ∙ none_owed i a at)

  owed_off : (q : Link) → (link == q.number) ≡ false → resets_owed q u0 ≡ []
  owed_off q off =
      ap (λ (ys : List Attempt). map (owed_reset u0) (by_stream ys))
      (none_pass (is_owed_on q u0) rows
      (λ i b to.
      let got = some_of (slice_get s.attempts i) b (row_then later (suc i)) (sym (rows_at later (suc i) s.attempts) ∙ to) in
      owed_off_by i q got.0 b (is_one_of (places later) (suc i)) off got.1.0 got.1.1 refl))

  -- the others see no difference
  alike_by : (i : ℕ) (a b : Attempt) (c : Bool) → slice_get s.attempts i ≡ Some a → b ≡ row_then later (suc i) a → is_one_of (places later) (suc i) ≡ c
      → IsAlike (touched link) t u0 a b
  alike_by i a b true at same e =
      let k : IsEndedBy (IsPlainEnd (entry t) (read_bytes m)) a (row_then later (suc i) a) = row_on (IsPlainEnd (entry t) (read_bytes m)) later (suc i) a plain e in
      let out : is_outstanding_on l a ≡ true = out_left a (sym (tags_at (suc i) a at) ∙ e) in
      subst (IsAlike (touched link) t u0 a) (sym (same ∙ k.is)) (record {
        place = refl;
        on = λ j off. ended_off a.row.placed (holds (λ (p : Placed). p.link == j) a.row.placed) ∙ sym (is_off j a out off);
        still = λ j off on. absurd (let bad : true ≡ false = sym on ∙ is_off j a out off in let no : ⊥ = (cc) in no);
      })
    where
      is_off : (j : ℕ) (a : Attempt) → is_outstanding_on l a ≡ true → touched link j ≡ false → is_on j a ≡ false
      is_off j a out off = linked_by a.row.placed l.number j (is_none a.row.ended) out (ap (λ (n : ℕ). n == j) own ∙ off)
  alike_by i a b false at same e =
      subst (IsAlike (touched link) t u0 a) (sym (same ∙ row_off later (suc i) a e)) (record {
        place = refl;
        on = λ j off. refl;
        still = λ j off on. record { stream = refl; calls = λ c got. record { call = c; is = got; limit = refl; more = omega arith } };
      })

  alike : AttemptsAreAlike (touched link) t u0 t.attempts u0.attempts
  alike =
      alike_each (touched link) t u0 s.attempts rows (rows_long later s.attempts)
      (λ i a b at to. alike_by i a b (is_one_of (places later) (suc i)) at (row_is i a b at to) refl)

  -- the slots
  abbrev z_slot : LinkSlot
  z_slot = with_rest left (tables.retired (with_link (received_link piece) slot))

  z_there : numbered z1.links link ≡ Some z_slot
  z_there =
      number_changed (with_rest left) (retired_in link h.links) link
      ∙ ap (option_map (with_rest left))
      (number_changed tables.retired h.links link ∙ ap (option_map tables.retired) (slot_there link piece x o s is h r next receives goes said))

  z_others : (k : ℕ) → (link == k) ≡ false → numbered z1.links k ≡ numbered (coming link piece x).links k
  z_others k e =
      number_other (with_rest left) (retired_in link h.links) link k (λ same. eqb-false link k e (sym same))
      ∙ number_other tables.retired h.links link k (λ same. eqb-false link k e (sym same))
      ∙ ap (λ (q : Received). numbered q.links k) (read.h_is link piece x o s is h r next receives)
      ∙ number_other (with_link (received_link piece)) x.links link k (λ same. eqb-false link k e (sym same)) ∙ sym (others_coming link piece x k e)

  z_count : length t.links ≡ length z1.links
  z_count =
      length_changed (read.f link piece x o s is h r next receives) link s.links ∙ is.agrees.links.count ∙ changed_length (with_rest piece) x.links link
      ∙ sym (changed_length (with_rest left) (retired_in link h.links) link ∙ changed_length tables.retired h.links link
      ∙ ap (λ (q : Received). length q.links) (read.h_is link piece x o s is h r next receives) ∙ changed_length (with_link (received_link piece)) x.links link)

  slot_is : with_link (received_link piece) slot ≡ record slot { link = out_.link }
  slot_is = ap (λ (q : Reported). record slot { link = q.link }) (read.reported_is link piece x o s is h r next receives)

  sees_l : SeesLinkOf l s (with_rest piece slot)
  sees_l = read.sees link piece x o s is h r next receives

  here_u : (k : ℕ) (q : Link) → numbered t.links k ≡ Some q → numbered u0.links q.number ≡ Some q
  here_u k q got = ap (numbered t.links) (counted_at (λ (b : Link). b.number) t.links k q kept_t.links got) ∙ got

  module _ (ahead : GoawaysGoAhead) (owes : GoawaysOweResets) (readers : GoawaysLeaveReaders) where
    owed_m : resets_owed m u0 ≡ cancels_of (left_out l s last)
    owed_m = owes l s last later rows (reset_code_of u0) all_of ended_at owe_at

    -- the link
    cut_then : IsCut (cancels_of (left_out l s last)) m u0 (reported w r.frame).wire (lines_in l s)
    cut_then =
        subst (λ (v : Seen). IsCut (cancels_of (left_out l s last)) m (record v { attempts = rows }) (reported w r.frame).wire (lines_in l s)) (read.read_l link piece x o s is h r next receives)
        (ahead l s w (lines_in l s) r later rows (read.going link piece x o s is h r next receives).streams (read.come link piece x o s is h r next receives).comes goes all_of ended_at)

    relined : (v : Wire) → SeesStreams m u0 v (lines_in l s) → SeesStreams m u0 v (lines_in m u0)
    relined v k =
        streams_still m m u0 u0 (λ (j : ℕ). false) refl owned_u0 (all_at_places u0.attempts counted_u0) (no_difference (λ (j : ℕ). false) u0).attempts v (lines_in l s)
        (record { number = refl; traffic_ = refl; owed = refl }) k k.sees.at k.sees.places

    wire_is : (reported w r.frame).wire ≡ out_.link.link.wire
    wire_is = sym (starts.retired_ link piece x o s is h r next receives goes said).wire

    ahead_streams : SeesAhead (resets_owed m u0) m u0 out_.link.link.wire (lines_in m u0)
    ahead_streams =
        subst (λ (rs : List (ℕ × ℕ)). SeesAhead rs m u0 out_.link.link.wire (lines_in m u0)) (sym owed_m)
        (subst (λ (v : Wire). SeesAhead (cancels_of (left_out l s last)) m u0 v (lines_in m u0)) wire_is (record {
          wire = cut_then.ahead.wire;
          sees = relined cut_then.ahead.wire cut_then.ahead.sees;
          same = cut_then.ahead.same;
          queue = cut_then.ahead.queue;
        }))

    readers_then : responses.SeesReaders m u0 out_.link.readers
    readers_then =
        subst (λ (v : Seen). responses.SeesReaders m (record v { attempts = rows }) out_.link.readers) (read.read_l link piece x o s is h r next receives)
        (readers l s w (lines_in l s) slot.link.readers r later rows (read.going link piece x o s is h r next receives).streams
        (read_so l s slot.link.readers (read.going link piece x o s is h r next receives).readers) (read.come link piece x o s is h r next receives).comes goes all_of ended_at)

    ahead_m : IsAhead m u0 z_slot
    ahead_m =
        subst (λ (q : LinkSlot). IsAhead m u0 (with_rest left (tables.retired q))) (sym slot_is) (record {
          streams = ahead_streams;
          readers = read_then m u0 out_.link.readers readers_then;
          rest = read.left_is link piece x o s is h r next receives ∙ ap (λ (b : List ℕ). b ++ left) (sym (read.rest_now link piece x o s is h r next receives));
          fresh = ap (λ (v : Wire). v.queue.fresh) (sym wire_is) ∙ cut_then.fresh ∙ sym (ap (λ (rs : List (ℕ × ℕ)). length rs) owed_m);
        })

    has_m : HasLinkAhead z1 u0 m link
    has_m = record {
      slot = z_slot;
      there = z_there;
      sees = record { over = sees_l.over; retiring = said.retiring; going = λ e. ahead_m };
    }

    -- the others
    read_apart : SeesNoDifference (touched link) s t
    read_apart =
        subst (SeesNoDifference (touched link) s) (read.after_is link piece x o s is h r next receives) (actions_make_no_difference (action.FrameRead link r) s is.agrees.kept tt)

    ahead_other : (k : ℕ) (q : Link) → numbered t.links k ≡ Some q → (link == k) ≡ false → HasLinkAhead z1 u0 q k
    ahead_other k q got off =
        let had : HasLink z1 t q k
        = others_agree (touched link) (coming link piece x) z1 s t k q is.agrees.links is.agrees.kept kept_t z_others read_apart off got in
        let number_q : q.number ≡ k = counted_at (λ (b : Link). b.number) t.links k q kept_t.links got in
        let apart : touched link q.number ≡ false = ap (λ (j : ℕ). link == j) number_q ∙ off in
        let none : resets_owed q u0 ≡ [] = owed_off q apart in
        record {
          slot = had.slot;
          there = had.there;
          sees = record {
            over = had.sees.over;
            retiring = had.sees.retiring;
            going = λ e.
                (let g : IsGoing q t had.slot = had.sees.going e in
                record {
                  streams = subst (λ (rs : List (ℕ × ℕ)). SeesAhead rs q u0 had.slot.link.link.wire (lines_in q u0)) (sym none)
                      (none_is_ahead q u0 had.slot.link.link.wire (lines_in q u0)
                      (streams_still q q t u0 (touched link) apart kept_t.owned (all_at_places u0.attempts counted_u0) alike had.slot.link.link.wire (lines_in q t)
                      (record { number = refl; traffic_ = refl; owed = refl }) g.streams (here_u k q got) places_u0));
                  readers = readers_still (touched link) q q t u0 refl refl (here_u k q got) (here_u k q got) apart had.slot.link.readers kept_t.owned alike g.readers;
                  rest = g.rest;
                  fresh = g.closed ∙ sym (ap (λ (rs : List (ℕ × ℕ)). length rs) none);
                });
          };
        }

    each_ahead : (k : ℕ) (q : Link) → numbered t.links k ≡ Some q → HasLinkAhead z1 u0 q k
    each_ahead k q got = by (link == k) refl
      where
        by : (e : Bool) → (link == k) ≡ e → HasLinkAhead z1 u0 q k
        by false e = ahead_other k q got e
        by true e =
            let same : link ≡ k = eqb-true link k e in
            let both : Some m ≡ Some q = sym (starts.there_m link piece x o s is h r next receives goes said) ∙ ap (numbered t.links) same ∙ got in
            let one : m ≡ q = (cc) in
            subst (λ (j : ℕ). HasLinkAhead z1 u0 q j) same (subst (λ (b : Link). HasLinkAhead z1 u0 b link) one has_m)

    links0 : LinksAhead (link ∷ []) z1 u0
    links0 = record {
      count = z_count;
      each = each_ahead;
      closing = λ k q got off.
          owed_off q
          (ap (λ (j : ℕ). link == j) (counted_at (λ (b : Link). b.number) t.links k q kept_t.links got) ∙ (or_parts (link == k) _ off).0);
    }

    -- and once its subchannel went down
    code_same : (b : Attempt) → reset_code_of u1 b ≡ reset_code_of u0 b
    code_same b =
        let dn = starts.dn link piece x o s is h r next receives goes said in
        ap (λ (v : Seen). reset_code_of v b) dn.boarded ∙ ap (λ (c : Option OpenEntry). reset_code_of (record t { current = c; links = t1.links }) b) dn.current
        ∙ ap (λ (ls : List Link). reset_code_of (record t { links = ls }) b) dn.links

    attempts_same : t1.attempts ≡ t.attempts
    attempts_same = ap (λ (v : Seen). v.attempts) (starts.dn link piece x o s is h r next receives goes said).boarded

    rows_same : u1.attempts ≡ u0.attempts
    rows_same = ap (rows_ended later) attempts_same

    places_u1 : AttemptsStandInPlace 1 u1.attempts
    places_u1 = subst (AttemptsStandInPlace 1) (sym rows_same) places_u0

    far : IsAsFar u0 u1
    far = record {
      links = (starts.dn link piece x o s is h r next receives goes said).links;
      calls = λ n c at. record {
        call = c;
        there = ap (λ (v : Seen). numbered v.calls n) (starts.dn link piece x o s is h r next receives goes said).boarded ∙ at;
        limit = ap (λ (v : Seen). (chosen_of c v).response) (starts.dn link piece x o s is h r next receives goes said).boarded;
        more = omega arith;
      };
      rows = subst (AreSameRows u0 u1 u0.attempts) (sym rows_same) (rows_self u0 u1 code_same u0.attempts);
      owned = owned_u0;
      numbers = kept_t.links;
      counted = counted_places 1 u1.attempts places_u1;
      places = places_u1;
    }

    pub links1 : LinksAhead (link ∷ []) z1 (all_left later t1)
    links1 = as_far u0 u1 far (link ∷ []) z1 links0
