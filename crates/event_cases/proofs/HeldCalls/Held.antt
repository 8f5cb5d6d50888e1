-- Each open call after a drain: what its buffer has left of each attempt is what the session did not write, on the link that was drained and elsewhere.
use Rattle.attempt_buffer.specs.Buffers.{Buffered, left_of, taken_by, text_of}
use Rattle.attempt_ledger.specs.declared.row.Row.{Row}
use Rattle.call_actions.specs.TakeActions.Serves as serves
use Rattle.call_actions.specs.TakeActions.Serves.{Holds, came}
use Rattle.channel_actions.proofs.KeptSessions.Along.{kept_along}
use Rattle.channel_actions.proofs.KeptSessions.Lists.{counted_places}
use Rattle.channel_actions.specs.Agrees.{Agrees}
use Rattle.channel_actions.specs.Calls.{HasSlot}
use Rattle.channel_actions.specs.DrainCalls.Laws.{IsLeftAt, IsOnlyStreamed, fed_some}
use Rattle.channel_actions.specs.DrainWrites.Laws.{RowsAgree, IsRow, with_all_sent, writing}
use Rattle.channel_actions.specs.KeptSessions.Kept.{IsKept}
use Rattle.channel_actions.specs.Links.{HasLink, IsGoing}
use Rattle.event_cases.proofs.DrainedLines.Off.{drains_leave_lines}
use Rattle.event_cases.proofs.HeldCalls.Fed.{buffer_after, is_row_of}
use Rattle.event_cases.proofs.HeldCalls.Lines.{drained_is, row_fed, unfilter}
use Rattle.channel_actions.proofs.Streams.Own.Others.{writes_leave_others}
use Rattle.channel_actions.proofs.SoundBuffers.Sound.{buffers_are_sound_in}
use Rattle.channel_actions.proofs.SoundBuffers.Streamed.{sound_feeds_hold}
use Rattle.event_cases.proofs.WrittenResponses.Along.{writes_leave_items}
use Rattle.event_cases.proofs.WrittenResponses.Silent.{unreceived_are_silent}
use Rattle.attempt_cases.specs.DrainEvents.Laws.{HasRun}
use Rattle.event_cases.specs.DrainedCalls.Laws.{IsHeld}
use Rattle.channel_actions.specs.PrefacedLinks.Prefaced.{LinksArePrefaced}
use Rattle.event_cases.specs.HeldCalls.Laws.{KnownCallsAreHeld}
use Rattle.channel_actions.specs.OwnStreams.Laws.{goes_on_at}
use Rattle.channel_actions.specs.OwnStreams.Own.{StreamsAreOwn}
use Rattle.channel_actions.specs.SoundBuffers.Held.{BuffersAreSound}
use Rattle.channel_core.specs.Books.{call_of, lines_of, slot_at, slot_of_tag}
use Rattle.channel_core.specs.Draining.{DrainLeaves}
use Rattle.channel_core.specs.Feeding.{all_fed, book_fed}
use Rattle.channel_core.specs.States.{StateSeen}
use Rattle.channel_core.specs.Tables as table
use Rattle.channel_core.specs.Tables.{DrainGives, left_at}
use Rattle.channel_core.specs.declared.state.book.Book.{Book}
use Rattle.channel_core.specs.declared.state.slots.CallSlot.{CallSlot}
use Rattle.channel_core.specs.declared.state.links.LinkSlot.{LinkSlot}
use Rattle.h2_link.specs.declared.news.Drained.{Drained}
use Rattle.attempt_ledger.specs.declared.ledger.Ledger.{Ledger}
use Rattle.attempt_ledger.specs.declared.row.Placed.{Placed}
use Rattle.grpc_base.specs.declared.event.Reply.{Reply}
use Rattle.grpc_frame.specs.Messages.{framed_all}
use Rattle.h2_link.specs.Feeds.{Line}
use Rattle.link_actions.specs.Sees.{IsFed, Sees, WaitAlike, odds, written_for}
use Rattle.link_actions.specs.StreamActions.Sees.{NewStreamsAreUnreceived}
use Rattle.session_actions.specs.Attempts.{is_of, is_outstanding}
use Rattle.session_actions.specs.Reading.{opened_streams}
use Rattle.session_actions.specs.Words.{changed, holds, numbered}
use Rattle.session_actions.specs.Writing.{drained}
use Rattle.session_actions.specs.declared.attempt.Attempt.{Attempt}
use Rattle.session_actions.specs.declared.call.Call.{Call}
use Rattle.session_actions.specs.declared.entry.OpenEntry.{OpenEntry}
use Rattle.session_actions.specs.declared.link.Link.{Link}
use Rattle.session_actions.specs.declared.link.Sent.{Sent}
use Rattle.session_actions.specs.declared.link.Traffic.TheVariants as traffic
use Rattle.session_actions.specs.declared.seen.Seen.{Seen}
use Rattle.std.proofs.Common.{Bool, List, None, Option, Some, [], ap, arith, drop, eqb-true, false, length, length-append, map, option_map, refl, slice_get, subst, suc, sym, true, zero, ℕ, ◌&&◌, ◌*◌, ◌+◌, ◌++◌, ◌==◌, ◌∙◌, ◌∷◌, ◌≡◌, ◌≤◌}
use Rattle.std.proofs.lemmas.Option.{slice_get-map}
use Rattle.std.specs.Option.{option_map_or}

one_of : {X : Type 0} (o : Option X) (x y : X) → o ≡ Some x → o ≡ Some y → x ≡ y
one_of None x y e f = absurd (cc)
one_of (Some z) x y e f = (cc)

table_same : {X : Type 0} (xs : List X) (n : ℕ) → table.numbered xs n ≡ numbered xs n
table_same xs zero = refl
table_same xs (suc i) = refl

-- the row of a place, before a drain gives streams
row_before : (as_ bs : List Attempt) (i : ℕ) (b : Attempt) → RowsAgree as_ bs → slice_get bs i ≡ Some b → (a : Attempt) × (slice_get as_ i ≡ Some a) × IsRow a b
row_before [] [] i b rows got = absurd (cc)
row_before (a ∷ as_) (b ∷ bs) zero c rows got = let same : b ≡ c = (cc) in (a, refl, subst (λ (z : Attempt). IsRow a z) same rows.0)
row_before (a ∷ as_) (b ∷ bs) (suc i) c rows got = row_before as_ bs i c rows.1 got
row_before [] (b ∷ bs) i c rows got = absurd rows
row_before (a ∷ as_) [] i c rows got = absurd rows

goes_same : (link : ℕ) (a b : Attempt) → IsRow a b → goes_on_at link b ≡ goes_on_at link a
goes_same link a b is = ap (goes_on_at link) is

mine_same : (c : Call) (a b : Attempt) → IsRow a b → is_of c b ≡ is_of c a
mine_same c a b is = ap (is_of c) is

fed_ledger : (feeds : List (ℕ × ℕ)) (b : Book) → (all_fed feeds b).ledger ≡ b.ledger
fed_ledger [] b = refl
fed_ledger (f ∷ feeds) b = fed_ledger feeds (book_fed f.0 f.1 b)

-- what the buffer has left before, of an attempt that goes on
left_by : (b : Buffered) (place : ℕ) (o : Option ℕ) (written : ℕ) (all : List ℕ) → taken_by place b ≡ o → serves.IsFed o (text_of b) true written all
    → (left_of place b ≡ drop written all) × (written ≤ length all)
left_by b place None written all is fed = absurd fed
left_by b place (Some taken) written all is fed = (ap (λ (o : Option ℕ). option_map_or (λ (n : ℕ). drop n (text_of b)) o []) is ∙ fed.left, fed.within_all)

odds_many : (n : ℕ) → length (odds n) ≡ n
odds_many zero = refl
odds_many (suc n) =
    let more : length (odds n ++ (2 * n + 1) ∷ []) ≡ length (odds n) + 1 = length-append (odds n) ((2 * n + 1) ∷ []) in
    let all : length (odds n) ≡ n = odds_many n in omega (arith, more, all)

sent_number : (sent : List Sent) (l : Link) → (with_all_sent sent l).number ≡ l.number
sent_number [] l = refl
sent_number (x ∷ sent) l = sent_number sent (record l { traffic = l.traffic ++ traffic.Written x ∷ [] })

module _ (x y : StateSeen) (s : Seen) (link room : ℕ) (r : Reply) (h : Agrees x s) (sound : BuffersAreSound x) (prefaced : LinksArePrefaced s) (own : StreamsAreOwn s)
    (leaves : DrainLeaves link room x r y) (t : Seen) (run : HasRun s t y link leaves.fed) (alive : run.before.over ≡ None) where
  abbrev l : Link
  l = run.before

  abbrev v : Seen
  v = run.run.seen

  abbrev after : Link
  after = with_all_sent run.run.sent l

  abbrev fed : Book
  fed = leaves.fed

  here : l.number ≡ link
  here = counted_places (λ (k : Link). k.number) s.links h.kept.links link l run.here

  line : numbered s.links l.number ≡ Some l
  line = ap (numbered s.links) here ∙ run.here

  has : HasLink x s l link
  has = h.links.each link l run.here

  going : IsGoing l s has.slot
  going = has.sees.going alive

  kept_v : IsKept v
  kept_v = kept_along (map (writing l.number) run.run.sent) s v h.kept run.run.does

  is : v ≡ record s { attempts = v.attempts; links = changed (with_all_sent run.run.sent) l.number s.links; current = Some run.run.entry }
  is = run.run.is

  calls_v : v.calls ≡ s.calls
  calls_v = ap (λ (z : Seen). z.calls) is

  links_v : v.links ≡ changed (with_all_sent run.run.sent) l.number s.links
  links_v = ap (λ (z : Seen). z.links) is

  current_v : v.current ≡ Some run.run.entry
  current_v = ap (λ (z : Seen). z.current) is

  only : IsOnlyStreamed s v
  only = record {
    is = is ∙ ap (λ (ls : List Link). record s { attempts = v.attempts; links = ls; current = Some run.run.entry }) (sym links_v)
        ∙ ap (λ (c : Option OpenEntry). record s { attempts = v.attempts; links = v.links; current = c }) (sym current_v);
    rows = run.run.rows;
  }

  left_others : (i : ℕ) (a : Attempt) → slice_get s.attempts i ≡ Some a → goes_on_at l.number a ≡ false → (slice_get v.attempts i ≡ Some a) × (drained a v ≡ drained a s)
  left_others i a got off = writes_leave_others run.run.sent l.number s v h.kept prefaced own run.run.does i a got off

  unreceived : NewStreamsAreUnreceived l (length (opened_streams l))
  unreceived =
      let many : length (opened_streams l) ≡ has.slot.link.link.wire.opened
      = ap (λ (ns : List ℕ). length ns) going.streams.sees.sees.reads.opened ∙ odds_many has.slot.link.link.wire.opened in
      subst (NewStreamsAreUnreceived l) (sym many) going.streams.unreceived

  came_v : (c : Call) → came c v ≡ came c s
  came_v c = writes_leave_items run.run.sent l.number s v l h.kept prefaced line (unreceived_are_silent l unreceived) run.run.does c

  -- the lines of the others
  lines_by : (o : Option Drained) → DrainGives room x.links link (lines_of x.book) o y.links (lines_of fed) → (row : ℕ) (a : Attempt) → numbered s.attempts row ≡ Some a
      → goes_on_at l.number a ≡ false → lines_of fed row ≡ lines_of x.book row
  lines_by None gives row a got off = ap (λ (g : ℕ → Line). g row) gives.2
  lines_by (Some d) gives row a got off =
      let same : has.slot ≡ gives.before = one_of (numbered x.links link) has.slot gives.before has.there (sym (table_same x.links link) ∙ gives.was) in
      drains_leave_lines room l s gives.before.link.link.wire gives.after.link.link.wire (lines_of x.book) (lines_of fed) d.octets h.kept
      (subst (λ (k : LinkSlot). Sees l s k.link.link.wire) same going.streams.sees.sees) (subst (λ (k : LinkSlot). WaitAlike l s k.link.link.wire) same going.streams.sees.waits)
      gives.drains.sends row a got off

  lines_off : (row : ℕ) (a : Attempt) → numbered s.attempts row ≡ Some a → goes_on_at l.number a ≡ false → lines_of fed row ≡ lines_of x.book row
  lines_off = lines_by leaves.drained leaves.gives

  ledger_fed : fed.ledger ≡ x.book.ledger
  ledger_fed = ap (λ (b : Book). b.ledger) leaves.feeds.1 ∙ fed_ledger leaves.feeds.0 x.book

  row_there : (i : ℕ) (a : Attempt) → slice_get s.attempts i ≡ Some a → slice_get x.book.ledger.rows i ≡ Some a.row
  row_there i a got =
      ap (λ (rows : List Row). slice_get rows i) (sym h.columns.rows) ∙ (slice_get-map (λ (b : Attempt). b.row) s.attempts i ∙ ap (option_map (λ (b : Attempt). b.row)) got)

  -- one call
  module _ (number : ℕ) (c : Call) (slot : CallSlot) (got : numbered s.calls number ≡ Some c) (there : slot_at fed number ≡ Some slot) where
    old : HasSlot x s c number
    old = h.calls.each number c got

    mine : c.number ≡ number
    mine = counted_places (λ (d : Call). d.number) s.calls h.kept.calls number c got

    own_slot : (b : Book) (i : ℕ) (a : Attempt) (z : CallSlot) → b.ledger ≡ x.book.ledger → slice_get s.attempts i ≡ Some a → is_of c a ≡ true → slot_at b number ≡ Some z
        → slot_of_tag b (suc i) ≡ Some z
    own_slot b i a z ledger at of_ is_ =
        ap (λ (g : Ledger). slot_at b (call_of (slice_get g.rows i))) ledger
        ∙ (ap (λ (o : Option Row). slot_at b (call_of o)) (row_there i a at)
        ∙ (ap (slot_at b) (eqb-true a.row.call c.number of_ ∙ mine) ∙ is_))

    module _ (open_ : c.end ≡ None) where
      holds_old : Holds s c old.slot.call.buffer
      holds_old = old.sees.serves.holds open_

      fed_old : (i : ℕ) (a : Attempt) → slice_get s.attempts i ≡ Some a → is_of c a ≡ true → is_outstanding a ≡ true
          → (left_of a.place old.slot.call.buffer ≡ drop (drained a s) (framed_all c.messages)) × (drained a s ≤ length (framed_all c.messages))
      fed_old i a at of_ out =
          left_by old.slot.call.buffer a.place (taken_by a.place old.slot.call.buffer) (drained a s) (framed_all c.messages) refl
          (subst (λ (b : Bool). serves.IsFed (taken_by a.place old.slot.call.buffer) (text_of old.slot.call.buffer) b (drained a s) (framed_all c.messages)) out
          (unfilter (λ (q : Attempt). serves.IsFed (taken_by q.place old.slot.call.buffer) (text_of old.slot.call.buffer) (is_outstanding q) (drained q s) (framed_all c.messages)) (is_of c)
          s.attempts i a holds_old.fed at of_))

      -- an attempt that goes on there
      on_link : (i : ℕ) (a a0 : Attempt) → slice_get v.attempts i ≡ Some a → slice_get s.attempts i ≡ Some a0 → is_of c a0 ≡ true → a.row.call ≡ a0.row.call → a.place ≡ suc i
          → goes_on_at l.number a ≡ true → IsLeftAt v c slot.call.buffer a
      on_link i a a0 at at0 of_ same place on =
          let on_after : goes_on_at after.number a ≡ true = ap (λ (k : ℕ). goes_on_at k a) (sent_number run.run.sent l) ∙ on in
          let f : IsFed after v a (lines_of fed a.place) = row_fed after v run.slot.link.link.wire (lines_of fed) run.run.streams.sees i a at on_after in
          let call : f.call ≡ c
          = one_of (numbered v.calls a.row.call) f.call c f.call_is
          (ap (λ (cs : List Call). numbered cs a.row.call) calls_v ∙ (ap (numbered s.calls) (same ∙ (eqb-true a0.row.call c.number of_ ∙ mine)) ∙ got)) in
          let own_ : slot_of_tag fed a.place ≡ Some slot = ap (slot_of_tag fed) place ∙ own_slot fed i a0 slot ledger_fed at0 of_ there in
          let wrote : drained a v ≡ written_for after a = drained_is after v run.slot.link.link.wire (lines_of fed) run.run.streams.sees a on_after in
          record {
            left = sym (ap (left_at a.place) own_)
                ∙ (f.left ∙ (ap (λ (d : Call). drop (written_for after a) (framed_all d.messages)) call ∙ ap (λ (n : ℕ). drop n (framed_all c.messages)) (sym wrote)));
            within = subst (λ (n : ℕ). n ≤ length (framed_all c.messages)) (sym wrote)
                (subst (λ (d : Call). written_for after a ≤ length (framed_all d.messages)) call f.written);
          }

      -- and one that does not
      off_link : (i : ℕ) (a a0 : Attempt) → slice_get v.attempts i ≡ Some a → slice_get s.attempts i ≡ Some a0 → is_of c a0 ≡ true → is_outstanding a0 ≡ true → a0.place ≡ suc i
          → goes_on_at l.number a0 ≡ false → IsLeftAt v c slot.call.buffer a
      off_link i a a0 at at0 of_ out place off =
          let others : (slice_get v.attempts i ≡ Some a0) × (drained a0 v ≡ drained a0 s) = left_others i a0 at0 off in
          let same : a0 ≡ a = one_of (slice_get v.attempts i) a0 a others.0 at in
          let before : (left_of a0.place old.slot.call.buffer ≡ drop (drained a0 s) (framed_all c.messages)) × (drained a0 s ≤ length (framed_all c.messages)) = fed_old i a0 at0 of_ out in
          let lines : left_of (suc i) slot.call.buffer ≡ left_of (suc i) old.slot.call.buffer
          = sym (ap (left_at (suc i)) (own_slot fed i a0 slot ledger_fed at0 of_ there))
          ∙ (ap (λ (g : Line). g.left) (lines_off (suc i) a0 at0 off) ∙ ap (left_at (suc i)) (own_slot x.book i a0 old.slot refl at0 of_ old.there)) in
          let moved : left_of a0.place slot.call.buffer ≡ left_of a0.place old.slot.call.buffer
          = ap (λ (n : ℕ). left_of n slot.call.buffer) place ∙ (lines ∙ sym (ap (λ (n : ℕ). left_of n old.slot.call.buffer) place)) in
          let now : IsLeftAt v c slot.call.buffer a0
          = record {
            left = moved ∙ (before.0 ∙ ap (λ (n : ℕ). drop n (framed_all c.messages)) (sym others.1));
            within = subst (λ (n : ℕ). n ≤ length (framed_all c.messages)) (sym others.1) before.1;
          } in
          subst (IsLeftAt v c slot.call.buffer) same now

      left_if : (i : ℕ) (a a0 : Attempt) (b : Bool) → slice_get v.attempts i ≡ Some a → slice_get s.attempts i ≡ Some a0 → IsRow a0 a → is_of c a ≡ true → is_outstanding a ≡ true
          → goes_on_at l.number a ≡ b → IsLeftAt v c slot.call.buffer a
      left_if i a a0 true at at0 row of_ out on =
          on_link i a a0 at at0 (sym (mine_same c a0 a row) ∙ of_) (ap (λ (z : Attempt). z.row.call) row) (counted_places (λ (z : Attempt). z.place) v.attempts kept_v.attempts (suc i) a at) on
      left_if i a a0 false at at0 row of_ out off =
          off_link i a a0 at at0 (sym (mine_same c a0 a row) ∙ of_) (sym (ap is_outstanding row) ∙ out)
          (counted_places (λ (z : Attempt). z.place) s.attempts h.kept.attempts (suc i) a0 at0) (sym (goes_same l.number a0 a row) ∙ off)

      left_now : (i : ℕ) (a : Attempt) → slice_get v.attempts i ≡ Some a → is_of c a ≡ true → is_outstanding a ≡ true → IsLeftAt v c slot.call.buffer a
      left_now i a at of_ out =
          let was : (a0 : Attempt) × (slice_get s.attempts i ≡ Some a0) × IsRow a0 a = row_before s.attempts v.attempts i a run.run.rows at in
          left_if i a was.0 (goes_on_at l.number a) at was.1 was.2 of_ out refl

      ended_now : (i : ℕ) (a z : Attempt) → slice_get s.attempts i ≡ Some a → slice_get v.attempts i ≡ Some z → is_outstanding a ≡ false → drained z v ≡ drained a s
      ended_now i a z at now off =
          let others : (slice_get v.attempts i ≡ Some a) × (drained a v ≡ drained a s)
          = left_others i a at (ap (λ (b : Bool). b && holds (λ (p : Placed). p.link == l.number) a.row.placed) off) in
          ap (λ (q : Attempt). drained q v) (one_of (slice_get v.attempts i) z a now others.0) ∙ others.1

      buffer_is : slot.call.buffer ≡ fed_some (is_row_of x.book number) leaves.feeds.0 old.slot.call.buffer
      buffer_is =
          buffer_after leaves.feeds.0 x.book number old.slot slot old.there (subst (λ (b : Book). slot_at b number ≡ Some slot) leaves.feeds.1 there)

      holds_v : Holds v c slot.call.buffer
      holds_v =
          subst (Holds v c) (sym buffer_is)
          (sound_feeds_hold s v c old.slot.call.buffer (is_row_of x.book number) leaves.feeds.0 h.kept.book.places only holds_old
          (buffers_are_sound_in x s number c old.slot h sound got old.there open_)
          (λ i a at of_ out. subst (λ (b : Buffered). IsLeftAt v c b a) buffer_is (left_now i a at of_ out)) ended_now)

    held : IsHeld s v c slot
    held = record { came_same = came_v c; holds = holds_v }

pub known_calls_are_held : KnownCallsAreHeld
known_calls_are_held x y s t link room r h sound prefaced own leaves run alive number c slot got there =
    subst (λ (z : Seen). IsHeld s z c slot) (sym run.seen) (held x y s link room r h sound prefaced own leaves t run alive number c slot got there)
