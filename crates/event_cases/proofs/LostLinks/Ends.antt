-- The end of the first attempt on a link that is over is next: what is asked of the end of one attempt is so.
use Rattle.std.proofs.Common.{◌≡◌, ◌&&◌, ◌||◌, ◌++◌, ◌==◌, ◌∷◌, ap, refl, subst, sym, ◌∙◌, Bool, true, false, List, [], Option, None, Some, ℕ, cond, filter, suc, if◌then◌else◌, is_some, length, map, nat_lt, option_and_then, option_map, slice_get}
use Rattle.std.proofs.lemmas.Bool.{and_parts, eq-eqb, eqb-true}
use Rattle.std.specs.List.{AllByRecursion}
use Rattle.std.specs.Prelude.{unwrap_or}
use Rattle.attempt_ledger.specs.Ends.{is_cut}
use Rattle.attempt_ledger.specs.TransparentRows.{is_unsent}
use Rattle.attempt_ledger.specs.declared.row.Placed.{Placed}
use Rattle.attempt_ledger.specs.declared.row.RowEnd.{RowEnd}
use Rattle.call_actions.specs.Laws.{IsEnding}
use Rattle.call_cases.proofs.EndsFollow.Codes.{ended_code}
use Rattle.call_cases.proofs.EndsFollow.Steps.{placed_of}
use Rattle.channel_actions.proofs.Gone.{all_numbered}
use Rattle.channel_actions.proofs.KeptSessions.Along.{kept_stays}
use Rattle.channel_actions.proofs.Links.Frames.Readers.{readers_still}
use Rattle.channel_actions.proofs.Links.Frames.Streams.{streams_still}
use Rattle.channel_actions.proofs.Links.Frames.NoDifference.{actions_make_no_difference}
use Rattle.channel_actions.proofs.Lines.{all_at_places}
use Rattle.channel_actions.proofs.Stamps.{counted_at, map_same}
use Rattle.channel_actions.specs.GoingCalls.Going.{CallsGoOn}
use Rattle.channel_actions.specs.PrefacedLinks.Prefaced.{LinksArePrefaced}
use Rattle.channel_actions.specs.KeptSessions.Kept.{IsKept}
use Rattle.channel_actions.specs.LinkFrames.Alike.{SeesNoDifference}
use Rattle.channel_actions.specs.LinkFrames.Bears.{bears_on, is_placed_on}
use Rattle.channel_actions.specs.Links.{lines_in}
use Rattle.channel_actions.specs.OwnStreams.Own.{StreamsAreOwn}
use Rattle.end_cases.proofs.AttemptEnds.Unowed.{agrees_ahead}
use Rattle.event_cases.proofs.LostLinks.First.{IsHead, head_is}
use Rattle.event_cases.proofs.LostLinks.News.{IsPlacedOn, placed_on}
use Rattle.event_cases.proofs.LostLinks.Stamped.{stamped_form}
use Rattle.end_cases.specs.AttemptEnds.Ahead.{AgreesAhead, AgreesOffLinks, HasLinkAhead, IsAhead, LinksAhead, is_owed_on, owed_reset, resets_owed}
use Rattle.end_cases.specs.AttemptEnds.Ends.{AreHeld, EndNext, gone_with, is_of_ends, may_wait}
use Rattle.end_cases.specs.AttemptEnds.Runs.{RunsRise}
use Rattle.event_cases.specs.LostLinks.Losses.{LossGoesOn}
use Rattle.channel_core.specs.States.{StateSeen}
use Rattle.channel_core.specs.Steps.{stamped_gone}
use Rattle.channel_core.specs.declared.state.links.LinkSlot.{LinkSlot}
use Rattle.lb_policy.specs.Table.{is_one_of}
use Rattle.link_actions.proofs.Ended.{is_ended}
use Rattle.link_actions.proofs.LossActions.Losses.{link_is, losses_go_in_order, none_is_reset}
use Rattle.link_actions.proofs.Without as lists
use Rattle.link_actions.specs.LossActions.Laws.{IsQuiet, loss_action}
use Rattle.link_actions.specs.LossActions.Sees.{SeesOver, loss_of}
use Rattle.link_actions.specs.ResetActions.Ahead.{SeesAhead}
use Rattle.link_actions.specs.Sees.{AttemptsStandInPlace, by_stream}
use Rattle.session_actions.specs.Actions.{after, after_if, following}
use Rattle.session_actions.specs.AttemptEnds.{attempt_ended, code_at_end, end_of, next_wire_end, reset_code_of, with_end}
use Rattle.session_actions.specs.Attempts.{call_of, is_of, is_outstanding, is_queued}
use Rattle.session_actions.specs.Events.{is_loss}
use Rattle.session_actions.specs.Links.{link_number, link_of, stream_number}
use Rattle.session_actions.specs.Reading.{is_outstanding_on, outstanding_on}
use Rattle.session_actions.specs.Words.{holds, numbered}
use Rattle.session_actions.specs.declared.action.Action.TheVariants as action
use Rattle.session_actions.specs.declared.attempt.Attempt.{Attempt}
use Rattle.session_actions.specs.declared.call.Call.{Call}
use Rattle.session_actions.specs.declared.entry.OpenEntry.{OpenEntry}
use Rattle.session_actions.specs.declared.link.Link.{Link}
use Rattle.session_actions.specs.declared.response.Outcome.{Outcome}
use Rattle.session_actions.specs.declared.seen.Seen.{Seen}
use Rattle.session_order.proofs.Quiescence.{first_line_gives}
use Rattle.session_order.specs.Quiescent.{IsStill}
use Rattle.session_order.specs.Lines.{is_line, rank}
use Rattle.session_order.specs.declared.line.Line.{Line}
use Rattle.session_order.specs.declared.line.Line.TheVariants as line

-- nothing waits but ends by the wire
abbrev pub none_waits : Line → Bool
none_waits l = false

never : (l : Line) → none_waits l ≡ true → may_wait l ≡ true
never l e = absurd (cc)

not_end : (l : Line) → is_of_ends l ≡ false → is_line l line.WireEnd ≡ false
not_end line.Cut e = refl
not_end line.Transparent e = refl
not_end line.Inherited e = refl
not_end line.Row e = refl
not_end line.Final e = refl
not_end line.Cancelled e = refl
not_end line.Request e = refl
not_end line.Overflow e = refl
not_end line.Head e = refl
not_end line.Response e = refl
not_end line.Pick e = absurd (cc)
not_end line.Link e = refl
not_end line.WireEnd e = absurd (cc)
not_end line.Reset e = refl
not_end line.Shut e = refl
not_end line.Retire e = refl
not_end line.Begin e = refl
not_end line.Give e = refl
not_end line.Drop e = refl
not_end line.Add e = refl

pub before_end : (loses : Bool) (m : Line) → nat_lt (rank loses m) (rank loses line.WireEnd) ≡ true → is_line m line.WireEnd ≡ false
before_end true line.WireEnd e = absurd (cc)
before_end false line.WireEnd e = absurd (cc)
before_end loses line.Cut e = refl
before_end loses line.Transparent e = refl
before_end loses line.Inherited e = refl
before_end loses line.Row e = refl
before_end loses line.Final e = refl
before_end loses line.Cancelled e = refl
before_end loses line.Request e = refl
before_end loses line.Overflow e = refl
before_end loses line.Head e = refl
before_end loses line.Response e = refl
before_end loses line.Pick e = refl
before_end loses line.Link e = refl
before_end loses line.Reset e = refl
before_end loses line.Shut e = refl
before_end loses line.Retire e = refl
before_end loses line.Begin e = refl
before_end loses line.Give e = refl
before_end loses line.Drop e = refl
before_end loses line.Add e = refl

-- a loss is no cut
uncut_by : (stream : Option ℕ) → is_cut (loss_of stream).cause ≡ false
uncut_by None = refl
uncut_by (Some n) = refl

-- one that was never sent has no stream
unsent_by : (stream : Option ℕ) → is_unsent (loss_of stream).cause ≡ true → stream ≡ None
unsent_by None e = refl
unsent_by (Some n) e = absurd (cc)

some_call : (o : Option Call) → is_some o ≡ true → (c : Call) × (o ≡ Some c)
some_call None e = absurd (cc)
some_call (Some c) e = (c, refl)

pub lives_by : (own out waits : Bool) → own ≡ true → out ≡ true → (own && (out || waits)) ≡ true
lives_by true true waits e f = refl
lives_by true false waits e f = absurd (cc)
lives_by false out waits e f = absurd (cc)

-- an attempt on another link is not placed on this one
off_by : (n k : ℕ) (p : Option Placed) (at : Placed) → p ≡ Some at → at.link ≡ k → (n ≡ k → ⊥) → holds (λ (q : Placed). q.link == n) p ≡ false
off_by n k None at e here other = absurd (cc)
off_by n k (Some q) at e here other = by_number (q.link == n) refl
  where
    by_number : (b : Bool) → (q.link == n) ≡ b → b ≡ false
    by_number true f = absurd (other (sym (eqb-true q.link n f) ∙ (let same : q ≡ at = (cc) in ap (λ (z : Placed). z.link) same) ∙ here))
    by_number false f = refl

-- one that passes is kept, where it is as it was
kept_off : {X : Type 0} (p q : X → Bool) (x y : X) (ys xs : List X) → p y ≡ q x → (q x ≡ true → y ≡ x) → filter p ys ≡ filter q xs → filter p (y ∷ ys) ≡ filter q (x ∷ xs)
kept_off p q x y ys xs same as_is rest = by (q x) refl
  where
    by : (b : Bool) → q x ≡ b → filter p (y ∷ ys) ≡ filter q (x ∷ xs)
    by true on =
        ap (λ (b : Bool). cond b (y ∷ filter p ys) (filter p ys)) (same ∙ on) ∙ ap (λ (z : _). z ∷ filter p ys) (as_is on) ∙ ap (λ (zs : List _). x ∷ zs) rest
        ∙ sym (ap (λ (b : Bool). cond b (x ∷ filter q xs) (filter q xs)) on)
    by false off =
        ap (λ (b : Bool). cond b (y ∷ filter p ys) (filter p ys)) (same ∙ off) ∙ rest ∙ sym (ap (λ (b : Bool). cond b (x ∷ filter q xs) (filter q xs)) off)

-- the link is over, the responses of its attempts go on, and nothing but that ends an attempt; these lines may wait until it has ended, and the session owes resets of
-- streams on other links
pub record OverGoesOn (waits : Line → Bool) (also : List ℕ) (l : Link) (x : StateSeen) (o : OpenEntry) (s : Seen) : Type 0 where
  pub current : s.current ≡ Some o
  pub late : (m : Line) → waits m ≡ true → may_wait m ≡ true
  pub sooner : (m : Line) → nat_lt (rank (is_loss o.event) m) (rank (is_loss o.event) line.WireEnd) ≡ true → waits m ≡ false
  pub still : (m : Line) → is_line m line.WireEnd ≡ false → waits m ≡ false → IsStill m o s
  pub over : SeesOver l s
  pub quiet : AllByRecursion (IsQuiet l s) s.attempts
  pub agrees : AgreesAhead [] also (stamped_gone l.number x) s
  pub prefaced : LinksArePrefaced s
  pub streams : StreamsAreOwn s
  pub rising : RunsRise s
  pub going : CallsGoOn x
  pub held : AreHeld x

-- of a link that is lost no reset is owed between two ends
pub lost_goes_on : (l : Link) (x : StateSeen) (o : OpenEntry) (s : Seen) → LossGoesOn l x o s → OverGoesOn none_waits [] l x o s
lost_goes_on l x o s is = record {
  current = is.current;
  late = never;
  sooner = λ m before. refl;
  still = λ m off waits. is.still m off;
  over = is.over;
  quiet = is.quiet;
  agrees = agrees_ahead [] (stamped_gone l.number x) s is.agrees is.unreset (is.still line.Reset refl);
  prefaced = is.prefaced;
  streams = is.streams;
  rising = is.rising;
  going = is.going;
  held = is.held;
}

module _ (waits : Line → Bool) (also : List ℕ) (l : Link) (x : StateSeen) (o : OpenEntry) (s : Seen) (is : OverGoesOn waits also l x o s) (a : Attempt)
    (first : slice_get (outstanding_on l s) 0 ≡ Some a) where
  abbrev pub out : Outcome
  out = loss_of a.row.stream

  abbrev pub e : RowEnd
  e = end_of a out s

  abbrev pub t : Seen
  t = attempt_ended a.place e s

  pub head : IsHead (is_outstanding_on l) s.attempts a
  head = head_is (is_outstanding_on l) s.attempts a first

  kept : IsKept s
  kept = is.agrees.books.kept

  pub places : AttemptsStandInPlace 1 s.attempts
  places = is.over.places

  place : a.place ≡ suc head.index
  place = lists.place_is (suc head.index) s.attempts a places head.there

  pub there : numbered s.attempts a.place ≡ Some a
  there = ap (numbered s.attempts) place ∙ head.there

  p : IsPlacedOn l a
  p = placed_on l a head.passes

  parts : (is_outstanding a ≡ true) × (holds (λ (at : Placed). at.link == l.number) a.row.placed ≡ true)
  parts = and_parts (is_outstanding a) (holds (λ (at : Placed). at.link == l.number) a.row.placed) head.passes

  its_call : (c : Call) × (numbered s.calls a.row.call ≡ Some c)
  its_call = some_call (numbered s.calls a.row.call) (all_numbered (λ (b : Attempt). is_some (call_of b s)) s.attempts a.place a there kept.owned)

  abbrev c : Call
  c = its_call.0

  own : is_of c a ≡ true
  own = ap (λ (n : ℕ). a.row.call == n) (counted_at (λ (d : Call). d.number) s.calls a.row.call c kept.calls its_call.1) ∙ same_number a.row.call
    where
      same_number : (n : ℕ) → (n == n) ≡ true
      same_number n = eq-eqb n n refl

  ending : IsEnding s c a.place a out
  ending = record {
    there = there;
    own = own;
    lives = lives_by (is_of c a) (is_outstanding a) (is_queued a s) own parts.0;
    uncut = uncut_by a.row.stream;
  }

  gives : next_wire_end s ≡ Some (action.AttemptEnds a.place e)
  gives = losses_go_in_order l s is.over is.quiet ∙ ap (option_map (loss_action s)) first

  pub next : following s ≡ Some (action.AttemptEnds a.place e)
  next =
      first_line_gives line.WireEnd (action.AttemptEnds a.place e) o s is.current
      (λ m before. is.still m (before_end (is_loss o.event) m before) (is.sooner m before)) gives

  after_is : after (action.AttemptEnds a.place e) s ≡ t
  after_is = ap (λ (q : Option OpenEntry). after_if q (action.AttemptEnds a.place e) s) is.current

  pub kept_t : IsKept t
  kept_t = subst IsKept after_is (kept_stays s (action.AttemptEnds a.place e) kept next)

  -- the books
  books : AgreesOffLinks (gone_with a.row.placed x) s
  books =
      subst (λ (z : StateSeen). AgreesOffLinks z s)
      (sym (ap (λ (q : Option Placed). gone_with q x) p.placed ∙ ap (λ (n : ℕ). stamped_gone n x) p.link))
      is.agrees.books

  -- no reset is owed: the stream of the attempt is on a link that is over
  links_same : t.links ≡ s.links
  links_same = ap (λ (v : Seen). v.links) (is_ended s a.place e a places there)

  attempts_are : t.attempts ≡ map (lists.at_place (with_end e) a.place) s.attempts
  attempts_are = ap (λ (v : Seen). v.attempts) (is_ended s a.place e a places there) ∙ lists.changed_at (with_end e) a.place s.attempts a places there

  code_of : (b : Attempt) → reset_code_of t b ≡ reset_code_of s b
  code_of b = ended_code s a.place a e places there b

  ended_link : link_of (with_end e a) t ≡ Some l
  ended_link =
      ap (λ (ls : List Link). option_and_then (λ (at : Placed). numbered ls at.link) a.row.placed) links_same ∙ link_is l s a is.over.at head.passes

  own_code : reset_code_of t (with_end e a) ≡ None
  own_code = none_is_reset l t (with_end e a) ended_link is.over.over

  -- what is owed is as before: the attempt goes on, and owes none then
  owed_by : (m : Link) (b : Attempt) (c : Bool) → (b.place == a.place) ≡ c → numbered s.attempts b.place ≡ Some b
      → (is_owed_on m t (if c then with_end e b else b) ≡ is_owed_on m s b) × (is_owed_on m s b ≡ true → c ≡ false)
  owed_by m b true same at =
      let one : b ≡ a = one_of b same at in
      let none_t : is_owed_on m t (with_end e b) ≡ false
      = ap (λ (q : Option ℕ). is_some q && (link_number b == m.number)) (ap (λ (z : Attempt). reset_code_of t (with_end e z)) one ∙ own_code) in
      let none_s : is_owed_on m s b ≡ false
      = ap (λ (q : Option ℕ). is_some q && (link_number b == m.number))
      (ap (reset_code_of s) one ∙ ap (λ (q : Option RowEnd). option_and_then (code_at_end a s) q) p.going) in
      (none_t ∙ sym none_s, λ on. absurd (let bad : true ≡ false = sym on ∙ none_s in (cc)))
    where
      one_of : (b : Attempt) → (b.place == a.place) ≡ true → numbered s.attempts b.place ≡ Some b → b ≡ a
      one_of b same at =
          let both : Some b ≡ Some a = sym at ∙ ap (numbered s.attempts) (eqb-true b.place a.place same) ∙ there in let z : b ≡ a = (cc) in z
  owed_by m b false same at = (ap (λ (q : Option ℕ). is_some q && (link_number b == m.number)) (code_of b), λ on. refl)

  owed_all : (m : Link) (xs : List Attempt) → ((i : ℕ) (b : Attempt) → slice_get xs i ≡ Some b → numbered s.attempts b.place ≡ Some b)
      → filter (is_owed_on m t) (map (lists.at_place (with_end e) a.place) xs) ≡ filter (is_owed_on m s) xs
  owed_all m [] each = refl
  owed_all m (b ∷ xs) each =
      let k = owed_by m b (b.place == a.place) refl (each 0 b refl) in
      kept_off (is_owed_on m t) (is_owed_on m s) b (lists.at_place (with_end e) a.place b) (map (lists.at_place (with_end e) a.place) xs) xs k.0
      (λ on. ap (λ (c : Bool). if c then with_end e b else b) (k.1 on)) (owed_all m xs (λ i d at. each (suc i) d at))

  pub owed_same : (m : Link) → resets_owed m t ≡ resets_owed m s
  owed_same m =
      ap (λ (xs : List Attempt). map (owed_reset t) (by_stream (filter (is_owed_on m t) xs))) attempts_are
      ∙ ap (λ (xs : List Attempt). map (owed_reset t) (by_stream xs)) (owed_all m s.attempts (λ i b at.
      let place_b : b.place ≡ suc i = lists.place_is (suc i) s.attempts b places at in ap (numbered s.attempts) place_b ∙ at))
      ∙ map_same (owed_reset t) (owed_reset s) (λ b. ap (λ (q : Option ℕ). (stream_number b, unwrap_or q 0)) (code_of b)) (by_stream (filter (is_owed_on m s) s.attempts))

  -- the links
  x_links : (stamped_gone l.number x).links ≡ x.links
  x_links = ap (λ (z : StateSeen). z.links) (stamped_form l.number x)

  no_difference : SeesNoDifference (bears_on (action.AttemptEnds a.place e) s) s t
  no_difference = subst (SeesNoDifference (bears_on (action.AttemptEnds a.place e) s) s) after_is (actions_make_no_difference (action.AttemptEnds a.place e) s kept tt)

  placed_t : AttemptsStandInPlace 1 t.attempts
  placed_t = placed_of 1 t.attempts kept_t.book.places

  apart : (m : Link) → (m.number ≡ l.number → ⊥) → bears_on (action.AttemptEnds a.place e) s m.number ≡ false
  apart m other = ap (holds (is_placed_on m.number)) there ∙ off_by m.number l.number a.row.placed p.at p.placed p.link other

  ahead_one : (m : Link) (slot : LinkSlot) → numbered s.links m.number ≡ Some m → m.over ≡ None → IsAhead m s slot → IsAhead m t slot
  ahead_one m slot at goes k =
      let other : m.number ≡ l.number → ⊥ = is_other m at goes in
      let at_t : numbered t.links m.number ≡ Some m = ap (λ (ls : List Link). numbered ls m.number) links_same ∙ at in
      record {
        streams = subst (λ (rs : List (ℕ × ℕ)). SeesAhead rs m t slot.link.link.wire (lines_in m t)) (sym (owed_same m))
            (record {
              wire = k.streams.wire;
              sees = streams_still m m s t (bears_on (action.AttemptEnds a.place e) s) (apart m other) kept.owned (all_at_places t.attempts kept_t.attempts) no_difference.attempts
                  k.streams.wire (lines_in m s) (record { number = refl; traffic_ = refl; owed = refl }) k.streams.sees at_t placed_t;
              same = k.streams.same;
              queue = k.streams.queue;
            });
        readers = readers_still (bears_on (action.AttemptEnds a.place e) s) m m s t refl refl at at_t (apart m other) slot.link.readers kept.owned no_difference.attempts k.readers;
        rest = k.rest;
        fresh = k.fresh ∙ sym (ap (λ (rs : List (ℕ × ℕ)). length rs) (owed_same m));
      }
    where
      is_other : (m : Link) → numbered s.links m.number ≡ Some m → m.over ≡ None → m.number ≡ l.number → ⊥
      is_other m at goes same =
          let both : Some m ≡ Some l = sym at ∙ ap (numbered s.links) same ∙ is.over.at in
          let one : m ≡ l = (cc) in
          let bad : false ≡ true = sym (ap (λ (q : Option _). is_some q) goes) ∙ ap (λ (z : Link). is_some z.over) one ∙ is.over.over in
          absurd (cc)

  has_ahead : (n : ℕ) (m : Link) → numbered t.links n ≡ Some m → HasLinkAhead x t m n
  has_ahead n m at =
      let at_s : numbered s.links n ≡ Some m = ap (λ (ls : List Link). numbered ls n) (sym links_same) ∙ at in
      let h : HasLinkAhead (stamped_gone l.number x) s m n = is.agrees.links.each n m at_s in
      let own_n : m.number ≡ n = counted_at (λ (q : Link). q.number) s.links n m kept.links at_s in
      record {
        slot = h.slot;
        there = ap (λ (ls : List LinkSlot). numbered ls n) (sym x_links) ∙ h.there;
        sees = record {
          over = h.sees.over;
          retiring = h.sees.retiring;
          going = λ goes. ahead_one m h.slot (ap (numbered s.links) own_n ∙ at_s) goes (h.sees.going goes);
        };
      }

  x_resets : (stamped_gone l.number x).resets ≡ x.resets
  x_resets = ap (λ (z : StateSeen). z.resets) (stamped_form l.number x)

  links : LinksAhead also x t
  links = record {
    count = ap (λ (ls : List Link). length ls) links_same ∙ is.agrees.links.count ∙ ap (λ (ls : List LinkSlot). length ls) x_links;
    each = has_ahead;
    closing = λ n m at off.
        owed_same m
        ∙ is.agrees.links.closing n m (ap (λ (ls : List Link). numbered ls n) (sym links_same) ∙ at)
        (ap (λ (rs : List ℕ). is_one_of (also ++ rs) n) x_resets ∙ off);
  }

  pub end_next : EndNext [] waits also a out x o s
  end_next = record {
    late = is.late;
    current = is.current;
    call = c;
    there = its_call.1;
    ending = ending;
    next = next;
    still = λ m off waits. is.still m (not_end m off) waits;
    books = books;
    links = links;
    among = refl;
    unreset = is.agrees.unreset;
    apart = is.streams.apart;
    rising = is.rising;
    going = is.going;
    held = λ follows. is.held;
    unsent = λ none. (ap (λ (q : Option Placed). is_some q) p.placed, unsent_by a.row.stream none);
  }
