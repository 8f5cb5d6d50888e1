-- The streams of the attempts that were cut off are reset, by link and stream, and each link catches up with the session.
use Rattle.std.proofs.Common.{◌≡◌, ◌∷◌, ◌||◌, ◌&&◌, ◌==◌, ap, arith, refl, subst, sym, ◌∙◌, Bool, true, false, List, [], Option, None, Some, ℕ, zero, suc, drop, filter, if◌then◌else◌, is_none, is_some, length, map, nat_le, nat_lt, slice_get, slice_set, unwrap_or}
use Rattle.std.proofs.lemmas.Bool.{and_parts, eqb-false, eqb-true}
use Rattle.std.proofs.lemmas.Bool.Decides.{nat_tests}
use Rattle.std.specs.List.{AllByRecursion, list_all}
use Rattle.std.specs.Option.{option_and_then, option_map, option_map_or}
use Rattle.attempt_ledger.specs.declared.row.RowEnd.{RowEnd}
use Rattle.call_actions.proofs.CallsApart.Moves.{all_changed}
use Rattle.channel_actions.proofs.Gone.{all_numbered}
use Rattle.channel_actions.proofs.Lines.{AtPlace, all_at_places}
use Rattle.channel_actions.specs.Links.{line_of, lines_in, no_line}
use Rattle.channel_core.specs.declared.state.links.LinkSlot.{LinkSlot}
use Rattle.grpc_base.specs.ErrorCodes.{cancel}
use Rattle.grpc_link.specs.declared.readers.TagReader.{TagReader}
use Rattle.h2_frame.specs.Frames.{FrameSeen}
use Rattle.h2_frame.specs.Sent.{rst_stream_frame}
use Rattle.h2_link.specs.Feeds.{Line}
use Rattle.h2_link.specs.Wire.{Wire}
use Rattle.link_actions.proofs.Without as lists
use Rattle.link_actions.proofs.Without.{at_place, places_at}
use Rattle.link_actions.specs.Laws.{with_owed}
use Rattle.link_actions.specs.Sees.{AttemptsStandInPlace, IsFed}
use Rattle.call_cases.proofs.EndsFollow.Codes.{is_cancel, queued_code, reset_code, response_reset}
use Rattle.call_cases.proofs.LinkEnds.Codes.{with_code}
use Rattle.call_cases.proofs.LinkEnds.Cutting.{counted_places, filter_same, is_owed_on, owed_on}
use Rattle.call_cases.proofs.EndsFollow.Streams.{IsForemost, is_foremost, loses, no_foremost, none_sorted, put, put_first, put_left, put_long, by_stream_order, sorted_by, sorted_low, stays_out}
use Rattle.call_cases.specs.EndsFollow.Cuts.{StreamsAreReset, NoStreamIsToReset, is_unreset}
use Rattle.link_actions.proofs.LossActions.Calls.{changed_any}
use Rattle.link_actions.proofs.ResetActions.Cuts.{none_is_left, resets_catch_up}
use Rattle.link_actions.specs.ResetActions.Ahead.{SeesAhead}
use Rattle.link_actions.proofs.ResponseActions.Taken.{readers_are_left}
use Rattle.link_actions.specs.ResponseActions.Laws.{IsSameResponse, ReadsAlike}
use Rattle.link_actions.specs.ResponseActions.Readers.{SeesReaders, attempt_on}
use Rattle.session_actions.specs.Actions.{after, after_if}
use Rattle.session_actions.specs.AttemptEnds.{next_reset, reset_code_of, reset_of, stream_reset, stream_reset_of, with_reset_queued}
use Rattle.session_actions.specs.Attempts.{call_of}
use Rattle.session_actions.specs.Links.{is_retiring, is_stream_before, link_number, read_bytes, stream_number}
use Rattle.session_actions.specs.Reading.{is_outstanding_on}
use Rattle.session_actions.specs.Words.{changed, changed_if, foremost, holds, numbered}
use Rattle.session_actions.specs.declared.action.Action.{Action}
use Rattle.session_actions.specs.declared.action.Action.TheVariants as action
use Rattle.session_actions.specs.declared.attempt.Attempt.{Attempt}
use Rattle.session_actions.specs.declared.call.Call.{Call}
use Rattle.session_actions.specs.declared.entry.OpenEntry.{OpenEntry}
use Rattle.session_actions.specs.declared.link.Link.{Link}
use Rattle.session_actions.specs.declared.response.Response.{Response}
use Rattle.session_actions.specs.declared.seen.Seen.{Seen}
use Rattle.session_order.proofs.Changed.{changed_away}
use Rattle.link_actions.proofs.SteadyLinks.Calls.{AreAllFed, all_are_fed}
use Rattle.link_actions.proofs.SteadyLinks.Left.{links_are_left}
use Rattle.link_actions.specs.SteadyLinks.Same.{LinesAreSameOn, IsSameOn}
use Rattle.link_actions.specs.StreamActions.Sees.{SeesStreams}

-- by links and streams
low_of : (k s l t n : ℕ) → (l == n) ≡ true → (k == n) ≡ true → (nat_lt k l || ((k == l) && nat_lt s t)) ≡ false → nat_le t s ≡ true
low_of k s l t n e f h = grind (arith, nat_tests, e, f, h)

-- an attempt whose stream is to be reset has ended, and has a stream
pub record IsOwed (a : Attempt) : Type 0 where
  pub end : RowEnd
  pub ended : a.row.ended ≡ Some end
  pub stream : a.row.stream ≡ Some (stream_number a)

owed_by : (F : RowEnd → ℕ → Option ℕ) (a : Attempt) (o : Option RowEnd) (p : Option ℕ) (c : ℕ) → a.row.ended ≡ o → a.row.stream ≡ p
    → option_and_then (λ (e : RowEnd). option_and_then (F e) p) o ≡ Some c → IsOwed a
owed_by F a None p c e f is = absurd (cc)
owed_by F a (Some end) None c e f is = absurd (cc)
owed_by F a (Some end) (Some n) c e f is =
    record { end = end; ended = e; stream = f ∙ ap (λ (k : ℕ). Some k) (sym (ap (λ (o : Option ℕ). unwrap_or o 0) f)) }

pub is_owed : (s : Seen) (a : Attempt) (c : ℕ) → reset_code_of s a ≡ Some c → IsOwed a
is_owed s a c is = owed_by _ a a.row.ended a.row.stream c refl refl is

-- one link, while it catches up
pub record CatchesUp (l : Link) (s : Seen) (slot : LinkSlot) : Type 0 where
  pub lines : ℕ → Line
  pub ahead : SeesAhead (with_code cancel (owed_on l.number s)) l s slot.link.link.wire lines
  pub readers : SeesReaders l s slot.link.readers
  pub rest : drop (read_bytes l) l.received ≡ slot.link.link.rest
  pub closed : slot.link.link.wire.queue.fresh ≡ 0

pub record HasToCatchUp (links : List LinkSlot) (s : Seen) (l : Link) (number : ℕ) : Type 0 where
  pub own : l.number ≡ number
  pub slot : LinkSlot
  pub there : numbered links number ≡ Some slot
  pub over : is_some l.over ≡ slot.dead
  pub retiring : is_retiring l ≡ slot.retiring
  pub going : l.over ≡ None → CatchesUp l s slot

pub record CatchUp (links : List LinkSlot) (s : Seen) : Type 0 where
  pub count : length s.links ≡ length links
  pub each : (number : ℕ) (l : Link) → numbered s.links number ≡ Some l → HasToCatchUp links s l number
  pub opened : is_some s.current ≡ true
  pub places : AttemptsStandInPlace 1 s.attempts
  pub cancels : list_all (λ (b : Attempt). is_cancel (reset_code_of s b)) s.attempts ≡ true
  pub unreset : NoStreamIsToReset s

-- a change of one thing leaves the length
set_length : {X : Type 0} (xs : List X) (i : ℕ) (z : X) → length (slice_set xs i z) ≡ length xs
set_length [] i z = refl
set_length (x ∷ xs) zero z = refl
set_length (x ∷ xs) (suc i) z = ap suc (set_length xs i z)

all_set : {X : Type 0} (p : X → Bool) (xs : List X) (i : ℕ) (v : X) → list_all p xs ≡ true → p v ≡ true → list_all p (slice_set xs i v) ≡ true
all_set p [] i v e h = refl
all_set p (x ∷ xs) zero v e h = ap (λ (b : Bool). b && list_all p xs) h ∙ (and_parts (p x) (list_all p xs) e).1
all_set p (x ∷ xs) (suc i) v e h =
    let parts : (p x ≡ true) × (list_all p xs ≡ true) = and_parts (p x) (list_all p xs) e in
    ap (λ (b : Bool). b && list_all p (slice_set xs i v)) parts.0 ∙ all_set p xs i v parts.1 h

changed_length : {X : Type 0} (f : X → X) (n : ℕ) (xs : List X) → length (changed f n xs) ≡ length xs
changed_length f zero xs = refl
changed_length f (suc i) xs = length_by (slice_get xs i)
  where
    length_by : (o : Option _) → length (changed_if f (suc i) xs o) ≡ length xs
    length_by None = refl
    length_by (Some x) = set_length xs i (f x)

-- one is reset
module _ (s : Seen) (a : Attempt) (index : ℕ) (at : slice_get s.attempts index ≡ Some a) (code : reset_code_of s a ≡ Some cancel) (places : AttemptsStandInPlace 1 s.attempts)
    (first : (i : ℕ) (x : Attempt) → slice_get s.attempts i ≡ Some x → is_some (reset_code_of s x) ≡ true → is_stream_before x a ≡ false) where
  abbrev frames : List FrameSeen
  frames = rst_stream_frame (stream_number a) cancel ∷ []

  abbrev owing : Link → Link
  owing l = with_owed frames l

  abbrev pub u : Seen
  u = stream_reset_of cancel s a

  place : a.place ≡ suc index
  place = lists.place_is (suc index) s.attempts a places at

  there : numbered s.attempts a.place ≡ Some a
  there = ap (numbered s.attempts) place ∙ at

  pub reset_is : stream_reset a.place cancel s ≡ u
  reset_is = ap (λ (o : Option Attempt). option_map_or (stream_reset_of cancel s) o s) there

  attempts_are : u.attempts ≡ slice_set s.attempts index (with_reset_queued a)
  attempts_are = ap (λ (k : ℕ). changed with_reset_queued k s.attempts) place ∙ ap (changed_if with_reset_queued (suc index) s.attempts) at

  codes : (b : Attempt) → reset_code_of u b ≡ reset_code_of s b
  codes b = reset_code s a cancel b

  test_same : (link : ℕ) (b : Attempt) → is_owed_on link u b ≡ is_owed_on link s b
  test_same link b = ap (λ (o : Option ℕ). is_some o && (link_number b == link)) (codes b)

  all_same : (link : ℕ) → sorted_by stream_number (filter (is_owed_on link u) s.attempts) ≡ owed_on link s
  all_same link = ap (sorted_by stream_number) (filter_same (is_owed_on link u) (is_owed_on link s) (test_same link) s.attempts)

  done : (link : ℕ) → is_owed_on link u (with_reset_queued a) ≡ false
  done link = ap (λ (o : Option ℕ). is_some o && (link_number a == link)) (codes (with_reset_queued a) ∙ queued_code s a)

  was : (link : ℕ) (b : Bool) → (link_number a == link) ≡ b → is_owed_on link u a ≡ b
  was link b e = ap (λ (o : Option ℕ). is_some o && (link_number a == link)) (codes a ∙ code) ∙ e

  -- on another link nothing changes; on its own it was the first
  pub owed_elsewhere : (link : ℕ) → (link_number a == link) ≡ false → owed_on link u ≡ owed_on link s
  owed_elsewhere link other =
      ap (λ (l : List Attempt). sorted_by stream_number (filter (is_owed_on link u) l)) attempts_are
      ∙ stays_out stream_number (is_owed_on link u) s.attempts index a (with_reset_queued a) at (was link false other) (done link) ∙ all_same link

  one_less : (link : ℕ) → (link_number a == link) ≡ true → owed_on link s ≡ put (stream_number a) (owed_on link u)
  one_less link own =
      sym (all_same link) ∙ loses stream_number (is_owed_on link u) s.attempts index a (with_reset_queued a) at (was link true own) (done link)
      ∙ ap (λ (l : List Attempt). put (stream_number a) (sorted_by stream_number (filter (is_owed_on link u) l))) (sym attempts_are)

  lowest : (link : ℕ) → (link_number a == link) ≡ true → list_all (nat_le (stream_number a)) (owed_on link s) ≡ true
  lowest link own =
      sorted_low stream_number (is_owed_on link s) (stream_number a) s.attempts
      (λ i x here passes.
      let parts : (is_some (reset_code_of s x) ≡ true) × ((link_number x == link) ≡ true) = and_parts (is_some (reset_code_of s x)) (link_number x == link) passes in
      low_of (link_number x) (stream_number x) (link_number a) (stream_number a) link own parts.1 (first i x here parts.0))

  pub owed_here : (link : ℕ) → (link_number a == link) ≡ true → owed_on link s ≡ stream_number a ∷ owed_on link u
  owed_here link own =
      let less : owed_on link s ≡ put (stream_number a) (owed_on link u) = one_less link own in
      let low : list_all (nat_le (stream_number a)) (owed_on link u) ≡ true
      = put_left (stream_number a) (stream_number a) (owed_on link u) (ap (list_all (nat_le (stream_number a))) (sym less) ∙ lowest link own) in
      less ∙ put_first (stream_number a) (owed_on link u) low

  -- all that are owed are one less
  abbrev pub size : Seen → ℕ
  size v = length (sorted_by stream_number (filter (λ (b : Attempt). is_some (reset_code_of v b)) v.attempts))

  pub size_less : size s ≡ suc (size u)
  size_less =
      let same : filter (λ (b : Attempt). is_some (reset_code_of u b)) s.attempts ≡ filter (λ (b : Attempt). is_some (reset_code_of s b)) s.attempts
      = filter_same (λ (b : Attempt). is_some (reset_code_of u b)) (λ (b : Attempt). is_some (reset_code_of s b)) (λ b. ap (λ (o : Option ℕ). is_some o) (codes b)) s.attempts in
      let gone : sorted_by stream_number (filter (λ (b : Attempt). is_some (reset_code_of u b)) s.attempts)
      ≡ put (stream_number a) (sorted_by stream_number (filter (λ (b : Attempt). is_some (reset_code_of u b)) (slice_set s.attempts index (with_reset_queued a))))
      = loses stream_number (λ (b : Attempt). is_some (reset_code_of u b)) s.attempts index a (with_reset_queued a) at (ap (λ (o : Option ℕ). is_some o) (codes a ∙ code))
      (ap (λ (o : Option ℕ). is_some o) (codes (with_reset_queued a) ∙ queued_code s a)) in
      ap (λ (l : List Attempt). length (sorted_by stream_number l)) (sym same) ∙ ap length gone
      ∙ put_long (stream_number a) (sorted_by stream_number (filter (λ (b : Attempt). is_some (reset_code_of u b)) (slice_set s.attempts index (with_reset_queued a))))
      ∙ ap (λ (l : List Attempt). suc (length (sorted_by stream_number (filter (λ (b : Attempt). is_some (reset_code_of u b)) l)))) (sym attempts_are)

  -- readers
  limit_same : (x : Attempt) → IsSameResponse s u x x
  limit_same x = record {
    stream = refl;
    head = ap (λ (p : Response). is_some p.head) (response_reset s a cancel x);
    rest = ap (λ (p : Response). p.rest) (response_reset s a cancel x);
    limit = refl;
  }

  same_queued : (x : Attempt) → IsSameResponse s u x (with_reset_queued x)
  same_queued x = record {
    stream = refl;
    head = ap (λ (p : Response). is_some p.head) (response_reset s a cancel x);
    rest = ap (λ (p : Response). p.rest) (response_reset s a cancel x);
    limit = refl;
  }

  alike_on : (l : Link) (x : Attempt) (b c : Bool)
      → ReadsAlike s u (if b then Some x else None) (if b then Some (if c then with_reset_queued x else x) else None)
  alike_on l x true true = same_queued x
  alike_on l x true false = limit_same x
  alike_on l x false c = tt

  out_same : (m l : Link) (x : Attempt) (c : Bool) → m.number ≡ l.number → is_outstanding_on m (if c then with_reset_queued x else x) ≡ is_outstanding_on l x
  out_same m l x true e = ap (λ (n : ℕ). (is_some x.row.placed && is_none x.row.ended) && holds (λ at. at.link == n) x.row.placed) e
  out_same m l x false e = ap (λ (n : ℕ). (is_some x.row.placed && is_none x.row.ended) && holds (λ at. at.link == n) x.row.placed) e

  alike_by : (m l : Link) (row : ℕ) (o : Option Attempt) → m.number ≡ l.number
      → ReadsAlike s u (option_and_then (λ (x : Attempt). if is_outstanding_on l x then Some x else None) o)
      (option_and_then (λ (x : Attempt). if is_outstanding_on m x then Some x else None) (option_map (λ (x : Attempt). if row == a.place then with_reset_queued x else x) o))
  alike_by m l row None e = tt
  alike_by m l row (Some x) e =
      subst (λ (b : Bool). ReadsAlike s u (if is_outstanding_on l x then Some x else None) (if b then Some (if row == a.place then with_reset_queued x else x) else None))
      (sym (out_same m l x (row == a.place) e)) (alike_on l x (is_outstanding_on l x) (row == a.place))

  pub readers_still : (m l : Link) (readers : List TagReader) → m.number ≡ l.number → SeesReaders l s readers → SeesReaders m u readers
  readers_still m l readers e is =
      readers_are_left l m s u readers is
      (λ row. subst (λ (o : Option Attempt). ReadsAlike s u (attempt_on l s row) (option_and_then (λ (x : Attempt). if is_outstanding_on m x then Some x else None) o))
      (sym (changed_any with_reset_queued a.place row s.attempts)) (alike_by m l row (numbered s.attempts row) e))

  -- another link
  same_one : (l : Link) (g : ℕ → Line) (x : Attempt) (b : Bool) → (is_outstanding_on l x ≡ true → IsFed l s x (g x.place)) → IsSameOn l l s u g x (if b then with_reset_queued x else x)
  same_one l g x true fed = record {
    place = refl;
    placed = refl;
    stream = refl;
    ended = refl;
    limit = λ on. refl;
    fed = λ on. let f = fed on in record { call = f.call; call_is = f.call_is; fields = f.fields; written = f.written; left = f.left; finished = f.finished };
  }
  same_one l g x false fed = record {
    place = refl;
    placed = refl;
    stream = refl;
    ended = refl;
    limit = λ on. refl;
    fed = λ on. let f = fed on in record { call = f.call; call_is = f.call_is; fields = f.fields; written = f.written; left = f.left; finished = f.finished };
  }

  same_all : (l : Link) (g : ℕ → Line) (xs : List Attempt) → AreAllFed l s g xs → LinesAreSameOn l l s u g xs (map (at_place with_reset_queued a.place) xs)
  same_all l g [] fed = tt
  same_all l g (x ∷ xs) fed = (same_one l g x (x.place == a.place) fed.0, same_all l g xs fed.1)

  listed : u.attempts ≡ map (at_place with_reset_queued a.place) s.attempts
  listed = lists.changed_at with_reset_queued a.place s.attempts a places there

  pub placed_still : AttemptsStandInPlace 1 u.attempts
  placed_still = subst (AttemptsStandInPlace 1) (sym listed) (places_at with_reset_queued (λ b. refl) a.place 1 s.attempts places)

  streams_elsewhere : (l : Link) (w : Wire) (g : ℕ → Line) → (l.number ≡ link_number a → ⊥) → SeesStreams l s w g → SeesStreams l u w g
  streams_elsewhere l w g other is =
      links_are_left l l s u w g g is (record { number = refl; traffic_ = refl; owed = refl })
      (changed_away owing (link_number a) l.number s.links other ∙ is.sees.at)
      (subst (LinesAreSameOn l l s u g s.attempts) (sym listed) (same_all l g s.attempts (all_are_fed l s w g is.sees))) placed_still

  pub ahead_elsewhere : (resets : List (ℕ × ℕ)) (l : Link) (w : Wire) (g : ℕ → Line) → (l.number ≡ link_number a → ⊥) → SeesAhead resets l s w g → SeesAhead resets l u w g
  ahead_elsewhere resets l w g other is =
      record { wire = is.wire; sees = streams_elsewhere l is.wire g other is.sees; same = is.same; queue = is.queue }

  -- each link
  module _ (links : List LinkSlot) where
    afterwards_by : (l : Link) (slot : LinkSlot) (b : Bool) → (link_number a == l.number) ≡ b → CatchesUp l s slot → CatchesUp (if b then owing l else l) u slot
    afterwards_by l slot true e is =
        let owed : IsOwed a = is_owed s a cancel code in
        let number : link_number a ≡ l.number = eqb-true (link_number a) l.number e in
        let more : SeesAhead ((stream_number a, cancel) ∷ with_code cancel (owed_on l.number u)) l s slot.link.link.wire is.lines
        = subst (λ (ns : List ℕ). SeesAhead (with_code cancel ns) l s slot.link.link.wire is.lines) (owed_here l.number e) is.ahead in
        record {
          lines = is.lines;
          ahead = subst (λ (v : Seen). SeesAhead (with_code cancel (owed_on l.number u)) (owing l) v slot.link.link.wire is.lines) reset_is
              (resets_catch_up (with_code cancel (owed_on l.number u)) l s slot.link.link.wire is.lines a.place (stream_number a) cancel a owed.end more there owed.ended owed.stream number);
          readers = readers_still (owing l) l slot.link.readers refl is.readers;
          rest = is.rest;
          closed = is.closed;
        }
    afterwards_by l slot false e is = record {
      lines = is.lines;
      ahead = subst (λ (ns : List ℕ). SeesAhead (with_code cancel ns) l u slot.link.link.wire is.lines) (sym (owed_elsewhere l.number e))
          (ahead_elsewhere (with_code cancel (owed_on l.number s)) l slot.link.link.wire is.lines (λ same. eqb-false (link_number a) l.number e (sym same)) is.ahead);
      readers = readers_still l l slot.link.readers refl is.readers;
      rest = is.rest;
      closed = is.closed;
    }

    has_by : (l : Link) (number : ℕ) (b : Bool) → (link_number a == l.number) ≡ b → HasToCatchUp links s l number → HasToCatchUp links u (if b then owing l else l) number
    has_by l number true e is = record {
      own = is.own;
      slot = is.slot;
      there = is.there;
      over = is.over;
      retiring = is.retiring;
      going = λ goes. afterwards_by l is.slot true e (is.going goes);
    }
    has_by l number false e is = record {
      own = is.own;
      slot = is.slot;
      there = is.there;
      over = is.over;
      retiring = is.retiring;
      going = λ goes. afterwards_by l is.slot false e (is.going goes);
    }

    found_by : (number : ℕ) (o : Option Link) (m : Link) → numbered s.links number ≡ o → option_map (λ (l : Link). if number == link_number a then owing l else l) o ≡ Some m
        → ((l : Link) → numbered s.links number ≡ Some l → HasToCatchUp links s l number) → HasToCatchUp links u m number
    found_by number None m e is each = absurd (cc)
    found_by number (Some l) m e is each =
        let has : HasToCatchUp links s l number = each l e in
        let turned : (link_number a == l.number) ≡ (number == link_number a)
        = ap (λ (n : ℕ). link_number a == n) has.own ∙ swapped (link_number a) number in
        let same : (if number == link_number a then owing l else l) ≡ m = (cc) in
        subst (λ (k : Link). HasToCatchUp links u k number) same (has_by l number (number == link_number a) turned has)
      where
        swapped : (m n : ℕ) → (m == n) ≡ (n == m)
        swapped m n = grind (arith, nat_tests)

    cancel_same : (xs : List Attempt) → list_all (λ (b : Attempt). is_cancel (reset_code_of u b)) xs ≡ list_all (λ (b : Attempt). is_cancel (reset_code_of s b)) xs
    cancel_same [] = refl
    cancel_same (b ∷ xs) =
        ap (λ (o : Option ℕ). is_cancel o && list_all (λ (b : Attempt). is_cancel (reset_code_of u b)) xs) (codes b)
        ∙ ap (λ (c : Bool). is_cancel (reset_code_of s b) && c) (cancel_same xs)

    ended_now : is_unreset (with_reset_queued a) ≡ true
    ended_now = ap (λ (o : Option RowEnd). is_some o || false) (is_owed s a cancel code).ended

    pub after_still : CatchUp links s → CatchUp links u
    after_still is = record {
      count = changed_length owing (link_number a) s.links ∙ is.count;
      each = λ number m e.
          found_by number (numbered s.links number) m refl (sym (changed_any owing (link_number a) number s.links) ∙ e) (λ l here. is.each number l here);
      opened = is.opened;
      places = placed_still;
      cancels = all_changed (λ (b : Attempt). is_cancel (reset_code_of u b)) with_reset_queued (λ b e. ap is_cancel (codes (with_reset_queued b) ∙ queued_code s b)) a.place s.attempts
          (cancel_same s.attempts ∙ is.cancels);
      unreset = subst (λ (xs : List Attempt). list_all is_unreset xs ≡ true) (sym attempts_are) (all_set is_unreset s.attempts index (with_reset_queued a) is.unreset ended_now);
    }

-- all of them
pub record HasReset (links : List LinkSlot) (s : Seen) : Type 0 where
  pub actions : List Action
  pub seen : Seen
  pub resets : StreamsAreReset actions s seen
  pub afterwards : CatchUp links seen
  pub none : (i : ℕ) (x : Attempt) → slice_get seen.attempts i ≡ Some x → is_some (reset_code_of seen x) ≡ false

cancel_of : (o : Option ℕ) → is_some o ≡ true → is_cancel o ≡ true → o ≡ Some cancel
cancel_of None e h = absurd (cc)
cancel_of (Some n) e h = ap (λ (k : ℕ). Some k) (eqb-true n cancel h)

after_by : (o : Option OpenEntry) (place : ℕ) (s : Seen) → is_some o ≡ true → after_if o (action.StreamReset place cancel) s ≡ stream_reset place cancel s
after_by None place s e = absurd (cc)
after_by (Some o) place s e = refl

abbrev pending : Seen → Attempt → Bool
pending s b = is_some (reset_code_of s b)

abbrev pub size_of : Seen → ℕ
size_of s = length (sorted_by stream_number (filter (pending s) s.attempts))

abbrev first_of_all : Seen → Option Attempt
first_of_all s = foremost is_stream_before (filter (pending s) s.attempts)

-- the next one
pub record IsNextReset (links : List LinkSlot) (s : Seen) : Type 0 where
  pub action_ : Action
  pub seen : Seen
  pub next : next_reset s ≡ Some action_
  pub after_is : after action_ s ≡ seen
  pub afterwards : CatchUp links seen
  pub less : size_of s ≡ suc (size_of seen)

next_one : (links : List LinkSlot) (s : Seen) (a : Attempt) → first_of_all s ≡ Some a → CatchUp links s → IsNextReset links s
next_one links s a e is =
    let f : IsForemost is_stream_before (pending s) s.attempts a = is_foremost is_stream_before by_stream_order (pending s) s.attempts a e in
    let cancels : is_cancel (reset_code_of s a) ≡ true = all_numbered (λ (b : Attempt). is_cancel (reset_code_of s b)) s.attempts (suc f.index) a f.there is.cancels in
    let code : reset_code_of s a ≡ Some cancel = cancel_of (reset_code_of s a) f.passes cancels in
    record {
      action_ = action.StreamReset a.place cancel;
      seen = u s a f.index f.there code is.places f.first;
      next = ap (option_and_then (reset_of s)) e ∙ ap (option_map (λ (n : ℕ). action.StreamReset a.place n)) code;
      after_is = after_by s.current a.place s is.opened ∙ reset_is s a f.index f.there code is.places f.first;
      afterwards = after_still s a f.index f.there code is.places f.first links is;
      less = size_less s a f.index f.there code is.places f.first;
    }

one_down : (m n k : ℕ) → m ≡ suc n → m ≡ suc k → n ≡ k
one_down m n k e f = omega (arith, e, f)

not_none : (m n : ℕ) → m ≡ suc n → m ≡ 0 → ⊥
not_none m n e f = omega (arith, e, f)

reset_by : (links : List LinkSlot) (fuel : ℕ) (o : Option Attempt) (s : Seen) → first_of_all s ≡ o → size_of s ≡ fuel → CatchUp links s → HasReset links s
reset_by links fuel None s e long is = record {
  actions = [];
  seen = s;
  resets = (ap (option_and_then (reset_of s)) e, refl);
  afterwards = is;
  none = no_foremost is_stream_before by_stream_order (pending s) s.attempts e;
}
reset_by links zero (Some a) s e long is =
    let n : IsNextReset links s = next_one links s a e is in absurd (not_none (size_of s) (size_of n.seen) n.less long)
reset_by links (suc fuel) (Some a) s e long is =
    let n : IsNextReset links s = next_one links s a e is in
    let rest : HasReset links n.seen = reset_by links fuel (first_of_all n.seen) n.seen refl (one_down (size_of s) (size_of n.seen) fuel n.less long) n.afterwards in
    record {
      actions = n.action_ ∷ rest.actions;
      seen = rest.seen;
      resets = (n.next, subst (λ (v : Seen). StreamsAreReset rest.actions v rest.seen) (sym n.after_is) rest.resets);
      afterwards = rest.afterwards;
      none = rest.none;
    }

pub reset_all : (links : List LinkSlot) (s : Seen) → CatchUp links s → HasReset links s
reset_all links s is = reset_by links (size_of s) (first_of_all s) s refl refl is

-- a link that agrees, whatever it was fed with, is fed with what the session has of its calls
module _ (l : Link) (s : Seen) (g : ℕ → Line) where
  line_at : (a : Attempt) (c : Call) → AtPlace s.attempts a → call_of a s ≡ Some c → lines_in l s a.place ≡ line_of l s a c
  line_at a c at of =
      ap (λ (o : Option Attempt). option_map_or (λ (q : Attempt). option_map_or (line_of l s q) (call_of q s) no_line) o no_line) at
      ∙ ap (λ (o : Option Call). option_map_or (line_of l s a) o no_line) of

  fed_one : (a : Attempt) → AtPlace s.attempts a → IsFed l s a (g a.place) → IsFed l s a (lines_in l s a.place)
  fed_one a at f =
      subst (IsFed l s a) (sym (line_at a f.call at f.call_is))
      (record { call = f.call; call_is = f.call_is; fields = refl; written = f.written; left = refl; finished = refl })

  fed_all : (xs : List Attempt) → AllByRecursion (AtPlace s.attempts) xs → AreAllFed l s g xs → LinesAreSameOn l l s s (lines_in l s) xs xs
  fed_all [] at fed = tt
  fed_all (a ∷ xs) at fed =
      (record { place = refl; placed = refl; stream = refl; ended = refl; limit = λ on. refl; fed = λ on. fed_one a at.0 (fed.0 on) }, fed_all xs at.1 fed.1)

  pub relined : (w : Wire) → SeesStreams l s w g → SeesStreams l s w (lines_in l s)
  relined w is =
      links_are_left l l s s w g (lines_in l s) is (record { number = refl; traffic_ = refl; owed = refl }) is.sees.at
      (fed_all s.attempts (all_at_places s.attempts (counted_places 1 s.attempts is.sees.places)) (all_are_fed l s w g is.sees)) is.sees.places

-- where nothing is left to reset, a link has caught up
pub caught_up : (l : Link) (s : Seen) (slot : LinkSlot) → ((i : ℕ) (x : Attempt) → slice_get s.attempts i ≡ Some x → is_some (reset_code_of s x) ≡ false) → CatchesUp l s slot
    → SeesStreams l s slot.link.link.wire (lines_in l s)
caught_up l s slot none is =
    let nothing : owed_on l.number s ≡ []
    = none_sorted stream_number (is_owed_on l.number s) s.attempts
    (λ i x at. ap (λ (b : Bool). b && (link_number x == l.number)) (none i x at)) in
    let ahead : SeesAhead [] l s slot.link.link.wire is.lines = subst (λ (ns : List ℕ). SeesAhead (with_code cancel ns) l s slot.link.link.wire is.lines) nothing is.ahead in
    relined l s is.lines slot.link.link.wire (none_is_left l s slot.link.link.wire is.lines ahead)
