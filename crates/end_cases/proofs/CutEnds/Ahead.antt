-- Attempts are cut off, one after the other: each link of the channel is as far ahead of the session as before, and by the reset of each that had a stream on it, in
-- its place by stream. Resets of any codes may be owed on it before.
use Rattle.attempt_ledger.specs.declared.row.Placed.{Placed}
use Rattle.attempt_ledger.specs.declared.row.RowEnd.{RowEnd}
use Rattle.call_actions.proofs.CallsApart.Moves.{all_changed}
use Rattle.call_actions.proofs.Ranks.{numbered_map}
use Rattle.call_cases.proofs.EndsFollow.Codes.{cut_waiting, ended_code, going_code}
use Rattle.channel_actions.proofs.Gone.{all_numbered}
use Rattle.call_cases.proofs.LinkEnds.After.{IsKeptSlot, cut_at, cut_keeps, of_readers, off_placed, on_placed, readers_of, slots_cut}
use Rattle.call_cases.proofs.LinkEnds.Codes.{cut_code}
use Rattle.call_cases.proofs.LinkEnds.Cutting.{IsHere, attempts_are, cut_elsewhere, end_outstanding, filter_same, here_filtered, links_are, on_it, one_of_places, readers_elsewhere, readers_here}
use Rattle.call_cases.proofs.LinkEnds.Resets.{IsOwed, is_owed, relined}
use Rattle.channel_actions.proofs.Stamps.{counted_at}
use Rattle.call_cases.specs.EndsFollow.Cuts.{AttemptsAreCutOff, NoStreamIsToReset, IsOut, cut_off, is_unreset}
use Rattle.channel_actions.specs.KeptSessions.Kept.{NumbersCountUp}
use Rattle.call_cases.specs.LinkEnds.Cuts.{links_cut}
use Rattle.channel_actions.specs.Links.{lines_in}
use Rattle.channel_actions.specs.OwnStreams.Own.{StreamsAreApart}
use Rattle.call_cases.proofs.CallPosts.Report.{map_changed}
use Rattle.end_cases.proofs.CutEnds.Pairs.{all_away, gains, is_away, owed_sorted, put_is_reset, put_pair, sorted, sorted_same}
use Rattle.end_cases.proofs.OwedResets.First.{stays_out}
use Rattle.end_cases.specs.AttemptEnds.Ahead.{HasLinkAhead, IsAhead, LinksAhead, is_owed_on, owed_reset, resets_owed}
use Rattle.channel_core.proofs.Resting.{changed_length}
use Rattle.channel_core.specs.States.{StateSeen}
use Rattle.channel_core.specs.Steps.{reset_on}
use Rattle.channel_core.specs.Tables.{reset_link, with_link}
use Rattle.channel_core.specs.declared.state.links.LinkSlot.{LinkSlot}
use Rattle.grpc_base.specs.ErrorCodes.{cancel}
use Rattle.h2_link.specs.Feeds.{Line}
use Rattle.h2_link.specs.Steps.{cut}
use Rattle.h2_link.specs.Wire.{Wire}
use Rattle.lb_policy.specs.Table.{is_one_of}
use Rattle.link_actions.proofs.Ended.{is_ended}
use Rattle.link_actions.proofs.ResetActions.Cuts.{cuts_go_ahead}
use Rattle.link_actions.proofs.ResetActions.Waits.{waits_are_cut}
use Rattle.link_actions.proofs.Without.{changed_at, places_at}
use Rattle.link_actions.specs.ResetActions.Ahead.{put_reset}
use Rattle.link_actions.specs.ResetActions.Laws.{IsCut}
use Rattle.link_actions.specs.ResponseActions.Readers.{SeesReaders}
use Rattle.link_actions.specs.Sees.{AttemptsStandInPlace}
use Rattle.link_actions.specs.StreamActions.Laws.{IsOn}
use Rattle.session_actions.specs.AttemptEnds.{code_at_end, code_for_stream, code_to_reset, cut_end, end_of, reset_code_of, with_end}
use Rattle.session_actions.specs.Attempts.{is_outstanding}
use Rattle.session_actions.specs.Entries.{entry}
use Rattle.session_actions.specs.Links.{link_number, read_bytes, stream_number}
use Rattle.session_actions.specs.Reading.{is_outstanding_on, outstanding_on}
use Rattle.session_actions.specs.Responses.{is_read_by}
use Rattle.session_actions.specs.Words.{changed, holds, numbered}
use Rattle.session_actions.specs.Writing.{waiting_on}
use Rattle.session_actions.specs.declared.attempt.Attempt.{Attempt}
use Rattle.session_actions.specs.declared.link.Link.{Link}
use Rattle.session_actions.specs.declared.seen.Seen.{Seen}
use Rattle.std.proofs.Common.{Bool, List, None, Option, Some, [], ap, append-nil, append_assoc, arith, drop, eqb-true, false, filter, if◌then◌else◌, is_none, is_some, length, map, not, option_map, refl, slice_get, slice_set, subst, suc, sym, true, unwrap_or, ℕ, ◌&&◌, ◌++◌, ◌==◌, ◌||◌, ◌∙◌, ◌∷◌, ◌≡◌}
use Rattle.std.proofs.lemmas.Bool.Decides.{nat_tests}
use Rattle.std.proofs.lemmas.Bool.{and_parts, and_right, both_ways, or_parts}
use Rattle.std.specs.List.{list_all}
use Rattle.std.specs.Option.{option_map_or}
use Rattle.std.specs.Prelude.{option_and_then}

module _ (s : Seen) (a : Attempt) (out : IsOut s a) (places : AttemptsStandInPlace 1 s.attempts) (apart : StreamsAreApart s.attempts) where
  abbrev u : Seen
  u = cut_off a s

  abbrev end : RowEnd
  end = end_of a cut_end s

  abbrev z : Attempt
  z = with_end end a

  codes : (b : Attempt) → reset_code_of u b ≡ reset_code_of s b
  codes b = ended_code s a.place a end places out.there b

  unended : a.row.ended ≡ None
  unended = end_outstanding a.row.placed a.row.ended out.outstanding

  went_on : reset_code_of s a ≡ None
  went_on = going_code s a unended

  abbrev index : ℕ
  index = (on_it s a out places).index

  abbrev at : slice_get s.attempts index ≡ Some a
  at = (on_it s a out places).there

  module _ (l : Link) where
    test_same : (b : Attempt) → is_owed_on l u b ≡ is_owed_on l s b
    test_same b = ap (λ (o : Option ℕ). is_some o && (link_number b == l.number)) (codes b)

    was_off : is_owed_on l u a ≡ false
    was_off = ap (λ (o : Option ℕ). is_some o && (link_number a == l.number)) (codes a ∙ went_on)

    reset_same : (b : Attempt) → owed_reset u b ≡ owed_reset s b
    reset_same b = ap (λ (o : Option ℕ). (stream_number b, unwrap_or o 0)) (codes b)

    before_same : sorted (owed_reset u) (filter (is_owed_on l u) s.attempts) ≡ resets_owed l s
    before_same =
        sorted_same (owed_reset u) (owed_reset s) reset_same (filter (is_owed_on l u) s.attempts)
        ∙ ap (sorted (owed_reset s)) (filter_same (is_owed_on l u) (is_owed_on l s) test_same s.attempts)
        ∙ sym (owed_sorted s (filter (is_owed_on l s) s.attempts))

    now_sorted : resets_owed l u ≡ sorted (owed_reset u) (filter (is_owed_on l u) (slice_set s.attempts index z))
    now_sorted =
        owed_sorted u (filter (is_owed_on l u) u.attempts)
        ∙ ap (λ (xs : List Attempt). sorted (owed_reset u) (filter (is_owed_on l u) xs)) (attempts_are s a out places)

    -- no reset more is owed
    pub owes_none : is_owed_on l u z ≡ false → resets_owed l u ≡ resets_owed l s
    owes_none off =
        now_sorted ∙ ap (sorted (owed_reset u)) (stays_out (is_owed_on l u) s.attempts index a z at was_off off) ∙ before_same

    -- or one more, of a stream of which no other one is
    module _ (n : ℕ) (stream : a.row.stream ≡ Some n) (here : (link_number a == l.number) ≡ true) where
      its_number : stream_number a ≡ n
      its_number = ap (λ (o : Option ℕ). unwrap_or o 0) stream

      no_link : (b : Bool) (f : Link → Option ℕ) (o : Option Placed) → o ≡ None
          → (if b then option_and_then f (option_and_then (λ (to : Placed). numbered s.links to.link) o) else None) ≡ None
      no_link true f None e = refl
      no_link false f None e = refl
      no_link b f (Some to) e = absurd (cc)

      none_of_code : (x : Attempt) (m : RowEnd) (k number : ℕ) → x.row.ended ≡ Some m → x.row.stream ≡ Some k → x.row.placed ≡ None → reset_code_of s x ≡ Some number → ⊥
      none_of_code x m k number ended_ on none code =
          let off : reset_code_of s x ≡ None
          = ap (λ (o : Option RowEnd). option_and_then (code_at_end x s) o) ended_
          ∙ ap (λ (o : Option ℕ). option_and_then (code_for_stream x m s) o) on
          ∙ no_link ((m.entry == entry s) && not x.reset) (code_to_reset x m k s) x.row.placed none in
          let both : Some number ≡ None = sym code ∙ off in (cc)

      apart_by : (j : ℕ) (x : Attempt) (number : ℕ) (p q : Option Placed) → slice_get s.attempts j ≡ Some x → reset_code_of s x ≡ Some number → (link_number x == l.number) ≡ true
          → x.row.placed ≡ p → a.row.placed ≡ q → (stream_number x == n) ≡ true → ⊥
      apart_by j x number None q there code on px qa e =
          let owed : IsOwed x = is_owed s x number code in none_of_code x owed.end (stream_number x) number owed.ended owed.stream px code
      apart_by j x number (Some to) None there code on px qa e =
          let off : is_outstanding a ≡ false = ap (λ (o : Option Placed). is_some o && is_none a.row.ended) qa in
          both_ways (is_outstanding a) off out.outstanding
      apart_by j x number (Some to) (Some from) there code on px qa e =
          let owed : IsOwed x = is_owed s x number code in
          let link_x : to.link ≡ l.number = sym (ap (λ (o : Option Placed). option_map_or (λ (k : Placed). k.link) o 0) px) ∙ eqb-true (link_number x) l.number on in
          let link_a : from.link ≡ l.number = sym (ap (λ (o : Option Placed). option_map_or (λ (k : Placed). k.link) o 0) qa) ∙ eqb-true (link_number a) l.number here in
          let same : suc j ≡ a.place
          = apart (suc j) a.place n x a to from there out.there px qa (link_x ∙ sym link_a)
          (owed.stream ∙ ap (λ (k : ℕ). Some k) (eqb-true (stream_number x) n e)) stream in
          let two : Some x ≡ Some a = sym there ∙ ap (numbered s.attempts) same ∙ out.there in
          let one : x ≡ a = (cc) in
          let three : Some number ≡ None = sym code ∙ ap (reset_code_of s) one ∙ went_on in
          (cc)

      away_by : (j : ℕ) (x : Attempt) (o : Option ℕ) (b : Bool) → reset_code_of s x ≡ o → (stream_number x == n) ≡ b → slice_get s.attempts j ≡ Some x → is_owed_on l s x ≡ true → b ≡ false
      away_by j x None b code e there owes =
          absurd (both_ways (is_owed_on l s x) (ap (λ (o : Option ℕ). is_some o && (link_number x == l.number)) code) owes)
      away_by j x (Some number) false code e there owes = refl
      away_by j x (Some number) true code e there owes =
          absurd (apart_by j x number x.row.placed a.row.placed there code (and_parts (is_some (reset_code_of s x)) (link_number x == l.number) owes).1 refl refl e)

      away : (j : ℕ) (x : Attempt) → slice_get s.attempts j ≡ Some x → is_owed_on l u x ≡ true → (stream_number x == n) ≡ false
      away j x there owes = away_by j x (reset_code_of s x) (stream_number x == n) refl refl there (sym (test_same x) ∙ owes)

      swapped : (i j : ℕ) → (i == j) ≡ (j == i)
      swapped i j = grind (arith, nat_tests)

      pub owes_more : reset_code_of u z ≡ Some cancel → resets_owed l u ≡ put_reset n cancel (resets_owed l s)
      owes_more code =
          let those : List (ℕ × ℕ) = sorted (owed_reset u) (filter (is_owed_on l u) s.attempts) in
          now_sorted
          ∙ gains (owed_reset u) (is_owed_on l u) s.attempts index a z at was_off (ap (λ (o : Option ℕ). is_some o && (link_number a == l.number)) code ∙ here)
          (λ j x there owes. ap (λ (k : ℕ). k == stream_number x) its_number ∙ swapped n (stream_number x) ∙ away j x there owes)
          ∙ ap (λ (k : ℕ). put_pair (k, unwrap_or (reset_code_of u z) 0) those) its_number
          ∙ ap (λ (o : Option ℕ). put_pair (n, unwrap_or o 0) those) code
          ∙ put_is_reset n cancel those
          (all_away (owed_reset u) (is_owed_on l u) (is_away n) s.attempts (λ j x there owes. ap not (away j x there owes)))
          ∙ ap (put_reset n cancel) before_same

  -- one link, on which it is or not
  module _ (l : Link) (goes : l.over ≡ None) (unreset : a.reset ≡ false) (reads : list_all (is_read_by (read_bytes l)) l.traffic ≡ true) where
    some_placed : is_some a.row.placed ≡ true
    some_placed = (and_parts (is_some a.row.placed) (is_none a.row.ended) out.outstanding).0

    module _ (w : Wire) (g : ℕ → Line) (is : IsCut (resets_owed l s) l s w g) where
      module _ (on : is_outstanding_on l a ≡ true) (here : (link_number a == l.number) ≡ true) where
        with_stream : (n : ℕ) → a.row.stream ≡ Some n → IsCut (resets_owed l u) l u (cut w a.place cancel) g
        with_stream n stream =
            let is_on : IsOn l s n a = record { there = out.there; out = on; stream = stream } in
            let code : reset_code_of u z ≡ Some cancel = cut_code l s is.ahead.wire g n a is.ahead.sees is_on goes places unreset reads in
            subst (λ (resets : List (ℕ × ℕ)). IsCut resets l u (cut w a.place cancel) g) (sym (owes_more l n stream here code))
            (cuts_go_ahead (resets_owed l s) l s w g n cancel a end is is_on)

        waiting_here : a.row.stream ≡ None → is_one_of (map (λ (b : Attempt). b.place) (waiting_on l s)) a.place ≡ true
        waiting_here none =
            let one : IsHere (outstanding_on l s) a = here_filtered (is_outstanding_on l) s.attempts index a at on in
            let two : IsHere (waiting_on l s) a
            = here_filtered (λ (b : Attempt). is_none b.row.stream) (outstanding_on l s) one.index a one.there (ap (λ (o : Option ℕ). is_none o) none) in
            one_of_places (waiting_on l s) two.index a two.there

        without_stream : a.row.stream ≡ None → IsCut (resets_owed l u) l u (cut w a.place cancel) g
        without_stream none =
            let owed : is_owed_on l u z ≡ false = ap (λ (o : Option ℕ). is_some o && (link_number a == l.number)) (cut_waiting s a u none) in
            let waits : is_one_of w.waiting a.place ≡ true
            = ap (λ (x : Wire). is_one_of x.waiting a.place) is.ahead.same ∙ ap (λ (ns : List ℕ). is_one_of ns a.place) is.ahead.sees.sees.waits ∙ waiting_here none in
            subst (λ (resets : List (ℕ × ℕ)). IsCut resets l u (cut w a.place cancel) g) (sym (owes_none l owed))
            (waits_are_cut (resets_owed l s) l s w g cancel a end is out.there waits)

        here_by : (o : Option ℕ) → a.row.stream ≡ o → IsCut (resets_owed l u) l u (cut w a.place cancel) g
        here_by None e = without_stream e
        here_by (Some n) e = with_stream n e

      elsewhere : is_outstanding_on l a ≡ false → (link_number a == l.number) ≡ false → IsCut (resets_owed l u) l u w g
      elsewhere off other =
          subst (λ (resets : List (ℕ × ℕ)). IsCut resets l u w g)
          (sym (owes_none l (and_right (is_some (reset_code_of u z)) (link_number a == l.number) other)))
          (cut_elsewhere s a out places l off (resets_owed l s) w g is)

    again : (slot : LinkSlot) (rest_ : drop (read_bytes l) l.received ≡ slot.link.link.rest) → IsCut (resets_owed l u) l u slot.link.link.wire (lines_in l s)
        → SeesReaders l u slot.link.readers → IsAhead l u slot
    again slot rest_ k readers = record {
      streams = record { wire = k.ahead.wire; sees = relined l u (lines_in l s) k.ahead.wire k.ahead.sees; same = k.ahead.same; queue = k.ahead.queue };
      readers = of_readers l u slot.link.readers readers;
      rest = rest_;
      fresh = k.fresh;
    }

    pub one_ahead : (b : Bool) (slot : LinkSlot) → (link_number a == l.number) ≡ b → IsAhead l s slot → IsAhead l u (if b then with_link (reset_link a.place) slot else slot)
    one_ahead true slot e is =
        let on : is_outstanding_on l a ≡ true
        = ap (λ (b : Bool). b && holds (λ (to : Placed). to.link == l.number) a.row.placed) out.outstanding ∙ on_placed l.number a.row.placed some_placed e in
        again (with_link (reset_link a.place) slot) is.rest
        (here_by slot.link.link.wire (lines_in l s) (record { ahead = is.streams; fresh = is.fresh }) on e a.row.stream refl)
        (readers_here s a out places l slot.link.readers (readers_of l s slot.link.readers is.readers))
    one_ahead false slot e is =
        let off : is_outstanding_on l a ≡ false
        = ap (λ (b : Bool). b && holds (λ (to : Placed). to.link == l.number) a.row.placed) out.outstanding ∙ off_placed l.number a.row.placed some_placed e in
        again slot is.rest (elsewhere slot.link.link.wire (lines_in l s) (record { ahead = is.streams; fresh = is.fresh }) off e)
        (readers_elsewhere s a out places l off slot.link.readers (readers_of l s slot.link.readers is.readers))

-- what is left of the links that are to be closed
pub one_more : (xs ys : List ℕ) (n : ℕ) → is_one_of (xs ++ ys) n ≡ (is_one_of xs n || is_one_of ys n)
one_more [] ys n = refl
one_more (x ∷ xs) ys n = ap (λ (b : Bool). (x == n) || b) (one_more xs ys n) ∙ joined (x == n) (is_one_of xs n) (is_one_of ys n)
  where
    joined : (p q r : Bool) → (p || (q || r)) ≡ ((p || q) || r)
    joined true q r = refl
    joined false q r = refl

-- what the session keeps while attempts are cut off
pub record IsReady (s : Seen) : Type 0 where
  pub places : AttemptsStandInPlace 1 s.attempts
  pub unreset : NoStreamIsToReset s
  pub apart : StreamsAreApart s.attempts
  pub numbers : NumbersCountUp 1 (map (λ (l : Link). l.number) s.links)
  pub reads : list_all (λ (l : Link). list_all (is_read_by (read_bytes l)) l.traffic) s.links ≡ true

-- attempts that have the streams and links that they had
abbrev pub key_of : Attempt → Option Placed × Option ℕ
key_of q = (q.row.placed, q.row.stream)

pub record IsKeyed (xs : List Attempt) (i : ℕ) (y : Attempt) : Type 0 where
  pub one : Attempt
  pub there : numbered xs i ≡ Some one
  pub placed : y.row.placed ≡ one.row.placed
  pub stream : y.row.stream ≡ one.row.stream

keyed_by : (xs : List Attempt) (i : ℕ) (y : Attempt) (o : Option Attempt) → numbered xs i ≡ o → option_map key_of o ≡ Some (key_of y) → IsKeyed xs i y
keyed_by xs i y None at e = absurd (cc)
keyed_by xs i y (Some x) at e =
    let same : key_of x ≡ key_of y = (cc) in
    record { one = x; there = at; placed = sym (ap (λ (k : Option Placed × Option ℕ). k.0) same); stream = sym (ap (λ (k : Option Placed × Option ℕ). k.1) same) }

pub keyed : (xs ys : List Attempt) → map key_of ys ≡ map key_of xs → (i : ℕ) (y : Attempt) → numbered ys i ≡ Some y → IsKeyed xs i y
keyed xs ys same i y at =
    keyed_by xs i y (numbered xs i) refl
    (sym (numbered_map key_of xs i) ∙ ap (λ (ks : List (Option Placed × Option ℕ)). numbered ks i) (sym same) ∙ numbered_map key_of ys i ∙ ap (option_map key_of) at)

pub apart_still : (xs ys : List Attempt) → map key_of ys ≡ map key_of xs → StreamsAreApart xs → StreamsAreApart ys
apart_still xs ys same apart i j n a b at to here there pa pb links na nb =
    let x : IsKeyed xs i a = keyed xs ys same i a here in
    let y : IsKeyed xs j b = keyed xs ys same j b there in
    apart i j n x.one y.one at to x.there y.there (sym x.placed ∙ pa) (sym y.placed ∙ pb) links (sym x.stream ∙ na) (sym y.stream ∙ nb)

unreset_by : (b c : Bool) → b ≡ false → (b || not c) ≡ true → c ≡ false
unreset_by true c e h = absurd (cc)
unreset_by false true e h = absurd (cc)
unreset_by false false e h = refl

module _ (s : Seen) (a : Attempt) (out : IsOut s a) (is : IsReady s) where
  abbrev u1 : Seen
  u1 = cut_off a s

  abbrev f : Attempt → Attempt
  f = with_end (end_of a cut_end s)

  changed_is : u1.attempts ≡ changed f a.place s.attempts
  changed_is = ap (λ (v : Seen). v.attempts) (is_ended s a.place (end_of a cut_end s) a is.places out.there)

  links_same : u1.links ≡ s.links
  links_same = links_are s a out is.places

  pub ready_still : IsReady u1
  ready_still = record {
    places = subst (AttemptsStandInPlace 1) (sym (changed_is ∙ changed_at f a.place s.attempts a is.places out.there)) (places_at f (λ b. refl) a.place 1 s.attempts is.places);
    unreset = subst (λ (xs : List Attempt). list_all is_unreset xs ≡ true) (sym changed_is) (all_changed is_unreset f (λ b e. refl) a.place s.attempts is.unreset);
    apart = apart_still s.attempts u1.attempts (ap (map key_of) changed_is ∙ map_changed key_of f (λ b. refl) a.place s.attempts) is.apart;
    numbers = subst (λ (ls : List Link). NumbersCountUp 1 (map (λ (l : Link). l.number) ls)) (sym links_same) is.numbers;
    reads = subst (λ (ls : List Link). list_all (λ (l : Link). list_all (is_read_by (read_bytes l)) l.traffic) ls ≡ true) (sym links_same) is.reads;
  }

  unreset_one : a.reset ≡ false
  unreset_one =
      unreset_by (is_some a.row.ended) a.reset (ap (λ (o : Option RowEnd). is_some o) (end_outstanding a.row.placed a.row.ended out.outstanding))
      (all_numbered is_unreset s.attempts a.place a out.there is.unreset)

  module _ (also : List ℕ) (y : StateSeen) (ahead : LinksAhead also y s) where
    abbrev y1 : StateSeen
    y1 = reset_on (link_number a) a.place y

    module _ (number : ℕ) (l : Link) (was : numbered s.links number ≡ Some l) where
      own : l.number ≡ number
      own = counted_at (λ (k : Link). k.number) s.links number l is.numbers was

      has : HasLinkAhead y s l number
      has = ahead.each number l was

      kept_slot : IsKeptSlot has.slot (slots_cut number (a ∷ []) has.slot)
      kept_slot = cut_keeps number (a ∷ []) has.slot

      on_one : l.over ≡ None → IsAhead l u1 (slots_cut number (a ∷ []) has.slot)
      on_one goes =
          subst (λ (n : ℕ). IsAhead l u1 (slots_cut n (a ∷ []) has.slot)) own
          (one_ahead s a out is.places is.apart l goes unreset_one
          (all_numbered (λ (k : Link). list_all (is_read_by (read_bytes k)) k.traffic) s.links number l was is.reads) (link_number a == l.number) has.slot refl (has.sees.going goes))

      has_then : HasLinkAhead y1 u1 l number
      has_then = record {
        slot = slots_cut number (a ∷ []) has.slot;
        there = cut_at number (a ∷ []) y.links ∙ ap (option_map (slots_cut number (a ∷ []))) has.there;
        sees = record { over = has.sees.over ∙ sym kept_slot.dead; retiring = has.sees.retiring ∙ sym kept_slot.retiring; going = on_one };
      }

      closed_then : is_one_of (also ++ (y.resets ++ link_number a ∷ [])) number ≡ false → resets_owed l u1 ≡ []
      closed_then off =
          let parts : (is_one_of also number ≡ false) × (is_one_of (y.resets ++ link_number a ∷ []) number ≡ false)
          = or_parts (is_one_of also number) (is_one_of (y.resets ++ link_number a ∷ []) number) (sym (one_more also (y.resets ++ link_number a ∷ []) number) ∙ off) in
          let more : (is_one_of y.resets number ≡ false) × (is_one_of (link_number a ∷ []) number ≡ false)
          = or_parts (is_one_of y.resets number) (is_one_of (link_number a ∷ []) number) (sym (one_more y.resets (link_number a ∷ []) number) ∙ parts.1) in
          let other : (link_number a == number) ≡ false = (or_parts (link_number a == number) false more.1).0 in
          let none : is_owed_on l u1 (f a) ≡ false
          = and_right (is_some (reset_code_of u1 (f a))) (link_number a == l.number) (ap (λ (n : ℕ). link_number a == n) own ∙ other) in
          owes_none s a out is.places is.apart l none
          ∙ ahead.closing number l was
          (one_more also y.resets number ∙ ap (λ (b : Bool). b || is_one_of y.resets number) parts.0 ∙ more.0)

    before : (number : ℕ) (l : Link) → numbered u1.links number ≡ Some l → numbered s.links number ≡ Some l
    before number l at_ = sym (ap (λ (ls : List Link). numbered ls number) links_same) ∙ at_

    pub cut_ahead : LinksAhead also y1 u1
    cut_ahead = record {
      count = ap (λ (ls : List Link). length ls) links_same ∙ ahead.count ∙ sym (changed_length (with_link (reset_link a.place)) y.links (link_number a));
      each = λ number l at_. has_then number l (before number l at_);
      closing = λ number l at_ off. closed_then number l (before number l at_) off;
    }

-- all of them: the channel gives each up on its link, and has this to close
abbrev pub all_reset : List Attempt → StateSeen → StateSeen
all_reset [] y = y
all_reset (a ∷ cuts) y = all_reset cuts (reset_on (link_number a) a.place y)

-- so are the links and what is to be closed
pub reset_links : (cuts : List Attempt) (y : StateSeen) → (all_reset cuts y).links ≡ links_cut cuts y.links
reset_links [] y = refl
reset_links (a ∷ cuts) y = reset_links cuts (reset_on (link_number a) a.place y)

pub reset_owed : (cuts : List Attempt) (y : StateSeen) → (all_reset cuts y).resets ≡ y.resets ++ map link_number cuts
reset_owed [] y = sym (append-nil y.resets)
reset_owed (a ∷ cuts) y = reset_owed cuts (reset_on (link_number a) a.place y) ∙ append_assoc y.resets (link_number a ∷ []) (map link_number cuts)
