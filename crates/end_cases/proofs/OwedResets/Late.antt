-- One stream is reset in the session too: its link is ahead by one reset less, and the others are as far ahead as before.
use Rattle.std.proofs.Common.{◌≡◌, ◌∷◌, ◌||◌, ◌&&◌, ◌==◌, ap, arith, refl, subst, sym, ◌∙◌, Bool, true, false, List, [], Option, None, Some, ℕ, suc, drop, filter, if◌then◌else◌, is_some, length, map, nat_lt, slice_get, slice_set, unwrap_or}
use Rattle.std.proofs.lemmas.Bool.{and_parts, eqb-true}
use Rattle.std.proofs.lemmas.Bool.Decides.{nat_tests}
use Rattle.std.specs.Option.{option_map, option_map_or}
use Rattle.call_cases.proofs.EndsFollow.Codes.{queued_code, reset_code}
use Rattle.call_cases.proofs.LinkEnds.Cutting.{filter_same}
use Rattle.call_cases.proofs.LinkEnds.Resets.{IsOwed, is_owed, relined}
use Rattle.channel_actions.proofs.Links.Frames.Changes.{attempt_changed}
use Rattle.channel_actions.proofs.Links.Frames.Readers.{readers_still}
use Rattle.channel_actions.proofs.Links.Frames.Streams.{streams_still}
use Rattle.channel_actions.proofs.Lines.{all_at_places}
use Rattle.channel_actions.proofs.Stamps.{counted_at, map_same}
use Rattle.channel_actions.specs.KeptSessions.Kept.{IsKept}
use Rattle.channel_actions.specs.LinkFrames.Alike.{AttemptsAreAlike, SeesNoDifference, Numbers}
use Rattle.channel_actions.specs.Links.{lines_in}
use Rattle.channel_actions.specs.Readers.{SeesReaders}
use Rattle.call_cases.proofs.ConfiguredCalls.Lists.{changed_length}
use Rattle.end_cases.proofs.OwedResets.First.{first_sorted, one_less, stays_out}
use Rattle.end_cases.specs.AttemptEnds.Ahead.{is_owed_on, owed_reset, resets_owed}
use Rattle.channel_core.specs.declared.state.links.LinkSlot.{LinkSlot}
use Rattle.h2_frame.specs.Frames.{FrameSeen}
use Rattle.h2_frame.specs.Sent.{rst_stream_frame}
use Rattle.link_actions.proofs.LossActions.Calls.{changed_any}
use Rattle.link_actions.proofs.ResetActions.Cuts.{resets_catch_up}
use Rattle.link_actions.proofs.Without as lists
use Rattle.link_actions.specs.Laws.{with_owed}
use Rattle.link_actions.specs.ResetActions.Ahead.{SeesAhead}
use Rattle.link_actions.specs.Sees.{AttemptsStandInPlace, by_stream}
use Rattle.session_actions.specs.AttemptEnds.{reset_code_of, stream_reset, stream_reset_of, with_reset_queued}
use Rattle.session_actions.specs.Attempts.{with_attempt}
use Rattle.session_actions.specs.Links.{is_retiring, is_stream_before, link_number, read_bytes, stream_number}
use Rattle.session_actions.specs.Words.{changed, changed_if, numbered}
use Rattle.session_actions.specs.declared.attempt.Attempt.{Attempt}
use Rattle.session_actions.specs.declared.link.Link.{Link}
use Rattle.session_actions.specs.declared.seen.Seen.{Seen}

-- one link, while the session catches up with it
pub record IsLate (l : Link) (s : Seen) (slot : LinkSlot) : Type 0 where
  pub streams : SeesAhead (resets_owed l s) l s slot.link.link.wire (lines_in l s)
  pub readers : SeesReaders l s slot.link.readers
  pub rest : drop (read_bytes l) l.received ≡ slot.link.link.rest
  pub closed : slot.link.link.wire.queue.fresh ≡ 0

pub record HasLate (links : List LinkSlot) (s : Seen) (l : Link) (number : ℕ) : Type 0 where
  pub slot : LinkSlot
  pub there : numbered links number ≡ Some slot
  pub over : is_some l.over ≡ slot.dead
  pub retiring : is_retiring l ≡ slot.retiring
  pub going : l.over ≡ None → IsLate l s slot

pub record AreLate (links : List LinkSlot) (s : Seen) : Type 0 where
  pub count : length s.links ≡ length links
  pub each : (number : ℕ) (l : Link) → numbered s.links number ≡ Some l → HasLate links s l number

-- on one link the streams decide
not_before : (k s l t n : ℕ) → (l == n) ≡ true → (k == n) ≡ true → (nat_lt k l || ((k == l) && nat_lt s t)) ≡ false → nat_lt s t ≡ false
not_before k s l t n e f h = grind (arith, nat_tests, e, f, h)

is_before : (k s l t n : ℕ) → (l == n) ≡ true → (k == n) ≡ true → (nat_lt k l || ((k == l) && nat_lt s t)) ≡ true → nat_lt s t ≡ true
is_before k s l t n e f h = grind (arith, nat_tests, e, f, h)

swapped : (m n : ℕ) → (m == n) ≡ (n == m)
swapped m n = grind (arith, nat_tests)

-- attempts are alike whatever becomes of links
realike : (touched : Numbers) (s t : Seen) (links : List Link) (xs ys : List Attempt) → AttemptsAreAlike touched s t xs ys → AttemptsAreAlike touched s (record t { links = links }) xs ys
realike touched s t links [] ys h = h
realike touched s t links (a ∷ xs) (b ∷ ys) h = (
  record {
    place = h.0.place;
    on = h.0.on;
    still = λ link apart on.
        let k = h.0.still link apart on in
        record { stream = k.stream; calls = λ c e. let q = k.calls c e in record { call = q.call; is = q.is; limit = q.limit; more = q.more } };
  },
  realike touched s t links xs ys h.1,
)
realike touched s t links (a ∷ xs) [] h = absurd h

abbrev pub pending : Seen → Attempt → Bool
pending s b = is_some (reset_code_of s b)

module _ (s : Seen) (a : Attempt) (index number : ℕ) (at : slice_get s.attempts index ≡ Some a) (code : reset_code_of s a ≡ Some number) (kept : IsKept s)
    (places : AttemptsStandInPlace 1 s.attempts)
    (later : (i : ℕ) (x : Attempt) → slice_get s.attempts i ≡ Some x → pending s x ≡ true → is_stream_before x a ≡ false)
    (above : (i : ℕ) (x : Attempt) → nat_lt i index ≡ true → slice_get s.attempts i ≡ Some x → pending s x ≡ true → is_stream_before a x ≡ true) where
  abbrev pub z : Seen
  z = stream_reset_of number s a

  abbrev frames : List FrameSeen
  frames = rst_stream_frame (stream_number a) number ∷ []

  abbrev owing : Link → Link
  owing l = with_owed frames l

  abbrev done : Attempt
  done = with_reset_queued a

  place : a.place ≡ suc index
  place = lists.place_is (suc index) s.attempts a places at

  pub there : numbered s.attempts a.place ≡ Some a
  there = ap (numbered s.attempts) place ∙ at

  reset_is : stream_reset a.place number s ≡ z
  reset_is = ap (λ (o : Option Attempt). option_map_or (stream_reset_of number s) o s) there

  attempts_are : z.attempts ≡ slice_set s.attempts index done
  attempts_are = ap (λ (k : ℕ). changed with_reset_queued k s.attempts) place ∙ ap (changed_if with_reset_queued (suc index) s.attempts) at

  codes : (b : Attempt) → reset_code_of z b ≡ reset_code_of s b
  codes b = reset_code s a number b

  done_code : reset_code_of s done ≡ None
  done_code = queued_code s a

  -- which resets are owed
  module _ (l : Link) where
    test_same : (b : Attempt) → is_owed_on l z b ≡ is_owed_on l s b
    test_same b = ap (λ (o : Option ℕ). is_some o && (link_number b == l.number)) (codes b)

    off : is_owed_on l s done ≡ false
    off = ap (λ (o : Option ℕ). is_some o && (link_number a == l.number)) done_code

    abbrev those : List Attempt
    those = slice_set s.attempts index done

    left_is : resets_owed l z ≡ map (owed_reset s) (by_stream (filter (is_owed_on l s) those))
    left_is =
        map_same (owed_reset z) (owed_reset s) (λ b. ap (λ (o : Option ℕ). (stream_number b, unwrap_or o 0)) (codes b)) (by_stream (filter (is_owed_on l z) z.attempts))
        ∙ ap (λ (xs : List Attempt). map (owed_reset s) (by_stream xs)) (filter_same (is_owed_on l z) (is_owed_on l s) test_same z.attempts)
        ∙ ap (λ (xs : List Attempt). map (owed_reset s) (by_stream (filter (is_owed_on l s) xs))) attempts_are

    was : (b : Bool) → (link_number a == l.number) ≡ b → is_owed_on l s a ≡ b
    was b e = ap (λ (o : Option ℕ). is_some o && (link_number a == l.number)) code ∙ e

    parts : (x : Attempt) → is_owed_on l s x ≡ true → (pending s x ≡ true) × ((link_number x == l.number) ≡ true)
    parts x passes = and_parts (pending s x) (link_number x == l.number) passes

    pub owed_here : (link_number a == l.number) ≡ true → resets_owed l s ≡ (stream_number a, number) ∷ resets_owed l z
    owed_here own =
        ap (map (owed_reset s))
        (first_sorted (is_owed_on l s) a done (was true own) off s.attempts index at
        (λ j x here passes. not_before (link_number x) (stream_number x) (link_number a) (stream_number a) l.number own (parts x passes).1 (later j x here (parts x passes).0))
        (λ j x below here passes. is_before (link_number a) (stream_number a) (link_number x) (stream_number x) l.number (parts x passes).1 own (above j x below here (parts x passes).0)))
        ∙ ap (λ (o : Option ℕ). (stream_number a, unwrap_or o 0) ∷ map (owed_reset s) (by_stream (filter (is_owed_on l s) those))) code
        ∙ ap (λ (rs : List (ℕ × ℕ)). (stream_number a, number) ∷ rs) (sym left_is)

    pub owed_elsewhere : (link_number a == l.number) ≡ false → resets_owed l z ≡ resets_owed l s
    owed_elsewhere other =
        left_is
        ∙ ap (λ (xs : List Attempt). map (owed_reset s) (by_stream xs)) (stays_out (is_owed_on l s) s.attempts index a done at (was false other) off)

  pub size_less : length (filter (pending s) s.attempts) ≡ suc (length (filter (pending z) z.attempts))
  size_less =
      one_less (pending s) s.attempts index a done at (ap (λ (o : Option ℕ). is_some o) code) (ap (λ (o : Option ℕ). is_some o) done_code)
      ∙ ap (λ (xs : List Attempt). suc (length (filter (pending s) xs))) (sym attempts_are)
      ∙ ap (λ (xs : List Attempt). suc (length xs)) (sym (filter_same (pending z) (pending s) (λ b. ap (λ (o : Option ℕ). is_some o) (codes b)) z.attempts))

  -- it makes no difference to a link but by what that owes
  no_difference : SeesNoDifference (λ link. false) s (with_attempt with_reset_queued a.place s)
  no_difference =
      attempt_changed (λ link. false) with_reset_queued a.place s
      (λ x here. record { place = refl; call = refl; on = λ link apart. refl; stream = λ link apart on. refl })

  alike : AttemptsAreAlike (λ link. false) s z s.attempts z.attempts
  alike = realike (λ link. false) s (with_attempt with_reset_queued a.place s) z.links s.attempts z.attempts no_difference.attempts

  module _ (kept_z : IsKept z) (placed_z : AttemptsStandInPlace 1 z.attempts) where
    -- its own link, and another one
    late_by : (l : Link) (n : ℕ) (slot : LinkSlot) (b : Bool) → l.number ≡ n → numbered s.links n ≡ Some l → numbered z.links n ≡ Some (if b then owing l else l)
        → (link_number a == l.number) ≡ b → IsLate l s slot → IsLate (if b then owing l else l) z slot
    late_by l n slot true own before after e is =
        let owed : IsOwed a = is_owed s a number code in
        let here : link_number a ≡ l.number = eqb-true (link_number a) l.number e in
        let at_l : numbered s.links l.number ≡ Some l = ap (numbered s.links) own ∙ before in
        let at_m : numbered z.links l.number ≡ Some (owing l) = ap (numbered z.links) own ∙ after in
        let more : SeesAhead ((stream_number a, number) ∷ resets_owed l z) l s slot.link.link.wire (lines_in l s)
        = subst (λ (rs : List (ℕ × ℕ)). SeesAhead rs l s slot.link.link.wire (lines_in l s)) (owed_here l e) is.streams in
        let ahead : SeesAhead (resets_owed l z) (owing l) z slot.link.link.wire (lines_in l s)
        = subst (λ (v : Seen). SeesAhead (resets_owed l z) (owing l) v slot.link.link.wire (lines_in l s)) reset_is
        (resets_catch_up (resets_owed l z) l s slot.link.link.wire (lines_in l s) a.place (stream_number a) number a owed.end more there owed.ended owed.stream here) in
        record {
          streams = record { wire = ahead.wire; sees = relined (owing l) z (lines_in l s) ahead.wire ahead.sees; same = ahead.same; queue = ahead.queue };
          readers = readers_still (λ link. false) l (owing l) s z refl refl at_l at_m refl slot.link.readers kept.owned alike is.readers;
          rest = is.rest;
          closed = is.closed;
        }
    late_by l n slot false own before after e is =
        let at_l : numbered s.links l.number ≡ Some l = ap (numbered s.links) own ∙ before in
        let at_m : numbered z.links l.number ≡ Some l = ap (numbered z.links) own ∙ after in
        record {
          streams = subst (λ (rs : List (ℕ × ℕ)). SeesAhead rs l z slot.link.link.wire (lines_in l z)) (sym (owed_elsewhere l e)) (record {
            wire = is.streams.wire;
            sees = streams_still l l s z (λ link. false) refl kept.owned (all_at_places z.attempts kept_z.attempts) alike is.streams.wire (lines_in l s)
                (record { number = refl; traffic_ = refl; owed = refl }) is.streams.sees at_m placed_z;
            same = is.streams.same;
            queue = is.streams.queue;
          });
          readers = readers_still (λ link. false) l l s z refl refl at_l at_m refl slot.link.readers kept.owned alike is.readers;
          rest = is.rest;
          closed = is.closed;
        }

    has_by : (links : List LinkSlot) (l : Link) (n : ℕ) (b : Bool) → l.number ≡ n → numbered s.links n ≡ Some l → numbered z.links n ≡ Some (if b then owing l else l)
        → (link_number a == l.number) ≡ b → HasLate links s l n → HasLate links z (if b then owing l else l) n
    has_by links l n true own before after e is = record {
      slot = is.slot;
      there = is.there;
      over = is.over;
      retiring = is.retiring;
      going = λ goes. late_by l n is.slot true own before after e (is.going goes);
    }
    has_by links l n false own before after e is = record {
      slot = is.slot;
      there = is.there;
      over = is.over;
      retiring = is.retiring;
      going = λ goes. late_by l n is.slot false own before after e (is.going goes);
    }

    found_by : (links : List LinkSlot) (n : ℕ) (o : Option Link) (m : Link) → numbered s.links n ≡ o → numbered z.links n ≡ Some m
        → option_map (λ (l : Link). if n == link_number a then owing l else l) o ≡ Some m
        → ((l : Link) → numbered s.links n ≡ Some l → HasLate links s l n) → HasLate links z m n
    found_by links n None m e after is each = absurd (cc)
    found_by links n (Some l) m e after is each =
        let own : l.number ≡ n = counted_at (λ (q : Link). q.number) s.links n l kept.links e in
        let turned : (link_number a == l.number) ≡ (n == link_number a)
        = ap (λ (k : ℕ). link_number a == k) own ∙ swapped (link_number a) n in
        let same : (if n == link_number a then owing l else l) ≡ m = (cc) in
        subst (λ (k : Link). HasLate links z k n) same (has_by links l n (n == link_number a) own e (after ∙ ap (λ (k : Link). Some k) (sym same)) turned (each l e))

    pub late_still : (links : List LinkSlot) → AreLate links s → AreLate links z
    late_still links is = record {
      count = changed_length owing (link_number a) s.links ∙ is.count;
      each = λ n m e.
          found_by links n (numbered s.links n) m refl e (sym (changed_any owing (link_number a) n s.links) ∙ e) (λ l here. is.each n l here);
    }
