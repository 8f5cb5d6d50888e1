-- An attempt whose pick failed: its end is next, and what is asked of an end holds.
use Rattle.attempt_ledger.specs.declared.row.Placed.{Placed}
use Rattle.attempt_ledger.specs.declared.row.RowEnd.{RowEnd}
use Rattle.call_actions.proofs.Lists.{filter_none}
use Rattle.call_actions.specs.Laws.{IsEnding}
use Rattle.call_cases.proofs.EndsFollow.Codes.{ended_code}
use Rattle.call_cases.proofs.EndsFollow.Steps.{placed_of}
use Rattle.channel_actions.proofs.Gone.{all_numbered}
use Rattle.channel_actions.proofs.Links.Prefaced.Along.{prefaced_begins}
use Rattle.channel_actions.proofs.KeptSessions.Along.{kept_begins, kept_stays}
use Rattle.channel_actions.proofs.Lines.{all_at_places}
use Rattle.channel_actions.proofs.Links.Frames.Readers.{readers_still}
use Rattle.channel_actions.proofs.Links.Frames.Streams.{streams_still}
use Rattle.channel_actions.proofs.Links.Frames.NoDifference.{actions_make_no_difference}
use Rattle.channel_actions.proofs.Streams.Own.Along.{streams_along, streams_begin}
use Rattle.channel_actions.proofs.Stamps.{counted_at}
use Rattle.channel_actions.specs.Agrees.{Agrees}
use Rattle.call_cases.specs.EndsFollow.Cuts.{NoStreamIsToReset}
use Rattle.channel_actions.specs.FewCalls.Reached.{IsReached}
use Rattle.channel_actions.specs.GoingCalls.Going.{CallsGoOn}
use Rattle.channel_actions.specs.KeptSessions.Kept.{IsKept}
use Rattle.channel_actions.specs.LinkFrames.Alike.{SeesNoDifference}
use Rattle.channel_actions.specs.LinkFrames.Bears.{bears_on, is_placed_on}
use Rattle.channel_actions.specs.Links.{HasLink, IsGoing, lines_in}
use Rattle.channel_actions.specs.OwnStreams.Own.{StreamsAreOwn}
use Rattle.end_cases.proofs.AttemptEnds.Rising.{runs_of_sessions}
use Rattle.event_cases.proofs.LostLinks.Ends.{none_waits}
use Rattle.end_cases.specs.AttemptEnds.Ahead.{AgreesOffLinks, HasLinkAhead, IsAhead, LinksAhead, is_owed_on, owed_reset, resets_owed}
use Rattle.end_cases.specs.AttemptEnds.Ends.{EndNext, gone_with, is_of_ends}
use Rattle.channel_core.specs.States.{StateSeen}
use Rattle.channel_core.specs.declared.state.links.LinkSlot.{LinkSlot}
use Rattle.link_actions.proofs.Ended.{is_ended}
use Rattle.link_actions.proofs.ResetActions.Cuts.{none_is_ahead}
use Rattle.link_actions.proofs.Without as lists
use Rattle.link_actions.specs.ResetActions.Ahead.{SeesAhead}
use Rattle.link_actions.specs.Sees.{AttemptsStandInPlace, by_stream}
use Rattle.session_actions.specs.Actions.{after, after_if, following}
use Rattle.session_actions.specs.AttemptEnds.{attempt_ended, code_for_stream, code_to_reset, end_of, pick_end, reset_code_of, with_end}
use Rattle.session_actions.specs.Attempts.{call_of, is_of, is_outstanding, is_over, is_queued}
use Rattle.session_actions.specs.Entries.{entry}
use Rattle.session_actions.specs.Links.{link_number}
use Rattle.session_actions.specs.Sessions.{new_session}
use Rattle.session_actions.specs.Words.{holds, numbered}
use Rattle.session_actions.specs.declared.action.Action.TheVariants as action
use Rattle.session_actions.specs.declared.attempt.Attempt.{Attempt}
use Rattle.session_actions.specs.declared.call.Call.{Call}
use Rattle.session_actions.specs.declared.entry.OpenEntry.{OpenEntry}
use Rattle.session_actions.specs.declared.link.Link.{Link}
use Rattle.session_actions.specs.declared.seen.Seen.{Seen}
use Rattle.session_order.proofs.Changed.{passes_not}
use Rattle.session_order.specs.Quiescent.{IsStill, is_to_reset}
use Rattle.session_order.specs.Lines.{is_line}
use Rattle.session_order.specs.declared.line.Line.TheVariants as line
use Rattle.session_order.specs.declared.line.Line.{Line}
use Rattle.std.proofs.Common.{Bool, List, None, Option, Some, [], ap, eq-eqb, eqb-true, false, if◌then◌else◌, is_none, is_some, length, map, not, refl, slice_get, subst, suc, sym, true, ℕ, ◌&&◌, ◌==◌, ◌||◌, ◌∙◌, ◌∷◌, ◌≡◌}
use Rattle.std.specs.List.{list_any}
use Rattle.std.specs.Prelude.{option_and_then}

or_on : (p q : Bool) → q ≡ true → (p || q) ≡ true
or_on true q e = refl
or_on false q e = e

both_of : (p q : Bool) → p ≡ true → q ≡ true → (p && q) ≡ true
both_of true q e f = f
both_of false q e f = absurd (cc)

unplaced_by : (p : Option Placed) (e v : Bool) → ((is_none p && e) && v) ≡ true → p ≡ None
unplaced_by None e v h = refl
unplaced_by (Some at) e v h = absurd (cc)

some_call : (q : Option Call) → is_some q ≡ true → (c : Call) × (q ≡ Some c)
some_call None e = absurd (cc)
some_call (Some c) e = (c, refl)

not_pick : (l : Line) → is_of_ends l ≡ false → is_line l line.Pick ≡ false
not_pick line.Cut e = refl
not_pick line.Transparent e = refl
not_pick line.Inherited e = refl
not_pick line.Row e = refl
not_pick line.Final e = refl
not_pick line.Cancelled e = refl
not_pick line.Request e = refl
not_pick line.Overflow e = refl
not_pick line.Head e = refl
not_pick line.Response e = refl
not_pick line.Pick e = absurd (cc)
not_pick line.Link e = refl
not_pick line.WireEnd e = refl
not_pick line.Reset e = refl
not_pick line.Shut e = refl
not_pick line.Retire e = refl
not_pick line.Begin e = refl
not_pick line.Give e = refl
not_pick line.Drop e = refl
not_pick line.Add e = refl

-- without a link nothing is reset
no_code : (b : Bool) (f : Link → Option ℕ) (links : List Link) (p : Option Placed) → p ≡ None
    → (if b then option_and_then f (option_and_then (λ (at : Placed). numbered links at.link) p) else None) ≡ None
no_code true f links None e = refl
no_code false f links None e = refl
no_code b f links (Some at) e = absurd (cc)

code_by : (b : Attempt) (m : RowEnd) (s : Seen) (q : Option ℕ) → b.row.placed ≡ None → option_and_then (code_for_stream b m s) q ≡ None
code_by b m s None e = refl
code_by b m s (Some n) e = no_code ((m.entry == entry s) && not b.reset) (code_to_reset b m n s) s.links b.row.placed e

-- an attempt that waits for a pick, at a point at which its end is all that follows
module _ (a : Attempt) (y : StateSeen) (o : OpenEntry) (s : Seen) (h : Agrees y s) (current : s.current ≡ Some o) (there : numbered s.attempts a.place ≡ Some a)
    (queued : is_queued a s ≡ true) (next : following s ≡ Some (action.AttemptEnds a.place (end_of a pick_end s)))
    (quiescent : (l : Line) → is_line l line.Pick ≡ false → IsStill l o s) (reached : IsReached s) (unreset : NoStreamIsToReset s) (going : CallsGoOn y) where
  abbrev e : RowEnd
  e = end_of a pick_end s

  abbrev t : Seen
  t = attempt_ended a.place e s

  kept : IsKept s
  kept = h.kept

  pub unplaced : a.row.placed ≡ None
  unplaced = unplaced_by a.row.placed (is_none a.row.ended) (not (is_over a s)) queued

  places : AttemptsStandInPlace 1 s.attempts
  places = placed_of 1 s.attempts kept.book.places

  pub its_call : (c : Call) × (numbered s.calls a.row.call ≡ Some c)
  its_call = some_call (numbered s.calls a.row.call) (all_numbered (λ (b : Attempt). is_some (call_of b s)) s.attempts a.place a there kept.owned)

  abbrev pub c : Call
  c = its_call.0

  pub c_there : numbered s.calls a.row.call ≡ Some c
  c_there = its_call.1

  pub own : is_of c a ≡ true
  own = eq-eqb a.row.call c.number (sym (counted_at (λ (d : Call). d.number) s.calls a.row.call c kept.calls its_call.1))

  ending : IsEnding s c a.place a pick_end
  ending = record {
    there = there;
    own = own;
    lives = both_of (is_of c a) (is_outstanding a || is_queued a s) own (or_on (is_outstanding a) (is_queued a s) queued);
    uncut = refl;
  }

  after_is : after (action.AttemptEnds a.place e) s ≡ t
  after_is = ap (λ (q : Option OpenEntry). after_if q (action.AttemptEnds a.place e) s) current

  kept_t : IsKept t
  kept_t = subst IsKept after_is (kept_stays s (action.AttemptEnds a.place e) kept next)

  books : AgreesOffLinks (gone_with a.row.placed y) s
  books =
      subst (λ (q : Option Placed). AgreesOffLinks (gone_with q y) s) (sym unplaced)
      (record {
        clock = h.clock;
        columns = h.columns;
        configs = h.configs;
        buckets = h.buckets;
        calls = h.calls;
        net = h.net;
        orderly = h.orderly;
        sets = record {
          queue = h.sets.queue;
          ready_waiters = h.sets.ready_waiters;
          dues = h.sets.dues;
          deadlines = h.sets.deadlines;
          awaiting_config = h.sets.awaiting_config;
          fail_fast = h.sets.fail_fast;
          outstanding = h.sets.outstanding;
        };
        kept = h.kept;
      })

  -- no reset is owed after it
  links_same : t.links ≡ s.links
  links_same = ap (λ (v : Seen). v.links) (is_ended s a.place e a places there)

  attempts_are : t.attempts ≡ map (lists.at_place (with_end e) a.place) s.attempts
  attempts_are = ap (λ (v : Seen). v.attempts) (is_ended s a.place e a places there) ∙ lists.changed_at (with_end e) a.place s.attempts a places there

  none_here : (b : Attempt) (g : Bool) → (b.place == a.place) ≡ g → numbered s.attempts b.place ≡ Some b → is_to_reset s b ≡ false → is_to_reset t (if g then with_end e b else b) ≡ false
  none_here b true same at none =
      let both : Some b ≡ Some a = sym at ∙ ap (numbered s.attempts) (eqb-true b.place a.place same) ∙ there in
      let one : b ≡ a = (cc) in
      ap (λ (q : Option ℕ). is_some q) (ap (λ (z : Attempt). reset_code_of t (with_end e z)) one ∙ code_by (with_end e a) e t a.row.stream unplaced)
  none_here b false same at none = ap (λ (q : Option ℕ). is_some q) (ended_code s a.place a e places there b) ∙ none

  none_all : (xs : List Attempt) → ((i : ℕ) (b : Attempt) → slice_get xs i ≡ Some b → (numbered s.attempts b.place ≡ Some b) × (is_to_reset s b ≡ false))
      → list_any (is_to_reset t) (map (lists.at_place (with_end e) a.place) xs) ≡ false
  none_all [] each = refl
  none_all (b ∷ xs) each =
      let k = each 0 b refl in
      ap (λ (z : Bool). z || list_any (is_to_reset t) (map (lists.at_place (with_end e) a.place) xs)) (none_here b (b.place == a.place) refl k.0 k.1)
      ∙ none_all xs (λ i d at. each (suc i) d at)

  unowed : list_any (is_to_reset t) t.attempts ≡ false
  unowed =
      ap (list_any (is_to_reset t)) attempts_are
      ∙ none_all s.attempts (λ i b at.
      let place_b : b.place ≡ suc i = lists.place_is (suc i) s.attempts b places at in
      (ap (numbered s.attempts) place_b ∙ at, passes_not (is_to_reset s) s.attempts (suc i) b (quiescent line.Reset refl) at))

  none_owed : (m : Link) → resets_owed m t ≡ []
  none_owed m =
      ap (λ (xs : List Attempt). map (owed_reset t) (by_stream xs))
      (filter_none (is_owed_on m t) (is_to_reset t) (λ b f. ap (λ (z : Bool). z && (link_number b == m.number)) f) t.attempts unowed)

  -- and each link is as it was
  no_difference : SeesNoDifference (bears_on (action.AttemptEnds a.place e) s) s t
  no_difference = subst (SeesNoDifference (bears_on (action.AttemptEnds a.place e) s) s) after_is (actions_make_no_difference (action.AttemptEnds a.place e) s kept tt)

  placed_t : AttemptsStandInPlace 1 t.attempts
  placed_t = placed_of 1 t.attempts kept_t.book.places

  apart_from : (m : Link) → bears_on (action.AttemptEnds a.place e) s m.number ≡ false
  apart_from m = ap (holds (is_placed_on m.number)) there ∙ ap (holds (λ (at : Placed). at.link == m.number)) unplaced

  ahead_one : (m : Link) (slot : LinkSlot) → numbered s.links m.number ≡ Some m → IsGoing m s slot → IsAhead m t slot
  ahead_one m slot at k =
      let at_t : numbered t.links m.number ≡ Some m = ap (λ (ls : List Link). numbered ls m.number) links_same ∙ at in
      record {
        streams = subst (λ (rs : List (ℕ × ℕ)). SeesAhead rs m t slot.link.link.wire (lines_in m t)) (sym (none_owed m))
            (none_is_ahead m t slot.link.link.wire (lines_in m t)
            (streams_still m m s t (bears_on (action.AttemptEnds a.place e) s) (apart_from m) kept.owned (all_at_places t.attempts kept_t.attempts) no_difference.attempts
            slot.link.link.wire (lines_in m s) (record { number = refl; traffic_ = refl; owed = refl }) k.streams at_t placed_t));
        readers = readers_still (bears_on (action.AttemptEnds a.place e) s) m m s t refl refl at at_t (apart_from m) slot.link.readers kept.owned no_difference.attempts k.readers;
        rest = k.rest;
        fresh = k.closed ∙ sym (ap (λ (rs : List (ℕ × ℕ)). length rs) (none_owed m));
      }

  has_ahead : (n : ℕ) (m : Link) → numbered t.links n ≡ Some m → HasLinkAhead y t m n
  has_ahead n m at =
      let at_s : numbered s.links n ≡ Some m = ap (λ (ls : List Link). numbered ls n) (sym links_same) ∙ at in
      let k : HasLink y s m n = h.links.each n m at_s in
      let own_n : m.number ≡ n = counted_at (λ (q : Link). q.number) s.links n m kept.links at_s in
      record {
        slot = k.slot;
        there = k.there;
        sees = record {
          over = k.sees.over;
          retiring = k.sees.retiring;
          going = λ goes. ahead_one m k.slot (ap (numbered s.links) own_n ∙ at_s) (k.sees.going goes);
        };
      }

  links : LinksAhead [] y t
  links = record {
    count = ap (λ (ls : List Link). length ls) links_same ∙ h.links.count;
    each = has_ahead;
    closing = λ n m at off. none_owed m;
  }

  streams : StreamsAreOwn s
  streams =
      streams_along reached.actions (new_session reached.setup) s (kept_begins reached.setup) (prefaced_begins reached.setup) (streams_begin reached.setup) reached.does

  pub end_next : EndNext [] none_waits [] a pick_end y o s
  end_next = record {
    late = λ l w. absurd (let bad : false ≡ true = w in (cc));
    current = current;
    call = c;
    there = its_call.1;
    ending = ending;
    next = next;
    still = λ l off waits. quiescent l (not_pick l off);
    books = books;
    links = links;
    among = refl;
    unreset = unreset;
    apart = streams.apart;
    rising = runs_of_sessions reached.setup reached.actions s reached.does;
    going = going;
    held = λ follows. absurd (let bad : false ≡ true = follows in (cc));
    unsent = λ none. absurd (let bad : false ≡ true = none in (cc));
  }
