-- The frame of links for what one action cuts off: put together.
use Rattle.std.proofs.Common.{◌≡◌, ◌+◌, ◌++◌, ◌∷◌, ◌&&◌, ◌==◌, ap, arith, refl, subst, sym, ◌∙◌, Bool, true, false, List, [], Option, None, Some, ℕ, zero, suc, is_some, length, map, slice_get}
use Rattle.std.proofs.lemmas.Bool.{or_parts}
use Rattle.std.specs.List.{list_all, list_any}
use Rattle.std.specs.Option.{option_map}
use Rattle.channel_actions.proofs.Gone.{all_numbered}
use Rattle.channel_actions.proofs.Stamps.{counted_at}
use Rattle.channel_actions.specs.Links.{HasLink, IsGoing, SeesLinks, lines_in}
use Rattle.channel_core.specs.States.{StateSeen}
use Rattle.channel_core.specs.declared.state.links.LinkSlot.{LinkSlot}
use Rattle.grpc_base.specs.ErrorCodes.{cancel}
use Rattle.grpc_base.specs.declared.event.EndCause.{EndCause}
use Rattle.grpc_link.specs.declared.readers.TagReader.{TagReader}
use Rattle.channel_actions.specs.KeptSessions.Kept.{NumbersCountUp, IsKept}
use Rattle.link_actions.specs.Sees.{AttemptsStandInPlace}
use Rattle.call_cases.proofs.LinkEnds.After.{AtLink, IsCutting, all_closed, closed_ahead, closed_at, closed_keeps, closed_length, closed_readers, cut_at, cut_keeps, cut_length, cuts_still, link_walk, links_still, of_readers, readers_of, slots_closed, slots_cut}
use Rattle.call_cases.proofs.EndsFollow.Codes.{is_cancel, response_by_limit}
use Rattle.call_cases.proofs.LinkEnds.Codes.{with_code}
use Rattle.call_cases.proofs.LinkEnds.Cutting.{is_owed_on, owed_on}
use Rattle.call_cases.proofs.LinkEnds.Resets.{CatchUp, HasToCatchUp, HasReset, CatchesUp, caught_up, relined, reset_all}
use Rattle.call_cases.proofs.EndsFollow.Streams.{none_sorted}
use Rattle.call_cases.specs.EndsFollow.Cuts.{AttemptsAreCutOff, NoStreamIsToReset}
use Rattle.call_cases.specs.LinkEnds.Cuts.{links_closed, links_cut}
use Rattle.call_cases.specs.LinkEnds.Laws.{StreamsAreResetToo, CallsEndOffLinks, CutsAreReset, with_cuts}
use Rattle.link_actions.proofs.ResetActions.Cuts.{none_is_ahead}
use Rattle.link_actions.specs.ResetActions.Laws.{IsCut}
use Rattle.link_actions.proofs.ResponseActions.Taken.{readers_are_left}
use Rattle.link_actions.specs.ResponseActions.Laws.{IsSameResponse, ReadsAlike}
use Rattle.link_actions.specs.ResponseActions.Readers.{SeesReaders, attempt_on}
use Rattle.link_actions.proofs.LossActions.Calls.{changed_any, limit_in, limit_kept}
use Rattle.session_actions.specs.AttemptEnds.{reset_code_of}
use Rattle.session_actions.specs.Attempts.{call_of}
use Rattle.session_actions.specs.CallEnds.{call_ended}
use Rattle.session_actions.specs.Calls.{marked, with_call}
use Rattle.session_actions.specs.Configs.{chosen_of}
use Rattle.session_actions.specs.Entries.{entry, now}
use Rattle.session_actions.specs.Links.{link_number, read_bytes, stream_number}
use Rattle.session_actions.specs.Responses.{is_read_by, limit_of_attempt, response}
use Rattle.session_actions.specs.Words.{numbered}
use Rattle.session_actions.specs.declared.attempt.Attempt.{Attempt}
use Rattle.session_actions.specs.declared.call.Call.{Call}
use Rattle.session_actions.specs.declared.call.MarkKind.TheVariants as mark
use Rattle.session_actions.specs.declared.link.Link.{Link}
use Rattle.session_actions.specs.declared.response.Response.{Response}
use Rattle.session_actions.specs.declared.seen.Seen.{Seen}
use Rattle.link_actions.proofs.SteadyLinks.Calls.{call_ends_leave_links}

-- each attempt stands at its place
placed_from : (n : ℕ) (xs : List Attempt) → NumbersCountUp n (map (λ (a : Attempt). a.place) xs) → AttemptsStandInPlace n xs
placed_from n [] p = tt
placed_from n (a ∷ xs) p = (p.0, subst (λ (k : ℕ). AttemptsStandInPlace k xs) (let e : suc n ≡ n + 1 = omega arith in e) (placed_from (suc n) xs p.1))

none_cancels : (s : Seen) (xs : List Attempt) → list_any (λ (a : Attempt). is_some (reset_code_of s a)) xs ≡ false → list_all (λ (a : Attempt). is_cancel (reset_code_of s a)) xs ≡ true
none_cancels s [] e = refl
none_cancels s (a ∷ xs) e =
    let parts : (is_some (reset_code_of s a) ≡ false) × (list_any (λ (b : Attempt). is_some (reset_code_of s b)) xs ≡ false)
    = or_parts (is_some (reset_code_of s a)) (list_any (λ (b : Attempt). is_some (reset_code_of s b)) xs) e in
    ap (λ (b : Bool). b && list_all (λ (a : Attempt). is_cancel (reset_code_of s a)) xs) (none_by (reset_code_of s a) parts.0) ∙ none_cancels s xs parts.1
  where
    none_by : (o : Option ℕ) → is_some o ≡ false → is_cancel o ≡ true
    none_by None e = refl
    none_by (Some n) e = absurd (cc)

not_any : {X : Type 0} (p : X → Bool) (xs : List X) → list_any p xs ≡ false → (i : ℕ) (x : X) → slice_get xs i ≡ Some x → p x ≡ false
not_any p [] e i x at = absurd (cc)
not_any p (y ∷ ys) e zero x at = let same : x ≡ y = (cc) in ap p same ∙ (or_parts (p y) (list_any p ys) e).0
not_any p (y ∷ ys) e (suc i) x at = not_any p ys (or_parts (p y) (list_any p ys) e).1 i x at

-- one link, where attempts are cut off
module _ (x : StateSeen) (s t : Seen) (cuts : List Attempt) (kept : IsKept s) (unreset : NoStreamIsToReset s)
    (none : list_any (λ (a : Attempt). is_some (reset_code_of s a)) s.attempts ≡ false) (off : AttemptsAreCutOff cuts s t) where
  pub cutting : IsCutting s
  cutting = record { places = placed_from 1 s.attempts kept.attempts; unreset = unreset; cancels = none_cancels s s.attempts none }

  pub after : IsCutting t
  after = cuts_still cuts s t off cutting

  pub nothing : (link : ℕ) → owed_on link s ≡ []
  nothing link =
      none_sorted stream_number (is_owed_on link s) s.attempts
      (λ i a at. ap (λ (b : Bool). b && (link_number a == link)) (not_any (λ (b : Attempt). is_some (reset_code_of s b)) s.attempts none i a at))

  abbrev slot_after : ℕ → LinkSlot → LinkSlot
  slot_after number slot = slots_closed number cuts (slots_cut number cuts slot)

  module _ (number : ℕ) (l : Link) (here : numbered s.links number ≡ Some l) (has : HasLink x s l number) where
    own : l.number ≡ number
    own = counted_at (λ (k : Link). k.number) s.links number l kept.links here

    reads : list_all (is_read_by (read_bytes l)) l.traffic ≡ true
    reads = all_numbered (λ (k : Link). list_all (is_read_by (read_bytes k)) k.traffic) s.links number l here kept.reads

    afterwards : l.over ≡ None → CatchesUp l t (slot_after l.number has.slot)
    afterwards goes =
        let going : IsGoing l s has.slot = has.sees.going goes in
        let first : AtLink l s (lines_in l s) has.slot
        = record {
          cut = subst (λ (ns : List ℕ). IsCut (with_code cancel ns) l s has.slot.link.link.wire (lines_in l s)) (sym (nothing l.number))
              (record { ahead = none_is_ahead l s has.slot.link.link.wire (lines_in l s) going.streams; fresh = going.closed });
          readers = readers_of l s has.slot.link.readers going.readers;
        } in
        let last : AtLink l t (lines_in l s) (slots_cut l.number cuts has.slot) = link_walk l (lines_in l s) cuts s t goes reads off cutting has.slot first in
        record {
          lines = lines_in l s;
          ahead = closed_ahead l t (lines_in l s) l.number cuts (with_code cancel (owed_on l.number t)) (slots_cut l.number cuts has.slot) last.cut.ahead;
          readers = subst (SeesReaders l t) (sym (closed_readers l.number cuts (slots_cut l.number cuts has.slot))) last.readers;
          rest = going.rest ∙ sym ((closed_keeps l.number cuts (slots_cut l.number cuts has.slot)).rest ∙ (cut_keeps l.number cuts has.slot).rest);
          closed = all_closed l.number cuts has.slot going.closed;
        }

    pub has_after : HasToCatchUp (links_closed cuts (links_cut cuts x.links)) t l number
    has_after = record {
      own = own;
      slot = slot_after number has.slot;
      there = closed_at number cuts (links_cut cuts x.links) ∙ ap (option_map (slots_closed number cuts)) (cut_at number cuts x.links ∙ ap (option_map (slots_cut number cuts)) has.there);
      over = has.sees.over ∙ sym ((closed_keeps number cuts (slots_cut number cuts has.slot)).dead ∙ (cut_keeps number cuts has.slot).dead);
      retiring = has.sees.retiring ∙ sym ((closed_keeps number cuts (slots_cut number cuts has.slot)).retiring ∙ (cut_keeps number cuts has.slot).retiring);
      going = λ goes. subst (λ (n : ℕ). CatchesUp l t (slot_after n has.slot)) own (afterwards goes);
    }

  pub same_links : t.links ≡ s.links
  same_links = (links_still cuts s t off cutting).0

-- links that are after by what was cut off catch up
pub reset_after : (x : StateSeen) (t : Seen) (cuts : List Attempt) → CatchUp (links_closed cuts (links_cut cuts x.links)) t → StreamsAreResetToo (with_cuts cuts x) t
reset_after x t cuts afterwards = record {
  actions = end.actions;
  seen = end.seen;
  resets = end.resets;
  unreset = end.afterwards.unreset;
  links = record { count = end.afterwards.count; each = λ number l here. link_again number l (end.afterwards.each number l here) };
}
  where
    end : HasReset (links_closed cuts (links_cut cuts x.links)) t
    end = reset_all (links_closed cuts (links_cut cuts x.links)) t afterwards

    going_again : (l : Link) (slot : LinkSlot) → CatchesUp l end.seen slot → IsGoing l end.seen slot
    going_again l slot is = record {
      streams = caught_up l end.seen slot end.none is;
      readers = of_readers l end.seen slot.link.readers is.readers;
      rest = is.rest;
      closed = is.closed;
    }

    link_again : (number : ℕ) (l : Link) → HasToCatchUp (links_closed cuts (links_cut cuts x.links)) end.seen l number → HasLink (with_cuts cuts x) end.seen l number
    link_again number l is = record {
      slot = is.slot;
      there = is.there;
      sees = record { over = is.over; retiring = is.retiring; going = λ goes. going_again l is.slot (is.going goes) };
    }

module _ (x : StateSeen) (s t : Seen) (cuts : List Attempt) (opened : is_some s.current ≡ true) (kept : IsKept s) (sees : SeesLinks x s) (unreset : NoStreamIsToReset s)
    (none : list_any (λ (a : Attempt). is_some (reset_code_of s a)) s.attempts ≡ false) (off : AttemptsAreCutOff cuts s t) where
  links_are : t.links ≡ s.links
  links_are = same_links x s t cuts kept unreset none off

  then_ : IsCutting t
  then_ = after x s t cuts kept unreset none off

  one_after : (number : ℕ) (l : Link) → numbered s.links number ≡ Some l → HasToCatchUp (links_closed cuts (links_cut cuts x.links)) t l number
  one_after number l here = has_after x s t cuts kept unreset none off number l here (sees.each number l here)

  all_after : CatchUp (links_closed cuts (links_cut cuts x.links)) t
  all_after = record {
    count = ap (λ (ls : List Link). length ls) links_are ∙ sees.count ∙ sym (closed_length cuts (links_cut cuts x.links) ∙ cut_length cuts x.links);
    each = λ number l here. one_after number l (sym (ap (λ (ls : List Link). numbered ls number) links_are) ∙ here);
    opened = (links_still cuts s t off (cutting x s t cuts kept unreset none off)).1 ∙ opened;
    places = then_.places;
    cancels = then_.cancels;
    unreset = then_.unreset;
  }

  pub reset_too : StreamsAreResetToo (with_cuts cuts x) t
  reset_too = reset_after x t cuts all_after

pub cuts_are_reset : CutsAreReset
cuts_are_reset x s t cuts opened kept sees unreset none off = reset_too x s t cuts opened kept sees unreset none off

-- what is noted of a call leaves readers
module _ (s : Seen) (k : Call → Call) (number : ℕ) (notes : (c : Call) → (chosen_of (k c) s).response ≡ (chosen_of c s).response) where
  abbrev v : Seen
  v = with_call k number s

  limit_same : (a : Attempt) → limit_of_attempt a v ≡ limit_of_attempt a s
  limit_same a = ap (limit_in s) (changed_any k number a.row.call s.calls) ∙ limit_kept s k (a.row.call == number) (call_of a s) notes

  same_response : (a : Attempt) → IsSameResponse s v a a
  same_response a =
      let same : response a v ≡ response a s = response_by_limit s v a a.row.stream refl (limit_same a) in
      record { stream = refl; head = ap (λ (p : Response). is_some p.head) same; rest = ap (λ (p : Response). p.rest) same; limit = limit_same a }

  alike : (o : Option Attempt) → ReadsAlike s v o o
  alike None = tt
  alike (Some a) = same_response a

  pub readers_noted : (l : Link) (readers : List TagReader) → SeesReaders l s readers → SeesReaders l v readers
  readers_noted l readers is = readers_are_left l l s v readers is (λ row. alike (attempt_on l s row))

module _ (x : StateSeen) (s : Seen) (number : ℕ) (why : EndCause) where
  abbrev w : Seen
  w = call_ended number why s

  going_on : (l : Link) (slot : LinkSlot) → IsGoing l s slot → IsGoing l w slot
  going_on l slot is = record {
    streams = relined l w (lines_in l s) slot.link.link.wire ((call_ends_leave_links s number why).streams l slot.link.link.wire (lines_in l s) is.streams);
    readers = of_readers l w slot.link.readers
        (readers_noted (marked mark.Closed number s) (λ (c : Call). record c { end = Some (record { entry = entry s; moment = now s; cause = why }) }) number (λ c. refl) l slot.link.readers
        (readers_noted s (λ (c : Call). record c { marks = c.marks ++ record { what = mark.Closed; moment = now s } ∷ [] }) number (λ c. refl) l slot.link.readers
        (readers_of l s slot.link.readers is.readers)));
    rest = is.rest;
    closed = is.closed;
  }

  pub link_on : (n : ℕ) (l : Link) → HasLink x s l n → HasLink x w l n
  link_on n l is = record {
    slot = is.slot;
    there = is.there;
    sees = record { over = is.sees.over; retiring = is.sees.retiring; going = λ goes. going_on l is.slot (is.sees.going goes) };
  }

  pub ended_off : SeesLinks x s → SeesLinks x w
  ended_off sees = record { count = sees.count; each = λ n l here. link_on n l (sees.each n l here) }

pub calls_end_off_links : CallsEndOffLinks
calls_end_off_links x s number why kept sees = ended_off x s number why sees
