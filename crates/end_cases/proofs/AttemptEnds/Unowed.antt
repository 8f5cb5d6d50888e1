-- No reset is owed: what agrees ahead agrees, and what agrees agrees ahead.
use Rattle.std.proofs.Common.{◌≡◌, ◌&&◌, ◌==◌, ap, subst, sym, ◌∙◌, Bool, false, List, [], ℕ, length, map}
use Rattle.std.specs.List.{list_any}
use Rattle.call_actions.proofs.Lists.{filter_none}
use Rattle.channel_actions.specs.Agrees.{Agrees}
use Rattle.call_cases.specs.EndsFollow.Cuts.{NoStreamIsToReset}
use Rattle.channel_actions.specs.Links.{HasLink, IsGoing, lines_in}
use Rattle.end_cases.specs.AttemptEnds.Ahead.{AgreesAhead, HasLinkAhead, IsAhead, is_owed_on, owed_reset, resets_owed}
use Rattle.end_cases.specs.AttemptEnds.Laws.{NoneIsOwed}
use Rattle.channel_core.specs.States.{StateSeen}
use Rattle.channel_core.specs.declared.state.links.LinkSlot.{LinkSlot}
use Rattle.link_actions.proofs.ResetActions.Cuts.{none_is_ahead, none_is_left}
use Rattle.link_actions.specs.ResetActions.Ahead.{SeesAhead}
use Rattle.link_actions.specs.Sees.{by_stream}
use Rattle.session_actions.specs.Links.{link_number}
use Rattle.session_actions.specs.declared.attempt.Attempt.{Attempt}
use Rattle.session_actions.specs.declared.link.Link.{Link}
use Rattle.session_actions.specs.declared.seen.Seen.{Seen}
use Rattle.session_order.specs.Quiescent.{is_to_reset}

pub none_owed : (s : Seen) → list_any (is_to_reset s) s.attempts ≡ false → (l : Link) → resets_owed l s ≡ []
none_owed s none l =
    ap (λ (xs : List Attempt). map (owed_reset s) (by_stream xs))
    (filter_none (is_owed_on l s) (is_to_reset s) (λ a e. ap (λ (b : Bool). b && (link_number a == l.number)) e) s.attempts none)

module _ (x : StateSeen) (s : Seen) (h : AgreesAhead [] [] x s) (none : list_any (is_to_reset s) s.attempts ≡ false) (closed : x.resets ≡ []) where
  nothing : (l : Link) → resets_owed l s ≡ []
  nothing = none_owed s none

  going : (l : Link) (slot : LinkSlot) → IsAhead l s slot → IsGoing l s slot
  going l slot is = record {
    streams = none_is_left l s slot.link.link.wire (lines_in l s)
        (subst (λ (resets : List (ℕ × ℕ)). SeesAhead resets l s slot.link.link.wire (lines_in l s)) (nothing l) is.streams);
    readers = is.readers;
    rest = is.rest;
    closed = is.fresh ∙ ap (λ (resets : List (ℕ × ℕ)). length resets) (nothing l);
  }

  one : (n : ℕ) (l : Link) → HasLinkAhead x s l n → HasLink x s l n
  one n l is = record {
    slot = is.slot;
    there = is.there;
    sees = record { over = is.sees.over; retiring = is.sees.retiring; going = λ goes. going l is.slot (is.sees.going goes) };
  }

  agrees : Agrees x s
  agrees = record {
    clock = h.books.clock;
    columns = h.books.columns;
    configs = h.books.configs;
    buckets = h.books.buckets;
    calls = h.books.calls;
    links = record { count = h.links.count; each = λ n l at. one n l (h.links.each n l at) };
    net = h.books.net;
    orderly = h.books.orderly;
    sets = record {
      queue = h.books.sets.queue;
      ready_waiters = h.books.sets.ready_waiters;
      dues = h.books.sets.dues;
      deadlines = h.books.sets.deadlines;
      awaiting_config = h.books.sets.awaiting_config;
      fail_fast = h.books.sets.fail_fast;
      outstanding = h.books.sets.outstanding;
      resets = closed;
    };
    kept = h.books.kept;
  }

pub none_is_owed : NoneIsOwed
none_is_owed x s h none closed = agrees x s h none closed

-- and what agrees agrees ahead, by none
module _ (also : List ℕ) (x : StateSeen) (s : Seen) (h : Agrees x s) (unreset : NoStreamIsToReset s) (none : list_any (is_to_reset s) s.attempts ≡ false) where
  none_of : (l : Link) → resets_owed l s ≡ []
  none_of = none_owed s none

  ahead : (l : Link) (slot : LinkSlot) → IsGoing l s slot → IsAhead l s slot
  ahead l slot is = record {
    streams = subst (λ (resets : List (ℕ × ℕ)). SeesAhead resets l s slot.link.link.wire (lines_in l s)) (sym (none_of l))
        (none_is_ahead l s slot.link.link.wire (lines_in l s) is.streams);
    readers = is.readers;
    rest = is.rest;
    fresh = is.closed ∙ sym (ap (λ (resets : List (ℕ × ℕ)). length resets) (none_of l));
  }

  one_ahead : (n : ℕ) (l : Link) → HasLink x s l n → HasLinkAhead x s l n
  one_ahead n l is = record {
    slot = is.slot;
    there = is.there;
    sees = record { over = is.sees.over; retiring = is.sees.retiring; going = λ goes. ahead l is.slot (is.sees.going goes) };
  }

  pub agrees_ahead : AgreesAhead [] also x s
  agrees_ahead = record {
    books = record {
      clock = h.clock;
      columns = h.columns;
      configs = h.configs;
      buckets = h.buckets;
      calls = h.calls;
      net = h.net;
      orderly = h.orderly;
      sets = record {
        queue = h.sets.queue;
        ready_waiters = h.sets.ready_waiters;
        dues = h.sets.dues;
        deadlines = h.sets.deadlines;
        awaiting_config = h.sets.awaiting_config;
        fail_fast = h.sets.fail_fast;
        outstanding = h.sets.outstanding;
      };
      kept = h.kept;
    };
    links = record { count = h.links.count; each = λ n l at. one_ahead n l (h.links.each n l at); closing = λ n l at off. none_of l };
    unreset = unreset;
  }
