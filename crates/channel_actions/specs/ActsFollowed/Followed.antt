-- What a channel does where one of its calls ends: each attempt of the call that is on a link is given up there and is no longer outstanding. Each that waits for a
-- pick leaves the queue; the call waits for no config; and its timers go. What was queued on links is closed.
-- Example: call 1 has the rows 1 and 3 on link 2, and row 4 in the queue. Link 2 gives up 1 and 3, and is closed; (2, 1) and (2, 3) are no longer outstanding; and the
-- queue has (1, 4) no more.
use Rattle.std.specs.Prelude.{List, None, Option, Some, [], ℕ, ◌-◌, ◌∷◌, slice_set}
use Rattle.std.specs.Set.{remove_key}
use Rattle.attempt_ledger.specs.declared.ledger.Ledger.{Ledger}
use Rattle.call_core.specs.Steps.{Stepped, closed_by, lent}
use Rattle.call_core.specs.declared.live.LiveRow.{LiveRow}
use Rattle.channel_core.specs.States.{StateSeen}
use Rattle.channel_core.specs.Tables.{reset_in, sealed_in, tokens_in}
use Rattle.channel_core.specs.Timing.{timer_moved}
use Rattle.channel_core.specs.declared.state.book.Book.{Book}
use Rattle.channel_core.specs.declared.state.links.LinkSlot.{LinkSlot}
use Rattle.channel_core.specs.declared.state.slots.CallSlot.{CallSlot}
use Rattle.grpc_base.specs.declared.event.EndCause.{EndCause}
use Rattle.picker_gate.specs.Pairs.{is_same}

-- the links, the outstanding pairs and the queue, once a row is given up: it is on a link, or waits
abbrev pub given_up_in : ℕ → Option ℕ → List LinkSlot → List LinkSlot
given_up_in row None links = links
given_up_in row (Some link) links = reset_in link row links

abbrev pub all_given_up : List LiveRow → List LinkSlot → List LinkSlot
all_given_up [] links = links
all_given_up (r ∷ rows) links = all_given_up rows (given_up_in r.place r.link links)

abbrev pub closed_in : Option ℕ → List LinkSlot → List LinkSlot
closed_in None links = links
closed_in (Some link) links = sealed_in link links

abbrev pub all_closed : List LiveRow → List LinkSlot → List LinkSlot
all_closed [] links = links
all_closed (r ∷ rows) links = all_closed rows (closed_in r.link links)

abbrev pub out_gone : ℕ → Option ℕ → List (ℕ × ℕ) → List (ℕ × ℕ)
out_gone row None pairs = pairs
out_gone row (Some link) pairs = remove_key (is_same (link, row)) pairs

abbrev pub all_out_gone : List LiveRow → List (ℕ × ℕ) → List (ℕ × ℕ)
all_out_gone [] pairs = pairs
all_out_gone (r ∷ rows) pairs = all_out_gone rows (out_gone r.place r.link pairs)

abbrev pub queue_gone : ℕ → ℕ → Option ℕ → List (ℕ × ℕ) → List (ℕ × ℕ)
queue_gone call row None pairs = remove_key (is_same (call, row)) pairs
queue_gone call row (Some link) pairs = pairs

abbrev pub all_queue_gone : ℕ → List LiveRow → List (ℕ × ℕ) → List (ℕ × ℕ)
all_queue_gone call [] pairs = pairs
all_queue_gone call (r ∷ rows) pairs = all_queue_gone call rows (queue_gone call r.place r.link pairs)

-- what the call is lent, and what it then is
abbrev pub call_lent : StateSeen → CallSlot → Stepped
call_lent x slot = lent slot.call x.book.ledger (tokens_in x.book.buckets slot.bucket) []

abbrev pub call_closed : EndCause → StateSeen → CallSlot → Stepped
call_closed why x slot = closed_by why x.book.moment (call_lent x slot)

abbrev pub slot_closed : EndCause → StateSeen → CallSlot → CallSlot
slot_closed why x slot = record { call = (call_closed why x slot).call; bucket = slot.bucket; due = None; deadline = None }

-- the channel after it. (Which links are gone is stamped at once; `links` are those stamps.)
abbrev pub ledger_closed : Ledger → Stepped → Ledger
ledger_closed stamped a = record a.ledger { links = stamped.links }

abbrev pub book_closed : EndCause → ℕ → StateSeen → CallSlot → Ledger → Book
book_closed why number x slot stamped = record x.book {
  ledger = ledger_closed stamped (call_closed why x slot);
  calls = slice_set x.book.calls (number - 1) (slot_closed why x slot);
}

abbrev pub followed_by_end : EndCause → ℕ → StateSeen → CallSlot → Ledger → StateSeen
followed_by_end why number x slot stamped = record x {
  book = book_closed why number x slot stamped;
  links = all_closed slot.call.live (all_given_up slot.call.live x.links);
  outstanding = all_out_gone slot.call.live x.outstanding;
  queue = all_queue_gone number slot.call.live x.queue;
  ready_waiters = all_queue_gone number slot.call.live x.ready_waiters;
  dues = timer_moved number slot.due None x.dues;
  deadlines = timer_moved number slot.deadline None x.deadlines;
  awaiting_config = remove_key (is_same (0, number)) x.awaiting_config;
  fail_fast = remove_key (is_same (0, number)) x.fail_fast;
}
