-- Nobody has to believe this: what the channel is once one attempt that is due was made, as a call with its row, its place in the queue and its timers.
use Rattle.std.specs.BTreeSet.{insert_key}
use Rattle.std.specs.Prelude.{None, Some, [], if◌then◌else◌, slice_set, ℕ, ◌-◌}
use Rattle.call_core.specs.Parts.{stopped_attempts}
use Rattle.call_core.specs.Steps.{Stepped, lent, made, next_place, waits}
use Rattle.call_cases.specs.ConfiguredCalls.Steps.{timed}
use Rattle.channel_core.specs.Books.{deadline_of, due_at}
use Rattle.channel_core.specs.States.{StateSeen}
use Rattle.channel_core.specs.Tables.{with_call}
use Rattle.channel_core.specs.Timing.{timer_moved}
use Rattle.channel_core.specs.declared.state.slots.CallSlot.{CallSlot}
use Rattle.picker_gate.specs.Pairs.{pair_cmp}

-- what the call does
abbrev pub made_step : ℕ → CallSlot → StateSeen → Stepped
made_step due slot x = made due (lent slot.call x.book.ledger None [])

abbrev pub made_slot : ℕ → CallSlot → StateSeen → CallSlot
made_slot due slot x = with_call (made_step due slot x).call slot

-- its new row waits for a pick
abbrev pub with_attempt : ℕ → ℕ → CallSlot → StateSeen → StateSeen
with_attempt due number slot x = record x {
  queue = if waits slot.call then x.queue else insert_key pair_cmp x.queue (number, next_place x.book.ledger);
  ready_waiters = if waits slot.call then insert_key pair_cmp x.ready_waiters (number, next_place x.book.ledger) else x.ready_waiters;
  dues = timer_moved number slot.due (due_at (Some (made_slot due slot x))) x.dues;
  deadlines = timer_moved number slot.deadline (deadline_of (Some (made_slot due slot x))) x.deadlines;
  book = record x.book {
    calls = slice_set x.book.calls (number - 1) (timed (made_slot due slot x));
    ledger = (made_step due slot x).ledger;
  };
}

-- its next hedge is withheld, while others of it go on
abbrev pub withheld_slot : CallSlot → CallSlot
withheld_slot slot = with_call (record slot.call { attempts = stopped_attempts slot.call.attempts }) slot

abbrev pub with_withheld : ℕ → CallSlot → StateSeen → StateSeen
with_withheld number slot x = record x {
  dues = timer_moved number slot.due (due_at (Some (withheld_slot slot))) x.dues;
  deadlines = timer_moved number slot.deadline (deadline_of (Some (withheld_slot slot))) x.deadlines;
  book = record x.book { calls = slice_set x.book.calls (number - 1) (timed (withheld_slot slot)) };
}
