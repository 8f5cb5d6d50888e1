-- Nobody has to believe this: what the channel is once one call got its config, before a message that is too long for it ends the call.
use Rattle.std.specs.Prelude.{None, Some, [], ℕ, ◌-◌, slice_set}
use Rattle.std.specs.Set.{remove_key}
use Rattle.call_core.specs.Steps.{Stepped, lent, with_chosen}
use Rattle.channel_core.specs.Books.{deadline_of, due_at}
use Rattle.channel_core.specs.States.{StateSeen}
use Rattle.channel_core.specs.Tables.{last_run, with_bucket, with_call, with_timers}
use Rattle.channel_core.specs.Timing.{timer_moved}
use Rattle.channel_core.specs.declared.state.slots.CallSlot.{CallSlot}
use Rattle.grpc_base.specs.declared.plan.Chosen.{Chosen}
use Rattle.picker_gate.specs.Pairs.{is_same}

abbrev pub chosen_step : Chosen → CallSlot → StateSeen → Stepped
chosen_step chosen slot x = with_chosen chosen x.book.moment (lent slot.call x.book.ledger None [])

-- the slot with the config and its bucket, and then with its timers
abbrev pub bucket_slot : CallSlot → StateSeen → CallSlot
bucket_slot slot x = with_bucket (last_run x.book.buckets) slot

abbrev pub chosen_slot : Chosen → CallSlot → StateSeen → CallSlot
chosen_slot chosen slot x = with_call (chosen_step chosen slot x).call (bucket_slot slot x)

abbrev pub timed : CallSlot → CallSlot
timed slot = with_timers (due_at (Some slot)) (deadline_of (Some slot)) slot

abbrev pub with_config : Chosen → ℕ → CallSlot → StateSeen → StateSeen
with_config chosen number slot x = record x {
  awaiting_config = remove_key (is_same (0, number)) x.awaiting_config;
  fail_fast = remove_key (is_same (0, number)) x.fail_fast;
  dues = timer_moved number slot.due (due_at (Some (chosen_slot chosen slot x))) x.dues;
  deadlines = timer_moved number slot.deadline (deadline_of (Some (chosen_slot chosen slot x))) x.deadlines;
  book = record x.book {
    calls = slice_set x.book.calls (number - 1) (timed (chosen_slot chosen slot x));
    ledger = (chosen_step chosen slot x).ledger;
  };
}
