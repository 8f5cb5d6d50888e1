-- Once an application posted something to a call, channel and session agree: where the channel changed the slot of that call alone, and the call's own agreement holds.
use Rattle.call_actions.proofs.Lists.{changed_here}
use Rattle.call_core.specs.declared.state.CallState.{CallState}
use Rattle.call_cases.proofs.CallPosts.Fed.{link_reported}
use Rattle.call_cases.proofs.CallPosts.Report.{unconfigured_reported, buckets_reported, calls_reported, deadlines_reported, due_reported, f, map_changed, order_reported, wait_for_ready_reported, s, t, turn_reported, waiting_reported}
use Rattle.channel_actions.specs.Agrees.{Agrees}
use Rattle.channel_actions.specs.Calls.{HasSlot, SeesCall, SeesCalls, due_of, lent_to}
use Rattle.channel_actions.specs.Columns.{SeesColumns}
use Rattle.channel_actions.specs.Sets.{is_awaiting_config, is_in_dues, is_in_fail_fast, is_in_ready_waiters, is_in_queue, is_ready_waiter, is_waiting}
use Rattle.channel_core.specs.States.{StateSeen}
use Rattle.channel_core.specs.Tables.{numbered as slot_numbered, with_call}
use Rattle.channel_core.specs.declared.state.slots.CallSlot.{CallSlot}
use Rattle.grpc_base.specs.declared.event.Reply.{Reply}
use Rattle.channel_actions.specs.KeptSessions.Kept.{IsKept}
use Rattle.channel_actions.specs.KeptSessions.Laws.{KeptAlong}
use Rattle.call_cases.proofs.OtherCalls.Along.{booked}
use Rattle.call_cases.proofs.OtherCalls.Sets.{sets_stay}
use Rattle.call_cases.proofs.OtherCalls.Slots.{all_calls_stay}
use Rattle.call_cases.specs.OtherCalls.Laws.{SetsApart}
use Rattle.call_cases.specs.OtherCalls.Others.{BooksApart, GoesApart, IsOfCall}
use Rattle.session_actions.specs.Actions.{after}
use Rattle.session_actions.specs.Sessions.{IsNext}
use Rattle.session_actions.specs.Words.{holds, is_number, numbered}
use Rattle.session_actions.specs.Writing.{accepted_bytes}
use Rattle.session_actions.specs.declared.action.Action.{Action}
use Rattle.session_actions.specs.declared.call.Call.{Call}
use Rattle.session_actions.specs.declared.entry.OpenEntry.{OpenEntry}
use Rattle.session_actions.specs.declared.seen.Seen.{Seen}
use Rattle.std.proofs.Common.{Bool, List, Some, [], ap, eqb-true, false, length, not, refl, subst, sym, true, ℕ, ◌&&◌, ◌==◌, ◌∙◌, ◌∷◌, ◌≡◌, ◌≤◌}
use Rattle.std.proofs.lemmas.List.{length-map}
use Rattle.call_actions.specs.TakeActions.Serves.{Serves}

-- the channel's table of calls, in which one slot alone changed
pub record IsPut (number : ℕ) (call : CallState) (slot : CallSlot) (was now : List CallSlot) : Type 0 where
  pub long : length now ≡ length was
  pub mine : slot_numbered now number ≡ Some (with_call call slot)
  pub others : (k : ℕ) → (k == number) ≡ false → slot_numbered now k ≡ slot_numbered was k

module _ (along : KeptAlong) (s0 : Seen) (o : OpenEntry) (r : Reply) (c : Call) (messages : Call → List (List ℕ)) (finished : Call → Bool) (taken : Call → ℕ)
    (end_taken : Call → Bool) (grows : (d : Call) → accepted_bytes d ≤ accepted_bytes (f s0 o r c messages finished taken end_taken d)) where
  abbrev g : Call → Call
  g d = f s0 o r c messages finished taken end_taken d

  abbrev u : Seen
  u = s s0 o r c messages finished taken end_taken

  abbrev v : Seen
  v = t s0 o r c messages finished taken end_taken

  module _ (x : StateSeen) (h : Agrees x u) (slot : CallSlot) (own : numbered s0.calls c.number ≡ Some c) (sees : SeesCall x u c slot) (call : CallState) (now : List CallSlot)
      (put : IsPut c.number call slot x.book.calls now) (serves : Serves v (g c) (record (lent_to x u slot) { call = call }))
      (act : Action) (next : IsNext act u) (does : after act u ≡ v) (apart : IsOfCall c.number act u) where
    abbrev pub y : StateSeen
    y = record x { book = record x.book { calls = now } }

    kept : IsKept v
    kept = along (act ∷ []) u v h.kept (next, sym does)

    goes : GoesApart c.number u v
    goes = record { actions = act ∷ []; does = (next, sym does); apart = (apart, tt); earlier = booked u h.kept; later = booked v kept }

    columns : SeesColumns x.book.ledger v
    columns = record {
      rows = h.columns.rows;
      calls = calls_reported s0 o r c messages finished taken end_taken ∙ h.columns.calls;
      asks = h.columns.asks;
      generations = h.columns.generations;
      links = h.columns.links;
    }

    books : BooksApart c.number x y v
    books = record {
      entry_is = h.clock.entry_is;
      columns = columns;
      buckets = buckets_reported s0 o r c messages finished taken end_taken x.book.buckets h.buckets;
      slots = put.others;
    }

    -- the slot of the call
    own_slot : HasSlot y v (g c) c.number
    own_slot = record {
      slot = with_call call slot;
      there = put.mine;
      sees = record {
        bucket = sees.bucket;
        serves = serves;
        order = order_reported s0 o r c messages finished taken end_taken c sees.order;
        turn = turn_reported s0 o r c messages finished taken end_taken c sees.turn;
        due = due_reported s0 o r c messages finished taken end_taken c ∙ sees.due;
        deadline_is = sees.deadline_is;
      };
    }

    its_slot : (d : Call) → numbered v.calls c.number ≡ Some d → HasSlot y v d c.number
    its_slot d at =
        let here : numbered v.calls c.number ≡ Some (g c) = changed_here g c.number s0.calls c own in
        let same : g c ≡ d = (cc) in
        subst (λ (z : Call). HasSlot y v z c.number) same own_slot

    long : length v.calls ≡ length y.book.calls
    long =
        sym (length-map v.calls (λ (d : Call). d.number)) ∙ ap (λ (ns : List ℕ). length ns) (map_changed (λ (d : Call). d.number) g (λ d. refl) c.number s0.calls)
        ∙ length-map s0.calls (λ (d : Call). d.number) ∙ h.calls.count ∙ sym put.long

    calls : SeesCalls y v
    calls = all_calls_stay c.number x y u v goes books h.calls long its_slot

    -- what is due
    sets : SetsApart c.number u v
    sets = sets_stay c.number x u v goes h.calls

    own_due : (moment : ℕ) → is_in_dues v moment c.number ≡ is_in_dues u moment c.number
    own_due moment =
        ap (holds (λ (d : Call). is_number moment (due_of v d))) (changed_here g c.number s0.calls c own)
        ∙ ap (is_number moment) (due_reported s0 o r c messages finished taken end_taken c)
        ∙ sym (ap (holds (λ (d : Call). is_number moment (due_of u d))) own)

    due_by : (moment k : ℕ) (b : Bool) → (k == c.number) ≡ b → is_in_dues v moment k ≡ is_in_dues u moment k
    due_by moment k true e =
        let same : k ≡ c.number = eqb-true k c.number e in
        ap (λ (n : ℕ). is_in_dues v moment n) same ∙ own_due moment ∙ ap (λ (n : ℕ). is_in_dues u moment n) (sym same)
    due_by moment k false e = sets.dues moment k e

    queue_same : (k row : ℕ) → is_in_queue v k row ≡ is_in_queue u k row
    queue_same k row =
        ap (λ (b : Bool). b && not (is_ready_waiter v k)) (waiting_reported s0 o r c messages finished taken end_taken k row)
        ∙ ap (λ (b : Bool). is_waiting u k row && not b) (wait_for_ready_reported s0 o r c messages finished taken end_taken k)

    wait_for_ready_same : (k row : ℕ) → is_in_ready_waiters v k row ≡ is_in_ready_waiters u k row
    wait_for_ready_same k row =
        ap (λ (b : Bool). b && is_ready_waiter v k) (waiting_reported s0 o r c messages finished taken end_taken k row)
        ∙ ap (λ (b : Bool). is_waiting u k row && b) (wait_for_ready_reported s0 o r c messages finished taken end_taken k)

    fail_fast_same : (zero_ k : ℕ) → is_in_fail_fast v zero_ k ≡ is_in_fail_fast u zero_ k
    fail_fast_same zero_ k =
        ap (λ (b : Bool). b && not (is_ready_waiter v k)) (unconfigured_reported s0 o r c messages finished taken end_taken zero_ k)
        ∙ ap (λ (b : Bool). is_awaiting_config u zero_ k && not b) (wait_for_ready_reported s0 o r c messages finished taken end_taken k)

    pub reported_agrees : Agrees y v
    reported_agrees = record {
      clock = record { entry_is = h.clock.entry_is; moment = h.clock.moment; draws = h.clock.draws };
      columns = columns;
      configs = record { authority = h.configs.authority; shut = h.configs.shut; held = h.configs.held; unconfigured = h.configs.unconfigured; policy = h.configs.policy };
      buckets = buckets_reported s0 o r c messages finished taken end_taken x.book.buckets h.buckets;
      calls = calls;
      links = record { count = h.links.count; each = λ k l at. link_reported s0 o r c messages finished taken end_taken grows x y k l refl h.kept.attempts (h.links.each k l at) };
      net = h.net;
      orderly = h.orderly;
      sets = record {
        queue = record { rising = h.sets.queue.rising; exact = λ a b. h.sets.queue.exact a b ∙ sym (queue_same a b) };
        ready_waiters = record { rising = h.sets.ready_waiters.rising; exact = λ a b. h.sets.ready_waiters.exact a b ∙ sym (wait_for_ready_same a b) };
        dues = record { rising = h.sets.dues.rising; exact = λ a b. h.sets.dues.exact a b ∙ sym (due_by a b (b == c.number) refl) };
        deadlines = record { rising = h.sets.deadlines.rising; exact = λ a b. h.sets.deadlines.exact a b ∙ sym (deadlines_reported s0 o r c messages finished taken end_taken a b) };
        awaiting_config = record { rising = h.sets.awaiting_config.rising; exact = λ a b. h.sets.awaiting_config.exact a b ∙ sym (unconfigured_reported s0 o r c messages finished taken end_taken a b) };
        fail_fast = record { rising = h.sets.fail_fast.rising; exact = λ a b. h.sets.fail_fast.exact a b ∙ sym (fail_fast_same a b) };
        outstanding = h.sets.outstanding;
        resets = h.sets.resets;
      };
      kept = kept;
    }
