-- The call of the attempt, where it goes on and is not committed: the channel holds of it what the session has.
use Rattle.std.proofs.Common.{◌≡◌, ◌++◌, ◌∷◌, ap, refl, subst, sym, ◌∙◌, Bool, List, [], Option, None, Some, ℕ, suc, if◌then◌else◌, is_none, option_map}
use Rattle.std.specs.Option.{option_map_or}
use Rattle.attempt_buffer.specs.Buffers.{Buffered, closed}
use Rattle.attempt_ledger.specs.declared.ledger.CallEnd.{CallEnd}
use Rattle.attempt_ledger.specs.declared.ledger.CallSeen.{CallSeen}
use Rattle.attempt_ledger.specs.declared.row.RowEnd.{RowEnd}
use Rattle.call_actions.proofs.TakeActions.Deadlines.{deadline_is}
use Rattle.call_actions.specs.Laws.{AttemptsAreDue}
use Rattle.call_actions.specs.Order.{AttemptsAreNumbered, IsInOrder, IsInTurn}
use Rattle.call_actions.specs.Sees.{Sees}
use Rattle.call_actions.specs.TakeActions.Serves.{AttemptsStandInPlace, Holds, IsLeft, Serves, came}
use Rattle.call_core.specs.Laws as channel_laws
use Rattle.call_core.specs.Steps.{Stepped}
use Rattle.call_core.specs.declared.inbox.Inbox.{Inbox}
use Rattle.channel_actions.specs.Calls.{SeesCall, deadline_of, due_of, lent_to}
use Rattle.end_cases.proofs.AttemptEnds.After.{d, free_then, u}
use Rattle.end_cases.proofs.AttemptEnds.Base.{c, has, slot, x1}
use Rattle.end_cases.proofs.AttemptEnds.Buffers.{closed_is}
use Rattle.end_cases.proofs.AttemptEnds.Fed.{buffer_then, free_buffer, holds_then}
use Rattle.end_cases.proofs.AttemptEnds.Report.{slot_after}
use Rattle.end_cases.specs.AttemptEnds.Ends.{EndNext}
use Rattle.channel_core.specs.States.{StateSeen}
use Rattle.channel_core.specs.Tables.{tokens_in}
use Rattle.channel_core.specs.declared.state.slots.CallSlot.{CallSlot}
use Rattle.grpc_base.specs.declared.event.EndCause.{EndCause}
use Rattle.grpc_base.specs.declared.event.Reply.{Reply}
use Rattle.session_actions.specs.Attempts.{commitment}
use Rattle.session_actions.specs.Configs.{deadline}
use Rattle.session_actions.specs.Deliveries.{response_items}
use Rattle.session_actions.specs.DueAttempts as session
use Rattle.session_actions.specs.Responses.{response}
use Rattle.session_actions.specs.Words.{numbered}
use Rattle.session_actions.specs.declared.attempt.Attempt.{Attempt}
use Rattle.session_actions.specs.declared.call.Call.{Call}
use Rattle.session_actions.specs.declared.entry.OpenEntry.{OpenEntry}
use Rattle.session_actions.specs.declared.response.Outcome.{Outcome}
use Rattle.session_actions.specs.declared.seen.Seen.{Seen}
use Rattle.session_order.specs.declared.line.Line.{Line}

placed_by : (n : ℕ) (xs : List Attempt) → AttemptsAreNumbered n xs → AttemptsStandInPlace n xs
placed_by n [] p = tt
placed_by n (q ∷ xs) p = (p.0, placed_by (suc n) xs p.1)

none_cause : (e : Option CallEnd) (why : Option EndCause) → option_map (λ (k : CallEnd). k.cause) e ≡ why → is_none e ≡ is_none why
none_cause None None h = refl
none_cause (Some k) (Some why) h = refl
none_cause None (Some why) h = absurd (cc)
none_cause (Some k) None h = absurd (cc)

module _ (due : AttemptsAreDue) (later : List (ℕ × RowEnd)) (waits : Line → Bool) (also : List ℕ) (a : Attempt) (out : Outcome) (x : StateSeen) (o : OpenEntry) (s : Seen) (is : EndNext later waits also a out x o s)
    (open_now : (c later waits also a out x o s is).end ≡ None) (free : commitment (c later waits also a out x o s is) s ≡ None) where
  abbrev call : Call
  call = c later waits also a out x o s is

  abbrev then_ : Seen
  then_ = u later waits also a out x o s is

  abbrev called : Call
  called = d later waits also a out x o s is

  abbrev was_slot : CallSlot
  was_slot = slot later waits also a out x o s is

  abbrev served : Serves s call (lent_to (x1 later waits also a out x o s is) s was_slot)
  served = (has later waits also a out x o s is).sees.serves

  free_now : commitment called then_ ≡ None
  free_now = free_then later waits also a out x o s is open_now free

  -- what the channel then has of the call
  module _ (y : StateSeen) (r : Stepped) (sees : Sees then_ called r) (order : IsInOrder then_ called) (turn : IsInTurn then_ called)
      (inbox : r.call.inbox ≡ was_slot.call.inbox) (buffer : r.call.buffer ≡ closed a.place was_slot.call.buffer)
      (tokens : r.tokens ≡ tokens_in y.book.buckets was_slot.bucket) (entry_same : y.book.ledger.entry ≡ r.ledger.entry) (rows_same : y.book.ledger.rows ≡ r.ledger.rows)
      (calls_same : y.book.ledger.calls ≡ r.ledger.calls) where
    abbrev pub own_slot : CallSlot
    own_slot = slot_after r was_slot

    own_sees : Sees then_ called (lent_to y then_ own_slot)
    own_sees = record {
      own = sees.own;
      number_is = sees.number_is;
      request = sees.request;
      begun = sees.begun;
      chosen = sees.chosen;
      finished = sees.finished;
      longest_is = sees.longest_is;
      ended = sees.ended;
      attempts = sees.attempts;
      live = sees.live;
      tokens = sees.tokens ∙ tokens;
      entry_is = sees.entry_is ∙ sym entry_same;
      rows = sees.rows ∙ sym rows_same;
      call_is = ap (λ (l : List CallSeen). numbered l called.number) calls_same ∙ sees.call_is;
    }

    came_same : came called then_ ≡ came call s
    came_same =
        ap (λ (q : Option Attempt). option_map_or (λ (k : Attempt). response_items (response k then_)) q []) free_now
        ∙ sym (ap (λ (q : Option Attempt). option_map_or (λ (k : Attempt). response_items (response k s)) q []) free)

    left_is : IsLeft (came call s) call.taken (channel_laws.came was_slot.call) → IsLeft (came called then_) call.taken (channel_laws.came r.call)
    left_is k =
        subst (λ (all : List Reply). IsLeft all call.taken (channel_laws.came r.call)) (sym came_same)
        (subst (λ (i : Inbox). IsLeft (came call s) call.taken (channel_laws.head_items i.head ++ channel_laws.message_items i.messages)) (sym inbox) k)

    -- its messages
    buffer_is : r.call.buffer ≡ buffer_then later waits also a out x o s is open_now free
    buffer_is = buffer ∙ closed_is was_slot.call.buffer a.place (free_buffer later waits also a out x o s is open_now free)

    pub own_serves : Serves then_ called (lent_to y then_ own_slot)
    own_serves = record {
      sees = own_sees;
      places = placed_by 1 then_.attempts order.places;
      config = served.config;
      links = refl;
      reads = served.reads;
      counted = turn.counted;
      end_taken = served.end_taken ∙ sym (ap (λ (i : Inbox). i.is_end_taken) inbox);
      going = served.going;
      left = λ e. left_is (served.left e);
      holds = λ e. subst (λ (b : Buffered). Holds then_ called b) (sym buffer_is) (holds_then later waits also a out x o s is open_now free);
    }

    ended_none : is_none called.end ≡ is_none r.call.ended
    ended_none = none_cause called.end r.call.ended sees.ended

    pub own_due : due_of then_ called ≡ own_slot.due
    own_due =
        ap (λ (b : Bool). if b then session.next_due called then_ else None) ended_none
        ∙ ap (λ (m : Option ℕ). if is_none r.call.ended then m else None) (due then_ called r sees)

    pub own_deadline : deadline_of then_ called ≡ own_slot.deadline
    own_deadline =
        ap (λ (b : Bool). if b then deadline called then_ else None) ended_none
        ∙ ap (λ (m : Option ℕ). if is_none r.call.ended then m else None) (deadline_is then_ called (lent_to y then_ own_slot) own_serves)

    pub own_call : SeesCall y then_ called own_slot
    own_call = record {
      bucket = (has later waits also a out x o s is).sees.bucket;
      serves = own_serves;
      order = order;
      turn = turn;
      due = own_due;
      deadline_is = own_deadline;
    }
