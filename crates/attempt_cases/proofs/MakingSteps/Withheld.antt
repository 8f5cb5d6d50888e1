-- A hedge is withheld, while others of its call go on: channel and session agree after it (gRFC A6, "Throttling Retry Attempts and Hedged RPCs").
use Rattle.std.proofs.Common.{◌≡◌, ◌∙◌, ◌==◌, ◌&&◌, ◌||◌, ◌-◌, ◌++◌, ◌∷◌, Bool, true, false, not, List, [], Option, None, Some, ℕ, ap, refl, sym, subst, cond, if◌then◌else◌, is_none, is_some, length, map, find}
use Rattle.std.specs.List.{list_any}
use Rattle.std.specs.Option.{option_map}
use Rattle.a6_numbers.specs.Throttling.{Bucket}
use Rattle.attempt_ledger.specs.declared.ledger.CallEnd.{CallEnd}
use Rattle.attempt_ledger.specs.declared.ledger.CallSeen.{CallSeen}
use Rattle.call_actions.proofs.Lists.{changed_here}
use Rattle.call_actions.proofs.TakeActions.Deadlines.{deadline_is}
use Rattle.call_actions.proofs.TakeActions.Retold.{read_same}
use Rattle.call_actions.specs.CallsApart.Laws.{LinesAreFair, TokensStay}
use Rattle.call_actions.specs.CallsInTurn.Laws.{WithheldKeep}
use Rattle.call_actions.specs.CallsInTurn.Turns.{IsSteady, StaysInOrder}
use Rattle.call_actions.specs.Laws.{AttemptsAreDue, HedgesAreWithheld, Agrees as AgreesOne}
use Rattle.call_actions.specs.Order.{IsInOrder, IsInTurn}
use Rattle.call_actions.specs.Sees.{Sees, bucket_of}
use Rattle.call_actions.specs.TakeActions.Serves.{Holds, IsLeft, Serves, came}
use Rattle.call_core.specs.Laws.{came as channel_came}
use Rattle.call_core.specs.Parts as parts
use Rattle.call_core.specs.Steps as steps
use Rattle.call_core.specs.Steps.{Stepped, deadline_at, next_due, waits}
use Rattle.channel_actions.proofs.Settles.{with_open}
use Rattle.channel_actions.proofs.Links.Settings.Pairs.{exactly_by}
use Rattle.channel_actions.proofs.Links.Settings.Slots.{put_away, set_length}
use Rattle.channel_actions.proofs.Links.Settings.Timers.{timers_exactly}
use Rattle.channel_actions.proofs.Stamps.{map_same, numbered_map}
use Rattle.channel_actions.specs.Agrees.{Agrees}
use Rattle.channel_actions.specs.Calls.{HasSlot, SeesCall, deadline_of, due_of, lent_to}
use Rattle.channel_actions.specs.Columns.{SeesColumns}
use Rattle.channel_actions.specs.Configs.{SeesBuckets, bucket_in, runs_in_turn}
use Rattle.channel_actions.specs.KeptSessions.Kept.{IsKept}
use Rattle.channel_actions.specs.LinkFrames.Bears.{bears_on}
use Rattle.channel_actions.specs.Links.{SeesLinks}
use Rattle.call_cases.specs.OtherCalls.Laws.{SetsApart}
use Rattle.call_cases.specs.OtherCalls.Others.{BooksApart, GoesApart, IsBooked}
use Rattle.channel_actions.specs.Sets.{SeesSets, is_awaiting_config, is_in_deadlines, is_in_dues, is_in_fail_fast, is_in_ready_waiters, is_in_queue, is_ready_waiter, is_waiting}
use Rattle.call_cases.proofs.ConfiguredCalls.Lists.{changed_length, equal_numbers, same_number, same_numbered}
use Rattle.attempt_cases.proofs.MakingSteps.Lists.{holds_alike, holds_changed, or_alike}
use Rattle.call_cases.specs.ConfiguredCalls.Laws.{Frames}
use Rattle.call_cases.specs.ConfiguredCalls.Steps.{timed}
use Rattle.attempt_cases.specs.MakingSteps.Made.{with_withheld, withheld_slot}
use Rattle.channel_core.proofs.Places.{put_there}
use Rattle.channel_core.specs.Books.{slot_at}
use Rattle.channel_core.specs.States.{StateSeen}
use Rattle.channel_core.specs.declared.state.slots.CallSlot.{CallSlot}
use Rattle.grpc_base.specs.Limits.{message_limit}
use Rattle.grpc_base.specs.declared.event.Reply.{Reply}
use Rattle.session_actions.specs.Actions.{following}
use Rattle.session_actions.specs.Attempts.{commitment, is_of, is_over, is_over_in, is_queued, wants_follower}
use Rattle.session_actions.specs.Calls.{is_open_call}
use Rattle.session_actions.specs.Configs.{chosen_of, deadline, waits_for_ready}
use Rattle.session_actions.specs.Deliveries.{response_items}
use Rattle.session_actions.specs.DueAttempts as session
use Rattle.session_actions.specs.DueAttempts.{attempts_made, due_state, kind_of_next}
use Rattle.session_actions.specs.Entries.{now}
use Rattle.session_actions.specs.Making.{next_transparent, transparent_retry}
use Rattle.session_actions.specs.Responses.{limit_of_attempt, response}
use Rattle.session_actions.specs.Sessions.{Does, call_seen}
use Rattle.session_actions.specs.Words.{changed, holds, is_number, numbered}
use Rattle.session_actions.specs.declared.action.Action.{Action}
use Rattle.session_actions.specs.declared.action.Action.TheVariants as action
use Rattle.session_actions.specs.declared.attempt.Attempt.{Attempt}
use Rattle.session_actions.specs.declared.call.Call.{Call}
use Rattle.session_actions.specs.declared.call.MarkKind.TheVariants as mark
use Rattle.session_actions.specs.declared.config.ThrottleRun.{ThrottleRun}
use Rattle.session_actions.specs.declared.entry.OpenEntry.{OpenEntry}
use Rattle.session_actions.specs.declared.seen.Seen.{Seen}
use Rattle.session_order.proofs.Limits.{response_same}

any_by : (p : Attempt → Bool) (a : Attempt) (xs : List Attempt) (b : Bool) → p a ≡ b → (find p xs ≡ None → list_any p xs ≡ false) → cond b (Some a) (find p xs) ≡ None
    → (p a || list_any p xs) ≡ false
any_by p a xs true is rest e = absurd (let bad : Some a ≡ None = e in (cc))
any_by p a xs false is rest e = ap (λ (b : Bool). b || list_any p xs) is ∙ rest e

pub any_none : (p : Attempt → Bool) (xs : List Attempt) → find p xs ≡ None → list_any p xs ≡ false
any_none p [] e = refl
any_none p (a ∷ xs) e = any_by p a xs (p a) refl (any_none p xs) e

and_second : (a b : Bool) → b ≡ false → (a && b) ≡ false
and_second true b e = e
and_second false b e = refl

less_by : (p q : Attempt → Bool) (a : Attempt) (xs : List Attempt) (b : Bool) → q a ≡ b → (list_any q xs ≡ false → list_any (λ (k : Attempt). p k && q k) xs ≡ false)
    → (b || list_any q xs) ≡ false → ((p a && q a) || list_any (λ (k : Attempt). p k && q k) xs) ≡ false
less_by p q a xs true is rest e = absurd (let bad : true ≡ false = e in (cc))
less_by p q a xs false is rest e =
    ap (λ (b : Bool). b || list_any (λ (k : Attempt). p k && q k) xs) (and_second (p a) (q a) is) ∙ rest e

any_less : (p q : Attempt → Bool) (xs : List Attempt) → list_any q xs ≡ false → list_any (λ (a : Attempt). p a && q a) xs ≡ false
any_less p q [] e = refl
any_less p q (a ∷ xs) e = less_by p q a xs (q a) refl (any_less p q xs) e

pub unmapped : {X Y : Type 0} (g : X → Y) (o : Option X) → option_map g o ≡ None → o ≡ None
unmapped g None e = refl
unmapped g (Some x) e = absurd (let bad : Some (g x) ≡ None = e in (cc))

last_by : (q : Option ℕ) (moment : ℕ) (z : Stepped) → parts.has_none z.call.live ≡ false → steps.ended_by_last q moment z ≡ z
last_by None moment z e = refl
last_by (Some last) moment z e = ap (λ (b : Bool). if b then steps.ended_by_row last moment z else z) e

pub refused_is : (moment : ℕ) (z : Stepped) → parts.has_none z.call.live ≡ false → steps.refused_due moment z ≡ steps.with_attempts (parts.stopped_attempts z.call.attempts) z
refused_is moment z e = last_by z.call.attempts.last moment (steps.with_attempts (parts.stopped_attempts z.call.attempts) z) e

module _ (frames : Frames) (tokens_stay : TokensStay) (fair : LinesAreFair) (withheld : HedgesAreWithheld) (keeps : WithheldKeep) (dues : AttemptsAreDue) (x : StateSeen)
    (o : OpenEntry) (s0 : Seen) where
  abbrev s : Seen
  s = with_open o s0

  module _ (h : Agrees x s) (c : Call) (there : numbered s.calls c.number ≡ Some c) (is_open : c.end ≡ None) (next : following s ≡ Some (action.HedgeWithheld c.number))
      (slot : CallSlot) (slot_there : slot_at x.book c.number ≡ Some slot) (sees : SeesCall x s c slot) (live : parts.has_none slot.call.live ≡ false)
      (quiescent : next_transparent s ≡ None) where
    abbrev does_it : Action
    does_it = action.HedgeWithheld c.number

    abbrev noted : Call → Call
    noted k = record k { marks = k.marks ++ record { what = mark.Withheld; moment = now s } ∷ [] }

    abbrev t : Seen
    t = record s { calls = changed noted c.number s.calls; current = Some (record o { turn = None }) }

    abbrev c1 : Call
    c1 = noted c

    own_now : numbered t.calls c.number ≡ Some c1
    own_now = changed_here noted c.number s.calls c there

    abbrev y : StateSeen
    y = with_withheld c.number slot x

    abbrev slot1 : CallSlot
    slot1 = withheld_slot slot

    abbrev slot2 : CallSlot
    slot2 = timed slot1

    abbrev x0 : Stepped
    x0 = lent_to x s slot

    abbrev x1 : Stepped
    x1 = steps.with_attempts (parts.stopped_attempts x0.call.attempts) x0

    -- the call itself
    after_it : AgreesOne t c.number x1
    after_it = subst (AgreesOne t c.number) (refused_is (now s) x0 live) (withheld s c x0 sees.serves.sees live)

    same_call : after_it.call ≡ c1
    same_call =
        let both : Some after_it.call ≡ Some c1 = sym after_it.sees.own ∙ ap (numbered t.calls) after_it.number_is ∙ own_now in (cc)

    made_sees : Sees t c1 x1
    made_sees = subst (λ (k : Call). Sees t k x1) same_call after_it.sees

    own_sees : Sees t c1 (lent_to y t slot2)
    own_sees = record {
      own = made_sees.own;
      number_is = made_sees.number_is;
      request = made_sees.request;
      begun = made_sees.begun;
      chosen = made_sees.chosen;
      finished = made_sees.finished;
      longest_is = made_sees.longest_is;
      ended = made_sees.ended;
      attempts = made_sees.attempts;
      live = made_sees.live;
      tokens = made_sees.tokens;
      entry_is = made_sees.entry_is;
      rows = made_sees.rows;
      call_is = made_sees.call_is;
    }

    -- the action alone
    does : Does (does_it ∷ []) s t
    does = (next, refl)

    kept : IsKept t
    kept = frames.kept (does_it ∷ []) s t h.kept does

    steady : IsSteady s c
    steady = record {
      turn = sees.turn;
      quiescent =
          any_less (is_of c) (λ (a : Attempt). wants_follower a s) s.attempts
          (any_none (λ (a : Attempt). wants_follower a s) s.attempts (unmapped (transparent_retry s) (find (λ (a : Attempt). wants_follower a s) s.attempts) quiescent));
    }

    turned : StaysInOrder t c.number
    turned = keeps s c kept.book there sees.order steady

    same_turned : turned.call ≡ c1
    same_turned = let both : Some turned.call ≡ Some c1 = sym turned.own ∙ own_now in (cc)

    own_order : IsInOrder t c1
    own_order = subst (IsInOrder t) same_turned turned.order

    own_turn : IsInTurn t c1
    own_turn = subst (IsInTurn t) same_turned turned.steady.turn

    limits : (a : Attempt) → limit_of_attempt a (record s { calls = t.calls }) ≡ limit_of_attempt a s
    limits a = read_same noted c.number s.calls (λ (k : Call). (chosen_of k s).response) message_limit (λ k. refl) a.row.call

    received_same : (a : Attempt) → response a t ≡ response a s
    received_same a = response_same s t.calls limits a

    came_same : came c1 t ≡ came c s
    came_same =
        or_alike (λ (k : Attempt). response_items (response k t)) (λ (k : Attempt). response_items (response k s)) [] (λ k. ap response_items (received_same k)) (commitment c s)

    holds_still : Holds t c1 slot2.call.buffer
    holds_still = (let was : Holds s c slot.call.buffer = sees.serves.holds is_open in record { fed = was.fed; held = was.held; committed = was.committed })

    left_by : (l : List Reply) → IsLeft (came c s) c.taken l → IsLeft (came c1 t) c.taken l
    left_by l k = subst (λ (all : List Reply). IsLeft all c.taken l) (sym came_same) k

    own_serves : Serves t c1 (lent_to y t slot2)
    own_serves = record {
      sees = own_sees;
      places = sees.serves.places;
      config = sees.serves.config;
      links = refl;
      reads = sees.serves.reads;
      counted = sees.serves.counted;
      end_taken = sees.serves.end_taken;
      going = sees.serves.going;
      left = λ e. left_by (channel_came slot.call) (sees.serves.left e);
      holds = λ e. holds_still;
    }

    -- what other calls have
    booked : (u : Seen) → IsKept u → IsBooked u
    booked u k = record { book = k.book; owned = k.owned; reads = k.reads }

    apart : GoesApart c.number s t
    apart = record {
      actions = does_it ∷ [];
      does = does;
      apart = (record { acts = same_number c.number; passes = λ d e f. refl }, tt);
      earlier = booked s h.kept;
      later = booked t kept;
    }

    -- the ledger
    calls_at : (m : ℕ) (b : Bool) → (m == c.number) ≡ b → numbered (map (call_seen t) t.calls) m ≡ numbered x.book.ledger.calls m
    calls_at m true e =
        ap (λ (k : ℕ). numbered (map (call_seen t) t.calls) k) (equal_numbers m c.number e)
        ∙ numbered_map (call_seen t) t.calls c.number ∙ ap (option_map (call_seen t)) own_now ∙ sym own_sees.call_is
        ∙ sym (ap (λ (k : ℕ). numbered x.book.ledger.calls k) (equal_numbers m c.number e))
    calls_at m false e =
        numbered_map (call_seen t) t.calls m ∙ frames.columns c.number s t apart m e ∙ sym (numbered_map (call_seen s) s.calls m)
        ∙ ap (λ (l : List CallSeen). numbered l m) h.columns.calls

    columns : SeesColumns y.book.ledger t
    columns = record {
      rows = h.columns.rows;
      calls = same_numbered (map (call_seen t) t.calls) x.book.ledger.calls (λ m. calls_at m (m == c.number) refl);
      asks = h.columns.asks;
      generations = h.columns.generations;
      links = h.columns.links;
    }

    -- the buckets
    buckets : SeesBuckets y.book.buckets t
    buckets = record { runs = ap (λ (l : List (Option Bucket)). None ∷ l) (map_same (bucket_in t) (bucket_in s) bucket_same (runs_in_turn s.configs)) ∙ h.buckets.runs; throttle = h.buckets.throttle }
      where
        counted_run : (k : ℕ) (run : ThrottleRun) → numbered s.runs k ≡ Some run → bucket_in t (Some k) ≡ bucket_in s (Some k)
        counted_run k run e = tokens_stay s does_it k h.kept.book (fair s does_it h.kept.book next) (ap (λ (q : Option ThrottleRun). is_some q) e) refl

        bucket_at : (k : ℕ) (q : Option ThrottleRun) → numbered s.runs k ≡ q → bucket_in t (Some k) ≡ bucket_in s (Some k)
        bucket_at k None e = ap (option_map (bucket_of t)) e ∙ sym (ap (option_map (bucket_of s)) e)
        bucket_at k (Some run) e = counted_run k run e

        bucket_same : (r : Option ℕ) → bucket_in t r ≡ bucket_in s r
        bucket_same None = refl
        bucket_same (Some k) = bucket_at k (numbered s.runs k) refl

    -- the calls
    open_now : slot.call.ended ≡ None
    open_now = sym sees.serves.sees.ended ∙ ap (option_map (λ (e : CallEnd). e.cause)) is_open

    own_due : due_of t c1 ≡ slot2.due
    own_due =
        ap (λ (b : Bool). if b then session.next_due c1 t else None) (ap (λ (q : Option CallEnd). is_none q) is_open) ∙ dues t c1 (lent_to y t slot2) own_sees
        ∙ sym (ap (λ (q : Option _). if is_none q then next_due slot1.call else None) open_now)

    own_deadline : deadline_of t c1 ≡ slot2.deadline
    own_deadline =
        ap (λ (b : Bool). if b then deadline c1 t else None) (ap (λ (q : Option CallEnd). is_none q) is_open) ∙ deadline_is t c1 (lent_to y t slot2) own_serves
        ∙ sym (ap (λ (q : Option _). if is_none q then deadline_at slot1.call else None) open_now)

    own_call : SeesCall y t c1 slot2
    own_call = record {
      bucket = sees.bucket;
      serves = own_serves;
      order = own_order;
      turn = own_turn;
      due = own_due;
      deadline_is = own_deadline;
    }

    own_slot : (d : Call) → numbered t.calls c.number ≡ Some d → HasSlot y t d c.number
    own_slot d e =
        let both : Some c1 ≡ Some d = sym own_now ∙ e in
        let same : c1 ≡ d = (cc) in
        subst (λ (k : Call). HasSlot y t k c.number) same
        (record { slot = slot2; there = put_there x.book.calls c.number slot slot2 slot_there; sees = own_call })

    books_apart : BooksApart c.number x y t
    books_apart = record {
      entry_is = h.clock.entry_is;
      columns = columns;
      buckets = buckets;
      slots = λ m e. put_away x.book.calls c.number m slot slot2 slot_there e;
    }

    count : length t.calls ≡ length y.book.calls
    count = changed_length noted c.number s.calls ∙ h.calls.count ∙ sym (set_length x.book.calls (c.number - 1) slot2)

    -- the links
    links : SeesLinks y t
    links =
        frames.links (bears_on does_it s) x y s t h.links h.kept kept (λ link e. refl) (frames.no_difference does_it s h.kept tt) h.links.count
        (λ link l e f. absurd (let bad : false ≡ true = e in (cc)))

    -- the sets
    others : SetsApart c.number s t
    others = frames.sets c.number x s t apart h.calls

    over_same : (a : Attempt) → is_over a t ≡ is_over a s
    over_same a = holds_changed noted c.number s.calls (λ (k : Call). is_over_in k a s) (λ k. refl) a.row.call

    waiting_same : (k row : ℕ) → is_waiting t k row ≡ is_waiting s k row
    waiting_same k row =
        holds_alike (λ (a : Attempt). (a.row.call == k) && is_queued a t) (λ (a : Attempt). (a.row.call == k) && is_queued a s)
        (λ a. ap (λ (b : Bool). (a.row.call == k) && (is_none a.row.placed && is_none a.row.ended && not b)) (over_same a)) (numbered s.attempts row)

    wait_for_ready_same : (k : ℕ) → is_ready_waiter t k ≡ is_ready_waiter s k
    wait_for_ready_same k = holds_changed noted c.number s.calls (λ (d : Call). waits_for_ready d s) (λ d. refl) k

    queue_same : (k row : ℕ) → is_in_queue s k row ≡ is_in_queue t k row
    queue_same k row = sym (ap (λ (b : Bool). b && not (is_ready_waiter t k)) (waiting_same k row) ∙ ap (λ (b : Bool). is_waiting s k row && not b) (wait_for_ready_same k))

    in_ready_waiters_same : (k row : ℕ) → is_in_ready_waiters s k row ≡ is_in_ready_waiters t k row
    in_ready_waiters_same k row = sym (ap (λ (b : Bool). b && is_ready_waiter t k) (waiting_same k row) ∙ ap (λ (b : Bool). is_waiting s k row && b) (wait_for_ready_same k))

    own_dues : (u : Seen) (d : Call) (at : Option ℕ) → numbered u.calls c.number ≡ Some d → due_of u d ≡ at → (m : ℕ) → is_in_dues u m c.number ≡ is_number m at
    own_dues u d at e f m = ap (holds (λ (k : Call). is_number m (due_of u k))) e ∙ ap (is_number m) f

    own_deadlines : (u : Seen) (d : Call) (at : Option ℕ) → numbered u.calls c.number ≡ Some d → deadline_of u d ≡ at → (m : ℕ) → is_in_deadlines u m c.number ≡ is_number m at
    own_deadlines u d at e f m = ap (holds (λ (k : Call). is_number m (deadline_of u k))) e ∙ ap (is_number m) f

    unconfigured_same : (z k : ℕ) → is_awaiting_config s z k ≡ is_awaiting_config t z k
    unconfigured_same z k =
        sym (ap (λ (b : Bool). (z == 0) && b) (holds_changed noted c.number s.calls (λ (d : Call). is_open_call d && is_none d.config) (λ d. refl) k))

    fail_fast_same : (z k : ℕ) → is_in_fail_fast s z k ≡ is_in_fail_fast t z k
    fail_fast_same z k =
        ap (λ (b : Bool). b && not (is_ready_waiter s k)) (unconfigured_same z k) ∙ sym (ap (λ (b : Bool). is_awaiting_config t z k && not b) (wait_for_ready_same k))

    sets : SeesSets y t
    sets = record {
      queue = exactly_by x.queue (is_in_queue s) (is_in_queue t) h.sets.queue queue_same;
      ready_waiters = exactly_by x.ready_waiters (is_in_ready_waiters s) (is_in_ready_waiters t) h.sets.ready_waiters in_ready_waiters_same;
      dues =
          timers_exactly c.number x.dues (is_in_dues s) slot.due slot2.due h.sets.dues (own_dues s c slot.due there sees.due) (is_in_dues t)
          (λ m k e. others.dues m k e) (own_dues t c1 slot2.due own_now own_due);
      deadlines =
          timers_exactly c.number x.deadlines (is_in_deadlines s) slot.deadline slot2.deadline h.sets.deadlines (own_deadlines s c slot.deadline there sees.deadline_is)
          (is_in_deadlines t) (λ m k e. others.deadlines m k e) (own_deadlines t c1 slot2.deadline own_now own_deadline);
      awaiting_config = exactly_by x.awaiting_config (is_awaiting_config s) (is_awaiting_config t) h.sets.awaiting_config unconfigured_same;
      fail_fast = exactly_by x.fail_fast (is_in_fail_fast s) (is_in_fail_fast t) h.sets.fail_fast fail_fast_same;
      outstanding = h.sets.outstanding;
      resets = h.sets.resets;
    }

    pub agrees_withheld : Agrees y t
    agrees_withheld = record {
      clock = record { entry_is = h.clock.entry_is; moment = h.clock.moment; draws = (h.clock.draws.0, h.clock.draws.1) };
      columns = columns;
      configs = record { authority = h.configs.authority; shut = h.configs.shut; held = h.configs.held; unconfigured = h.configs.unconfigured; policy = h.configs.policy };
      buckets = buckets;
      calls = frames.calls c.number x y s t apart books_apart h.calls count own_slot;
      links = links;
      net = frames.net s does_it x.net refl h.net;
      orderly = h.orderly;
      sets = sets;
      kept = kept;
    }
