-- One attempt that is due is made: channel and session agree after it.
use Rattle.std.proofs.Common.{◌≡◌, ◌≤◌, ◌∙◌, ◌==◌, ◌&&◌, ◌||◌, ◌+◌, ◌-◌, ◌++◌, ◌∷◌, Bool, true, false, not, List, [], Option, None, Some, ℕ, ap, arith, refl, sym, subst, cond, if◌then◌else◌, is_none, is_some, length, map, filter, find}
use Rattle.std.proofs.lemmas.List.{length-map}
use Rattle.std.proofs.lemmas.List.Elements.{filter-append}
use Rattle.std.proofs.lemmas.List.Folds.{list_any-append}
use Rattle.std.specs.BTreeSet.{insert_key}
use Rattle.std.specs.List.{list_all, list_any}
use Rattle.std.specs.Option.{option_map, option_map_or}
use Rattle.a6_numbers.specs.Throttling.{Bucket}
use Rattle.attempt_buffer.specs.Buffers.{Cursor, taken_by, taken_from, taken_uncommitted, text_of}
use Rattle.attempt_ledger.specs.Numbering.{most_attempts}
use Rattle.attempt_ledger.specs.declared.ledger.CallEnd.{CallEnd}
use Rattle.attempt_ledger.specs.declared.ledger.CallSeen.{CallSeen}
use Rattle.attempt_ledger.specs.declared.row.RowKind.{RowKind}
use Rattle.call_actions.proofs.Lists.{changed_here, numbered_last}
use Rattle.call_actions.proofs.Made.{made_here}
use Rattle.call_actions.proofs.Ranks.{find_last_more, numbered_more}
use Rattle.call_actions.proofs.TakeActions.Deadlines.{deadline_is}
use Rattle.call_actions.proofs.TakeActions.Retold.{read_same}
use Rattle.call_actions.specs.CallsApart.Apart.{IsBook}
use Rattle.call_actions.specs.CallsApart.Laws.{LinesAreFair, TokensStay, tokens_in_run}
use Rattle.call_actions.specs.CallsInTurn.Laws.{MakingKeeps}
use Rattle.call_actions.specs.CallsInTurn.Turns.{IsSteady, StaysSteady}
use Rattle.call_actions.specs.Laws.{AttemptsAreDue}
use Rattle.call_actions.specs.Order.{IsInOrder, IsInTurn, Keeps}
use Rattle.call_actions.specs.Sees.{Sees, bucket_of}
use Rattle.call_actions.specs.TakeActions.Serves.{AttemptsAreFed, Holds, IsAt, IsFed, IsLeft, Serves, came, drained_so_far, is_ended_at, passed}
use Rattle.call_core.specs.Laws.{came as channel_came}
use Rattle.call_core.specs.Steps as steps
use Rattle.call_core.specs.Steps.{Stepped, deadline_at, next_due, waits}
use Rattle.channel_actions.proofs.KeptSessions.Lists.{all_wide}
use Rattle.channel_actions.proofs.Settles.{with_open}
use Rattle.channel_actions.proofs.Links.Settings.Pairs.{exactly_by, exactly_insert}
use Rattle.channel_actions.proofs.Links.Settings.Slots.{put_away, set_length}
use Rattle.channel_actions.proofs.Links.Settings.Timers.{timers_exactly}
use Rattle.channel_actions.proofs.Stamps.{map_same, numbered_map}
use Rattle.channel_actions.specs.Agrees.{Agrees}
use Rattle.channel_actions.specs.Calls.{HasSlot, SeesCall, deadline_of, due_of, lent_to}
use Rattle.channel_actions.specs.Columns.{SeesColumns}
use Rattle.channel_actions.specs.Configs.{SeesBuckets, bucket_in, runs_in_turn}
use Rattle.channel_actions.specs.KeptSessions.Kept.{IsKept}
use Rattle.channel_actions.specs.LinkFrames.Alike.{SeesNoDifference}
use Rattle.channel_actions.specs.LinkFrames.Bears.{bears_on}
use Rattle.channel_actions.specs.Links.{SeesLinks}
use Rattle.call_cases.specs.OtherCalls.Laws.{SetsApart}
use Rattle.call_cases.specs.OtherCalls.Others.{BooksApart, GoesApart, IsBooked}
use Rattle.channel_actions.specs.Sets.{PairsAreExactly, SeesSets, is_awaiting_config, is_in_deadlines, is_in_dues, is_in_fail_fast, is_in_outstanding, is_in_ready_waiters, is_in_queue, is_ready_waiter, is_waiting}
use Rattle.call_cases.proofs.ConfiguredCalls.Lists.{changed_length, equal_numbers, other_numbers, same_number, same_numbered, same_words}
use Rattle.attempt_cases.proofs.MakingSteps.Lists.{all_last, holds_alike, holds_changed, in_out, in_with, more_away, none_next, or_alike, pair_away, pair_first, pair_here}
use Rattle.call_cases.specs.ConfiguredCalls.Laws.{Frames}
use Rattle.call_cases.specs.ConfiguredCalls.Steps.{timed}
use Rattle.attempt_cases.specs.MakingSteps.Made.{made_slot, with_attempt}
use Rattle.channel_actions.specs.SoundCalls.Sound.{IsSoundSlot}
use Rattle.channel_core.proofs.BookLaws.{number_other}
use Rattle.channel_core.proofs.Places.{put_there}
use Rattle.channel_core.specs.Books.{slot_at}
use Rattle.channel_core.specs.States.{StateSeen}
use Rattle.channel_core.specs.declared.state.slots.CallSlot.{CallSlot}
use Rattle.grpc_base.specs.Limits.{message_limit}
use Rattle.grpc_base.specs.declared.event.Reply.{Reply}
use Rattle.grpc_frame.specs.Messages.{framed_all}
use Rattle.ledger_stamps.specs.Steps.{noted_call}
use Rattle.net_actions.specs.Sees.{Sees as Sees_net}
use Rattle.picker_gate.specs.Pairs.{is_same, pair_cmp}
use Rattle.session_actions.specs.Actions.{following}
use Rattle.session_actions.specs.Attempts.{commitment, is_commitment, is_of, is_outstanding, is_over, is_over_in, is_queued, wants_follower}
use Rattle.session_actions.specs.Calls.{is_open_call, marked}
use Rattle.session_actions.specs.Closing.{noted_gone}
use Rattle.session_actions.specs.Configs.{chosen_of, deadline, plan_of, waits_for_ready}
use Rattle.session_actions.specs.Deliveries.{response_items}
use Rattle.session_actions.specs.DueAttempts as session
use Rattle.session_actions.specs.DueAttempts.{attempts_made, due_state, kind_of_next}
use Rattle.session_actions.specs.Entries.{entry, now}
use Rattle.session_actions.specs.Links.{is_retiring, link_number}
use Rattle.session_actions.specs.Making.{attempt_made, due_action, new_row, next_transparent, transparent_retry, with_row, without_turn_unless}
use Rattle.session_actions.specs.Reading.{is_outstanding_on}
use Rattle.session_actions.specs.Refusals.{is_shutdown_sub}
use Rattle.session_actions.specs.Responses.{limit_of_attempt, response}
use Rattle.session_actions.specs.Sessions.{Does, call_seen, link_seen}
use Rattle.session_actions.specs.Tokens.{run_of}
use Rattle.session_actions.specs.Words.{changed, holds, is_number, numbered}
use Rattle.session_actions.specs.Writing.{drained}
use Rattle.session_actions.specs.declared.action.Action.{Action}
use Rattle.session_actions.specs.declared.action.Action.TheVariants as action
use Rattle.session_actions.specs.declared.attempt.Attempt.{Attempt}
use Rattle.session_actions.specs.declared.call.Call.{Call}
use Rattle.session_actions.specs.declared.call.MarkKind.TheVariants as mark
use Rattle.session_actions.specs.declared.config.ThrottleRun.{ThrottleRun}
use Rattle.session_actions.specs.declared.entry.OpenEntry.{OpenEntry}
use Rattle.session_actions.specs.declared.link.Link.{Link}
use Rattle.session_actions.specs.declared.seen.Seen.{Seen}
use Rattle.session_order.proofs.Limits.{response_same}
use Rattle.attempt_cases.proofs.MakingSteps.MadeKinds.{due_kind, due_open, free_by, wait_for_ready_of, none_held, none_of, and_second, any_none, unmapped, any_less, placed_so}

module _ (frames : Frames) (tokens_stay : TokensStay) (fair : LinesAreFair) (turns : MakingKeeps) (dues : AttemptsAreDue) (x : StateSeen) (o : OpenEntry) (s0 : Seen) where
  abbrev s : Seen
  s = with_open o s0

  module _ (h : Agrees x s) (c : Call) (there : numbered s.calls c.number ≡ Some c) (is_open : c.end ≡ None) (due : ℕ) (next_is : session.next_due c s ≡ Some due)
      (gives : due_action s c ≡ Some (action.AttemptMade c.number (attempts_made c s + 1) (kind_of_next c s) due))
      (next : following s ≡ Some (action.AttemptMade c.number (attempts_made c s + 1) (kind_of_next c s) due)) (slot : CallSlot)
      (slot_there : slot_at x.book c.number ≡ Some slot) (sees : SeesCall x s c slot) (sound : IsSoundSlot (length x.book.ledger.rows) slot)
      (quiescent : next_transparent s ≡ None) where
    abbrev nth : ℕ
    nth = attempts_made c s + 1

    abbrev why : RowKind
    why = kind_of_next c s

    abbrev does_it : Action
    does_it = action.AttemptMade c.number nth why due

    abbrev place : ℕ
    place = length s.attempts + 1

    abbrev new : Attempt
    new = record { place = place; row = new_row c.number nth why due; made = entry s; reset = false }

    abbrev noted : Call → Call
    noted k = record k { marks = k.marks ++ record { what = mark.Made place; moment = now s } ∷ [] }

    abbrev t : Seen
    t = record s { calls = changed noted c.number s.calls; attempts = s.attempts ++ new ∷ []; current = Some (record o { turn = None }) }

    made_is : attempt_made c.number nth why due s ≡ t
    made_is =
        ap (λ (b : Bool). without_turn_unless b (marked (mark.Made place) c.number (with_row (new_row c.number nth why due) s))) (due_kind (plan_of c s) (nth == 1))

    abbrev c1 : Call
    c1 = noted c

    own_now : numbered t.calls c.number ≡ Some c1
    own_now = changed_here noted c.number s.calls c there

    abbrev y : StateSeen
    y = with_attempt due c.number slot x

    abbrev slot1 : CallSlot
    slot1 = made_slot due slot x

    abbrev slot2 : CallSlot
    slot2 = timed slot1

    abbrev x0 : Stepped
    x0 = lent_to x s slot

    -- the call itself
    few : attempts_made c s + 1 ≤ 4294967295
    few =
        let count : attempts_made c s ≡ slot.call.attempts.sent = sees.serves.sees.attempts.sent in
        let sent : slot.call.attempts.sent ≤ most_attempts (steps.call_plan slot.call) = sound.sent in
        let range : most_attempts (steps.call_plan slot.call) ≤ 5 = sound.range in
        omega (arith, count, sent, range)

    keeps : Keeps t c.number (steps.made due x0)
    keeps =
        subst (λ (u : Seen). Keeps u c.number (steps.made due x0)) made_is
        (made_here s c x0 due sees.serves.sees sees.order is_open next_is few (steps.made due x0) refl)

    same_call : keeps.call ≡ c1
    same_call =
        let both : Some keeps.call ≡ Some c1 = sym keeps.sees.own ∙ ap (numbered t.calls) keeps.number_is ∙ own_now in (cc)

    made_sees : Sees t c1 (steps.made due x0)
    made_sees = subst (λ (k : Call). Sees t k (steps.made due x0)) same_call keeps.sees

    made_order : IsInOrder t c1
    made_order = subst (IsInOrder t) same_call keeps.order

    own_sees : Sees t c1 (lent_to y t slot2)
    own_sees = record {
      own = made_sees.own;
      number_is = made_sees.number_is;
      request = made_sees.request;
      begun = made_sees.begun;
      chosen = made_sees.chosen;
      finished = made_sees.finished;
      longest_is = made_sees.longest_is;
      ended = made_sees.ended;
      attempts = made_sees.attempts;
      live = made_sees.live;
      tokens = made_sees.tokens;
      entry_is = made_sees.entry_is;
      rows = made_sees.rows;
      call_is = made_sees.call_is;
    }

    -- the action alone
    does : Does (does_it ∷ []) s t
    does = (next, sym made_is)

    kept : IsKept t
    kept = frames.kept (does_it ∷ []) s t h.kept does

    steady : IsSteady s c
    steady = record {
      turn = sees.turn;
      quiescent =
          any_less (is_of c) (λ (a : Attempt). wants_follower a s) s.attempts
          (any_none (λ (a : Attempt). wants_follower a s) s.attempts (unmapped (transparent_retry s) (find (λ (a : Attempt). wants_follower a s) s.attempts) quiescent));
    }

    turned : StaysSteady t c.number
    turned =
        subst (λ (u : Seen). StaysSteady u c.number) made_is
        (turns s c x0 nth why due (subst IsBook (sym made_is) kept.book) sees.serves.sees sound.going sees.order steady gives)

    own_turn : IsInTurn t c1
    own_turn =
        let both : Some turned.call ≡ Some c1 = sym turned.own ∙ own_now in
        let same : turned.call ≡ c1 = (cc) in subst (IsInTurn t) same turned.steady.turn

    -- it is not committed
    unstopped : (due_state c s).stopped ≡ false
    unstopped = due_open (plan_of c s) (attempts_made c s) (due_state c s) due next_is

    free : commitment c s ≡ None
    free = free_by (commitment c s) (is_some c.end) (λ e. sym (sees.order.stops e) ∙ unstopped)

    committed_same : (k : Call) → commitment k t ≡ commitment k s
    committed_same k = find_last_more (is_commitment k) s.attempts new (and_second (is_of k new) false refl)

    limits : (a : Attempt) → limit_of_attempt a (record s { calls = t.calls }) ≡ limit_of_attempt a s
    limits a = read_same noted c.number s.calls (λ (k : Call). (chosen_of k s).response) message_limit (λ k. refl) a.row.call

    received_same : (a : Attempt) → response a t ≡ response a s
    received_same a = response_same s t.calls limits a

    came_same : came c1 t ≡ came c s
    came_same =
        ap (λ (q : Option Attempt). option_map_or (λ (k : Attempt). response_items (response k t)) q []) (committed_same c)
        ∙ or_alike (λ (k : Attempt). response_items (response k t)) (λ (k : Attempt). response_items (response k s)) [] (λ k. ap response_items (received_same k)) (commitment c s)

    drained_same : drained_so_far c1 t ≡ drained_so_far c s
    drained_same = ap (λ (q : Option Attempt). option_map_or (λ (k : Attempt). drained k s) q 0) (committed_same c)

    -- what it holds for its attempts
    was_held : Holds s c slot.call.buffer
    was_held = sees.serves.holds is_open

    rows_are : length s.attempts ≡ length x.book.ledger.rows
    rows_are = sym (length-map s.attempts (λ (a : Attempt). a.row)) ∙ ap length h.columns.rows

    none_taken : taken_by place slot.call.buffer ≡ None
    none_taken =
        ap (taken_from place slot.call.buffer.cursors)
        (none_of slot.call.buffer.committed (was_held.committed ∙ ap (λ (q : Option Attempt). is_some q) free))
        ∙ ap (λ (n : ℕ). taken_uncommitted (n + 1) slot.call.buffer.cursors) rows_are
        ∙ ap (option_map (λ (k : Cursor). k.taken)) (none_held (length x.book.ledger.rows) slot.call.buffer.cursors sound.held)

    fed_new : IsFed (taken_by place slot.call.buffer) (text_of slot.call.buffer) (is_outstanding new) (drained new t) (framed_all c.messages)
    fed_new = subst (λ (q : Option ℕ). IsFed q (text_of slot.call.buffer) false (drained new t) (framed_all c.messages)) (sym none_taken) tt

    own_attempts : filter (is_of c) t.attempts ≡ filter (is_of c) s.attempts ++ new ∷ []
    own_attempts =
        filter-append (is_of c) s.attempts (new ∷ [])
        ∙ ap (λ (b : Bool). filter (is_of c) s.attempts ++ cond b (new ∷ []) []) (same_number c.number)

    holds_still : Holds t c1 slot2.call.buffer
    holds_still = record {
      fed =
          subst (λ (l : List Attempt). AttemptsAreFed t c1 slot.call.buffer l) (sym own_attempts)
          (all_last (λ (a : Attempt). IsFed (taken_by a.place slot.call.buffer) (text_of slot.call.buffer) (is_outstanding a) (drained a t) (framed_all c.messages))
          (filter (is_of c) s.attempts) new was_held.fed fed_new);
      held = subst (λ (n : ℕ). IsAt (passed slot.call.buffer) (text_of slot.call.buffer) n (framed_all c.messages)) (sym drained_same) was_held.held;
      committed = was_held.committed ∙ sym (ap (λ (q : Option Attempt). is_some q) (committed_same c));
    }

    ended_by : (row : ℕ) (q : Option Attempt) → numbered s.attempts row ≡ q → holds (λ (a : Attempt). is_some a.row.ended) q ≡ true → is_ended_at t row ≡ true
    ended_by row None e f = absurd (let bad : false ≡ true = f in (cc))
    ended_by row (Some a) e f = ap (holds (λ (b : Attempt). is_some b.row.ended)) (numbered_more s.attempts new a row e) ∙ f

    ended_still : (row : ℕ) → is_ended_at s row ≡ true → is_ended_at t row ≡ true
    ended_still row e = ended_by row (numbered s.attempts row) refl e

    counted_by : (q : Option ThrottleRun) → option_map_or (λ (run : ThrottleRun). list_all (is_ended_at s) run.ends) q true ≡ true
        → option_map_or (λ (run : ThrottleRun). list_all (is_ended_at t) run.ends) q true ≡ true
    counted_by None e = refl
    counted_by (Some run) e = all_wide (is_ended_at s) (is_ended_at t) ended_still run.ends e

    left_by : (l : List Reply) → IsLeft (came c s) c.taken l → IsLeft (came c1 t) c.taken l
    left_by l k = subst (λ (all : List Reply). IsLeft all c.taken l) (sym came_same) k

    own_serves : Serves t c1 (lent_to y t slot2)
    own_serves = record {
      sees = own_sees;
      places = placed_so 1 t.attempts made_order.places;
      config = sees.serves.config;
      links = refl;
      reads = sees.serves.reads;
      counted = counted_by (run_of c s) sees.serves.counted;
      end_taken = sees.serves.end_taken;
      going = sees.serves.going;
      left = λ e. left_by (channel_came slot.call) (sees.serves.left e);
      holds = λ e. holds_still;
    }

    -- what other calls have
    booked : (u : Seen) → IsKept u → IsBooked u
    booked u k = record { book = k.book; owned = k.owned; reads = k.reads }

    apart : GoesApart c.number s t
    apart = record {
      actions = does_it ∷ [];
      does = does;
      apart = (record { acts = same_number c.number; passes = λ d e f. refl }, tt);
      earlier = booked s h.kept;
      later = booked t kept;
    }

    -- the ledger
    calls_at : (m : ℕ) (b : Bool) → (m == c.number) ≡ b → numbered (map (call_seen t) t.calls) m ≡ numbered y.book.ledger.calls m
    calls_at m true e =
        ap (λ (k : ℕ). numbered (map (call_seen t) t.calls) k) (equal_numbers m c.number e)
        ∙ numbered_map (call_seen t) t.calls c.number ∙ ap (option_map (call_seen t)) own_now ∙ sym own_sees.call_is
        ∙ sym (ap (λ (k : ℕ). numbered y.book.ledger.calls k) (equal_numbers m c.number e))
    calls_at m false e =
        numbered_map (call_seen t) t.calls m ∙ frames.columns c.number s t apart m e ∙ sym (numbered_map (call_seen s) s.calls m)
        ∙ ap (λ (l : List CallSeen). numbered l m) h.columns.calls ∙ sym (same_words x.book.ledger.calls m)
        ∙ sym (number_other (noted_call x.book.ledger.entry) x.book.ledger.calls slot.call.number m (λ f. other_numbers m c.number e (f ∙ sym sees.serves.sees.number_is)))
        ∙ same_words y.book.ledger.calls m

    none_on : (l : Link) → list_any (is_outstanding_on l) t.attempts ≡ list_any (is_outstanding_on l) s.attempts
    none_on l = list_any-append (is_outstanding_on l) s.attempts (new ∷ []) ∙ or_none (list_any (is_outstanding_on l) s.attempts)
      where
        or_none : (b : Bool) → (b || false) ≡ b
        or_none true = refl
        or_none false = refl

    noted_same : (l : Link) → link_seen (noted_gone t l) ≡ link_seen (noted_gone s l)
    noted_same l =
        ap (λ (b : Bool). link_seen (if is_none l.gone && (is_some l.over || ((is_retiring l || is_shutdown_sub s l.sub) && not b)) then record l { gone = Some (entry s) } else l))
        (none_on l)

    columns : SeesColumns y.book.ledger t
    columns = record {
      rows = made_sees.rows;
      calls = same_numbered (map (call_seen t) t.calls) y.book.ledger.calls (λ m. calls_at m (m == c.number) refl);
      asks = h.columns.asks;
      generations = h.columns.generations;
      links = map_same (λ (l : Link). link_seen (noted_gone t l)) (λ (l : Link). link_seen (noted_gone s l)) noted_same s.links ∙ h.columns.links;
    }

    -- the buckets
    counted_run : (k : ℕ) (run : ThrottleRun) → numbered s.runs k ≡ Some run → bucket_in t (Some k) ≡ bucket_in s (Some k)
    counted_run k run e =
        subst (λ (u : Seen). tokens_in_run u (Some k) ≡ tokens_in_run s (Some k)) made_is
        (tokens_stay s does_it k h.kept.book (fair s does_it h.kept.book next) (ap (λ (q : Option ThrottleRun). is_some q) e) refl)

    bucket_at : (k : ℕ) (q : Option ThrottleRun) → numbered s.runs k ≡ q → bucket_in t (Some k) ≡ bucket_in s (Some k)
    bucket_at k None e = ap (option_map (bucket_of t)) e ∙ sym (ap (option_map (bucket_of s)) e)
    bucket_at k (Some run) e = counted_run k run e

    bucket_same : (r : Option ℕ) → bucket_in t r ≡ bucket_in s r
    bucket_same None = refl
    bucket_same (Some k) = bucket_at k (numbered s.runs k) refl

    buckets : SeesBuckets y.book.buckets t
    buckets = record {
      runs = ap (λ (l : List (Option Bucket)). None ∷ l) (map_same (bucket_in t) (bucket_in s) bucket_same (runs_in_turn s.configs)) ∙ h.buckets.runs;
      throttle = h.buckets.throttle;
    }

    -- the calls
    open_now : slot.call.ended ≡ None
    open_now = sym sees.serves.sees.ended ∙ ap (option_map (λ (e : CallEnd). e.cause)) is_open

    own_due : due_of t c1 ≡ slot2.due
    own_due =
        ap (λ (b : Bool). if b then session.next_due c1 t else None) (ap (λ (q : Option CallEnd). is_none q) is_open) ∙ dues t c1 (lent_to y t slot2) own_sees
        ∙ sym (ap (λ (q : Option _). if is_none q then next_due slot1.call else None) open_now)

    own_deadline : deadline_of t c1 ≡ slot2.deadline
    own_deadline =
        ap (λ (b : Bool). if b then deadline c1 t else None) (ap (λ (q : Option CallEnd). is_none q) is_open) ∙ deadline_is t c1 (lent_to y t slot2) own_serves
        ∙ sym (ap (λ (q : Option _). if is_none q then deadline_at slot1.call else None) open_now)

    own_call : SeesCall y t c1 slot2
    own_call = record {
      bucket = sees.bucket;
      serves = own_serves;
      order = made_order;
      turn = own_turn;
      due = own_due;
      deadline_is = own_deadline;
    }

    own_slot : (d : Call) → numbered t.calls c.number ≡ Some d → HasSlot y t d c.number
    own_slot d e =
        let both : Some c1 ≡ Some d = sym own_now ∙ e in
        let same : c1 ≡ d = (cc) in
        subst (λ (k : Call). HasSlot y t k c.number) same
        (record { slot = slot2; there = put_there x.book.calls c.number slot slot2 slot_there; sees = own_call })

    books_apart : BooksApart c.number x y t
    books_apart = record {
      entry_is = h.clock.entry_is;
      columns = columns;
      buckets = buckets;
      slots = λ m e. put_away x.book.calls c.number m slot slot2 slot_there e;
    }

    count : length t.calls ≡ length y.book.calls
    count = changed_length noted c.number s.calls ∙ h.calls.count ∙ sym (set_length x.book.calls (c.number - 1) slot2)

    -- the links
    cannot : SeesNoDifference (bears_on does_it s) s t
    cannot = subst (SeesNoDifference (bears_on does_it s) s) made_is (frames.no_difference does_it s h.kept tt)

    links : SeesLinks y t
    links = frames.links (bears_on does_it s) x y s t h.links h.kept kept (λ link e. refl) cannot h.links.count (λ link l e f. absurd (let bad : false ≡ true = e in (cc)))

    -- the sets
    others : SetsApart c.number s t
    others = frames.sets c.number x s t apart h.calls

    over_in : (a : Attempt) (k : Call) → is_over_in k a t ≡ is_over_in k a s
    over_in a k = ap (λ (q : Option Attempt). is_some k.end || holds (λ (b : Attempt). not (b.row.number == a.row.number)) q) (committed_same k)

    over_same : (a : Attempt) → is_over a t ≡ is_over a s
    over_same a =
        holds_alike (λ (k : Call). is_over_in k a t) (λ (k : Call). is_over_in k a s) (over_in a) (numbered t.calls a.row.call)
        ∙ holds_changed noted c.number s.calls (λ (k : Call). is_over_in k a s) (λ k. refl) a.row.call

    queued_same : (a : Attempt) → is_queued a t ≡ is_queued a s
    queued_same a = ap (λ (b : Bool). is_none a.row.placed && is_none a.row.ended && not b) (over_same a)

    new_over : is_over new t ≡ false
    new_over =
        ap (holds (λ (k : Call). is_over_in k new t)) own_now
        ∙ ap (λ (q : Option Attempt). is_some c.end || holds (λ (b : Attempt). not (b.row.number == nth)) q) (committed_same c ∙ free)
        ∙ ap (λ (q : Option CallEnd). is_some q || false) is_open

    waiting_by : (k row : ℕ) (b : Bool) → (row == place) ≡ b → is_waiting t k row ≡ (is_same (k, row) (c.number, place) || is_waiting s k row)
    waiting_by k row true e =
        subst (λ (r : ℕ). is_waiting t k r ≡ (is_same (k, r) (c.number, place) || is_waiting s k r)) (sym (equal_numbers row place e))
        (ap (holds (λ (a : Attempt). (a.row.call == k) && is_queued a t)) (numbered_last s.attempts new)
        ∙ ap (λ (b : Bool). (c.number == k) && not b) new_over ∙ and_on (c.number == k)
        ∙ sym (ap (λ (q : Option Attempt). is_same (k, place) (c.number, place) || holds (λ (a : Attempt). (a.row.call == k) && is_queued a s) q) (none_next s.attempts)
        ∙ or_none (is_same (k, place) (c.number, place)) ∙ pair_here k c.number place))
      where
        and_on : (b : Bool) → (b && true) ≡ b
        and_on true = refl
        and_on false = refl

        or_none : (b : Bool) → (b || false) ≡ b
        or_none true = refl
        or_none false = refl
    waiting_by k row false e =
        ap (holds (λ (a : Attempt). (a.row.call == k) && is_queued a t)) (more_away s.attempts new row e)
        ∙ holds_alike (λ (a : Attempt). (a.row.call == k) && is_queued a t) (λ (a : Attempt). (a.row.call == k) && is_queued a s)
        (λ a. ap (λ (b : Bool). (a.row.call == k) && b) (queued_same a)) (numbered s.attempts row)
        ∙ sym (ap (λ (b : Bool). b || is_waiting s k row) (pair_away k c.number row place e))

    waiting_more : (k row : ℕ) → is_waiting t k row ≡ (is_same (k, row) (c.number, place) || is_waiting s k row)
    waiting_more k row = waiting_by k row (row == place) refl

    wait_for_ready_same : (k : ℕ) → is_ready_waiter t k ≡ is_ready_waiter s k
    wait_for_ready_same k = holds_changed noted c.number s.calls (λ (d : Call). waits_for_ready d s) (λ d. refl) k

    wait_for_ready_is : is_ready_waiter s c.number ≡ waits slot.call
    wait_for_ready_is = wait_for_ready_of s c x0 sees.serves.sees

    here_wait_for_ready : (b : Bool) → waits slot.call ≡ b → (k row : ℕ) → is_same (k, row) (c.number, place) ≡ true → is_ready_waiter t k ≡ b
    here_wait_for_ready b w k row e = wait_for_ready_same k ∙ ap (is_ready_waiter s) (pair_first k c.number row place e) ∙ wait_for_ready_is ∙ w

    in_queue : (k row : ℕ) → is_in_queue t k row ≡ ((is_same (k, row) (c.number, place) || is_waiting s k row) && not (is_ready_waiter s k))
    in_queue k row =
        ap (λ (b : Bool). b && not (is_ready_waiter t k)) (waiting_more k row)
        ∙ ap (λ (b : Bool). (is_same (k, row) (c.number, place) || is_waiting s k row) && not b) (wait_for_ready_same k)

    in_ready_waiters : (k row : ℕ) → is_in_ready_waiters t k row ≡ ((is_same (k, row) (c.number, place) || is_waiting s k row) && is_ready_waiter s k)
    in_ready_waiters k row =
        ap (λ (b : Bool). b && is_ready_waiter t k) (waiting_more k row)
        ∙ ap (λ (b : Bool). (is_same (k, row) (c.number, place) || is_waiting s k row) && b) (wait_for_ready_same k)

    queue_by : (b : Bool) → waits slot.call ≡ b → PairsAreExactly (if b then x.queue else insert_key pair_cmp x.queue (c.number, place)) (is_in_queue t)
    queue_by true w =
        exactly_by x.queue (is_in_queue s) (is_in_queue t) h.sets.queue
        (λ k row. in_out (is_same (k, row) (c.number, place)) (is_waiting s k row) (not (is_ready_waiter s k))
        (λ e. ap not (sym (wait_for_ready_same k) ∙ here_wait_for_ready true w k row e)) ∙ sym (in_queue k row))
    queue_by false w =
        exactly_by (insert_key pair_cmp x.queue (c.number, place)) (λ k row. is_same (k, row) (c.number, place) || is_in_queue s k row) (is_in_queue t)
        (exactly_insert x.queue (is_in_queue s) (c.number, place) h.sets.queue)
        (λ k row. in_with (is_same (k, row) (c.number, place)) (is_waiting s k row) (not (is_ready_waiter s k))
        (λ e. ap not (sym (wait_for_ready_same k) ∙ here_wait_for_ready false w k row e)) ∙ sym (in_queue k row))

    wait_for_ready_by : (b : Bool) → waits slot.call ≡ b → PairsAreExactly (if b then insert_key pair_cmp x.ready_waiters (c.number, place) else x.ready_waiters) (is_in_ready_waiters t)
    wait_for_ready_by true w =
        exactly_by (insert_key pair_cmp x.ready_waiters (c.number, place)) (λ k row. is_same (k, row) (c.number, place) || is_in_ready_waiters s k row) (is_in_ready_waiters t)
        (exactly_insert x.ready_waiters (is_in_ready_waiters s) (c.number, place) h.sets.ready_waiters)
        (λ k row. in_with (is_same (k, row) (c.number, place)) (is_waiting s k row) (is_ready_waiter s k)
        (λ e. sym (wait_for_ready_same k) ∙ here_wait_for_ready true w k row e) ∙ sym (in_ready_waiters k row))
    wait_for_ready_by false w =
        exactly_by x.ready_waiters (is_in_ready_waiters s) (is_in_ready_waiters t) h.sets.ready_waiters
        (λ k row. in_out (is_same (k, row) (c.number, place)) (is_waiting s k row) (is_ready_waiter s k)
        (λ e. sym (wait_for_ready_same k) ∙ here_wait_for_ready false w k row e) ∙ sym (in_ready_waiters k row))

    -- by the place that the channel gives the row
    place_is : place ≡ steps.next_place x.book.ledger
    place_is = ap (λ (n : ℕ). n + 1) rows_are

    outstanding_by : (link row : ℕ) (b : Bool) → (row == place) ≡ b → is_in_outstanding s link row ≡ is_in_outstanding t link row
    outstanding_by link row true e =
        subst (λ (r : ℕ). is_in_outstanding s link r ≡ is_in_outstanding t link r) (sym (equal_numbers row place e))
        (ap (holds (λ (a : Attempt). is_outstanding a && (link_number a == link))) (none_next s.attempts)
        ∙ sym (ap (holds (λ (a : Attempt). is_outstanding a && (link_number a == link))) (numbered_last s.attempts new)))
    outstanding_by link row false e = sym (ap (holds (λ (a : Attempt). is_outstanding a && (link_number a == link))) (more_away s.attempts new row e))

    -- of the call itself
    own_dues : (u : Seen) (d : Call) (at : Option ℕ) → numbered u.calls c.number ≡ Some d → due_of u d ≡ at → (m : ℕ) → is_in_dues u m c.number ≡ is_number m at
    own_dues u d at e f m = ap (holds (λ (k : Call). is_number m (due_of u k))) e ∙ ap (is_number m) f

    own_deadlines : (u : Seen) (d : Call) (at : Option ℕ) → numbered u.calls c.number ≡ Some d → deadline_of u d ≡ at → (m : ℕ) → is_in_deadlines u m c.number ≡ is_number m at
    own_deadlines u d at e f m = ap (holds (λ (k : Call). is_number m (deadline_of u k))) e ∙ ap (is_number m) f

    unconfigured_same : (z k : ℕ) → is_awaiting_config s z k ≡ is_awaiting_config t z k
    unconfigured_same z k =
        sym (ap (λ (b : Bool). (z == 0) && b) (holds_changed noted c.number s.calls (λ (d : Call). is_open_call d && is_none d.config) (λ d. refl) k))

    fail_fast_same : (z k : ℕ) → is_in_fail_fast s z k ≡ is_in_fail_fast t z k
    fail_fast_same z k =
        ap (λ (b : Bool). b && not (is_ready_waiter s k)) (unconfigured_same z k) ∙ sym (ap (λ (b : Bool). is_awaiting_config t z k && not b) (wait_for_ready_same k))

    sets : SeesSets y t
    sets = record {
      queue =
          subst (λ (n : ℕ). PairsAreExactly (if waits slot.call then x.queue else insert_key pair_cmp x.queue (c.number, n)) (is_in_queue t)) place_is
          (queue_by (waits slot.call) refl);
      ready_waiters =
          subst (λ (n : ℕ). PairsAreExactly (if waits slot.call then insert_key pair_cmp x.ready_waiters (c.number, n) else x.ready_waiters) (is_in_ready_waiters t)) place_is
          (wait_for_ready_by (waits slot.call) refl);
      dues =
          timers_exactly c.number x.dues (is_in_dues s) slot.due slot2.due h.sets.dues (own_dues s c slot.due there sees.due) (is_in_dues t)
          (λ m k e. others.dues m k e) (own_dues t c1 slot2.due own_now own_due);
      deadlines =
          timers_exactly c.number x.deadlines (is_in_deadlines s) slot.deadline slot2.deadline h.sets.deadlines (own_deadlines s c slot.deadline there sees.deadline_is)
          (is_in_deadlines t) (λ m k e. others.deadlines m k e) (own_deadlines t c1 slot2.deadline own_now own_deadline);
      awaiting_config = exactly_by x.awaiting_config (is_awaiting_config s) (is_awaiting_config t) h.sets.awaiting_config unconfigured_same;
      fail_fast = exactly_by x.fail_fast (is_in_fail_fast s) (is_in_fail_fast t) h.sets.fail_fast fail_fast_same;
      outstanding = exactly_by x.outstanding (is_in_outstanding s) (is_in_outstanding t) h.sets.outstanding (λ link row. outstanding_by link row (row == place) refl);
      resets = h.sets.resets;
    }

    net_after : Sees_net t y.net
    net_after = subst (λ (u : Seen). Sees_net u x.net) made_is (frames.net s does_it x.net refl h.net)

    pub agrees_after : Agrees y (attempt_made c.number nth why due s)
    agrees_after =
        subst (Agrees y) (sym made_is)
        (record {
          clock = record { entry_is = h.clock.entry_is; moment = h.clock.moment; draws = (h.clock.draws.0, h.clock.draws.1) };
          columns = columns;
          configs = record { authority = h.configs.authority; shut = h.configs.shut; held = h.configs.held; unconfigured = h.configs.unconfigured; policy = h.configs.policy };
          buckets = buckets;
          calls = frames.calls c.number x y s t apart books_apart h.calls count own_slot;
          links = links;
          net = net_after;
          orderly = h.orderly;
          sets = sets;
          kept = kept;
        })
