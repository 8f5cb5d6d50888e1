-- One call gets its config: channel and session agree after it.
use Rattle.std.proofs.Common.{◌≡◌, ◌∙◌, ◌==◌, ◌&&◌, ◌-◌, ◌++◌, ◌∷◌, Bool, true, false, not, List, [], Option, None, Some, ℕ, ap, arith, refl, sym, subst, if◌then◌else◌, is_none, is_some, length, map, slice_get, filter}
use Rattle.std.proofs.lemmas.Bool.{and_parts}
use Rattle.std.proofs.lemmas.Bool.Decides.{nat_tests}
use Rattle.std.specs.List.{list_all}
use Rattle.std.specs.Option.{option_map, option_map_or}
use Rattle.std.specs.Prelude.{option_and_then}
use Rattle.a6_numbers.specs.Throttling.{Bucket}
use Rattle.attempt_ledger.specs.declared.ledger.CallSeen.{CallSeen}
use Rattle.call_actions.proofs.Unconfigured.{Had, had}
use Rattle.call_actions.proofs.Configured.{sees_now}
use Rattle.call_actions.proofs.Lists.{any_none, filter_none, last_none, numbered_not}
use Rattle.call_actions.specs.Laws.{AttemptsAreDue, IsUnconfigured, tokens_of_config}
use Rattle.call_actions.specs.Sees.{Sees, bucket_of}
use Rattle.call_core.specs.Laws.{came as channel_came}
use Rattle.call_core.specs.Steps.{Stepped, deadline_at, next_due, with_chosen}
use Rattle.call_actions.specs.CallsApart.Apart.{is_counted_there, is_end_there}
use Rattle.call_actions.specs.CallsApart.Laws.{LinesAreFair, TokensStay, tokens_in_run}
use Rattle.call_actions.specs.Order.{IsInOrder}
use Rattle.call_actions.specs.CallsInTurn.Laws.{CallsStart}
use Rattle.call_actions.specs.CallsInTurn.Turns.{IsSteady, is_rowless}
use Rattle.channel_actions.proofs.Gone.{all_numbered}
use Rattle.channel_actions.proofs.Stamps.{counted_at, map_same, numbered_map}
use Rattle.channel_actions.specs.Agrees.{Agrees}
use Rattle.channel_actions.specs.Calls.{HasSlot, SeesCall, deadline_of, due_of, lent_to}
use Rattle.channel_actions.specs.Columns.{SeesColumns}
use Rattle.channel_actions.specs.Configs.{SeesBuckets, bucket_in, bucket_place, runs_in_turn}
use Rattle.channel_actions.specs.Links.{SeesLinks}
use Rattle.channel_actions.specs.Sets.{SeesSets, is_awaiting_config, is_in_deadlines, is_in_dues, is_in_fail_fast, is_in_ready_waiters, is_in_queue, is_ready_waiter, is_waiting}
use Rattle.channel_core.proofs.BookLaws.{number_other}
use Rattle.channel_core.proofs.Places.{put_there}
use Rattle.channel_core.specs.Books.{slot_at}
use Rattle.channel_core.specs.States.{StateSeen}
use Rattle.channel_core.specs.Tables.{last_run, tokens_in}
use Rattle.channel_core.specs.declared.state.slots.CallSlot.{CallSlot}
use Rattle.channel_actions.proofs.Links.Settings.Slots.{put_away}
use Rattle.call_cases.proofs.ConfiguredCalls.Lists.{all_also, changed_length, draws_same, equal_numbers, last_bucket, map_length, other_numbers, same_number, same_numbered, same_words, set_length, take_all}
use Rattle.call_cases.specs.ConfiguredCalls.Laws.{CallsGetConfigs, Frames}
use Rattle.call_cases.specs.ConfiguredCalls.Steps.{chosen_slot, timed, with_config}
use Rattle.grpc_base.specs.declared.event.Reply.{Reply}
use Rattle.grpc_base.specs.declared.plan.Chosen.{Chosen}
use Rattle.channel_actions.specs.KeptSessions.Kept.{IsKept}
use Rattle.ledger_stamps.specs.Steps.{configured_call}
use Rattle.channel_actions.specs.LinkFrames.Alike.{SeesNoDifference}
use Rattle.channel_actions.specs.LinkFrames.Bears.{IsOrderly, bears_on}
use Rattle.net_actions.specs.Sees.{Sees as Sees_net}
use Rattle.call_cases.specs.OtherCalls.Laws.{SetsApart}
use Rattle.call_cases.specs.OtherCalls.Others.{BooksApart, GoesApart, IsBooked}
use Rattle.picker_gate.specs.Pairs.{is_same}
use Rattle.service_config.specs.Choice.{chosen_for}
use Rattle.session_actions.specs.Actions.{after, after_if, following}
use Rattle.session_actions.specs.Attempts.{commitment, is_commitment, is_of, is_outstanding, is_queued}
use Rattle.session_actions.specs.Calls.{is_open_call}
use Rattle.session_actions.specs.Configs.{call_configured, deadline, held_config}
use Rattle.session_actions.specs.DueAttempts as session
use Rattle.session_actions.specs.Deliveries.{response_items}
use Rattle.session_actions.specs.Entries.{entry, now}
use Rattle.session_actions.specs.Responses.{response}
use Rattle.session_actions.specs.Sessions.{Does, call_seen}
use Rattle.session_actions.specs.Tokens.{run_of}
use Rattle.session_actions.specs.Words.{holds, is_number, numbered}
use Rattle.session_actions.specs.Writing.{drained}
use Rattle.session_actions.specs.declared.action.Action.{Action}
use Rattle.session_actions.specs.declared.action.Action.TheVariants as action
use Rattle.session_actions.specs.declared.attempt.Attempt.{Attempt}
use Rattle.session_actions.specs.declared.call.Call.{Call}
use Rattle.session_actions.specs.declared.call.Mark.{Mark}
use Rattle.session_actions.specs.declared.call.MarkKind.TheVariants as mark
use Rattle.session_actions.specs.declared.config.HeldConfig.{HeldConfig}
use Rattle.session_actions.specs.declared.config.ThrottleRun.{ThrottleRun}
use Rattle.session_actions.specs.declared.entry.OpenEntry.{OpenEntry}
use Rattle.session_actions.specs.declared.seen.Seen.{Seen}
use Rattle.channel_actions.proofs.Links.Settings.Pairs.{exactly_by, exactly_remove}
use Rattle.channel_actions.proofs.Links.Settings.Timers.{other_key, own_key, timers_exactly}
use Rattle.call_actions.proofs.TakeActions.Deadlines.{deadline_is}
use Rattle.call_actions.specs.TakeActions.Serves.{AttemptsAreFed, Holds, IsAt, IsLeft, Serves, came, drained_so_far, is_ended_at, passed}
use Rattle.attempt_buffer.specs.Buffers.{text_of}
use Rattle.grpc_frame.specs.Messages.{framed_all}

and_none : (a b : Bool) → a ≡ false → (a && b) ≡ false
and_none true b e = absurd (cc)
and_none false b e = refl

and_second : (a b : Bool) → b ≡ false → (a && b) ≡ false
and_second true b e = e
and_second false b e = refl

and_on : (b : Bool) → (b && true) ≡ b
and_on true = refl
and_on false = refl

same_back_zero : (z : ℕ) → (0 == z) ≡ (z == 0)
same_back_zero z = grind (arith, nat_tests)

out_by : (test zero_ back : Bool) → back ≡ zero_ → (test ≡ true → zero_ ≡ true) → (test && not back) ≡ false
out_by true true true e f = refl
out_by true false false e f = absurd (let bad : false ≡ true = f refl in (cc))
out_by true true false e f = absurd (cc)
out_by true false true e f = absurd (cc)
out_by false zero_ back e f = refl

module _ (frames : Frames) (tokens_stay : TokensStay) (fair : LinesAreFair) (start : CallsStart) (dues : AttemptsAreDue) (x : StateSeen) (o : OpenEntry) (s : Seen)
    (h : Agrees x s) (current : s.current ≡ Some o) (c : Call) (there : numbered s.calls c.number ≡ Some c) (awaiting_config : IsUnconfigured s c) (g : HeldConfig)
    (is_held : held_config s ≡ Some g) (next : following s ≡ Some (action.CallConfigured c.number (length s.configs))) (slot : CallSlot)
    (slot_there : slot_at x.book c.number ≡ Some slot) (sees : SeesCall x s c slot) where
  abbrev chosen : Chosen
  chosen = chosen_for g.config c.request.path

  abbrev does_it : Action
  does_it = action.CallConfigured c.number (length s.configs)

  abbrev t : Seen
  t = call_configured c.number (length s.configs) s

  abbrev y : StateSeen
  y = with_config chosen c.number slot x

  abbrev c1 : Call
  c1 = record c { marks = c.marks ++ record { what = mark.Configured; moment = now s } ∷ []; config = Some (length s.configs); configured = Some (entry s) }

  abbrev slot1 : CallSlot
  slot1 = chosen_slot chosen slot x

  abbrev slot2 : CallSlot
  slot2 = timed slot1

  abbrev x0 : Stepped
  x0 = lent_to x s slot

  had_it : Had s c x0
  had_it = had s c x0 sees.serves.sees awaiting_config

  -- what the channel makes of the call
  abbrev made_at : ℕ → Stepped
  made_at moment = with_chosen chosen moment (record x0 { tokens = tokens_of_config s g })

  made_sees : Sees t c1 (made_at x.book.moment)
  made_sees = subst (λ (m : ℕ). Sees t c1 (made_at m)) h.clock.moment (sees_now s c x0 g sees.serves.sees awaiting_config is_held)

  -- its bucket is the last one
  bucket_last : slot2.bucket ≡ last_run x.book.buckets
  bucket_last = ap (λ (q : Option Chosen). if is_some q then slot.bucket else last_run x.book.buckets) had_it.chosen

  one_less : (l : List (Option Bucket)) → length {A = Option Bucket} (None ∷ l) - 1 ≡ length l
  one_less l = omega arith

  last_is : last_run x.book.buckets ≡ length (runs_in_turn s.configs)
  last_is =
      ap (λ (l : List (Option Bucket)). length l - 1) (sym h.buckets.runs)
      ∙ one_less (map (bucket_in s) (runs_in_turn s.configs)) ∙ map_length (bucket_in s) (runs_in_turn s.configs)

  tokens_are : tokens_of_config s g ≡ tokens_in x.book.buckets slot2.bucket
  tokens_are =
      sym (ap (tokens_in x.book.buckets) (bucket_last ∙ last_is)
      ∙ ap (λ (l : List (Option Bucket)). option_map_or (λ (b : Option Bucket). b) (slice_get l (length (runs_in_turn s.configs))) None) (sym h.buckets.runs)
      ∙ ap (λ (q : Option (Option Bucket)). option_map_or (λ (b : Option Bucket). b) q None) (last_bucket (bucket_in s) None s.configs g is_held))

  place_is : bucket_place t c1 ≡ slot2.bucket
  place_is = ap (λ (l : List HeldConfig). length (runs_in_turn l)) (take_all s.configs) ∙ sym last_is ∙ sym bucket_last

  own_sees : Sees t c1 (lent_to y t slot2)
  own_sees = record {
    own = made_sees.own;
    number_is = made_sees.number_is;
    request = made_sees.request;
    begun = made_sees.begun;
    chosen = made_sees.chosen;
    finished = made_sees.finished;
    longest_is = made_sees.longest_is;
    ended = made_sees.ended;
    attempts = made_sees.attempts;
    live = made_sees.live;
    tokens = made_sees.tokens ∙ tokens_are;
    entry_is = made_sees.entry_is;
    rows = made_sees.rows;
    call_is = made_sees.call_is;
  }

  -- nothing came for it, and it has no attempt
  no_commitment : commitment c s ≡ None
  no_commitment = last_none (is_commitment c) (is_of c) (λ a e. and_none (is_of c a) (is_some a.row.committed) e) s.attempts awaiting_config.none

  no_attempts : filter (is_of c) s.attempts ≡ []
  no_attempts = filter_none (is_of c) (is_of c) (λ a e. e) s.attempts awaiting_config.none

  came_same : came c1 t ≡ came c s
  came_same =
      ap (λ (q : Option Attempt). option_map_or (λ (k : Attempt). response_items (response k t)) q []) no_commitment
      ∙ sym (ap (λ (q : Option Attempt). option_map_or (λ (k : Attempt). response_items (response k s)) q []) no_commitment)

  drained_same : drained_so_far c1 t ≡ drained_so_far c s
  drained_same =
      ap (λ (q : Option Attempt). option_map_or (λ (k : Attempt). drained k t) q 0) no_commitment
      ∙ sym (ap (λ (q : Option Attempt). option_map_or (λ (k : Attempt). drained k s) q 0) no_commitment)

  was_held : Holds s c slot.call.buffer
  was_held = sees.serves.holds awaiting_config.end

  holds_still : Holds t c1 slot2.call.buffer
  holds_still = record {
    fed = subst (λ (l : List Attempt). AttemptsAreFed t c1 slot.call.buffer l) (sym no_attempts) tt;
    held = subst (λ (n : ℕ). IsAt (passed slot.call.buffer) (text_of slot.call.buffer) n (framed_all c.messages)) (sym drained_same) was_held.held;
    committed = was_held.committed;
  }

  ended_by : (q : Option Attempt) → holds (is_end_there s) q ≡ true → holds (λ (a : Attempt). is_some a.row.ended) q ≡ true
  ended_by None e = absurd (cc)
  ended_by (Some a) e = (and_parts (is_some a.row.ended) _ e).0

  ended_there : (place : ℕ) → holds (is_end_there s) (numbered s.attempts place) ≡ true → is_ended_at s place ≡ true
  ended_there place e = ended_by (numbered s.attempts place) e

  counted_by : (q : Option ℕ) (r : Option ThrottleRun) → option_and_then (numbered s.runs) q ≡ r → option_map_or (λ (run : ThrottleRun). list_all (is_ended_at t) run.ends) r true ≡ true
  counted_by q None e = refl
  counted_by None (Some run) e = absurd (cc)
  counted_by (Some k) (Some run) e =
      all_also (λ (place : ℕ). holds (is_end_there s) (numbered s.attempts place)) (is_ended_at s) ended_there run.ends
      (all_numbered (is_counted_there s) s.runs k run e h.kept.book.counted)

  left_by : (l : List Reply) → IsLeft (came c s) c.taken l → IsLeft (came c1 t) c.taken l
  left_by l k = subst (λ (all : List Reply). IsLeft all c.taken l) (sym came_same) k

  run_is : run_of c1 t ≡ option_and_then (numbered s.runs) g.run
  run_is = ap (λ (q : Option HeldConfig). option_and_then (numbered s.runs) (option_and_then (λ (z : HeldConfig). z.run) q)) is_held

  own_serves : Serves t c1 (lent_to y t slot2)
  own_serves = record {
    sees = own_sees;
    places = sees.serves.places;
    config = sym (ap (λ (q : Option HeldConfig). is_some q) is_held);
    links = refl;
    reads = sees.serves.reads;
    counted =
        ap (λ (r : Option ThrottleRun). option_map_or (λ (run : ThrottleRun). list_all (is_ended_at t) run.ends) r true) run_is
        ∙ counted_by g.run (option_and_then (numbered s.runs) g.run) refl;
    end_taken = sees.serves.end_taken;
    going = sees.serves.going;
    left = λ e. left_by (channel_came slot.call) (sees.serves.left e);
    holds = λ e. holds_still;
  }

  -- the action alone
  after_is : after does_it s ≡ t
  after_is = ap (λ (q : Option OpenEntry). after_if q does_it s) current

  does : Does (does_it ∷ []) s t
  does = (next, sym after_is)

  kept : IsKept t
  kept = frames.kept (does_it ∷ []) s t h.kept does

  booked : (u : Seen) → IsKept u → IsBooked u
  booked u k = record { book = k.book; owned = k.owned; reads = k.reads }

  apart : GoesApart c.number s t
  apart = record {
    actions = does_it ∷ [];
    does = does;
    apart = (record { acts = same_number c.number; passes = λ d e f. refl }, tt);
    earlier = booked s h.kept;
    later = booked t kept;
  }

  -- the ledger
  calls_at : (m : ℕ) (b : Bool) → (m == c.number) ≡ b → numbered (map (call_seen t) t.calls) m ≡ numbered y.book.ledger.calls m
  calls_at m true e =
      ap (λ (k : ℕ). numbered (map (call_seen t) t.calls) k) (equal_numbers m c.number e)
      ∙ numbered_map (call_seen t) t.calls c.number ∙ ap (option_map (call_seen t)) own_sees.own ∙ sym own_sees.call_is
      ∙ sym (ap (λ (k : ℕ). numbered y.book.ledger.calls k) (equal_numbers m c.number e))
  calls_at m false e =
      numbered_map (call_seen t) t.calls m ∙ frames.columns c.number s t apart m e ∙ sym (numbered_map (call_seen s) s.calls m)
      ∙ ap (λ (l : List CallSeen). numbered l m) h.columns.calls ∙ sym (same_words x.book.ledger.calls m)
      ∙ sym (number_other (configured_call x.book.ledger.entry) x.book.ledger.calls slot.call.number m (λ f. other_numbers m c.number e (f ∙ sym sees.serves.sees.number_is)))
      ∙ same_words y.book.ledger.calls m

  columns : SeesColumns y.book.ledger t
  columns = record {
    rows = h.columns.rows;
    calls = same_numbered (map (call_seen t) t.calls) y.book.ledger.calls (λ m. calls_at m (m == c.number) refl);
    asks = h.columns.asks;
    generations = h.columns.generations;
    links = h.columns.links;
  }

  -- the buckets
  counted_run : (k : ℕ) (run : ThrottleRun) → numbered s.runs k ≡ Some run → bucket_in t (Some k) ≡ bucket_in s (Some k)
  counted_run k run e =
      subst (λ (u : Seen). tokens_in_run u (Some k) ≡ tokens_in_run s (Some k)) after_is
      (tokens_stay s does_it k h.kept.book (fair s does_it h.kept.book next) (ap (λ (q : Option ThrottleRun). is_some q) e) refl)

  bucket_at : (k : ℕ) (q : Option ThrottleRun) → numbered s.runs k ≡ q → bucket_in t (Some k) ≡ bucket_in s (Some k)
  bucket_at k None e = ap (option_map (bucket_of t)) e ∙ sym (ap (option_map (bucket_of s)) e)
  bucket_at k (Some run) e = counted_run k run e

  bucket_same : (r : Option ℕ) → bucket_in t r ≡ bucket_in s r
  bucket_same None = refl
  bucket_same (Some k) = bucket_at k (numbered s.runs k) refl

  buckets : SeesBuckets y.book.buckets t
  buckets = record {
    runs = ap (λ (l : List (Option Bucket)). None ∷ l) (map_same (bucket_in t) (bucket_in s) bucket_same (runs_in_turn s.configs)) ∙ h.buckets.runs;
    throttle = h.buckets.throttle;
  }

  -- the calls
  orderly_pair : IsInOrder t c1 × IsSteady t c1
  orderly_pair = start t c1 kept.book awaiting_config.none (ap (λ (l : List Mark). list_all (λ (m : Mark). is_rowless m.what) (l ++ record { what = mark.Configured; moment = now s } ∷ [])) awaiting_config.marks) awaiting_config.end

  own_due : due_of t c1 ≡ slot2.due
  own_due =
      ap (λ (b : Bool). if b then session.next_due c1 t else None) (ap (λ (q : Option _). is_none q) awaiting_config.end) ∙ dues t c1 (lent_to y t slot2) own_sees
      ∙ sym (ap (λ (q : Option _). if is_none q then next_due slot1.call else None) had_it.open_now)

  own_deadline : deadline_of t c1 ≡ slot2.deadline
  own_deadline =
      ap (λ (b : Bool). if b then deadline c1 t else None) (ap (λ (q : Option _). is_none q) awaiting_config.end) ∙ deadline_is t c1 (lent_to y t slot2) own_serves
      ∙ sym (ap (λ (q : Option _). if is_none q then deadline_at slot1.call else None) had_it.open_now)

  own_call : SeesCall y t c1 slot2
  own_call = record {
    bucket = place_is;
    serves = own_serves;
    order = orderly_pair.0;
    turn = orderly_pair.1.turn;
    due = own_due;
    deadline_is = own_deadline;
  }

  own_slot : (d : Call) → numbered t.calls c.number ≡ Some d → HasSlot y t d c.number
  own_slot d e =
      let both : Some c1 ≡ Some d = sym own_sees.own ∙ e in
      let same : c1 ≡ d = (cc) in
      subst (λ (k : Call). HasSlot y t k c.number) same
      (record { slot = slot2; there = put_there x.book.calls c.number slot slot2 slot_there; sees = own_call })

  books_apart : BooksApart c.number x y t
  books_apart = record {
    entry_is = h.clock.entry_is;
    columns = columns;
    buckets = buckets;
    slots = λ m e. put_away x.book.calls c.number m slot slot2 slot_there e;
  }

  count : length t.calls ≡ length y.book.calls
  count =
      changed_length (λ (k : Call). record k { config = Some (length s.configs); configured = Some (entry s) }) c.number _
      ∙ changed_length (λ (k : Call). record k { marks = k.marks ++ record { what = mark.Configured; moment = now s } ∷ [] }) c.number s.calls
      ∙ h.calls.count ∙ sym (set_length x.book.calls (c.number - 1) slot2)

  -- the links
  orderly : IsOrderly does_it s
  orderly =
      any_none (λ (a : Attempt). is_outstanding a && (a.row.call == c.number)) (is_of c) (λ a e. and_second (is_outstanding a) (a.row.call == c.number) e) s.attempts awaiting_config.none

  cannot : SeesNoDifference (bears_on does_it s) s t
  cannot = subst (SeesNoDifference (bears_on does_it s) s) after_is (frames.no_difference does_it s h.kept orderly)

  links : SeesLinks y t
  links = frames.links (bears_on does_it s) x y s t h.links h.kept kept (λ link e. refl) cannot h.links.count (λ link l e f. absurd (cc))

  -- the sets
  others : SetsApart c.number s t
  others = frames.sets c.number x s t apart h.calls

  waits_by : (u : Seen) (row : ℕ) (q : Option Attempt) → numbered s.attempts row ≡ q → holds (λ (a : Attempt). (a.row.call == c.number) && is_queued a u) q ≡ false
  waits_by u row None e = refl
  waits_by u row (Some a) e = and_none (a.row.call == c.number) (is_queued a u) (numbered_not (is_of c) s.attempts row a awaiting_config.none e)

  queue_same : (k row : ℕ) (b : Bool) → (k == c.number) ≡ b → is_in_queue s k row ≡ is_in_queue t k row
  queue_same k row true e =
      subst (λ (n : ℕ). is_in_queue s n row ≡ is_in_queue t n row) (sym (equal_numbers k c.number e))
      (and_none (is_waiting s c.number row) (not (is_ready_waiter s c.number)) (waits_by s row (numbered s.attempts row) refl)
      ∙ sym (and_none (is_waiting t c.number row) (not (is_ready_waiter t c.number)) (waits_by t row (numbered s.attempts row) refl)))
  queue_same k row false e = sym (others.queue k row e)

  wait_for_ready_same : (k row : ℕ) (b : Bool) → (k == c.number) ≡ b → is_in_ready_waiters s k row ≡ is_in_ready_waiters t k row
  wait_for_ready_same k row true e =
      subst (λ (n : ℕ). is_in_ready_waiters s n row ≡ is_in_ready_waiters t n row) (sym (equal_numbers k c.number e))
      (and_none (is_waiting s c.number row) (is_ready_waiter s c.number) (waits_by s row (numbered s.attempts row) refl)
      ∙ sym (and_none (is_waiting t c.number row) (is_ready_waiter t c.number) (waits_by t row (numbered s.attempts row) refl)))
  wait_for_ready_same k row false e = sym (others.ready_waiters k row e)

  -- of the call itself
  own_dues : (u : Seen) (d : Call) (at : Option ℕ) → numbered u.calls c.number ≡ Some d → due_of u d ≡ at → (m : ℕ) → is_in_dues u m c.number ≡ is_number m at
  own_dues u d at e f m = ap (holds (λ (k : Call). is_number m (due_of u k))) e ∙ ap (is_number m) f

  own_deadlines : (u : Seen) (d : Call) (at : Option ℕ) → numbered u.calls c.number ≡ Some d → deadline_of u d ≡ at → (m : ℕ) → is_in_deadlines u m c.number ≡ is_number m at
  own_deadlines u d at e f m = ap (holds (λ (k : Call). is_number m (deadline_of u k))) e ∙ ap (is_number m) f

  unconfigured_gone : (z : ℕ) → is_awaiting_config t z c.number ≡ false
  unconfigured_gone z =
      ap (λ (q : Option Call). (z == 0) && holds (λ (k : Call). is_open_call k && is_none k.config) q) own_sees.own
      ∙ and_second (z == 0) (is_open_call c1 && false) (and_second (is_open_call c1) false refl)

  unconfigured_out : (test : Bool) (z : ℕ) → (test ≡ true → (z == 0) ≡ true) → (test && not (is_same (0, c.number) (z, c.number))) ≡ false
  unconfigured_out test z zero_ = ap (λ (b : Bool). test && not b) (own_key 0 z c.number) ∙ out_by test (z == 0) (0 == z) (same_back_zero z) zero_

  unconfigured_same : (z k : ℕ) (b : Bool) → (k == c.number) ≡ b → (is_awaiting_config s z k && not (is_same (0, c.number) (z, k))) ≡ is_awaiting_config t z k
  unconfigured_same z k true e =
      subst (λ (n : ℕ). (is_awaiting_config s z n && not (is_same (0, c.number) (z, n))) ≡ is_awaiting_config t z n) (sym (equal_numbers k c.number e))
      (unconfigured_out (is_awaiting_config s z c.number) z (λ f. (and_parts (z == 0) _ f).0) ∙ sym (unconfigured_gone z))
  unconfigured_same z k false e =
      ap (λ (b : Bool). is_awaiting_config s z k && not b) (other_key 0 z k c.number e) ∙ and_on (is_awaiting_config s z k) ∙ sym (others.awaiting_config z k e)

  fail_fast_same : (z k : ℕ) (b : Bool) → (k == c.number) ≡ b → (is_in_fail_fast s z k && not (is_same (0, c.number) (z, k))) ≡ is_in_fail_fast t z k
  fail_fast_same z k true e =
      subst (λ (n : ℕ). (is_in_fail_fast s z n && not (is_same (0, c.number) (z, n))) ≡ is_in_fail_fast t z n) (sym (equal_numbers k c.number e))
      (unconfigured_out (is_in_fail_fast s z c.number) z (λ f. (and_parts (z == 0) _ (and_parts (is_awaiting_config s z c.number) (not (is_ready_waiter s c.number)) f).0).0)
      ∙ sym (and_none (is_awaiting_config t z c.number) (not (is_ready_waiter t c.number)) (unconfigured_gone z)))
  fail_fast_same z k false e =
      ap (λ (b : Bool). is_in_fail_fast s z k && not b) (other_key 0 z k c.number e) ∙ and_on (is_in_fail_fast s z k) ∙ sym (others.fail_fast z k e)

  sets : SeesSets y t
  sets = record {
    queue = exactly_by x.queue (is_in_queue s) (is_in_queue t) h.sets.queue (λ k row. queue_same k row (k == c.number) refl);
    ready_waiters = exactly_by x.ready_waiters (is_in_ready_waiters s) (is_in_ready_waiters t) h.sets.ready_waiters (λ k row. wait_for_ready_same k row (k == c.number) refl);
    dues =
        timers_exactly c.number x.dues (is_in_dues s) slot.due slot2.due h.sets.dues (own_dues s c slot.due there sees.due) (is_in_dues t)
        (λ m k e. others.dues m k e) (own_dues t c1 slot2.due own_sees.own own_due);
    deadlines =
        timers_exactly c.number x.deadlines (is_in_deadlines s) slot.deadline slot2.deadline h.sets.deadlines (own_deadlines s c slot.deadline there sees.deadline_is)
        (is_in_deadlines t) (λ m k e. others.deadlines m k e) (own_deadlines t c1 slot2.deadline own_sees.own own_deadline);
    awaiting_config =
        exactly_by y.awaiting_config (λ z k. is_awaiting_config s z k && not (is_same (0, c.number) (z, k))) (is_awaiting_config t) (exactly_remove x.awaiting_config (is_awaiting_config s) (0, c.number) h.sets.awaiting_config)
        (λ z k. unconfigured_same z k (k == c.number) refl);
    fail_fast =
        exactly_by y.fail_fast (λ z k. is_in_fail_fast s z k && not (is_same (0, c.number) (z, k))) (is_in_fail_fast t)
        (exactly_remove x.fail_fast (is_in_fail_fast s) (0, c.number) h.sets.fail_fast) (λ z k. fail_fast_same z k (k == c.number) refl);
    outstanding = h.sets.outstanding;
    resets = h.sets.resets;
  }

  net_after : Sees_net t y.net
  net_after = subst (λ (u : Seen). Sees_net u x.net) after_is (frames.net s does_it x.net refl h.net)

  pub agrees_after : Agrees y t
  agrees_after = record {
    clock = record { entry_is = h.clock.entry_is; moment = h.clock.moment; draws = draws_same s.current x y refl refl h.clock.draws };
    columns = columns;
    configs = record { authority = h.configs.authority; shut = h.configs.shut; held = h.configs.held; unconfigured = h.configs.unconfigured; policy = h.configs.policy };
    buckets = buckets;
    calls = frames.calls c.number x y s t apart books_apart h.calls count own_slot;
    links = links;
    net = net_after;
    orderly = h.orderly;
    sets = sets;
    kept = kept;
  }

-- of the number of the call
pub calls_get_configs : TokensStay → LinesAreFair → CallsStart → AttemptsAreDue → CallsGetConfigs
calls_get_configs tokens_stay fair start dues frames number x o s k own =
    let is : k.call.number ≡ number = counted_at (λ (d : Call). d.number) s.calls number k.call k.agrees.kept.calls k.there in
    let P : ℕ → Type 0
    = λ n. numbered s.calls n ≡ Some k.call → following s ≡ Some (action.CallConfigured n (length s.configs)) → slot_at x.book n ≡ Some own.slot
    → Agrees (with_config (chosen_for k.held.config k.call.request.path) n own.slot x) (call_configured n (length s.configs) s) in
    subst P is
    (λ there next here. agrees_after frames tokens_stay fair start dues x o s k.agrees k.current k.call there k.awaiting_config k.held k.is_held next own.slot here own.sees)
    k.there k.next own.there
