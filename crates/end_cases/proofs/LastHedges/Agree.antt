-- Channel and session agree, once a hedge was withheld where no attempt of its call goes on.
use Rattle.a6_numbers.specs.Throttling.{Bucket}
use Rattle.attempt_ledger.specs.declared.ledger.CallSeen.{CallSeen}
use Rattle.call_actions.proofs.CallsApart.Books.{tokens_stay}
use Rattle.call_actions.proofs.Lists.{numbered_not}
use Rattle.call_actions.specs.CallsApart.Laws.{tokens_in_run}
use Rattle.call_actions.specs.Order.{IsInOrder, IsInTurn}
use Rattle.call_actions.specs.Sees.{Sees, bucket_of, is_live}
use Rattle.call_actions.specs.TakeActions.Serves.{IsLeft, Serves}
use Rattle.call_core.specs.Laws as channel_laws
use Rattle.call_core.specs.Steps.{Stepped}
use Rattle.channel_actions.proofs.Does.{does_on}
use Rattle.channel_actions.proofs.KeptSessions.Along.{kept_along}
use Rattle.channel_actions.proofs.Links.Frames.Frame.{links_stay}
use Rattle.channel_actions.proofs.Links.Frames.NoDifference.{lists_make_no_difference}
use Rattle.call_cases.proofs.OtherCalls.Rows.{columns_stay}
use Rattle.call_cases.proofs.OtherCalls.Sets.{sets_stay}
use Rattle.call_cases.proofs.OtherCalls.Slots.{all_calls_stay}
use Rattle.channel_actions.proofs.Links.Settings.Pairs.{exactly_by, exactly_remove}
use Rattle.channel_actions.proofs.Links.Settings.Slots.{put_away}
use Rattle.channel_actions.proofs.Links.Settings.Timers.{other_key, own_key, timers_exactly}
use Rattle.channel_actions.proofs.Settles.{with_open}
use Rattle.channel_actions.proofs.Stamps.{map_same, numbered_map}
use Rattle.channel_actions.specs.Agrees.{Agrees}
use Rattle.channel_actions.specs.Calls.{HasSlot, SeesCall, deadline_of, due_of, lent_to}
use Rattle.channel_actions.specs.Columns.{SeesColumns, links_noted}
use Rattle.channel_actions.specs.Configs.{SeesBuckets, bucket_in, runs_in_turn}
use Rattle.channel_actions.specs.KeptSessions.Kept.{IsKept}
use Rattle.channel_actions.specs.LinkFrames.Alike.{SeesNoDifference}
use Rattle.channel_actions.specs.LinkFrames.Bears.{bear_on}
use Rattle.channel_actions.specs.Links.{SeesLinks}
use Rattle.call_cases.specs.OtherCalls.Laws.{SetsApart}
use Rattle.call_cases.specs.OtherCalls.Others.{ActionsAreOfCall, BooksApart, GoesApart, IsBooked}
use Rattle.channel_actions.specs.Sets.{SeesSets, is_awaiting_config, is_in_deadlines, is_in_dues, is_in_fail_fast, is_in_outstanding, is_in_ready_waiters, is_in_queue, is_ready_waiter}
use Rattle.end_cases.proofs.AttemptEnds.ClosedAgree.{of_call_on}
use Rattle.end_cases.proofs.AttemptEnds.Closing.{placed_by}
use Rattle.end_cases.proofs.AttemptEnds.OffSets.{and_on}
use Rattle.call_cases.proofs.ConfiguredCalls.Lists.{changed_length, same_numbered, same_words, set_length}
use Rattle.attempt_cases.proofs.DrainEvents.Links.{all_kept}
use Rattle.end_cases.proofs.LastHedges.Channel as channel
use Rattle.end_cases.proofs.LastHedges.Step as step
use Rattle.end_cases.proofs.LastHedges.Step.{LastHedge}
use Rattle.channel_core.proofs.BookLaws.{number_other}
use Rattle.channel_core.proofs.Places.{put_there}
use Rattle.channel_core.specs.Books.{slot_at}
use Rattle.channel_core.specs.States.{StateSeen}
use Rattle.channel_core.specs.Steps.{made_one}
use Rattle.channel_core.specs.declared.state.slots.CallSlot.{CallSlot}
use Rattle.grpc_base.specs.declared.event.EndCause.TheVariants as ending_cause
use Rattle.grpc_base.specs.declared.event.Reply.{Reply}
use Rattle.ledger_stamps.specs.Steps.{ended_call}
use Rattle.net_actions.proofs.NetFrames.Left.{net_stays_along}
use Rattle.picker_gate.specs.Pairs.{is_same}
use Rattle.session_actions.specs.Actions.{after as after_action, following}
use Rattle.session_actions.specs.Attempts.{is_of, is_outstanding, is_over, is_over_in, is_queued}
use Rattle.session_actions.specs.Calls.{is_open_call}
use Rattle.session_actions.specs.Closing.{noted_gone}
use Rattle.session_actions.specs.Commitments.{with_commitment}
use Rattle.session_actions.specs.Entries.{entry}
use Rattle.session_actions.specs.Links.{is_retiring, link_number}
use Rattle.session_actions.specs.Reading.{is_outstanding_on}
use Rattle.session_actions.specs.Refusals.{is_shutdown_sub}
use Rattle.session_actions.specs.Sessions.{Does, call_seen, link_seen}
use Rattle.session_actions.specs.Words.{changed, holds, is_number, numbered}
use Rattle.session_actions.specs.declared.action.Action.{Action}
use Rattle.session_actions.specs.declared.attempt.Attempt.{Attempt}
use Rattle.session_actions.specs.declared.call.Call.{Call}
use Rattle.session_actions.specs.declared.call.MarkKind.TheVariants as mark
use Rattle.session_actions.specs.declared.config.ThrottleRun.{ThrottleRun}
use Rattle.session_actions.specs.declared.entry.OpenEntry.{OpenEntry}
use Rattle.session_actions.specs.declared.link.Link.{Link}
use Rattle.session_actions.specs.declared.seen.Seen.{Seen}
use Rattle.session_order.proofs.Changed.{any_changed, lookup}
use Rattle.std.proofs.Common.{Bool, List, None, Option, Some, [], ap, arith, eq-eqb, eqb-true, false, if◌then◌else◌, is_none, is_some, length, map, not, option_map, refl, subst, sym, true, ℕ, ◌&&◌, ◌-◌, ◌==◌, ◌||◌, ◌∙◌, ◌∷◌, ◌≡◌}
use Rattle.std.proofs.lemmas.Bool.Decides.{nat_tests}
use Rattle.std.proofs.lemmas.Bool.{and_right, eqb-false}
use Rattle.std.specs.Option.{option_map_or}
use Rattle.std.specs.Set.{remove_key}

and_none : (p q : Bool) → q ≡ false → (p && q) ≡ false
and_none p q e = and_right p q e

waits_not : (mine out_ q : Bool) → (mine && (out_ || q)) ≡ false → (mine && q) ≡ false
waits_not true true true e = absurd (cc)
waits_not true false true e = absurd (cc)
waits_not true out_ false e = refl
waits_not false out_ q e = refl

gone_by : (p q r : Bool) → p ≡ q → ((p && r) && not q) ≡ false
gone_by true true r e = and_right r false refl
gone_by true false r e = absurd (cc)
gone_by false q r e = refl

gone_too : (p q r v : Bool) → p ≡ q → (((p && r) && v) && not q) ≡ false
gone_too true true r v e = and_right (r && v) false refl
gone_too true false r v e = absurd (cc)
gone_too false q r v e = refl

zero_turns : (m : ℕ) → (m == 0) ≡ (0 == m)
zero_turns m = grind (arith, nat_tests)

module _ (x : StateSeen) (o : OpenEntry) (s0 : Seen) (k : LastHedge x o (with_open o s0)) where
  abbrev s : Seen
  s = step.s x o s0 k

  abbrev c : Call
  c = step.c x o s0 k

  abbrev n : ℕ
  n = c.number

  abbrev h : Agrees x s
  h = k.agrees

  abbrev a : Attempt
  a = step.a x o s0 k

  abbrev was : CallSlot
  was = step.slot x o s0 k

  abbrev u1 : Seen
  u1 = step.u1 x o s0 k

  abbrev u2 : Seen
  u2 = step.u2 x o s0 k

  abbrev t : Seen
  t = step.t x o s0 k

  abbrev c3 : Call
  c3 = step.c3 x o s0 k

  abbrev one : Action
  one = step.one x o s0 k

  abbrev two : Action
  two = step.two x o s0 k

  abbrev three : Action
  three = step.three x o s0 k

  abbrev due : ℕ
  due = (step.now_is x o s0 k).due

  -- the channel
  abbrev its_there : slot_at x.book n ≡ Some was
  its_there = (step.own x o s0 k).there

  abbrev pub slot2 : CallSlot
  slot2 = channel.slot2 n a.place due was x its_there (step.refused x o s0 k x.book.ledger) (step.last_same x o s0 k) (step.none_live x o s0 k) h.sets.resets

  abbrev pub y : StateSeen
  y = channel.y n a.place due was x its_there (step.refused x o s0 k x.book.ledger) (step.last_same x o s0 k) (step.none_live x o s0 k) h.sets.resets

  pub channel_is : made_one n x ≡ y
  channel_is = channel.last_is n a.place due was x its_there (step.refused x o s0 k x.book.ledger) (step.last_same x o s0 k) (step.none_live x o s0 k) h.sets.resets

  -- up to the commitment
  does_one : Does (one ∷ []) s u1
  does_one = (k.next, refl)

  pub kept_one : IsKept u1
  kept_one = kept_along (one ∷ []) s u1 h.kept does_one

  booked : (q : Seen) → IsKept q → IsBooked q
  booked q kept = record { book = kept.book; owned = kept.owned; reads = kept.reads }

  of_one : ActionsAreOfCall n (one ∷ []) s
  of_one = (record { acts = eq-eqb n n refl; passes = λ g at off. refl }, tt)

  pub apart_one : GoesApart n s u1
  apart_one = record { actions = one ∷ []; does = does_one; apart = of_one; earlier = booked s h.kept; later = booked u1 kept_one }

  pub after_two : after_action two u1 ≡ u2
  after_two = step.commit_is x o s0 k

  module _ (next_two : following u1 ≡ Some two) where
    does_two : Does (two ∷ []) u1 u2
    does_two = (next_two, sym after_two)

    abbrev start : List Action
    start = one ∷ two ∷ []

    does_start : Does start s u2
    does_start = does_on (one ∷ []) (two ∷ []) s u1 u2 does_one does_two

    pub kept_two : IsKept u2
    kept_two = kept_along start s u2 h.kept does_start

    of_two : ActionsAreOfCall n (two ∷ []) u1
    of_two = (
      record {
        acts = ap (λ (q : Option Attempt). option_map_or (λ (i : ℕ). i == n) (option_map (λ (g : Attempt). g.row.call) q) true) (step.a_there x o s0 k)
            ∙ eq-eqb a.row.call n (step.a_call x o s0 k);
        passes = λ g at off. refl;
      },
      tt,
    )

    of_start : ActionsAreOfCall n start s
    of_start = of_call_on n (one ∷ []) (two ∷ []) s u1 does_one of_one of_two

    pub apart_two : GoesApart n s u2
    apart_two = record { actions = start; does = does_start; apart = of_start; earlier = booked s h.kept; later = booked u2 kept_two }

    -- up to the end of the call
    module _ (next_three : following u2 ≡ Some three) where
      does_three : Does (three ∷ []) u2 t
      does_three = (next_three, refl)

      abbrev pub all : List Action
      all = one ∷ two ∷ three ∷ []

      pub does : Does all s t
      does = does_on start (three ∷ []) s u2 t does_start does_three

      pub kept_then : IsKept t
      kept_then = kept_along all s t h.kept does

      pub apart : GoesApart n s t
      apart = record {
        actions = all;
        does = does;
        apart = of_call_on n start (three ∷ []) s u2 does_start of_start (record { acts = eq-eqb n n refl; passes = λ g at off. refl }, tt);
        earlier = booked s h.kept;
        later = booked t kept_then;
      }

      others : SetsApart n s t
      others = sets_stay n x s t apart h.calls

      -- the buckets
      buckets : SeesBuckets y.book.buckets t
      buckets = record { runs = ap (λ (l : List (Option Bucket)). None ∷ l) (map_same (bucket_in t) (bucket_in s) bucket_same (runs_in_turn s.configs)) ∙ h.buckets.runs; throttle = h.buckets.throttle }
        where
          counted_run : (i : ℕ) (run : ThrottleRun) → numbered s.runs i ≡ Some run → bucket_in t (Some i) ≡ bucket_in s (Some i)
          counted_run i run at =
              tokens_stay u2 three i kept_two.book tt (ap (λ (q : Option ThrottleRun). is_some q) at) refl
              ∙ subst (λ (q : Seen). tokens_in_run q (Some i) ≡ tokens_in_run u1 (Some i)) after_two
              (tokens_stay u1 two i kept_one.book tt (ap (λ (q : Option ThrottleRun). is_some q) at) refl)
              ∙ tokens_stay s one i h.kept.book tt (ap (λ (q : Option ThrottleRun). is_some q) at) refl

          bucket_at : (i : ℕ) (q : Option ThrottleRun) → numbered s.runs i ≡ q → bucket_in t (Some i) ≡ bucket_in s (Some i)
          bucket_at i None at = ap (option_map (bucket_of t)) at ∙ sym (ap (option_map (bucket_of s)) at)
          bucket_at i (Some run) at = counted_run i run at

          bucket_same : (r : Option ℕ) → bucket_in t r ≡ bucket_in s r
          bucket_same None = refl
          bucket_same (Some i) = bucket_at i (numbered s.runs i) refl

      -- the call itself
      abbrev last_step : Stepped
      last_step = step.step x o s0 k

      abbrev sees_then : Sees t c3 last_step
      sees_then = step.sees_then x o s0 k

      abbrev served : Serves s c (lent_to x s was)
      served = (step.own x o s0 k).sees.serves

      abbrev turn_then : IsInTurn t c3
      turn_then = step.turn_then x o s0 k kept_one.book kept_two.book

      abbrev order_then : IsInOrder t c3
      order_then = step.order_then x o s0 k

      own_sees : Sees t c3 (lent_to y t slot2)
      own_sees = record {
        own = sees_then.own;
        number_is = sees_then.number_is;
        request = sees_then.request;
        begun = sees_then.begun;
        chosen = sees_then.chosen;
        finished = sees_then.finished;
        longest_is = sees_then.longest_is;
        ended = sees_then.ended;
        attempts = sees_then.attempts;
        live = sees_then.live;
        tokens = sees_then.tokens;
        entry_is = sees_then.entry_is;
        rows = sees_then.rows;
        call_is = sees_then.call_is;
      }

      own_serves : Serves t c3 (lent_to y t slot2)
      own_serves = record {
        sees = own_sees;
        places = placed_by 1 t.attempts order_then.places;
        config = served.config;
        links = refl;
        reads = served.reads;
        counted = turn_then.counted;
        end_taken = served.end_taken;
        going = λ none. absurd (cc);
        left = λ e. subst (λ (all : List Reply). IsLeft all c.taken (channel_laws.came was.call)) (sym (step.came_same x o s0 k)) (served.left e);
        holds = λ none. absurd (cc);
      }

      own_call : SeesCall y t c3 slot2
      own_call = record { bucket = (step.own x o s0 k).sees.bucket; serves = own_serves; order = order_then; turn = turn_then; due = refl; deadline_is = refl }

      abbrev here3 : numbered t.calls n ≡ Some c3
      here3 = step.here3 x o s0 k

      own_has : (g : Call) → numbered t.calls n ≡ Some g → HasSlot y t g n
      own_has g at =
          let both : Some c3 ≡ Some g = sym here3 ∙ at in
          let same : c3 ≡ g = (cc) in
          subst (λ (q : Call). HasSlot y t q n) same (record { slot = slot2; there = put_there x.book.calls n was slot2 its_there; sees = own_call })

      -- the columns
      other_number : (i : ℕ) → (i == n) ≡ false → i ≡ was.call.number → ⊥
      other_number i off same = eqb-false i n off (same ∙ sym served.sees.number_is)

      calls_at : (i : ℕ) (q : Bool) → (i == n) ≡ q → numbered (map (call_seen t) t.calls) i ≡ numbered y.book.ledger.calls i
      calls_at i true e =
          let same : i ≡ n = eqb-true i n e in
          subst (λ (j : ℕ). numbered (map (call_seen t) t.calls) j ≡ numbered y.book.ledger.calls j) (sym same)
          (numbered_map (call_seen t) t.calls n ∙ ap (option_map (call_seen t)) here3 ∙ sym own_sees.call_is)
      calls_at i false e =
          numbered_map (call_seen t) t.calls i ∙ columns_stay n s t apart i e ∙ sym (numbered_map (call_seen s) s.calls i)
          ∙ ap (λ (l : List CallSeen). numbered l i) h.columns.calls ∙ sym (same_words x.book.ledger.calls i)
          ∙ sym (number_other (ended_call (record { entry = x.book.ledger.entry; moment = x.book.moment; cause = ending_cause.Row })) x.book.ledger.calls was.call.number i (other_number i e))
          ∙ same_words y.book.ledger.calls i

      noted_same : links_noted t ≡ links_noted s
      noted_same =
          map_same (λ (l : Link). link_seen (noted_gone t l)) (λ (l : Link). link_seen (noted_gone s l))
          (λ l. ap (λ (g : Bool). link_seen (if is_none l.gone && (is_some l.over || ((is_retiring l || is_shutdown_sub s l.sub) && not g)) then record l { gone = Some (entry s) } else l))
          (any_changed (is_outstanding_on l) (with_commitment (entry s)) (λ q. refl) a.place s.attempts)) s.links

      columns : SeesColumns y.book.ledger t
      columns = record {
        rows = own_sees.rows;
        calls = same_numbered (map (call_seen t) t.calls) y.book.ledger.calls (λ i. calls_at i (i == n) refl);
        asks = h.columns.asks;
        generations = h.columns.generations;
        links = noted_same ∙ h.columns.links;
      }

      books_apart : BooksApart n x y t
      books_apart = record {
        entry_is = h.clock.entry_is;
        columns = columns;
        buckets = buckets;
        slots = λ i off. put_away x.book.calls n i was slot2 its_there off;
      }

      count : length t.calls ≡ length y.book.calls
      count =
          changed_length (step.closed_one x o s0 k) n (changed (step.noted x o s0 k mark.Closed) n u2.calls) ∙ changed_length (step.noted x o s0 k mark.Closed) n u2.calls
          ∙ changed_length (step.noted x o s0 k mark.Committed) n u1.calls ∙ changed_length (step.noted x o s0 k mark.Withheld) n s.calls ∙ h.calls.count
          ∙ sym (set_length x.book.calls (n - 1) slot2)

      -- the links
      cannot : SeesNoDifference (bear_on all s) s t
      cannot = lists_make_no_difference all s t (all_kept all s t h.kept does) (tt, (tt, (tt, tt))) does

      links : SeesLinks y t
      links =
          links_stay (bear_on all s) x y s t h.links h.kept kept_then (λ link e. refl) cannot h.links.count
          (λ link l e f. absurd (let bad : false ≡ true = e in (cc)))

      -- no attempt of the call waits, before or then
      none_was : (row : ℕ) (q : Option Attempt) → numbered s.attempts row ≡ q → holds (λ (g : Attempt). (g.row.call == n) && is_queued g s) q ≡ false
      none_was row None at = refl
      none_was row (Some q) at =
          waits_not (is_of c q) (is_outstanding q) (is_queued q s) (numbered_not (is_live s c) s.attempts row q (step.no_live x o s0 k) at)

      over_then : (q : Attempt) → (q.row.call == n) ≡ true → is_over q t ≡ true
      over_then q mine = ap (holds (λ (g : Call). is_over_in g q t)) (ap (numbered t.calls) (eqb-true q.row.call n mine) ∙ here3)

      wait_one : (q : Attempt) (b : Bool) → (q.row.call == n) ≡ b → ((q.row.call == n) && is_queued q t) ≡ false
      wait_one q false mine = ap (λ (b : Bool). b && is_queued q t) mine
      wait_one q true mine =
          ap (λ (b : Bool). (q.row.call == n) && ((is_none q.row.placed && is_none q.row.ended) && not b)) (over_then q mine)
          ∙ and_none (q.row.call == n) ((is_none q.row.placed && is_none q.row.ended) && false) (and_right (is_none q.row.placed && is_none q.row.ended) false refl)

      none_then : (q : Option Attempt) → holds (λ (g : Attempt). (g.row.call == n) && is_queued g t) q ≡ false
      none_then None = refl
      none_then (Some q) = wait_one q (q.row.call == n) refl

      own_queue : (row : ℕ) → is_in_queue s n row ≡ is_in_queue t n row
      own_queue row =
          ap (λ (b : Bool). b && not (is_ready_waiter s n)) (none_was row (numbered s.attempts row) refl)
          ∙ sym (ap (λ (b : Bool). b && not (is_ready_waiter t n)) (none_then (numbered t.attempts row)))

      own_wait_for_ready : (row : ℕ) → is_in_ready_waiters s n row ≡ is_in_ready_waiters t n row
      own_wait_for_ready row =
          ap (λ (b : Bool). b && is_ready_waiter s n) (none_was row (numbered s.attempts row) refl)
          ∙ sym (ap (λ (b : Bool). b && is_ready_waiter t n) (none_then (numbered t.attempts row)))

      queue_by : (i row : ℕ) (b : Bool) → (i == n) ≡ b → is_in_queue s i row ≡ is_in_queue t i row
      queue_by i row true e = subst (λ (j : ℕ). is_in_queue s j row ≡ is_in_queue t j row) (sym (eqb-true i n e)) (own_queue row)
      queue_by i row false e = sym (others.queue i row e)

      wait_for_ready_by : (i row : ℕ) (b : Bool) → (i == n) ≡ b → is_in_ready_waiters s i row ≡ is_in_ready_waiters t i row
      wait_for_ready_by i row true e = subst (λ (j : ℕ). is_in_ready_waiters s j row ≡ is_in_ready_waiters t j row) (sym (eqb-true i n e)) (own_wait_for_ready row)
      wait_for_ready_by i row false e = sym (others.ready_waiters i row e)

      -- calls without a config
      none_unconfigured : (j : ℕ) → is_awaiting_config t j n ≡ false
      none_unconfigured j =
          ap (λ (q : Option Call). (j == 0) && holds (λ (g : Call). is_open_call g && is_none g.config) q) here3 ∙ and_right (j == 0) (false && is_none c.config) refl

      zero_key : (j : ℕ) → (j == 0) ≡ is_same (0, n) (j, n)
      zero_key j = zero_turns j ∙ sym (own_key 0 j n)

      unconfigured_by : (j i : ℕ) (q : Bool) → (i == n) ≡ q → (is_awaiting_config s j i && not (is_same (0, n) (j, i))) ≡ is_awaiting_config t j i
      unconfigured_by j i true e =
          subst (λ (q : ℕ). (is_awaiting_config s j q && not (is_same (0, n) (j, q))) ≡ is_awaiting_config t j q) (sym (eqb-true i n e))
          (gone_by (j == 0) (is_same (0, n) (j, n)) (holds (λ (g : Call). is_open_call g && is_none g.config) (numbered s.calls n)) (zero_key j) ∙ sym (none_unconfigured j))
      unconfigured_by j i false e = ap (λ (q : Bool). is_awaiting_config s j i && not q) (other_key 0 j i n e) ∙ and_on (is_awaiting_config s j i) ∙ sym (others.awaiting_config j i e)

      fail_fast_by : (j i : ℕ) (q : Bool) → (i == n) ≡ q → (is_in_fail_fast s j i && not (is_same (0, n) (j, i))) ≡ is_in_fail_fast t j i
      fail_fast_by j i true e =
          subst (λ (q : ℕ). (is_in_fail_fast s j q && not (is_same (0, n) (j, q))) ≡ is_in_fail_fast t j q) (sym (eqb-true i n e))
          (gone_too (j == 0) (is_same (0, n) (j, n)) (holds (λ (g : Call). is_open_call g && is_none g.config) (numbered s.calls n)) (not (is_ready_waiter s n)) (zero_key j)
          ∙ sym (ap (λ (q : Bool). q && not (is_ready_waiter t n)) (none_unconfigured j)))
      fail_fast_by j i false e = ap (λ (q : Bool). is_in_fail_fast s j i && not q) (other_key 0 j i n e) ∙ and_on (is_in_fail_fast s j i) ∙ sym (others.fail_fast j i e)

      -- the timers of the call
      own_dues : (u : Seen) (d : Call) (at : Option ℕ) → numbered u.calls n ≡ Some d → due_of u d ≡ at → (m : ℕ) → is_in_dues u m n ≡ is_number m at
      own_dues u d at e f m = ap (holds (λ (g : Call). is_number m (due_of u g))) e ∙ ap (is_number m) f

      own_deadlines : (u : Seen) (d : Call) (at : Option ℕ) → numbered u.calls n ≡ Some d → deadline_of u d ≡ at → (m : ℕ) → is_in_deadlines u m n ≡ is_number m at
      own_deadlines u d at e f m = ap (holds (λ (g : Call). is_number m (deadline_of u g))) e ∙ ap (is_number m) f

      sets : SeesSets y t
      sets = record {
        queue = exactly_by x.queue (is_in_queue s) (is_in_queue t) h.sets.queue (λ i row. queue_by i row (i == n) refl);
        ready_waiters = exactly_by x.ready_waiters (is_in_ready_waiters s) (is_in_ready_waiters t) h.sets.ready_waiters (λ i row. wait_for_ready_by i row (i == n) refl);
        dues =
            timers_exactly n x.dues (is_in_dues s) was.due slot2.due h.sets.dues (own_dues s c was.due k.there (step.own x o s0 k).sees.due) (is_in_dues t)
            (λ m i e. others.dues m i e) (own_dues t c3 slot2.due here3 own_call.due);
        deadlines =
            timers_exactly n x.deadlines (is_in_deadlines s) was.deadline slot2.deadline h.sets.deadlines
            (own_deadlines s c was.deadline k.there (step.own x o s0 k).sees.deadline_is) (is_in_deadlines t) (λ m i e. others.deadlines m i e)
            (own_deadlines t c3 slot2.deadline here3 own_call.deadline_is);
        awaiting_config =
            exactly_by (remove_key (is_same (0, n)) x.awaiting_config) (λ j i. is_awaiting_config s j i && not (is_same (0, n) (j, i))) (is_awaiting_config t)
            (exactly_remove x.awaiting_config (is_awaiting_config s) (0, n) h.sets.awaiting_config) (λ j i. unconfigured_by j i (i == n) refl);
        fail_fast =
            exactly_by (remove_key (is_same (0, n)) x.fail_fast) (λ j i. is_in_fail_fast s j i && not (is_same (0, n) (j, i))) (is_in_fail_fast t)
            (exactly_remove x.fail_fast (is_in_fail_fast s) (0, n) h.sets.fail_fast) (λ j i. fail_fast_by j i (i == n) refl);
        outstanding =
            exactly_by x.outstanding (is_in_outstanding s) (is_in_outstanding t) h.sets.outstanding
            (λ link row. sym (lookup (holds (λ (q : Attempt). is_outstanding q && (link_number q == link))) (with_commitment (entry s)) (λ q. refl) a.place s.attempts row));
        resets = h.sets.resets;
      }

      pub agrees_then : Agrees y t
      agrees_then = record {
        clock = record { entry_is = h.clock.entry_is; moment = h.clock.moment; draws = (h.clock.draws.0, h.clock.draws.1) };
        columns = columns;
        configs = record { authority = h.configs.authority; shut = h.configs.shut; held = h.configs.held; unconfigured = h.configs.unconfigured; policy = h.configs.policy };
        buckets = buckets;
        calls = all_calls_stay n x y s t apart books_apart h.calls count own_has;
        links = links;
        net = net_stays_along all s t x.net refl does h.net;
        orderly = h.orderly;
        sets = sets;
        kept = kept_then;
      }
