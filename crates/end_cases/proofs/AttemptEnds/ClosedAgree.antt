-- An attempt ends, and its call by it: all but the links agrees then, and each link of the channel is as far ahead as it was shown to be.
use Rattle.std.proofs.Common.{◌≡◌, ◌&&◌, ◌==◌, ◌+◌, ◌++◌, ◌-◌, ◌%◌, ◌^◌, ◌∷◌, not, ap, refl, subst, sym, ◌∙◌, Bool, true, false, List, [], Option, None, Some, ℕ, if◌then◌else◌, is_some, length, map, option_map}
use Rattle.std.proofs.lemmas.Bool.{eq-eqb, eqb-false, eqb-true}
use Rattle.std.specs.Option.{option_map_or}
use Rattle.std.specs.Prelude.{option_and_then}
use Rattle.attempt_ledger.specs.Ends.{is_cut}
use Rattle.attempt_ledger.specs.declared.ledger.CallSeen.{CallSeen}
use Rattle.attempt_ledger.specs.declared.ledger.LinkSeen.{LinkSeen}
use Rattle.attempt_ledger.specs.declared.news.News.TheVariants as news_of_link
use Rattle.attempt_ledger.specs.declared.row.Row.{Row}
use Rattle.call_actions.proofs.CallsApart.Books.{tokens_stay}
use Rattle.call_actions.proofs.CallsApart.Fair.{lines_are_fair}
use Rattle.call_actions.specs.CallsApart.Apart.{counts_in, has_config, run_counting, run_number}
use Rattle.call_actions.specs.CallsApart.Laws.{tokens_in_run}
use Rattle.call_actions.specs.Laws.{IsCounting}
use Rattle.call_actions.specs.Sees.{Sees, bucket_of}
use Rattle.call_actions.specs.TakeActions.Serves.{Serves}
use Rattle.call_core.specs.Steps.{Stepped}
use Rattle.channel_actions.proofs.Does.{does_on}
use Rattle.channel_actions.proofs.Gone.{all_numbered}
use Rattle.channel_actions.proofs.KeptSessions.Along.{kept_along}
use Rattle.call_cases.proofs.OtherCalls.Buckets.{buckets_are_of_runs}
use Rattle.call_cases.proofs.OtherCalls.Rows.{columns_stay}
use Rattle.call_cases.proofs.OtherCalls.Sets.{sets_stay}
use Rattle.call_cases.proofs.OtherCalls.Slots.{all_calls_stay}
use Rattle.channel_actions.proofs.Links.Settings.Slots.{put_away}
use Rattle.channel_actions.proofs.Stamps.{numbered_map}
use Rattle.channel_actions.specs.Calls.{HasSlot, SeesCall, SeesCalls, lent_to}
use Rattle.channel_actions.specs.Clock.{DrawsAlike, SeesClock}
use Rattle.channel_actions.specs.Columns.{SeesColumns}
use Rattle.channel_actions.specs.Configs.{SeesBuckets, bucket_in, bucket_place}
use Rattle.channel_actions.specs.KeptSessions.Kept.{IsKept}
use Rattle.call_cases.specs.OtherCalls.Laws.{SetsApart}
use Rattle.call_cases.specs.OtherCalls.Others.{ActionsAreOfCall, BooksApart, GoesApart, IsBooked}
use Rattle.end_cases.proofs.AttemptEnds.After.{entry_is, runs}
use Rattle.end_cases.proofs.AttemptEnds.Agreeing.{run_away}
use Rattle.end_cases.proofs.AttemptEnds.Base.{books, c, call_is, e, has, here, moment_is, news, off_is, slot_there, x1}
use Rattle.end_cases.proofs.AttemptEnds.Buckets.{buckets_set}
use Rattle.end_cases.proofs.AttemptEnds.ClosedTimers.{unconfigured_then, deadlines_then, dues_then, fail_fast_then}
use Rattle.end_cases.proofs.AttemptEnds.Closing as closing
use Rattle.end_cases.proofs.AttemptEnds.Closing.{Between, Follows, Continues, Made, Parts, Steps, placed_by}
use Rattle.end_cases.proofs.AttemptEnds.Report.{gone_form, slot_after}
use Rattle.call_cases.proofs.ConfiguredCalls.Lists.{changed_length, same_numbered, same_words, set_length}
use Rattle.attempt_cases.proofs.DialEvents.Words.{draw_by}
use Rattle.attempt_ledger.specs.declared.row.RowEnd.{RowEnd}
use Rattle.end_cases.specs.AttemptEnds.Ahead.{AgreesOffLinks, HasLinkAhead, LinksAhead, SetsAgree}
use Rattle.end_cases.specs.AttemptEnds.Ends.{EndNext, ended_in, gone_with}
use Rattle.channel_core.proofs.BookLaws.{number_other}
use Rattle.channel_core.proofs.Places.{put_there}
use Rattle.channel_core.specs.Books.{drew_by, has_drawn}
use Rattle.channel_core.specs.States.{StateSeen}
use Rattle.channel_core.specs.Steps.{reported, with_ledger_links}
use Rattle.channel_core.specs.Tables.{tokens_in, with_tokens}
use Rattle.channel_core.specs.declared.state.slots.CallSlot.{CallSlot}
use Rattle.end_cases.specs.AttemptEnds.Left.{all_left}
use Rattle.grpc_base.specs.declared.event.EndCause.TheVariants as ending_cause
use Rattle.ledger_stamps.specs.Steps.{ended_call}
use Rattle.link_actions.proofs.Ended.{noted_call, now_same}
use Rattle.net_actions.proofs.NetFrames.Left.{net_stays_along}
use Rattle.session_actions.specs.Actions.{after as after_action, after_if, following}
use Rattle.session_actions.specs.Attempts.{is_to_follow}
use Rattle.session_actions.specs.Entries.{now}
use Rattle.session_actions.specs.Sessions.{Does, call_seen}
use Rattle.session_actions.specs.Words.{is_number, numbered}
use Rattle.session_actions.specs.declared.action.Action.{Action}
use Rattle.session_actions.specs.declared.action.Action.TheVariants as action
use Rattle.session_actions.specs.declared.attempt.Attempt.{Attempt}
use Rattle.session_actions.specs.declared.call.Call.{Call}
use Rattle.session_actions.specs.declared.call.MarkKind.TheVariants as mark
use Rattle.session_actions.specs.declared.config.ThrottleRun.{ThrottleRun}
use Rattle.session_actions.specs.declared.entry.OpenEntry.{OpenEntry}
use Rattle.session_actions.specs.declared.response.Outcome.{Outcome}
use Rattle.session_actions.specs.declared.seen.Seen.{Seen}
use Rattle.session_order.specs.declared.line.Line.{Line}

-- actions of one call, one list after the other
pub of_call_on : (number : ℕ) (these those : List Action) (s t : Seen) → Does these s t → ActionsAreOfCall number these s → ActionsAreOfCall number those t → ActionsAreOfCall number (these ++ those) s
of_call_on number [] those s t does these_are those_are = subst (λ (q : Seen). ActionsAreOfCall number those q) does those_are
of_call_on number (a ∷ these) those s t does these_are those_are = (these_are.0, of_call_on number these those (after_action a s) t does.1 these_are.1 those_are)

module _ (later : List (ℕ × RowEnd)) (waits : Line → Bool) (also : List ℕ) (a : Attempt) (out : Outcome) (x : StateSeen) (o : OpenEntry) (s : Seen) (is : EndNext later waits also a out x o s)
    (counting : IsCounting s (c later waits also a out x o s is) out) (b : Between later waits also a out x o s is counting) (goes : Continues later waits also a out x o s is counting b) where
  abbrev call : Call
  call = c later waits also a out x o s is

  abbrev m : ℕ
  m = call.number

  abbrev first : Seen
  first = closing.v later waits also a out x o s is counting

  abbrev mid : Seen
  mid = closing.mid later waits also a out x o s is counting b

  abbrev then_ : Seen
  then_ = closing.closed later waits also a out x o s is counting b

  abbrev ended : Call
  ended = closing.ended later waits also a out x o s is counting b

  abbrev one : Action
  one = closing.act later waits also a out x o s is counting

  abbrev pub two : Action
  two = action.CallEnds m ending_cause.Row

  abbrev pub all : List Action
  all = one ∷ (b.actions ++ two ∷ [])

  booked : (q : Seen) → IsKept q → IsBooked q
  booked q h = record { book = h.book; owned = h.owned; reads = h.reads }

  abbrev kept : IsKept s
  kept = closing.kept later waits also a out x o s is counting

  -- up to the end of the call
  abbrev pub start : List Action
  start = one ∷ b.actions

  does_start : Does start s mid
  does_start = (is.next, subst (λ (q : Seen). Does b.actions q mid) (sym (closing.after_is later waits also a out x o s is counting)) goes.does)

  pub kept_mid : IsKept mid
  kept_mid = kept_along start s mid kept does_start

  apart_start : ActionsAreOfCall m start s
  apart_start = (
    record {
      acts = ap (λ (q : Option Attempt). option_map_or (λ (i : ℕ). i == m) (option_map (λ (g : Attempt). g.row.call) q) true) is.ending.there
          ∙ eq-eqb a.row.call m (call_is later waits also a out x o s is);
      passes = λ g at off. refl;
    },
    subst (λ (q : Seen). ActionsAreOfCall m b.actions q) (sym (closing.after_is later waits also a out x o s is counting)) goes.apart,
  )

  pub apart_mid : GoesApart m s mid
  apart_mid = record { actions = start; does = does_start; apart = apart_start; earlier = booked s kept; later = booked mid kept_mid }

  pub after_two : after_action two mid ≡ then_
  after_two = ap (λ (q : Option OpenEntry). after_if q two mid) (closing.current_one later waits also a out x o s is counting)

  module _ (next_two : following mid ≡ Some two) where
    does_two : Does (two ∷ []) mid then_
    does_two = (next_two, sym after_two)

    pub does : Does all s then_
    does = does_on start (two ∷ []) s mid then_ does_start does_two

    pub kept_then : IsKept then_
    kept_then = kept_along all s then_ kept does

    pub apart : GoesApart m s then_
    apart = record {
      actions = all;
      does = does;
      apart = of_call_on m start (two ∷ []) s mid does_start apart_start (record { acts = eq-eqb m m refl; passes = λ g at off. refl }, tt);
      earlier = booked s kept;
      later = booked then_ kept_then;
    }

    -- the sets
    pub others : SetsApart m s then_
    others = sets_stay m (x1 later waits also a out x o s is) s then_ apart (books later waits also a out x o s is).calls

    module _ (made : Made later waits also a out x o s is counting) (steps : Steps later waits also a out x o s is counting b made) (parts : Parts later waits also a out x o s is counting)
        (follows : Follows later waits also a out x o s is counting b made parts) where
      abbrev stepped : Stepped
      stepped = closing.stepped later waits also a out x o s is counting made

      abbrev its_slot : CallSlot
      its_slot = closing.was later waits also a out x o s is counting

      -- what the channel is
      abbrev y1 : StateSeen
      y1 = closing.reported_with later waits also a out x o s is counting made parts

      abbrev stamps : List LinkSeen
      stamps = (gone_with a.row.placed y1).book.ledger.links

      abbrev pub y : StateSeen
      y = with_ledger_links stamps y1

      pub ended_is : ended_in a (news later waits also a out x o s is) x ≡ y
      ended_is =
          ap (λ (q : StateSeen). gone_with a.row.placed (reported a.place (news_of_link.Ended a.place (news later waits also a out x o s is)) q)) (off_is a.row.call a.place a.row.placed x)
          ∙ ap (gone_with a.row.placed) follows.reported_is ∙ gone_form a.row.placed y1

      -- the clock
      rows_now : numbered stepped.ledger.rows a.place ≡ option_map (λ (q : Attempt). q.row) (numbered then_.attempts a.place)
      rows_now = ap (λ (rows : List Row). numbered rows a.place) (sym steps.sees.rows) ∙ numbered_map (λ (q : Attempt). q.row) then_.attempts a.place

      drew : has_drawn (numbered stepped.ledger.rows a.place) ≡ is_some (e later waits also a out x o s is).word
      drew = ap has_drawn (rows_now ∙ ap (option_map (λ (q : Attempt). q.row)) goes.one_there) ∙ ap drew_by goes.one_ended

      was_draws : DrawsAlike (Some o) (x1 later waits also a out x o s is)
      was_draws = subst (λ (q : Option OpenEntry). DrawsAlike q (x1 later waits also a out x o s is)) is.current (books later waits also a out x o s is).clock.draws

      draws_then : DrawsAlike (Some (closing.entry_then later waits also a out x o s is counting)) y
      draws_then = (
        was_draws.0,
        ap (λ (q : Bool). if q then (x.drawn + 1) % 2 ^ 64 else x.drawn) drew ∙ draw_by (is_some (e later waits also a out x o s is).word) x.drawn o.drawn was_draws.1,
      )

      clock_then : SeesClock y then_
      clock_then = record {
        entry_is = entry_is later waits also a out x o s is ∙ (books later waits also a out x o s is).clock.entry_is;
        moment = now_same (is_some (e later waits also a out x o s is).word) a.row.call a.place (e later waits also a out x o s is) (runs later waits also a out x o s is) s ∙ moment_is later waits also a out x o s is;
        draws = subst (λ (q : Option OpenEntry). DrawsAlike q y) (sym (closing.current_one later waits also a out x o s is counting)) draws_then;
      }

      -- the tokens
      counted : counts_in one s ≡ run_number call s
      counted =
          ap (option_and_then (run_counting (e later waits also a out x o s is) s)) is.ending.there
          ∙ ap (option_and_then (λ (g : Call). if not (is_cut out.cause) && not (is_to_follow g out.cause out.unseen s) then run_number g s else None)) is.there
          ∙ ap (λ (q : Bool). if not q && not (is_to_follow call out.cause out.unseen s) then run_number call s else None) is.ending.uncut
          ∙ ap (λ (q : Bool). if not q then run_number call s else None) counting.alone

      run_same : (i : ℕ) → is_number i (run_number call s) ≡ false → numbered first.runs i ≡ numbered s.runs i
      run_same i off = ap (λ (l : List ThrottleRun). numbered l i) (closing.runs_are later waits also a out x o s is counting) ∙ run_away a.place i (run_number call s) s.runs off

      other_run : (i : ℕ) (q : Option ThrottleRun) → numbered s.runs i ≡ q → is_number i (run_number call s) ≡ false → bucket_in then_ (Some i) ≡ bucket_in s (Some i)
      other_run i None at off = ap (option_map (bucket_of then_)) (run_same i off ∙ at) ∙ sym (ap (option_map (bucket_of s)) at)
      other_run i (Some g) at off =
          subst (λ (q : Seen). tokens_in_run q (Some i) ≡ tokens_in_run mid (Some i)) after_two
          (tokens_stay mid two i kept_mid.book tt (ap (λ (q : Option ThrottleRun). is_some q) (run_same i off ∙ at)) refl)
          ∙ goes.tokens i (ap (λ (q : Option ThrottleRun). is_some q) (run_same i off ∙ at))
          ∙ subst (λ (q : Seen). tokens_in_run q (Some i) ≡ tokens_in_run s (Some i)) (closing.after_is later waits also a out x o s is counting)
          (tokens_stay s one i kept.book (lines_are_fair s one kept.book is.next) (ap (λ (q : Option ThrottleRun). is_some q) at) (ap (is_number i) counted ∙ off))

      has_its : has_config s call ≡ true
      has_its = all_numbered (has_config s) s.calls m call (here later waits also a out x o s is) kept.book.configs

      place_was : bucket_place s call ≡ its_slot.bucket
      place_was = (has later waits also a out x o s is).sees.bucket

      buckets_then : SeesBuckets y.book.buckets then_
      buckets_then =
          subst (λ (i : ℕ). SeesBuckets (with_tokens i stepped.tokens (with_tokens i None x.book.buckets)) then_) place_was
          (buckets_set s then_ call x.book.buckets stepped.tokens (books later waits also a out x o s is).buckets refl is.rising has_its (sym steps.sees.tokens)
          (λ i off. other_run i (numbered s.runs i) refl off))

      -- the call itself
      abbrev own_slot : CallSlot
      own_slot = slot_after stepped its_slot

      tokens_then : stepped.tokens ≡ tokens_in y.book.buckets its_slot.bucket
      tokens_then = sym steps.sees.tokens ∙ sym (buckets_are_of_runs then_ y.book.buckets ended buckets_then has_its) ∙ ap (tokens_in y.book.buckets) place_was

      abbrev served : Serves s call (lent_to (x1 later waits also a out x o s is) s its_slot)
      served = (has later waits also a out x o s is).sees.serves

      own_sees : Sees then_ ended (lent_to y then_ own_slot)
      own_sees = record {
        own = steps.sees.own;
        number_is = steps.sees.number_is;
        request = steps.sees.request;
        begun = steps.sees.begun;
        chosen = steps.sees.chosen;
        finished = steps.sees.finished;
        longest_is = steps.sees.longest_is;
        ended = steps.sees.ended;
        attempts = steps.sees.attempts;
        live = steps.sees.live;
        tokens = steps.sees.tokens ∙ tokens_then;
        entry_is = steps.sees.entry_is;
        rows = steps.sees.rows;
        call_is = steps.sees.call_is;
      }

      own_serves : Serves then_ ended (lent_to y then_ own_slot)
      own_serves = record {
        sees = own_sees;
        places = placed_by 1 then_.attempts steps.order.places;
        config = served.config;
        links = refl;
        reads = served.reads;
        counted = steps.turn.counted;
        end_taken = served.end_taken;
        going = λ none. absurd (cc);
        left = λ h. steps.left (served.left h);
        holds = λ none. absurd (cc);
      }

      own : SeesCall y then_ ended own_slot
      own = record { bucket = place_was; serves = own_serves; order = steps.order; turn = steps.turn; due = refl; deadline_is = refl }

      own_there : numbered y.book.calls m ≡ Some own_slot
      own_there = put_there x.book.calls m its_slot own_slot (slot_there later waits also a out x o s is)

      own_has : (g : Call) → numbered then_.calls m ≡ Some g → HasSlot y then_ g m
      own_has g at =
          let both : Some ended ≡ Some g = sym (closing.closed_here later waits also a out x o s is counting b goes) ∙ at in
          let same : ended ≡ g = (cc) in
          subst (λ (q : Call). HasSlot y then_ q m) same (record { slot = own_slot; there = own_there; sees = own })

      sets_now : SetsAgree y then_
      sets_now = record {
        queue = follows.queue;
        ready_waiters = follows.ready_waiters;
        dues = dues_then later waits also a out x o s is counting b goes others own_slot own.due;
        deadlines = deadlines_then later waits also a out x o s is counting b goes others own_slot own.deadline_is;
        awaiting_config = unconfigured_then later waits also a out x o s is counting b goes others;
        fail_fast = fail_fast_then later waits also a out x o s is counting b goes others;
        outstanding = follows.outs;
      }

      -- the columns
      other_number : (i : ℕ) → (i == m) ≡ false → i ≡ its_slot.call.number → ⊥
      other_number i off same = eqb-false i m off (same ∙ sym served.sees.number_is)

      calls_at : (i : ℕ) (q : Bool) → (i == m) ≡ q → numbered (map (call_seen then_) then_.calls) i ≡ numbered stepped.ledger.calls i
      calls_at i true h =
          let same : i ≡ m = eqb-true i m h in
          subst (λ (j : ℕ). numbered (map (call_seen then_) then_.calls) j ≡ numbered stepped.ledger.calls j) (sym same)
          (numbered_map (call_seen then_) then_.calls m ∙ ap (option_map (call_seen then_)) (closing.closed_here later waits also a out x o s is counting b goes) ∙ sym steps.sees.call_is)
      calls_at i false h =
          numbered_map (call_seen then_) then_.calls i ∙ columns_stay m s then_ apart i h ∙ sym (numbered_map (call_seen s) s.calls i)
          ∙ ap (λ (l : List CallSeen). numbered l i) (books later waits also a out x o s is).columns.calls ∙ sym (same_words x.book.ledger.calls i)
          ∙ sym (number_other (ended_call (record { entry = x.book.ledger.entry; moment = now s; cause = ending_cause.Row })) x.book.ledger.calls its_slot.call.number i (other_number i h))
          ∙ same_words stepped.ledger.calls i

      columns_then : SeesColumns y.book.ledger then_
      columns_then = record {
        rows = steps.sees.rows;
        calls = same_numbered (map (call_seen then_) then_.calls) stepped.ledger.calls (λ i. calls_at i (i == m) refl);
        asks = (books later waits also a out x o s is).columns.asks;
        generations = (books later waits also a out x o s is).columns.generations;
        links = follows.noted;
      }

      books_apart : BooksApart m (x1 later waits also a out x o s is) y then_
      books_apart = record {
        entry_is = clock_then.entry_is;
        columns = columns_then;
        buckets = buckets_then;
        slots = λ i off. put_away x.book.calls m i its_slot own_slot (slot_there later waits also a out x o s is) off;
      }

      count_then : length then_.calls ≡ length y.book.calls
      count_then =
          changed_length _ m _ ∙ changed_length _ m mid.calls ∙ goes.count ∙ changed_length (noted_call (mark.Ended a.place) (now s)) a.row.call s.calls
          ∙ (books later waits also a out x o s is).calls.count ∙ sym (set_length x.book.calls (m - 1) own_slot)

      calls_then : SeesCalls y then_
      calls_then = all_calls_stay m (x1 later waits also a out x o s is) y s then_ apart books_apart (books later waits also a out x o s is).calls count_then own_has

      pub books_then : AgreesOffLinks y then_
      books_then = record {
        clock = clock_then;
        columns = columns_then;
        configs = record {
          authority = (books later waits also a out x o s is).configs.authority;
          shut = (books later waits also a out x o s is).configs.shut;
          held = (books later waits also a out x o s is).configs.held;
          unconfigured = (books later waits also a out x o s is).configs.unconfigured;
          policy = (books later waits also a out x o s is).configs.policy;
        };
        buckets = buckets_then;
        calls = calls_then;
        net = net_stays_along (two ∷ []) mid then_ x.net refl does_two
            (net_stays_along b.actions first mid x.net goes.netless goes.does
            (net_stays_along (one ∷ []) s first x.net refl (closing.does_one later waits also a out x o s is counting) (books later waits also a out x o s is).net));
        orderly = (books later waits also a out x o s is).orderly;
        sets = sets_now;
        kept = kept_then;
      }

      -- the links
      pub links_then : LinksAhead also y (all_left later then_)
      links_then = record {
        count = follows.ahead.count;
        each = λ i l at. let h : HasLinkAhead y1 (all_left later then_) l i = follows.ahead.each i l at in record { slot = h.slot; there = h.there; sees = h.sees };
        closing = λ i l at off. follows.ahead.closing i l at off;
      }
