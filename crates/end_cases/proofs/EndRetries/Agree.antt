-- An attempt ends, and a transparent retry is made at once: channel and session agree after it.
use Rattle.std.proofs.Common.{◌≡◌, ◌&&◌, ◌||◌, ◌==◌, ◌+◌, ◌-◌, ◌%◌, ◌^◌, ◌∷◌, not, ap, refl, subst, sym, ◌∙◌, Bool, true, false, List, [], Option, None, Some, ℕ, if◌then◌else◌, is_none, is_some, length, map, option_map}
use Rattle.std.proofs.lemmas.Bool.{eqb-false, eqb-true}
use Rattle.std.proofs.lemmas.List.Folds.{list_all-append}
use Rattle.std.specs.Prelude.{option_and_then}
use Rattle.attempt_ledger.specs.Ends.{is_cut}
use Rattle.attempt_ledger.specs.declared.ledger.CallSeen.{CallSeen}
use Rattle.attempt_ledger.specs.declared.ledger.LinkSeen.{LinkSeen}
use Rattle.attempt_ledger.specs.declared.news.News.TheVariants as news_of_link
use Rattle.attempt_ledger.specs.declared.row.Row.{Row}
use Rattle.call_actions.proofs.CallsApart.Books.{tokens_stay}
use Rattle.call_actions.proofs.CallsApart.Fair.{lines_are_fair}
use Rattle.call_actions.specs.CallsApart.Apart.{counts_in, has_config, run_counting, run_number}
use Rattle.call_actions.specs.CallsApart.Laws.{tokens_in_run}
use Rattle.call_actions.specs.Sees.{Sees, bucket_of}
use Rattle.call_actions.specs.Order.{IsInOrder, Keeps}
use Rattle.call_actions.specs.TakeActions.Serves.{Holds, IsLeft, Serves, came}
use Rattle.call_actions.proofs.Dues.{attempts_are_due}
use Rattle.call_actions.proofs.TakeActions.Deadlines.{deadline_is}
use Rattle.attempt_buffer.specs.Buffers.{closed}
use Rattle.call_core.specs.Laws as channel_laws
use Rattle.call_core.specs.Steps.{Stepped, ended_at}
use Rattle.channel_actions.proofs.Gone.{all_numbered}
use Rattle.call_cases.proofs.OtherCalls.Buckets.{buckets_are_of_runs}
use Rattle.call_cases.proofs.OtherCalls.Rows.{columns_stay}
use Rattle.call_cases.proofs.OtherCalls.Sets.{sets_stay}
use Rattle.call_cases.proofs.OtherCalls.Slots.{all_calls_stay}
use Rattle.channel_actions.proofs.Links.Settings.Pairs.{exactly_by}
use Rattle.channel_actions.proofs.Links.Settings.Slots.{put_away}
use Rattle.channel_actions.proofs.Stamps.{map_same, numbered_map}
use Rattle.channel_actions.specs.Calls.{HasSlot, SeesCall, SeesCalls, deadline_of, due_of, lent_to}
use Rattle.channel_actions.specs.Clock.{DrawsAlike, SeesClock}
use Rattle.channel_actions.specs.Columns.{SeesColumns, links_noted}
use Rattle.channel_actions.specs.Configs.{SeesBuckets, bucket_in, bucket_place}
use Rattle.call_cases.specs.EndsFollow.Cuts.{NoStreamIsToReset, is_unreset}
use Rattle.channel_actions.specs.KeptSessions.Kept.{IsKept}
use Rattle.call_cases.specs.OtherCalls.Laws.{SetsApart}
use Rattle.call_cases.specs.OtherCalls.Others.{BooksApart, GoesApart}
use Rattle.channel_actions.specs.Sets.{PairsAreExactly, is_in_outstanding}
use Rattle.end_cases.proofs.AttemptEnds.After.{entry_is, runs}
use Rattle.end_cases.proofs.AttemptEnds.Base.{books, c, call_is, e, has, here, moment_is, news, off_is, row_is, slot, slot_there, x1, x2, z}
use Rattle.end_cases.proofs.AttemptEnds.Buckets.{buckets_set}
use Rattle.end_cases.proofs.AttemptEnds.Closing.{none_cause, placed_by}
use Rattle.end_cases.proofs.AttemptEnds.Lists.{any_more, within}
use Rattle.end_cases.proofs.AttemptEnds.Noted.{noted_then}
use Rattle.end_cases.proofs.AttemptEnds.OneEnded as first
use Rattle.end_cases.proofs.EndRetries.Free.{runs_same}
use Rattle.end_cases.proofs.EndRetries.Lines as lines
use Rattle.end_cases.proofs.EndRetries.Next as retry
use Rattle.end_cases.proofs.EndRetries.Next.{Leads, Retry}
use Rattle.end_cases.proofs.EndRetries.Sets as sets
use Rattle.end_cases.proofs.EndRetries.Step.{acts_are, aft, r_is, step_form}
use Rattle.end_cases.proofs.AttemptEnds.Report.{gone_form, slot_after}
use Rattle.end_cases.proofs.EndRetries.ReportedQueue.{queued_form, reported_queue}
use Rattle.call_cases.proofs.ConfiguredCalls.Lists.{changed_length, same_numbered, same_words, set_length}
use Rattle.attempt_cases.proofs.DialEvents.Words.{draw_by}
use Rattle.attempt_ledger.specs.declared.row.RowEnd.{RowEnd}
use Rattle.end_cases.specs.AttemptEnds.Ahead.{AgreesAhead, AgreesOffLinks, HasLinkAhead, LinksAhead, SetsAgree}
use Rattle.end_cases.specs.AttemptEnds.Ends.{EndNext, HasEnded, ended_in, gone_with}
use Rattle.channel_core.proofs.BookLaws.{number_other}
use Rattle.channel_core.proofs.Places.{put_there}
use Rattle.channel_core.specs.Books.{has_drawn}
use Rattle.channel_core.specs.States.{StateSeen}
use Rattle.channel_core.specs.Steps.{reported, with_ledger_links}
use Rattle.channel_core.specs.Tables.{tokens_in, with_tokens}
use Rattle.channel_core.specs.declared.state.slots.CallSlot.{CallSlot}
use Rattle.end_cases.specs.AttemptEnds.Left.{all_left}
use Rattle.ledger_stamps.specs.Steps.{noted_call as ledger_noted}
use Rattle.link_actions.proofs.Ended.{noted_call, now_same}
use Rattle.net_actions.proofs.NetFrames.Left.{net_stays_along}
use Rattle.grpc_base.specs.declared.event.Reply.{Reply}
use Rattle.session_actions.specs.AttemptEnds.{with_end}
use Rattle.session_actions.specs.Attempts.{is_to_follow}
use Rattle.session_actions.specs.Closing.{noted_gone}
use Rattle.session_actions.specs.Configs.{deadline}
use Rattle.session_actions.specs.DueAttempts as session
use Rattle.session_actions.specs.Entries.{entry, next_word, now}
use Rattle.session_actions.specs.Links.{is_retiring}
use Rattle.session_actions.specs.Reading.{is_outstanding_on}
use Rattle.session_actions.specs.Refusals.{is_shutdown_sub}
use Rattle.session_actions.specs.Sessions.{call_seen, link_seen}
use Rattle.session_actions.specs.Words.{is_number, numbered}
use Rattle.session_actions.specs.declared.action.Action.{Action}
use Rattle.session_actions.specs.declared.attempt.Attempt.{Attempt}
use Rattle.session_actions.specs.declared.call.Call.{Call}
use Rattle.session_actions.specs.declared.call.MarkKind.TheVariants as mark
use Rattle.session_actions.specs.declared.config.ThrottleRun.{ThrottleRun}
use Rattle.session_actions.specs.declared.entry.OpenEntry.{OpenEntry}
use Rattle.session_actions.specs.declared.response.Outcome.{Outcome}
use Rattle.session_actions.specs.declared.link.Link.{Link}
use Rattle.session_actions.specs.declared.seen.Seen.{Seen}
use Rattle.session_order.proofs.Begun.{numbered_more}
use Rattle.session_order.specs.declared.line.Line.{Line}

module _ (later : List (ℕ × RowEnd)) (waits : Line → Bool) (also : List ℕ) (a : Attempt) (out : Outcome) (x : StateSeen) (o : OpenEntry) (s : Seen) (is : EndNext later waits also a out x o s)
    (going : (c later waits also a out x o s is).end ≡ None) (follows : is_to_follow (c later waits also a out x o s is) out.cause out.unseen s ≡ true)
    (r : Retry later waits also a out x o s is going follows) (leads : Leads later waits also a out x o s is going follows r)
    (keeps : Keeps (retry.done later waits also a out x o s is going follows r) (c later waits also a out x o s is).number
    (ended_at a.place (news later waits also a out x o s is) (now s) (next_word s) (x2 later waits also a out x o s is)))
    (holds_then : Holds (retry.done later waits also a out x o s is going follows r) (retry.its later waits also a out x o s is going follows r) (closed a.place (slot later waits also a out x o s is).call.buffer))
    (came_same : came (retry.its later waits also a out x o s is going follows r) (retry.done later waits also a out x o s is going follows r) ≡ came (c later waits also a out x o s is) s)
    (ahead : LinksAhead also x (all_left later (retry.done later waits also a out x o s is going follows r))) where
  abbrev k : Call
  k = c later waits also a out x o s is

  abbrev n : ℕ
  n = k.number

  abbrev v : Seen
  v = retry.v later waits also a out x o s is going follows

  abbrev w : Seen
  w = retry.done later waits also a out x o s is going follows r

  abbrev dw : Call
  dw = retry.its later waits also a out x o s is going follows r

  abbrev new : Attempt
  new = retry.fresh later waits also a out x o s is going follows r

  abbrev was : CallSlot
  was = slot later waits also a out x o s is

  abbrev z0 : StateSeen
  z0 = z later waits also a out x o s is

  abbrev then_ : Attempt
  then_ = with_end (e later waits also a out x o s is) a

  abbrev entry_then : OpenEntry
  entry_then = first.entry_then later waits also a out x o s is

  abbrev kept : IsKept s
  kept = first.kept later waits also a out x o s is

  abbrev kept_one : IsKept v
  kept_one = first.kept_one later waits also a out x o s is

  abbrev act : Action
  act = first.act later waits also a out x o s is

  -- what the channel's call is
  abbrev made : Stepped
  made = aft later waits also a out x o s is follows

  same_call : keeps.call ≡ dw
  same_call =
      let two : Some keeps.call ≡ Some dw = sym keeps.sees.own ∙ ap (numbered w.calls) keeps.number_is ∙ leads.here in
      (cc)

  sees_then : Sees w dw made
  sees_then = subst (Sees w dw) (step_form later waits also a out x o s is follows) (subst (λ (g : Call). Sees w g (ended_at a.place (news later waits also a out x o s is) (now s) (next_word s) (x2 later waits also a out x o s is))) same_call keeps.sees)

  order_then : IsInOrder w dw
  order_then = subst (λ (g : Call). IsInOrder w g) same_call keeps.order

  abbrev apart : GoesApart n s w
  apart = lines.apart_two later waits also a out x o s is going follows r leads

  abbrev kept_then : IsKept w
  kept_then = lines.kept_two later waits also a out x o s is going follows r leads

  others : SetsApart n s w
  others = sets_stay n (x1 later waits also a out x o s is) s w apart (books later waits also a out x o s is).calls

  -- what the channel is
  abbrev y1 : StateSeen
  y1 = queued_form a.place n (length v.attempts + 1) made was z0

  abbrev stamps : List LinkSeen
  stamps = (gone_with a.row.placed y1).book.ledger.links

  abbrev y : StateSeen
  y = with_ledger_links stamps y1

  reported_so : reported a.place (news_of_link.Ended a.place (news later waits also a out x o s is)) z0 ≡ y1
  reported_so =
      reported_queue a.place (news later waits also a out x o s is) n z0 was a.row (row_is later waits also a out x o s is) (call_is later waits also a out x o s is) (slot_there later waits also a out x o s is)
      (length v.attempts + 1) (ap (λ (q : Stepped). q.acts) (r_is later waits also a out x o s is follows) ∙ acts_are later waits also a out x o s is follows)
      ∙ ap (λ (q : Stepped). queued_form a.place n (length v.attempts + 1) q was z0) (r_is later waits also a out x o s is follows)

  ended_is : ended_in a (news later waits also a out x o s is) x ≡ y
  ended_is =
      ap (λ (q : StateSeen). gone_with a.row.placed (reported a.place (news_of_link.Ended a.place (news later waits also a out x o s is)) q)) (off_is a.row.call a.place a.row.placed x)
      ∙ ap (gone_with a.row.placed) reported_so ∙ gone_form a.row.placed y1

  -- the clock
  one_then : numbered w.attempts a.place ≡ Some then_
  one_then =
      numbered_more v.attempts new a.place (within v.attempts a.place then_ (first.one_there later waits also a out x o s is)) ∙ first.one_there later waits also a out x o s is

  rows_now : numbered made.ledger.rows a.place ≡ option_map (λ (q : Attempt). q.row) (numbered w.attempts a.place)
  rows_now = ap (λ (rows : List Row). numbered rows a.place) (sym sees_then.rows) ∙ numbered_map (λ (q : Attempt). q.row) w.attempts a.place

  drew : has_drawn (numbered made.ledger.rows a.place) ≡ is_some (e later waits also a out x o s is).word
  drew = ap has_drawn (rows_now ∙ ap (option_map (λ (q : Attempt). q.row)) one_then)

  was_draws : DrawsAlike (Some o) (x1 later waits also a out x o s is)
  was_draws = subst (λ (q : Option OpenEntry). DrawsAlike q (x1 later waits also a out x o s is)) is.current (books later waits also a out x o s is).clock.draws

  draws_then : DrawsAlike (Some entry_then) y
  draws_then = (
    was_draws.0,
    ap (λ (q : Bool). if q then (x.drawn + 1) % 2 ^ 64 else x.drawn) drew ∙ draw_by (is_some (e later waits also a out x o s is).word) x.drawn o.drawn was_draws.1,
  )

  clock_then : SeesClock y w
  clock_then = record {
    entry_is = entry_is later waits also a out x o s is ∙ (books later waits also a out x o s is).clock.entry_is;
    moment = now_same (is_some (e later waits also a out x o s is).word) a.row.call a.place (e later waits also a out x o s is) (runs later waits also a out x o s is) s ∙ moment_is later waits also a out x o s is;
    draws = subst (λ (q : Option OpenEntry). DrawsAlike q y) (sym (first.current_one later waits also a out x o s is)) draws_then;
  }

  -- the tokens: no end was counted
  none_counted : counts_in act s ≡ None
  none_counted =
      ap (option_and_then (run_counting (e later waits also a out x o s is) s)) is.ending.there
      ∙ ap (option_and_then (λ (g : Call). if not (is_cut out.cause) && not (is_to_follow g out.cause out.unseen s) then run_number g s else None)) is.there
      ∙ ap (λ (q : Bool). if not q && not (is_to_follow k out.cause out.unseen s) then run_number k s else None) is.ending.uncut
      ∙ ap (λ (q : Bool). if not q then run_number k s else None) follows

  run_is : (i : ℕ) → numbered v.runs i ≡ numbered s.runs i
  run_is i = ap (λ (l : List ThrottleRun). numbered l i) (runs_same later waits also a out x o s is going follows)

  any_run : (i : ℕ) (q : Option ThrottleRun) → numbered s.runs i ≡ q → bucket_in w (Some i) ≡ bucket_in s (Some i)
  any_run i None at = ap (option_map (bucket_of w)) (run_is i ∙ at) ∙ sym (ap (option_map (bucket_of s)) at)
  any_run i (Some g) at =
      leads.tokens i (ap (λ (q : Option ThrottleRun). is_some q) (run_is i ∙ at))
      ∙ subst (λ (q : Seen). tokens_in_run q (Some i) ≡ tokens_in_run s (Some i)) (first.after_is later waits also a out x o s is)
      (tokens_stay s act i kept.book (lines_are_fair s act kept.book is.next) (ap (λ (q : Option ThrottleRun). is_some q) at) (ap (is_number i) none_counted))

  has_its : has_config s k ≡ true
  has_its = all_numbered (has_config s) s.calls n k (here later waits also a out x o s is) kept.book.configs

  place_was : bucket_place s k ≡ was.bucket
  place_was = (has later waits also a out x o s is).sees.bucket

  buckets_then : SeesBuckets y.book.buckets w
  buckets_then =
      subst (λ (i : ℕ). SeesBuckets (with_tokens i made.tokens (with_tokens i None x.book.buckets)) w) place_was
      (buckets_set s w k x.book.buckets made.tokens (books later waits also a out x o s is).buckets refl is.rising has_its (sym sees_then.tokens) (λ i off. any_run i (numbered s.runs i) refl))

  -- the call itself
  abbrev own_slot : CallSlot
  own_slot = slot_after made was

  tokens_then : made.tokens ≡ tokens_in y.book.buckets was.bucket
  tokens_then = sym sees_then.tokens ∙ sym (buckets_are_of_runs w y.book.buckets dw buckets_then has_its) ∙ ap (tokens_in y.book.buckets) place_was

  abbrev served : Serves s k (lent_to (x1 later waits also a out x o s is) s was)
  served = (has later waits also a out x o s is).sees.serves

  own_sees : Sees w dw (lent_to y w own_slot)
  own_sees = record {
    own = sees_then.own;
    number_is = sees_then.number_is;
    request = sees_then.request;
    begun = sees_then.begun;
    chosen = sees_then.chosen;
    finished = sees_then.finished;
    longest_is = sees_then.longest_is;
    ended = sees_then.ended;
    attempts = sees_then.attempts;
    live = sees_then.live;
    tokens = sees_then.tokens ∙ tokens_then;
    entry_is = sees_then.entry_is;
    rows = sees_then.rows;
    call_is = sees_then.call_is;
  }

  left_by : (l : List Reply) → IsLeft (came k s) k.taken l → IsLeft (came dw w) k.taken l
  left_by l h = subst (λ (all : List Reply). IsLeft all k.taken l) (sym came_same) h

  own_serves : Serves w dw (lent_to y w own_slot)
  own_serves = record {
    sees = own_sees;
    places = placed_by 1 w.attempts order_then.places;
    config = served.config;
    links = refl;
    reads = served.reads;
    counted = leads.turn.counted;
    end_taken = served.end_taken;
    going = served.going;
    left = λ h. left_by (channel_laws.came was.call) (served.left h);
    holds = λ none. holds_then;
  }

  ended_none : is_none dw.end ≡ is_none made.call.ended
  ended_none = none_cause dw.end made.call.ended sees_then.ended

  own_due : due_of w dw ≡ own_slot.due
  own_due =
      ap (λ (g : Bool). if g then session.next_due dw w else None) ended_none
      ∙ ap (λ (m : Option ℕ). if is_none made.call.ended then m else None) (attempts_are_due w dw made sees_then)

  own_deadline : deadline_of w dw ≡ own_slot.deadline
  own_deadline =
      ap (λ (g : Bool). if g then deadline dw w else None) ended_none
      ∙ ap (λ (m : Option ℕ). if is_none made.call.ended then m else None) (deadline_is w dw (lent_to y w own_slot) own_serves)

  own : SeesCall y w dw own_slot
  own = record { bucket = place_was; serves = own_serves; order = order_then; turn = leads.turn; due = own_due; deadline_is = own_deadline }

  own_there : numbered y.book.calls n ≡ Some own_slot
  own_there = put_there x.book.calls n was own_slot (slot_there later waits also a out x o s is)

  own_has : (g : Call) → numbered w.calls n ≡ Some g → HasSlot y w g n
  own_has g at =
      let both : Some dw ≡ Some g = sym leads.here ∙ at in
      let same : dw ≡ g = (cc) in
      subst (λ (q : Call). HasSlot y w q n) same (record { slot = own_slot; there = own_there; sees = own })

  -- the sets
  sets_now : SetsAgree y w
  sets_now = record {
    queue = sets.queue_then later waits also a out x o s is going follows r leads others made sees_then;
    ready_waiters = sets.wait_for_ready_then later waits also a out x o s is going follows r leads others made sees_then;
    dues = sets.dues_then later waits also a out x o s is going follows r leads others own_slot own_due;
    deadlines = sets.deadlines_then later waits also a out x o s is going follows r leads others own_slot own_deadline;
    awaiting_config = sets.unconfigured_then later waits also a out x o s is going follows r leads others;
    fail_fast = sets.fail_fast_then later waits also a out x o s is going follows r leads others;
    outstanding = sets.outs_then later waits also a out x o s is going follows r leads others;
  }

  -- the columns
  other_number : (i : ℕ) → (i == n) ≡ false → i ≡ was.call.number → ⊥
  other_number i off same = eqb-false i n off (same ∙ sym served.sees.number_is)

  calls_at : (i : ℕ) (q : Bool) → (i == n) ≡ q → numbered (map (call_seen w) w.calls) i ≡ numbered made.ledger.calls i
  calls_at i true h =
      let same : i ≡ n = eqb-true i n h in
      subst (λ (j : ℕ). numbered (map (call_seen w) w.calls) j ≡ numbered made.ledger.calls j) (sym same)
      (numbered_map (call_seen w) w.calls n ∙ ap (option_map (call_seen w)) leads.here ∙ sym sees_then.call_is)
  calls_at i false h =
      numbered_map (call_seen w) w.calls i ∙ columns_stay n s w apart i h ∙ sym (numbered_map (call_seen s) s.calls i)
      ∙ ap (λ (l : List CallSeen). numbered l i) (books later waits also a out x o s is).columns.calls ∙ sym (same_words x.book.ledger.calls i)
      ∙ sym (number_other (ledger_noted x.book.ledger.entry) x.book.ledger.calls was.call.number i (other_number i h)) ∙ same_words made.ledger.calls i

  noted_more : links_noted w ≡ links_noted v
  noted_more =
      map_same (λ (l : Link). link_seen (noted_gone w l)) (λ (l : Link). link_seen (noted_gone v l))
      (λ l. ap (λ (g : Bool). link_seen (if is_none l.gone && (is_some l.over || ((is_retiring l || is_shutdown_sub v l.sub) && not g)) then record l { gone = Some (entry v) } else l))
      (any_more (is_outstanding_on l) v.attempts new refl)) v.links

  outs_one : PairsAreExactly y1.outstanding (is_in_outstanding v)
  outs_one =
      exactly_by y1.outstanding (is_in_outstanding w) (is_in_outstanding v) (sets.outs_then later waits also a out x o s is going follows r leads others)
      (sets.out_more later waits also a out x o s is going follows r leads others)

  noted : links_noted w ≡ stamps
  noted = noted_more ∙ noted_then later waits also a out x o s is y1 refl refl refl refl outs_one kept_one

  columns_then : SeesColumns y.book.ledger w
  columns_then = record {
    rows = sees_then.rows;
    calls = same_numbered (map (call_seen w) w.calls) made.ledger.calls (λ i. calls_at i (i == n) refl);
    asks = (books later waits also a out x o s is).columns.asks;
    generations = (books later waits also a out x o s is).columns.generations;
    links = noted;
  }

  books_apart : BooksApart n (x1 later waits also a out x o s is) y w
  books_apart = record {
    entry_is = clock_then.entry_is;
    columns = columns_then;
    buckets = buckets_then;
    slots = λ i off. put_away x.book.calls n i was own_slot (slot_there later waits also a out x o s is) off;
  }

  count_then : length w.calls ≡ length y.book.calls
  count_then =
      leads.count ∙ changed_length (noted_call (mark.Ended a.place) (now s)) a.row.call s.calls ∙ (books later waits also a out x o s is).calls.count
      ∙ sym (set_length x.book.calls (n - 1) own_slot)

  calls_then : SeesCalls y w
  calls_then = all_calls_stay n (x1 later waits also a out x o s is) y s w apart books_apart (books later waits also a out x o s is).calls count_then own_has

  books_then : AgreesOffLinks y w
  books_then = record {
    clock = clock_then;
    columns = columns_then;
    configs = record {
      authority = (books later waits also a out x o s is).configs.authority;
      shut = (books later waits also a out x o s is).configs.shut;
      held = (books later waits also a out x o s is).configs.held;
      unconfigured = (books later waits also a out x o s is).configs.unconfigured;
      policy = (books later waits also a out x o s is).configs.policy;
    };
    buckets = buckets_then;
    calls = calls_then;
    net = net_stays_along r.actions v w x.net leads.netless leads.does
        (net_stays_along (act ∷ []) s v x.net refl (first.does_one later waits also a out x o s is) (books later waits also a out x o s is).net);
    orderly = (books later waits also a out x o s is).orderly;
    sets = sets_now;
    kept = kept_then;
  }

  -- the links
  links_then : LinksAhead also y (all_left later w)
  links_then = record {
    count = ahead.count;
    each = λ i l at. let h : HasLinkAhead x (all_left later w) l i = ahead.each i l at in record { slot = h.slot; there = h.there; sees = h.sees };
    closing = λ i l at off. ahead.closing i l at off;
  }

  unreset_then : NoStreamIsToReset w
  unreset_then = list_all-append is_unreset v.attempts (new ∷ []) ∙ ap (λ (g : Bool). g && true) (first.unreset_one later waits also a out x o s is)

  agrees_then : AgreesAhead later also (ended_in a (news later waits also a out x o s is) x) w
  agrees_then = subst (λ (q : StateSeen). AgreesAhead later also q w) (sym ended_is) (record { books = books_then; links = links_then; unreset = unreset_then })

  pub has_ended : HasEnded later waits also a out x o s
  has_ended = record {
    actions = r.actions;
    seen = w;
    entry = entry_then;
    does = lines.does later waits also a out x o s is going follows r leads;
    posts = leads.posts;
    same = record { moment = refl; word = refl; event = refl; entries = refl; setup = refl };
    stage = refl;
    reply = refl;
    turn = refl;
    current = first.current_one later waits also a out x o s is;
    still = lines.still_two later waits also a out x o s is going follows r leads;
    late = lines.late_two later waits also a out x o s is going follows r leads;
    wire = lines.wire_two later waits also a out x o s is going follows r leads;
    fewer = λ link row h. first.fewer_one later waits also a out x o s is link row (sym (sets.out_more later waits also a out x o s is going follows r leads others link row) ∙ h);
    agrees = agrees_then;
  }
