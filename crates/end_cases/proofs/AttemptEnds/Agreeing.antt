-- An attempt ends, and its call goes on: all but the links agree after it, and the links are ahead as they were.
use Rattle.std.proofs.Common.{◌≡◌, ◌&&◌, ◌==◌, ◌||◌, ◌+◌, ◌-◌, ◌%◌, ◌^◌, ◌∷◌, not, ap, refl, subst, sym, ◌∙◌, Bool, true, false, List, [], Option, None, Some, ℕ, if◌then◌else◌, is_none, is_some, length, map, option_map}
use Rattle.std.proofs.lemmas.Bool.{eqb-true, eq-eqb}
use Rattle.std.specs.List.{list_any}
use Rattle.std.specs.Option.{option_map_or}
use Rattle.std.specs.Prelude.{option_and_then}
use Rattle.attempt_ledger.specs.Ends.{is_cut}
use Rattle.attempt_ledger.specs.declared.ledger.CallSeen.{CallSeen}
use Rattle.attempt_ledger.specs.declared.ledger.LinkSeen.{LinkSeen}
use Rattle.attempt_ledger.specs.declared.news.News.TheVariants as news_of_link
use Rattle.attempt_ledger.specs.declared.row.Placed.{Placed}
use Rattle.attempt_ledger.specs.declared.row.Row.{Row}
use Rattle.attempt_ledger.specs.declared.row.RowEnd.{RowEnd}
use Rattle.call_actions.proofs.CallsApart.Books.{tokens_stay}
use Rattle.call_actions.proofs.CallsApart.Fair.{lines_are_fair}
use Rattle.call_actions.proofs.CallsInTurn.Rows.{ending_keeps}
use Rattle.call_actions.proofs.Dues.{attempts_are_due}
use Rattle.call_actions.proofs.Ends.Tokens.{runs_after, runs_now}
use Rattle.call_actions.proofs.Ending as ending
use Rattle.call_actions.proofs.Lists.{changed_away}
use Rattle.call_actions.specs.CallsApart.Apart.{IsBook, counts_in, has_config, run_counting, run_number}
use Rattle.call_actions.specs.CallsApart.Laws.{tokens_in_run}
use Rattle.call_actions.specs.CallsInTurn.Turns.{StaysSteady, waits as waits_to_follow}
use Rattle.call_actions.specs.Order.{IsInTurn}
use Rattle.call_actions.specs.Sees.{bucket_of}
use Rattle.call_core.specs.Steps.{Stepped}
use Rattle.channel_actions.proofs.Gone.{all_numbered}
use Rattle.channel_actions.proofs.KeptSessions.Along.{kept_along}
use Rattle.call_cases.proofs.OtherCalls.Buckets.{buckets_are_of_runs}
use Rattle.call_cases.proofs.OtherCalls.Rows.{columns_stay}
use Rattle.call_cases.proofs.OtherCalls.Sets.{sets_stay}
use Rattle.call_cases.proofs.OtherCalls.Slots.{all_calls_stay}
use Rattle.channel_actions.proofs.Links.Settings.Slots.{put_away}
use Rattle.channel_actions.proofs.Stamps.{numbered_map}
use Rattle.channel_actions.specs.Calls.{HasSlot, SeesCall, SeesCalls}
use Rattle.channel_actions.specs.Clock.{DrawsAlike, SeesClock}
use Rattle.channel_actions.specs.Columns.{SeesColumns, links_noted}
use Rattle.channel_actions.specs.Configs.{SeesBuckets, SeesConfigs, bucket_in, bucket_place}
use Rattle.channel_actions.specs.KeptSessions.Kept.{IsKept}
use Rattle.call_cases.specs.OtherCalls.Laws.{SetsApart}
use Rattle.call_cases.specs.OtherCalls.Others.{BooksApart, GoesApart, IsBooked}
use Rattle.end_cases.proofs.AttemptEnds.After.{attempt_at, d_here, end, entry_is, put, put_ended, runs, t_is}
use Rattle.end_cases.proofs.AttemptEnds.Base.{books, c, call_is, e, has, here, moment_is, news, off_is, out_off, queue_off, row_is, sees, slot, slot_there, x1, x2, z}
use Rattle.end_cases.proofs.AttemptEnds.Buckets.{buckets_set}
use Rattle.end_cases.proofs.AttemptEnds.GoesOn.{after, call, called, order, order_then, r_is, sees_then, then_, turn}
use Rattle.end_cases.proofs.AttemptEnds.Own.{own_call}
use Rattle.end_cases.proofs.AttemptEnds.Sets.{sets_then}
use Rattle.end_cases.proofs.AttemptEnds.Report.{gone_form, slot_after, reported_form, reported_is}
use Rattle.call_cases.proofs.ConfiguredCalls.Lists.{changed_length, same_numbered, set_length}
use Rattle.attempt_cases.proofs.DialEvents.Words.{draw_by}
use Rattle.end_cases.specs.AttemptEnds.Ahead.{AgreesOffLinks, HasLinkAhead, LinksAhead, SetsAgree}
use Rattle.end_cases.specs.AttemptEnds.Ends.{EndNext, ended_in, gone_with, may_wait}
use Rattle.end_cases.specs.AttemptEnds.Laws.{GoesOnAfter}
use Rattle.channel_core.proofs.Places.{put_there}
use Rattle.channel_core.specs.Books.{drew_by, has_drawn}
use Rattle.channel_core.specs.States.{StateSeen}
use Rattle.channel_core.specs.Steps.{reported, with_ledger_links}
use Rattle.channel_core.specs.Tables.{tokens_in, with_tokens}
use Rattle.channel_core.specs.Timing.{timer_moved}
use Rattle.channel_core.specs.declared.state.slots.CallSlot.{CallSlot}
use Rattle.end_cases.specs.AttemptEnds.Left.{all_left}
use Rattle.link_actions.proofs.Ended.{noted_call, now_same}
use Rattle.net_actions.proofs.NetFrames.Left.{net_stays}
use Rattle.net_actions.specs.Sees.{Sees as SeesNet}
use Rattle.session_actions.specs.Actions.{after as after_action, after_if}
use Rattle.session_actions.specs.Attempts.{is_of, is_to_follow, wants_follower}
use Rattle.session_actions.specs.Entries.{now}
use Rattle.session_actions.specs.Sessions.{Does, call_seen}
use Rattle.session_actions.specs.Words.{is_number, numbered}
use Rattle.session_actions.specs.declared.action.Action.{Action}
use Rattle.session_actions.specs.declared.action.Action.TheVariants as action
use Rattle.session_actions.specs.declared.attempt.Attempt.{Attempt}
use Rattle.session_actions.specs.declared.call.Call.{Call}
use Rattle.session_actions.specs.declared.call.MarkKind.TheVariants as mark
use Rattle.session_actions.specs.declared.config.ThrottleRun.{ThrottleRun}
use Rattle.session_actions.specs.declared.entry.OpenEntry.{OpenEntry}
use Rattle.session_actions.specs.declared.response.Outcome.{Outcome}
use Rattle.session_actions.specs.declared.seen.Seen.{Seen}
use Rattle.session_order.specs.declared.line.Line.{Line}
use Rattle.session_order.specs.declared.line.Line.TheVariants as line

pub early_by : (w l : Bool) → (w ≡ true → l ≡ true) → l ≡ false → w ≡ false
early_by false l turn e = refl
early_by true l turn e = absurd (let both : true ≡ false = sym (turn refl) ∙ e in (cc))

-- no attempt that waits to be followed is of one call
pub none_of : (p q : Attempt → Bool) (xs : List Attempt) → list_any q xs ≡ false → list_any (λ (a : Attempt). p a && q a) xs ≡ false
none_of p q [] e = refl
none_of p q (a ∷ xs) e = none_by (p a) (q a) (list_any q xs) (list_any (λ (b : Attempt). p b && q b) xs) e (none_of p q xs)
  where
    none_by : (b c rest other : Bool) → (c || rest) ≡ false → (rest ≡ false → other ≡ false) → ((b && c) || other) ≡ false
    none_by true true rest other e turn = absurd (cc)
    none_by true false rest other e turn = turn e
    none_by false true rest other e turn = absurd (cc)
    none_by false false rest other e turn = turn e

pub run_away : (place k : ℕ) (q : Option ℕ) (xs : List ThrottleRun) → is_number k q ≡ false → numbered (runs_after place q xs) k ≡ numbered xs k
run_away place k None xs e = refl
run_away place k (Some m) xs e = changed_away _ m k xs (λ same. (let both : false ≡ true = sym e ∙ eq-eqb m k (sym same) in absurd (cc)))

module _ (later : List (ℕ × RowEnd)) (waits : Line → Bool) (also : List ℕ) (a : Attempt) (out : Outcome) (x : StateSeen) (o : OpenEntry) (s : Seen) (is : EndNext later waits also a out x o s)
    (case : GoesOnAfter s (c later waits also a out x o s is) a out) where
  abbrev k : Call
  k = call later waits also a out x o s is case

  abbrev pub n : ℕ
  n = k.number

  abbrev v : Seen
  v = then_ later waits also a out x o s is case

  abbrev dk : Call
  dk = called later waits also a out x o s is case

  abbrev pub aft : Stepped
  aft = after later waits also a out x o s is case

  abbrev was : CallSlot
  was = slot later waits also a out x o s is

  abbrev pub act : Action
  act = action.AttemptEnds a.place (e later waits also a out x o s is)

  -- the session goes on by one action
  pub after_is : after_action act s ≡ v
  after_is = ap (λ (q : Option OpenEntry). after_if q act s) is.current ∙ t_is later waits also a out x o s is

  pub does : Does (act ∷ []) s v
  does = (is.next, sym after_is)

  abbrev kept : IsKept s
  kept = (books later waits also a out x o s is).kept

  pub kept_then : IsKept v
  kept_then = kept_along (act ∷ []) s v kept does

  booked : (w : Seen) → IsKept w → IsBooked w
  booked w h = record { book = h.book; owned = h.owned; reads = h.reads }

  pub apart : GoesApart n s v
  apart = record {
    actions = act ∷ [];
    does = does;
    apart = (
      record {
        acts = ap (λ (q : Option Attempt). option_map_or (λ (m : ℕ). m == n) (option_map (λ (b : Attempt). b.row.call) q) true) is.ending.there
            ∙ eq-eqb a.row.call n (call_is later waits also a out x o s is);
        passes = λ g at off. refl;
      },
      tt,
    );
    earlier = booked s kept;
    later = booked v kept_then;
  }

  -- what is known of its attempts
  quiescent : list_any (waits_to_follow s k) s.attempts ≡ false
  quiescent =
      none_of (is_of k) (λ (q : Attempt). wants_follower q s) s.attempts
      (is.still line.Transparent refl (early_by (waits line.Transparent) (may_wait line.Transparent) (is.late line.Transparent) refl))

  pub steady : StaysSteady v n
  steady =
      subst (λ (w : Seen). StaysSteady w n) (t_is later waits also a out x o s is)
      (ending_keeps s k a.place a (e later waits also a out x o s is) kept.book (subst (λ (w : Seen). IsBook w) (sym (t_is later waits also a out x o s is)) kept_then.book)
      (record { own = here later waits also a out x o s is; there = is.ending.there; mine = is.ending.own })
      (ap (λ (q : Option RowEnd). is_none q)
      (ending.unended s k (x2 later waits also a out x o s is) a.place a out (sees later waits also a out x o s is)
      (order later waits also a out x o s is case) (turn later waits also a out x o s is case) is.ending case.counting))
      case.counting.alone (record { turn = turn later waits also a out x o s is case; quiescent = quiescent }))

  turn_then : IsInTurn v dk
  turn_then =
      let two : Some steady.call ≡ Some dk = sym steady.own ∙ d_here later waits also a out x o s is in
      let same : steady.call ≡ dk = (cc) in
      subst (λ (g : Call). IsInTurn v g) same steady.steady.turn

  -- what the channel is
  abbrev pub y1 : StateSeen
  y1 = reported_form a.place n aft was (z later waits also a out x o s is)

  abbrev p : Option Placed
  p = a.row.placed

  abbrev stamps : List LinkSeen
  stamps = (gone_with p y1).book.ledger.links

  abbrev pub w : StateSeen
  w = with_ledger_links stamps y1

  reported_so : reported a.place (news_of_link.Ended a.place (news later waits also a out x o s is)) (z later waits also a out x o s is) ≡ y1
  reported_so =
      reported_is a.place (news later waits also a out x o s is) n (z later waits also a out x o s is) was a.row (row_is later waits also a out x o s is) (call_is later waits also a out x o s is)
      (slot_there later waits also a out x o s is) (ap (λ (q : Stepped). q.acts) (r_is later waits also a out x o s is case))
      ∙ ap (λ (q : Stepped). reported_form a.place n q was (z later waits also a out x o s is)) (r_is later waits also a out x o s is case)

  pub ended_is : ended_in a (news later waits also a out x o s is) x ≡ w
  ended_is =
      ap (λ (q : StateSeen). gone_with p (reported a.place (news_of_link.Ended a.place (news later waits also a out x o s is)) q)) (off_is a.row.call a.place p x)
      ∙ ap (gone_with p) reported_so ∙ gone_form p y1

  -- the clock
  rows_now : numbered aft.ledger.rows a.place ≡ option_map (λ (q : Attempt). q.row) (numbered v.attempts a.place)
  rows_now = ap (λ (rows : List Row). numbered rows a.place) (sym (sees_then later waits also a out x o s is case).rows) ∙ numbered_map (λ (q : Attempt). q.row) v.attempts a.place

  drew : has_drawn (numbered aft.ledger.rows a.place) ≡ is_some (e later waits also a out x o s is).word
  drew =
      ap has_drawn (rows_now ∙ ap (option_map (λ (q : Attempt). q.row)) (attempt_at later waits also a out x o s is a.place ∙ ap (option_map (put later waits also a out x o s is)) is.ending.there))
      ∙ ap drew_by (put_ended later waits also a out x o s is a ∙ ap (λ (b : Bool). if b then Some (end later waits also a out x o s is) else a.row.ended) (eq-eqb a.place a.place refl))

  was_draws : DrawsAlike (Some o) (x1 later waits also a out x o s is)
  was_draws = subst (λ (q : Option OpenEntry). DrawsAlike q (x1 later waits also a out x o s is)) is.current (books later waits also a out x o s is).clock.draws

  abbrev pub entry_then : OpenEntry
  entry_then = record o { drawn = o.drawn + (if is_some (e later waits also a out x o s is).word then 1 else 0) }

  pub current_then : v.current ≡ Some entry_then
  current_then = ap (option_map (λ (q : OpenEntry). record q { drawn = q.drawn + (if is_some (e later waits also a out x o s is).word then 1 else 0) })) is.current

  draws_then : DrawsAlike (Some entry_then) w
  draws_then = (
    was_draws.0,
    ap (λ (b : Bool). if b then (x.drawn + 1) % 2 ^ 64 else x.drawn) drew ∙ draw_by (is_some (e later waits also a out x o s is).word) x.drawn o.drawn was_draws.1,
  )

  clock_then : SeesClock w v
  clock_then = record {
    entry_is = entry_is later waits also a out x o s is ∙ (books later waits also a out x o s is).clock.entry_is;
    moment = now_same (is_some (e later waits also a out x o s is).word) a.row.call a.place (e later waits also a out x o s is) (runs later waits also a out x o s is) s ∙ moment_is later waits also a out x o s is;
    draws = subst (λ (q : Option OpenEntry). DrawsAlike q w) (sym current_then) draws_then;
  }

  -- the tokens
  pub runs_are : v.runs ≡ runs_now a.place k s
  runs_are =
      ap (λ (q : Seen). q.runs)
      (sym (t_is later waits also a out x o s is)
      ∙ ending.is_ended s k (x2 later waits also a out x o s is) a.place a out (sees later waits also a out x o s is)
      (order later waits also a out x o s is case) (turn later waits also a out x o s is case) is.ending case.counting)

  counted : counts_in act s ≡ run_number k s
  counted =
      ap (option_and_then (run_counting (e later waits also a out x o s is) s)) is.ending.there
      ∙ ap (option_and_then (λ (g : Call). if not (is_cut out.cause) && not (is_to_follow g out.cause out.unseen s) then run_number g s else None)) is.there
      ∙ ap (λ (b : Bool). if not b && not (is_to_follow k out.cause out.unseen s) then run_number k s else None) is.ending.uncut
      ∙ ap (λ (b : Bool). if not b then run_number k s else None) case.counting.alone

  other_run : (m : ℕ) (q : Option ThrottleRun) → numbered s.runs m ≡ q → is_number m (run_number k s) ≡ false → bucket_in v (Some m) ≡ bucket_in s (Some m)
  other_run m None at off =
      ap (option_map (bucket_of v)) (ap (λ (l : List ThrottleRun). numbered l m) runs_are ∙ run_away a.place m (run_number k s) s.runs off ∙ at)
      ∙ sym (ap (option_map (bucket_of s)) at)
  other_run m (Some g) at off =
      subst (λ (q : Seen). tokens_in_run q (Some m) ≡ tokens_in_run s (Some m)) after_is
      (tokens_stay s act m kept.book (lines_are_fair s act kept.book is.next) (ap (λ (q : Option ThrottleRun). is_some q) at) (ap (is_number m) counted ∙ off))

  has_its : has_config s k ≡ true
  has_its = all_numbered (has_config s) s.calls n k (here later waits also a out x o s is) kept.book.configs

  place_was : bucket_place s k ≡ was.bucket
  place_was = (has later waits also a out x o s is).sees.bucket

  buckets_then : SeesBuckets w.book.buckets v
  buckets_then =
      subst (λ (m : ℕ). SeesBuckets (with_tokens m aft.tokens (with_tokens m None x.book.buckets)) v) place_was
      (buckets_set s v k x.book.buckets aft.tokens (books later waits also a out x o s is).buckets refl is.rising has_its (sym (sees_then later waits also a out x o s is case).tokens)
      (λ m off. other_run m (numbered s.runs m) refl off))

  -- the call itself
  abbrev own_slot : CallSlot
  own_slot = slot_after aft was

  tokens_then : aft.tokens ≡ tokens_in w.book.buckets was.bucket
  tokens_then =
      sym (sees_then later waits also a out x o s is case).tokens ∙ sym (buckets_are_of_runs v w.book.buckets dk buckets_then has_its) ∙ ap (tokens_in w.book.buckets) place_was

  pub own : SeesCall w v dk own_slot
  own =
      own_call attempts_are_due later waits also a out x o s is case.counting.goes_on case.free w aft (sees_then later waits also a out x o s is case) (order_then later waits also a out x o s is case) turn_then
      refl refl tokens_then refl refl refl

  own_there : numbered w.book.calls n ≡ Some own_slot
  own_there = put_there x.book.calls n was own_slot (slot_there later waits also a out x o s is)

  own_has : (g : Call) → numbered v.calls n ≡ Some g → HasSlot w v g n
  own_has g at =
      let both : Some dk ≡ Some g = sym (d_here later waits also a out x o s is) ∙ at in
      let same : dk ≡ g = (cc) in
      subst (λ (q : Call). HasSlot w v q n) same (record { slot = own_slot; there = own_there; sees = own })

  -- the sets
  others : SetsApart n s v
  others = sets_stay n (x1 later waits also a out x o s is) s v apart (books later waits also a out x o s is).calls

  abbrev its_sets : StateSeen
  its_sets = record x {
    queue = queue_off a.row.call a.place p x.queue;
    ready_waiters = queue_off a.row.call a.place p x.ready_waiters;
    outstanding = out_off a.place p x.outstanding;
    dues = timer_moved n was.due own_slot.due x.dues;
    deadlines = timer_moved n was.deadline own_slot.deadline x.deadlines;
  }

  abbrev moved : SetsAgree its_sets v
  moved = sets_then later waits also a out x o s is case.counting.goes_on case.free others own_slot own.due own.deadline_is

  pub sets_now : SetsAgree w v
  sets_now = record {
    queue = moved.queue;
    ready_waiters = moved.ready_waiters;
    dues = moved.dues;
    deadlines = moved.deadlines;
    awaiting_config = moved.awaiting_config;
    fail_fast = moved.fail_fast;
    outstanding = moved.outstanding;
  }

  -- the columns
  calls_at : (m : ℕ) (b : Bool) → (m == n) ≡ b → numbered (map (call_seen v) v.calls) m ≡ numbered x.book.ledger.calls m
  calls_at m true e =
      let same : m ≡ n = eqb-true m n e in
      subst (λ (i : ℕ). numbered (map (call_seen v) v.calls) i ≡ numbered x.book.ledger.calls i) (sym same)
      (numbered_map (call_seen v) v.calls n ∙ ap (option_map (call_seen v)) (d_here later waits also a out x o s is) ∙ sym (sees_then later waits also a out x o s is case).call_is)
  calls_at m false e =
      numbered_map (call_seen v) v.calls m ∙ columns_stay n s v apart m e ∙ sym (numbered_map (call_seen s) s.calls m)
      ∙ ap (λ (l : List CallSeen). numbered l m) (books later waits also a out x o s is).columns.calls

  module _ (noted : links_noted v ≡ stamps) where
    columns_then : SeesColumns w.book.ledger v
    columns_then = record {
      rows = (sees_then later waits also a out x o s is case).rows;
      calls = same_numbered (map (call_seen v) v.calls) x.book.ledger.calls (λ m. calls_at m (m == n) refl);
      asks = (books later waits also a out x o s is).columns.asks;
      generations = (books later waits also a out x o s is).columns.generations;
      links = noted;
    }

    books_apart : BooksApart n (x1 later waits also a out x o s is) w v
    books_apart = record {
      entry_is = clock_then.entry_is;
      columns = columns_then;
      buckets = buckets_then;
      slots = λ m off. put_away x.book.calls n m was own_slot (slot_there later waits also a out x o s is) off;
    }

    count_then : length v.calls ≡ length w.book.calls
    count_then =
        changed_length (noted_call (mark.Ended a.place) (now s)) a.row.call s.calls ∙ (books later waits also a out x o s is).calls.count
        ∙ sym (set_length x.book.calls (n - 1) own_slot)

    calls_then : SeesCalls w v
    calls_then = all_calls_stay n (x1 later waits also a out x o s is) w s v apart books_apart (books later waits also a out x o s is).calls count_then own_has

    net_then : SeesNet v x.net
    net_then = subst (λ (q : Seen). SeesNet q x.net) after_is (net_stays s act x.net refl (books later waits also a out x o s is).net)

    configs_then : SeesConfigs w v
    configs_then = record {
      authority = (books later waits also a out x o s is).configs.authority;
      shut = (books later waits also a out x o s is).configs.shut;
      held = (books later waits also a out x o s is).configs.held;
      unconfigured = (books later waits also a out x o s is).configs.unconfigured;
      policy = (books later waits also a out x o s is).configs.policy;
    }

    pub books_then : AgreesOffLinks w v
    books_then = record {
      clock = clock_then;
      columns = columns_then;
      configs = configs_then;
      buckets = buckets_then;
      calls = calls_then;
      net = net_then;
      orderly = (books later waits also a out x o s is).orderly;
      sets = sets_now;
      kept = kept_then;
    }

  -- the links are as they were
  links_was : LinksAhead also x (all_left later v)
  links_was = subst (λ (q : Seen). LinksAhead also x (all_left later q)) (t_is later waits also a out x o s is) is.links

  pub links_then : LinksAhead also w (all_left later v)
  links_then = record {
    count = links_was.count;
    each = λ m l at. let h : HasLinkAhead x (all_left later v) l m = links_was.each m l at in record { slot = h.slot; there = h.there; sees = h.sees };
    closing = λ m l at off. links_was.closing m l at off;
  }
