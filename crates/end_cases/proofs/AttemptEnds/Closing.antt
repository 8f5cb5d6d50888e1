-- An attempt ends, and its call by it, with or without a commitment and cuts between: what is so in each of these cases, and what each has to show.
use Rattle.std.proofs.Common.{◌≡◌, ◌==◌, ◌++◌, ◌∷◌, ap, refl, subst, sym, ◌∙◌, Bool, true, false, List, [], Option, None, Some, ℕ, suc, is_none, is_some, length, option_map, slice_get}
use Rattle.std.specs.List.{list_any}
use Rattle.std.specs.Option.{option_map_or}
use Rattle.std.specs.Set.{remove_key}
use Rattle.attempt_ledger.specs.declared.ledger.CallEnd.{CallEnd}
use Rattle.attempt_ledger.specs.declared.ledger.LinkSeen.{LinkSeen}
use Rattle.attempt_ledger.specs.declared.news.News.TheVariants as news_of_link
use Rattle.attempt_ledger.specs.declared.row.Row.{Row}
use Rattle.attempt_ledger.specs.declared.row.RowEnd.{RowEnd}
use Rattle.call_actions.proofs.CallsInTurn.Rows.{ending_keeps}
use Rattle.call_actions.proofs.Ends.Tokens.{runs_now}
use Rattle.call_actions.proofs.Ending as ending
use Rattle.call_actions.proofs.Lists.{changed_here}
use Rattle.call_actions.proofs.TakeActions.EndSees.{traffic_all}
use Rattle.call_actions.specs.CallsApart.Apart.{IsBook}
use Rattle.call_actions.specs.CallsApart.Laws.{tokens_in_run}
use Rattle.call_actions.specs.CallsInTurn.Turns.{StaysSteady, waits as waits_to_follow}
use Rattle.call_actions.specs.Laws.{IsCounting}
use Rattle.call_actions.specs.Order.{AttemptsAreNumbered, IsInOrder, IsInTurn}
use Rattle.call_actions.specs.Sees.{Sees}
use Rattle.call_actions.specs.TakeActions.Serves.{AttemptsStandInPlace, IsLeft, came}
use Rattle.call_core.specs.Laws as channel_laws
use Rattle.call_core.specs.Steps.{Stepped, end_stamped, fresh_buffer}
use Rattle.call_core.specs.declared.act.CallAct.{CallAct}
use Rattle.call_core.specs.declared.attempts.Attempts.{Attempts}
use Rattle.channel_actions.specs.Columns.{links_noted}
use Rattle.call_cases.specs.EndsFollow.Cuts.{NoStreamIsToReset}
use Rattle.call_cases.specs.EndsFollow.Laws.{is_late}
use Rattle.channel_actions.specs.KeptSessions.Kept.{IsKept}
use Rattle.call_cases.specs.OtherCalls.Others.{ActionsAreOfCall}
use Rattle.channel_actions.specs.Sets.{PairsAreExactly, is_in_outstanding, is_in_ready_waiters, is_in_queue}
use Rattle.end_cases.proofs.AttemptEnds.After.{d, d_here, put, t_is, u}
use Rattle.end_cases.proofs.AttemptEnds.Agreeing.{early_by, none_of}
use Rattle.end_cases.proofs.AttemptEnds.Base.{c, call_is, e, has, here, news, r, sees, slot, x2, z}
use Rattle.end_cases.proofs.AttemptEnds.OneEnded as first
use Rattle.end_cases.proofs.AttemptEnds.Report.{reported_form}
use Rattle.end_cases.specs.AttemptEnds.Ahead.{LinksAhead}
use Rattle.end_cases.specs.AttemptEnds.Ends.{EndNext, gone_with, may_wait}
use Rattle.channel_core.specs.States.{StateSeen}
use Rattle.channel_core.specs.Steps.{reported, with_ledger_links}
use Rattle.channel_core.specs.declared.state.links.LinkSlot.{LinkSlot}
use Rattle.channel_core.specs.declared.state.slots.CallSlot.{CallSlot}
use Rattle.grpc_base.specs.Limits.{message_limit}
use Rattle.grpc_base.specs.declared.event.EndCause.{EndCause}
use Rattle.grpc_base.specs.declared.event.EndCause.TheVariants as ending_cause
use Rattle.net_actions.specs.NetFrames.Frames.{is_of_net}
use Rattle.picker_gate.specs.Pairs.{is_same}
use Rattle.a6_numbers.specs.Throttling.{Bucket}
use Rattle.end_cases.specs.AttemptEnds.Left.{all_left}
use Rattle.session_actions.specs.Actions.{after as after_action}
use Rattle.session_actions.specs.AttemptEnds.{with_end}
use Rattle.session_actions.specs.Attempts.{is_of, is_outstanding, wants_follower}
use Rattle.session_actions.specs.CallEnds.{call_ended, is_over_by_row}
use Rattle.session_actions.specs.Entries.{entry, now}
use Rattle.session_actions.specs.Laws.{posted_in}
use Rattle.session_actions.specs.Configs.{chosen_of}
use Rattle.session_actions.specs.Links.{link_of, read_bytes}
use Rattle.session_actions.specs.Responses.{limit_of_attempt, no_response, response, response_by, response_in, traffic_by, traffic_of}
use Rattle.session_actions.specs.Sessions.{Does}
use Rattle.session_actions.specs.Words.{numbered}
use Rattle.session_actions.specs.declared.action.Action.{Action}
use Rattle.session_actions.specs.declared.attempt.Attempt.{Attempt}
use Rattle.session_actions.specs.declared.call.Call.{Call}
use Rattle.session_actions.specs.declared.call.Mark.{Mark}
use Rattle.session_actions.specs.declared.call.MarkKind.TheVariants as mark
use Rattle.session_actions.specs.declared.entry.OpenEntry.{OpenEntry}
use Rattle.session_actions.specs.declared.link.Link.{Link}
use Rattle.session_actions.specs.declared.response.Outcome.{Outcome}
use Rattle.session_actions.specs.declared.seen.Seen.{Seen}
use Rattle.session_order.specs.Quiescent.{IsStill}
use Rattle.session_order.specs.declared.line.Line.{Line}
use Rattle.session_order.specs.declared.line.Line.TheVariants as line

pub placed_by : (n : ℕ) (xs : List Attempt) → AttemptsAreNumbered n xs → AttemptsStandInPlace n xs
placed_by n [] p = tt
placed_by n (q ∷ xs) p = (p.0, placed_by (suc n) xs p.1)

pub none_cause : (q : Option CallEnd) (why : Option EndCause) → option_map (λ (k : CallEnd). k.cause) q ≡ why → is_none q ≡ is_none why
none_cause None None h = refl
none_cause (Some k) (Some why) h = refl
none_cause None (Some why) h = absurd (cc)
none_cause (Some k) None h = absurd (cc)

-- the lines by which the call is cut short and ends
abbrev pub is_of_closing : Line → Bool
is_of_closing line.Cut = true
is_of_closing line.Row = true
is_of_closing line.Final = true
is_of_closing _ = false

module _ (later : List (ℕ × RowEnd)) (waits : Line → Bool) (also : List ℕ) (a : Attempt) (out : Outcome) (x : StateSeen) (o : OpenEntry) (s : Seen) (is : EndNext later waits also a out x o s)
    (counting : IsCounting s (c later waits also a out x o s is) out) where
  abbrev pub k : Call
  k = c later waits also a out x o s is

  abbrev pub n : ℕ
  n = k.number

  abbrev pub lent : Stepped
  lent = x2 later waits also a out x o s is

  abbrev pub seen : Sees s k lent
  seen = sees later waits also a out x o s is

  abbrev pub order : IsInOrder s k
  order = (has later waits also a out x o s is).sees.order

  abbrev pub turn : IsInTurn s k
  turn = (has later waits also a out x o s is).sees.turn

  abbrev pub v : Seen
  v = u later waits also a out x o s is

  abbrev pub end_ : RowEnd
  end_ = e later waits also a out x o s is

  abbrev pub was : CallSlot
  was = slot later waits also a out x o s is

  abbrev pub dk : Call
  dk = d later waits also a out x o s is

  abbrev pub put_is : put later waits also a out x o s is a ≡ with_end end_ a
  put_is = first.put_is later waits also a out x o s is

  pub unended : a.row.ended ≡ None
  unended = ending.unended s k lent a.place a out seen order turn is.ending counting

  -- the attempt ends
  abbrev pub act : Action
  act = first.act later waits also a out x o s is

  abbrev pub after_is : after_action act s ≡ v
  after_is = first.after_is later waits also a out x o s is

  abbrev pub does_one : Does (act ∷ []) s v
  does_one = first.does_one later waits also a out x o s is

  abbrev pub kept : IsKept s
  kept = first.kept later waits also a out x o s is

  abbrev pub kept_one : IsKept v
  kept_one = first.kept_one later waits also a out x o s is

  abbrev pub entry_then : OpenEntry
  entry_then = first.entry_then later waits also a out x o s is

  abbrev pub current_one : v.current ≡ Some entry_then
  current_one = first.current_one later waits also a out x o s is

  -- the runs of tokens then
  pub runs_are : v.runs ≡ runs_now a.place k s
  runs_are = ap (λ (q : Seen). q.runs) (sym (t_is later waits also a out x o s is) ∙ ending.is_ended s k lent a.place a out seen order turn is.ending counting)

  -- its attempts are in turn
  quiescent : list_any (waits_to_follow s k) s.attempts ≡ false
  quiescent =
      none_of (is_of k) (λ (q : Attempt). wants_follower q s) s.attempts
      (is.still line.Transparent refl (early_by (waits line.Transparent) (may_wait line.Transparent) (is.late line.Transparent) refl))

  pub steady : StaysSteady v n
  steady =
      subst (λ (q : Seen). StaysSteady q n) (t_is later waits also a out x o s is)
      (ending_keeps s k a.place a end_ kept.book (subst (λ (q : Seen). IsBook q) (sym (t_is later waits also a out x o s is)) kept_one.book)
      (record { own = here later waits also a out x o s is; there = is.ending.there; mine = is.ending.own })
      (ap (λ (q : Option RowEnd). is_none q) unended) counting.alone (record { turn = turn; quiescent = quiescent }))

  pub same_steady : steady.call ≡ dk
  same_steady =
      let two : Some steady.call ≡ Some dk = sym steady.own ∙ d_here later waits also a out x o s is in
      (cc)

  pub quiescent_one : list_any (waits_to_follow v dk) v.attempts ≡ false
  quiescent_one = subst (λ (g : Call). list_any (waits_to_follow v g) v.attempts ≡ false) same_steady steady.steady.quiescent

  pub turn_one : IsInTurn v dk
  turn_one = subst (λ (g : Call). IsInTurn v g) same_steady steady.steady.turn

  -- what comes between the end of the attempt and that of the call: actions of the session, and after them its calls and attempts, which are all that they change
  pub record Between : Type 0 where
    pub actions : List Action
    pub calls : List Call
    pub attempts : List Attempt
    -- the marks of the call then, and the attempt
    pub marks : List Mark
    pub one : Attempt

  abbrev pub mid : Between → Seen
  mid b = record v { calls = b.calls; attempts = b.attempts }

  abbrev pub its : Between → Call
  its b = record dk { marks = b.marks }

  abbrev pub closed : Between → Seen
  closed b = call_ended n ending_cause.Row (mid b)

  abbrev pub its_end : CallEnd
  its_end = record { entry = entry v; moment = now v; cause = ending_cause.Row }

  abbrev pub ended : Between → Call
  ended b = record dk { marks = b.marks ++ record { what = mark.Closed; moment = now v } ∷ []; end = Some its_end }

  pub closed_at : (b : Between) → numbered b.calls n ≡ Some (its b) → numbered (closed b).calls n ≡ Some (ended b)
  closed_at b at =
      changed_here (λ (g : Call). record g { end = Some its_end }) n _ (record dk { marks = b.marks ++ record { what = mark.Closed; moment = now v } ∷ [] })
      (changed_here (λ (g : Call). record g { marks = g.marks ++ record { what = mark.Closed; moment = now v } ∷ [] }) n b.calls (its b) at)

  -- what came of the response is what it was
  abbrev pub one_with : Option ℕ → Attempt
  one_with stamp = record a { row = record a.row { ended = Some end_; committed = stamp } }

  module _ (b : Between) (at : numbered b.calls n ≡ Some (its b)) (stamp : Option ℕ) where
    limit_same : limit_of_attempt (one_with stamp) (closed b) ≡ limit_of_attempt a s
    limit_same =
        ap (λ (q : Option Call). option_map_or (λ (g : Call). (chosen_of g (closed b)).response) q message_limit)
        (ap (numbered (closed b).calls) (call_is later waits also a out x o s is) ∙ closed_at b at)
        ∙ sym (ap (λ (q : Option Call). option_map_or (λ (g : Call). (chosen_of g s).response) q message_limit) is.there)

    on_link : (stream : ℕ) (q : Option Link) → link_of a s ≡ q
        → option_map_or (λ (l : Link). response_in (limit_of_attempt (one_with stamp) (closed b)) stream (traffic_by (option_map_or read_bytes q 0) l.traffic)) q no_response
        ≡ option_map_or (λ (l : Link). response_in (limit_of_attempt a s) stream (traffic_of a l.traffic)) q no_response
    on_link stream None h = refl
    on_link stream (Some l) h =
        ap (λ (m : ℕ). response_in m stream (traffic_by (read_bytes l) l.traffic)) limit_same
        ∙ ap (response_in (limit_of_attempt a s) stream) (traffic_all (read_bytes l) l.traffic (first.all_read later waits also a out x o s is a.row.placed l h)
        ∙ sym (ap (λ (q : Option RowEnd). option_map_or (λ (g : RowEnd). traffic_by g.seen l.traffic) q l.traffic) unended))

    by_stream : (q : Option ℕ) → response_by (one_with stamp) (closed b) q ≡ response_by a s q
    by_stream None = refl
    by_stream (Some stream) = on_link stream (link_of a s) refl

    pub response_same : response (one_with stamp) (closed b) ≡ response a s
    response_same = by_stream a.row.stream

  -- the session goes there, and the end of the call is next then
  pub record Continues (b : Between) : Type 0 where
    pub does : Does b.actions v (mid b)
    pub apart : ActionsAreOfCall n b.actions v
    pub posts : posted_in b.actions ≡ []
    pub netless : list_any is_of_net b.actions ≡ false
    pub here : numbered b.calls n ≡ Some (its b)
    pub count : length b.calls ≡ length v.calls
    pub one_there : numbered b.attempts a.place ≡ Some b.one
    pub one_ended : b.one.row.ended ≡ Some end_
    pub tokens : (i : ℕ) → is_some (numbered v.runs i) ≡ true → tokens_in_run (mid b) (Some i) ≡ tokens_in_run v (Some i)
    pub unreset : NoStreamIsToReset (mid b)
    pub none_out : (i : ℕ) (q : Attempt) → slice_get b.attempts i ≡ Some q → (q.row.call == n) ≡ true → is_outstanding q ≡ false
    pub fewer : (link row : ℕ) → is_in_outstanding (mid b) link row ≡ true → is_in_outstanding s link row ≡ true
    pub over : is_over_by_row (mid b) (its b) ≡ true
    pub still : (l : Line) → is_of_closing l ≡ false → may_wait l ≡ false → IsStill l entry_then (mid b)
    pub late : (l : Line) → is_late l ≡ true → waits l ≡ false → IsStill l entry_then (mid b)
    pub wire : IsStill line.WireEnd o s → IsStill line.WireEnd entry_then (mid b)

  pub closed_here : (b : Between) → Continues b → numbered (closed b).calls n ≡ Some (ended b)
  closed_here b goes = closed_at b goes.here

  -- what the channel's call is in the end
  pub record Made : Type 0 where
    pub attempts : Attempts
    pub rows : List Row
    pub tokens : Option Bucket
    pub acts : List CallAct

  abbrev pub stepped : Made → Stepped
  stepped m = record {
    call = record was.call { live = []; buffer = fresh_buffer; attempts = m.attempts; ended = Some ending_cause.Row };
    ledger = end_stamped was.call.number ending_cause.Row (now s) (record x.book.ledger { rows = m.rows });
    tokens = m.tokens;
    acts = m.acts;
  }

  pub record Steps (b : Between) (m : Made) : Type 0 where
    pub step_is : r later waits also a out x o s is ≡ stepped m
    pub sees : Sees (closed b) (ended b) (stepped m)
    pub order : IsInOrder (closed b) (ended b)
    pub turn : IsInTurn (closed b) (ended b)
    pub left : IsLeft (came k s) k.taken (channel_laws.came was.call) → IsLeft (came (ended b) (closed b)) k.taken (channel_laws.came was.call)

  -- and the channel: its links, its sets of rows, and the stamps of links that are gone by the cuts
  pub record Parts : Type 0 where
    pub links : List LinkSlot
    pub resets : List ℕ
    pub outs : List (ℕ × ℕ)
    pub queue : List (ℕ × ℕ)
    pub ready_waiters : List (ℕ × ℕ)
    pub stamps : List LinkSeen

  abbrev pub with_parts : Parts → StateSeen → StateSeen
  with_parts p y = record (with_ledger_links p.stamps y) {
    links = p.links;
    resets = p.resets;
    outstanding = p.outs;
    queue = p.queue;
    ready_waiters = p.ready_waiters;
    awaiting_config = remove_key (is_same (0, n)) x.awaiting_config;
    fail_fast = remove_key (is_same (0, n)) x.fail_fast;
  }

  abbrev pub reported_with : Made → Parts → StateSeen
  reported_with m p = with_parts p (reported_form a.place n (stepped m) was (z later waits also a out x o s is))

  pub record Follows (b : Between) (m : Made) (p : Parts) : Type 0 where
    pub reported_is : reported a.place (news_of_link.Ended a.place (news later waits also a out x o s is)) (z later waits also a out x o s is) ≡ reported_with m p
    pub outs : PairsAreExactly p.outs (is_in_outstanding (closed b))
    pub queue : PairsAreExactly p.queue (is_in_queue (closed b))
    pub ready_waiters : PairsAreExactly p.ready_waiters (is_in_ready_waiters (closed b))
    pub noted : links_noted (closed b) ≡ (gone_with a.row.placed (reported_with m p)).book.ledger.links
    pub ahead : LinksAhead also (reported_with m p) (all_left later (closed b))
