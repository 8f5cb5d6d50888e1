-- An attempt ends, no further attempt follows it and none goes on: the call is committed to it, and ends by it.
use Rattle.std.proofs.Common.{◌≡◌, ◌∷◌, ◌++◌, ◌&&◌, ◌==◌, not, ap, refl, subst, sym, ◌∙◌, Bool, true, false, List, [], Option, None, Some, ℕ, if◌then◌else◌, is_none, is_some, map, option_map}
use Rattle.std.proofs.lemmas.Bool.{and_right}
use Rattle.std.specs.List.{list_any}
use Rattle.std.specs.Prelude.{option_and_then}
use Rattle.attempt_ledger.specs.Ends.{delay_of}
use Rattle.attempt_ledger.specs.Throttling.{codes_of}
use Rattle.attempt_ledger.specs.declared.ledger.CallEnd.{CallEnd}
use Rattle.attempt_ledger.specs.declared.row.RowEnd.{RowEnd}
use Rattle.call_actions.proofs.Closing.{quiet_calls_end}
use Rattle.call_actions.proofs.Columns as columns
use Rattle.call_actions.proofs.Ends.Committed.{moment_by}
use Rattle.call_actions.proofs.Committing as committing
use Rattle.call_actions.proofs.Committing.{IsSameAttempt, plan_same, same_if}
use Rattle.call_actions.proofs.Ends.Frames as ending
use Rattle.call_actions.proofs.Ends.Frames.{ended_by, with_end_at}
use Rattle.call_actions.proofs.Ends.Rows as endrows
use Rattle.call_actions.proofs.Ends.Tokens.{bucket_now, run_now}
use Rattle.call_actions.proofs.Ending.{after, base, channel_is, d, due_then, e, ends, is_ended, its_call, its_end, its_place, judges, last_then, lent_then, like_then, marks_then, order_then, runs, t, tokens_same, reported}
use Rattle.call_actions.proofs.Frames as frames
use Rattle.call_actions.proofs.Lists.{changed_here, filter_none}
use Rattle.call_actions.proofs.Ranks.{numbered_map}
use Rattle.call_actions.specs.Laws.{IsCounting, IsEnding, news_of}
use Rattle.call_actions.specs.Order.{IsInOrder, IsInTurn, Keeps}
use Rattle.call_actions.specs.Sees.{AttemptsAgree, Sees, bucket_of, is_live, live_row}
use Rattle.call_core.specs.Parts as parts
use Rattle.call_core.specs.Parts.{committed_attempts, from_one, has_none, judged, lasted_attempts, retry_after, stopped_attempts, without}
use Rattle.call_core.specs.Steps as steps
use Rattle.call_core.specs.Steps.{Stepped, closed_if}
use Rattle.call_core.specs.declared.attempts.Attempts.{Attempts}
use Rattle.call_core.specs.declared.judge.Judged.{Judged}
use Rattle.call_core.specs.declared.live.LiveRow.{LiveRow}
use Rattle.grpc_base.specs.Codes.{has_code}
use Rattle.grpc_base.specs.declared.event.EndCause.{EndCause}
use Rattle.grpc_base.specs.declared.event.EndCause.TheVariants as endcause
use Rattle.ledger_stamps.specs.Steps as stamps
use Rattle.session_actions.specs.AttemptEnds.{attempt_ended, is_drawing, tokens_at, tokens_at_end, will_count}
use Rattle.session_actions.specs.Attempts.{commitment}
use Rattle.session_actions.specs.CallEnds.{call_ended}
use Rattle.session_actions.specs.Commitments.{call_committed}
use Rattle.session_actions.specs.Configs.{plan_of}
use Rattle.session_actions.specs.DueAttempts.{due_by_plan, due_state, is_licensed, last_delayed}
use Rattle.session_actions.specs.Entries.{last_moment, next_word, now}
use Rattle.session_actions.specs.Tokens.{run_of}
use Rattle.session_actions.specs.Words.{holds, numbered}
use Rattle.session_actions.specs.declared.attempt.Attempt.{Attempt}
use Rattle.session_actions.specs.declared.call.Call.{Call}
use Rattle.session_actions.specs.declared.call.Mark.{Mark}
use Rattle.session_actions.specs.declared.due.DueState.{DueState}
use Rattle.session_actions.specs.declared.response.Outcome.{Outcome}
use Rattle.session_actions.specs.declared.seen.Seen.{Seen}

-- what the channel keeps of attempts hangs on less, once the call has ended by one
record AreSwapped (a b : Attempts) : Type 0 where
  sent : a.sent ≡ b.sent
  newest : a.newest ≡ b.newest
  placed : a.placed ≡ b.placed
  refused : a.is_refusal_followed ≡ b.is_refusal_followed
  committed : a.committed ≡ b.committed
  stopped : a.stopped ≡ b.stopped
  over : b.stopped ≡ true
  taken : b.committed ≡ None → ⊥

swapped : (t : Seen) (n : ℕ) (y : Stepped) (b : Attempts) → AreSwapped y.call.attempts b → Keeps t n y → Keeps t n (record y { call = record y.call { attempts = b } })
swapped t n y b w k =
    let was : AttemptsAgree t k.call y.call.attempts = k.sees.attempts in
    let now_are : AttemptsAgree t k.call b = record {
      sent = was.sent ∙ w.sent;
      due = record {
        newest = was.due.newest ∙ w.newest;
        placed = was.due.placed ∙ w.placed;
        stopped = was.due.stopped ∙ w.stopped;
        forced = λ z. (let both : true ≡ false = sym w.over ∙ z in absurd (cc));
      };
      unplaced = λ z. sym w.placed ∙ was.unplaced (w.sent ∙ z);
      delayed = λ keeps free. absurd (w.taken free);
      last = λ free. absurd (w.taken free);
      refused = was.refused ∙ w.refused;
      committed = was.committed ∙ w.committed;
    } in
    record {
      call = k.call;
      number_is = k.number_is;
      sees = record {
        own = k.sees.own;
        number_is = k.sees.number_is;
        request = k.sees.request;
        begun = k.sees.begun;
        chosen = k.sees.chosen;
        finished = k.sees.finished;
        longest_is = k.sees.longest_is;
        ended = k.sees.ended;
        attempts = now_are;
        live = k.sees.live;
        tokens = k.sees.tokens;
        entry_is = k.sees.entry_is;
        rows = k.sees.rows;
        call_is = k.sees.call_is;
      };
      order = k.order;
    }

-- what the channel judges
pub record ClosesNow (j : Judged) (known : Attempts) : Type 0 where
  pub closes : j.closes ≡ true
  pub word : j.word ≡ None
  pub sent : j.attempts.sent ≡ known.sent
  pub newest : j.attempts.newest ≡ known.newest
  pub placed : j.attempts.placed ≡ known.placed
  pub refused : j.attempts.is_refusal_followed ≡ known.is_refusal_followed

module _ (s : Seen) (c : Call) (x : Stepped) (place : ℕ) (a : Attempt) (out : Outcome) (h : Sees s c x) (o : IsInOrder s c) (turn : IsInTurn s c)
    (g : IsEnding s c place a out) (n : IsCounting s c out) (free : commitment c s ≡ None)
    (not_licensed : is_licensed c a.row.number out.code out.pushback (tokens_at_end a out s) s ≡ false)
    (closes_now : ClosesNow (judges s c x place a out h o turn g n) x.call.attempts)
    (others : list_any (λ (q : Attempt). is_live s c q && not (q.place == place)) s.attempts ≡ false) where
  abbrev its : RowEnd
  its = e s c x place a out h o turn g n

  abbrev there : RowEnd
  there = its_end s c x place a out h o turn g n

  abbrev lent : Stepped
  lent = reported s c x place a out h o turn g n

  abbrev put : Attempt → Attempt
  put q = with_end_at place its q

  abbrev then_base : Seen
  then_base = base s c x place a out h o turn g n

  abbrev then_seen : Seen
  then_seen = t s c x place a out h o turn g n

  abbrev then_call : Call
  then_call = d s c x place a out h o turn g n

  abbrev known : Attempts
  known = x.call.attempts

  abbrev number : ℕ
  number = a.row.number

  not_drawing : holds (is_drawing a out s) (Some c) ≡ false
  not_drawing =
      and_right (will_count a out s && is_none (commitment c s) && is_none (delay_of out.pushback)) (is_licensed c number out.code out.pushback (tokens_at a out s c) s)
      (ap (λ (z : Option ℕ). is_licensed c number out.code out.pushback z s) (sym (ap (option_and_then (tokens_at a out s)) (its_call s c x place a out h o turn g n))) ∙ not_licensed)

  word_none : its.word ≡ None
  word_none =
      ap (λ (z : Option Call). if holds (is_drawing a out s) z then Some (next_word s) else None) (its_call s c x place a out h o turn g n)
      ∙ ap (λ (b : Bool). if b then Some (next_word s) else None) not_drawing

  abbrev judge : Judged
  judge = judges s c x place a out h o turn g n

  -- the end in the ledger
  abbrev stamp : ℕ → Option ℕ → Option ℕ → RowEnd
  stamp at tokens word = record there { entry = at; tokens = tokens; word = word }

  same_end : its ≡ there
  same_end =
      ap (λ (z : ℕ). stamp z its.tokens its.word) h.entry_is
      ∙ ap (λ (z : Option ℕ). stamp x.ledger.entry z its.word) (tokens_same s c x place a out h o turn g n)
      ∙ ap (stamp x.ledger.entry (parts.count_of lent.tokens)) word_none

  -- the session after the end, and a channel that knows of the next attempt what the session does
  due_same : IsSameAttempt (due_state then_call then_seen) (marks_then s c x place a out h o turn g n)
  due_same =
      subst (λ (z : DueState). IsSameAttempt z (marks_then s c x place a out h o turn g n)) (sym (due_then s c x place a out h o turn g n))
      (same_if (not (marks_then s c x place a out h o turn g n).stopped && true && has_code (codes_of (plan_of c s)) out.code)
      (due_by_plan (plan_of c s) c (put a) then_base (marks_then s c x place a out h o turn g n) its) (marks_then s c x place a out h o turn g n) (marks_then s c x place a out h o turn g n)
      (plan_same (plan_of c s) c (put a) then_base (marks_then s c x place a out h o turn g n) (marks_then s c x place a out h o turn g n) its (record { newest = refl; placed = refl }))
      (record { newest = refl; placed = refl }))

  abbrev mid : Attempts
  mid = record known {
    last = Some a.place;
    forced = (due_state then_call then_seen).forced;
    stopped = (due_state then_call then_seen).stopped;
    delayed = last_delayed then_call known.sent then_seen;
  }

  attempts_then : AttemptsAgree then_seen then_call mid
  attempts_then = record {
    sent = ending.made_same s c place a its (runs s c x place a out h o turn g n) (ends s c x place a out h o turn g n) ∙ h.attempts.sent;
    due = record {
      newest = due_same.newest ∙ (like_then s c x place a out h o turn g n).newest ∙ h.attempts.due.newest;
      placed = due_same.placed ∙ (like_then s c x place a out h o turn g n).placed ∙ h.attempts.due.placed;
      stopped = refl;
      forced = λ z. refl;
    };
    unplaced = h.attempts.unplaced;
    delayed = λ keeps none. refl;
    last = λ none. last_then s c x place a out h o turn g n ∙ ap (λ (k : ℕ). Some k) (sym (its_place s c x place a out h o turn g n));
    refused = endrows.refused_then s c x place a its (runs s c x place a out h o turn g n) h o (ends s c x place a out h o turn g n) g.own;
    committed = endrows.committed_then s c x place a its (runs s c x place a out h o turn g n) h o (ends s c x place a out h o turn g n) g.own;
  }

  none_left : without place x.call.live ≡ []
  none_left =
      sym (endrows.rest_is s c x place a its (runs s c x place a out h o turn g n) h o (ends s c x place a out h o turn g n) g.own)
      ∙ ap (map live_row)
      (filter_none (λ (q : Attempt). is_live s c q && not (q.place == place)) (λ (q : Attempt). is_live s c q && not (q.place == place)) (λ q z. z) s.attempts others)

  abbrev mid_channel : Attempts → List LiveRow → ℕ → Option ℕ → Stepped
  mid_channel b live p word = record lent {
    call = record lent.call { live = live; attempts = b };
    ledger = record lent.ledger { rows = stamps.changed_at (stamps.ended_row (record there { word = word })) x.ledger.rows p };
  }

  abbrev w : Mark
  w = endrows.w s c x place a its (runs s c x place a out h o turn g n) h o (ends s c x place a out h o turn g n) g.own

  abbrev y : Stepped
  y = mid_channel mid [] place None

  sees_then : Sees then_seen then_call y
  sees_then = record {
    own = changed_here (λ (q : Call). record q { marks = q.marks ++ w ∷ [] }) c.number s.calls c h.own;
    number_is = h.number_is;
    request = h.request;
    begun = h.begun;
    chosen = h.chosen;
    finished = h.finished;
    longest_is = h.longest_is;
    ended = h.ended;
    attempts = attempts_then;
    live = endrows.live_then s c x place a its (runs s c x place a out h o turn g n) h o (ends s c x place a out h o turn g n) g.own ∙ none_left;
    tokens = frames.bucket_reported then_base c.number (λ q. q.messages) (λ q. q.finished) (λ q. q.taken) (λ q. q.end_taken) (λ q. q.marks ++ w ∷ []) (λ q. q.end)
        (endrows.now_open s c x place a its (runs s c x place a out h o turn g n) h o (ends s c x place a out h o turn g n) g.own) (run_of c then_base)
        ∙ ap (option_map (bucket_of then_base)) (run_now place c s)
        ∙ bucket_now s c place a its (runs s c x place a out h o turn g n) (ends s c x place a out h o turn g n) (its_call s c x place a out h o turn g n) (run_of c s) refl turn.counted
        ∙ sym (lent_then s c x place a out h o turn g n);
    entry_is = endrows.entry_then s c x place a its (runs s c x place a out h o turn g n) h o (ends s c x place a out h o turn g n) g.own;
    rows = endrows.rows_then s c x place a its (runs s c x place a out h o turn g n) h o (ends s c x place a out h o turn g n) g.own
        ∙ ap (λ (z : RowEnd). stamps.changed_at (stamps.ended_row z) x.ledger.rows place) same_end;
    call_is = endrows.call_then s c x place a its (runs s c x place a out h o turn g n) h o (ends s c x place a out h o turn g n) g.own;
  }

  order_now : IsInOrder then_seen then_call
  order_now = order_then s c x place a out h o turn g n free due_same.newest

  got_then : numbered then_seen.attempts place ≡ Some (put a)
  got_then = numbered_map put s.attempts place ∙ ap (option_map put) g.there

  free_then : commitment then_call then_seen ≡ None
  free_then =
      columns.commitment_same s ending.placed_before (ended_by place its) (ending.was_there s c place a its (runs s c x place a out h o turn g n) (ends s c x place a out h o turn g n))
      (ending.writes s c place a its (runs s c x place a out h o turn g n) (ends s c x place a out h o turn g n)) c ∙ ap (option_map put) free

  -- the commitment
  abbrev last_seen : Seen
  last_seen = committing.t then_seen then_call y place (put a) sees_then order_now got_then g.own n.goes_on free_then refl

  abbrev last_call : Call
  last_call = committing.d then_seen then_call y place (put a) sees_then order_now got_then g.own n.goes_on free_then refl

  abbrev z : Stepped
  z = committing.after then_seen then_call y place (put a) sees_then order_now got_then g.own n.goes_on free_then refl

  ends_there : Keeps (call_ended c.number endcause.Row last_seen) c.number (steps.closed_by endcause.Row (now last_seen) z)
  ends_there =
      quiet_calls_end last_seen last_call z endcause.Row (committing.sees_now then_seen then_call y place (put a) sees_then order_now got_then g.own n.goes_on free_then refl)
      (committing.order_now then_seen then_call y place (put a) sees_then order_now got_then g.own n.goes_on free_then refl) n.goes_on refl

  -- the channel's own end
  abbrev whole : Attempts → List LiveRow → ℕ → Option ℕ → Stepped
  whole b live p word = steps.ended_by_row p (now s) (mid_channel b live p word)

  abbrev lasted : Attempts
  lasted = lasted_attempts a.place judge.attempts

  channel : steps.ended_at place (news_of a out s) (now s) (next_word s) x ≡ whole lasted [] place None
  channel =
      channel_is s c x place a out h o turn g n free
      ∙ ap (λ (b : Bool). closed_if b a.place (now s) (after s c x place a out h o turn g n)) closes_now.closes
      ∙ ap (λ (k : Option ℕ). whole lasted lent.call.live a.place k) closes_now.word
      ∙ ap (λ (p : ℕ). whole lasted (without p x.call.live) p None) (its_place s c x place a out h o turn g n)
      ∙ ap (λ (l : List LiveRow). whole lasted l place None) none_left

  open_now : x.call.ended ≡ None
  open_now = sym h.ended ∙ ap (option_map (λ (q : CallEnd). q.cause)) n.goes_on

  virtual : steps.closed_by endcause.Row (now last_seen) z ≡ whole mid [] place None
  virtual =
      ap (λ (m : ℕ). steps.closed_by endcause.Row m z) (moment_by s.current (if is_some its.word then 1 else 0) (last_moment s))
      ∙ ap (λ (k : Option EndCause). steps.ended_if (not (is_some k)) endcause.Row (now s) z) open_now

  swaps : AreSwapped (whole mid [] place None).call.attempts (stopped_attempts (committed_attempts place lasted))
  swaps = record {
    sent = sym closes_now.sent;
    newest = sym closes_now.newest;
    placed = sym closes_now.placed;
    refused = sym closes_now.refused;
    committed = refl;
    stopped = refl;
    over = refl;
    taken = λ none. absurd (cc);
  }

  pub ends_by_last : Keeps (call_ended c.number endcause.Row (call_committed place (attempt_ended place its s))) c.number
      (steps.ended_at place (news_of a out s) (now s) (next_word s) x)
  ends_by_last =
      subst (λ (k : Seen). Keeps (call_ended c.number endcause.Row (call_committed place k)) c.number (steps.ended_at place (news_of a out s) (now s) (next_word s) x))
      (sym (is_ended s c x place a out h o turn g n))
      (subst (λ (k : Seen). Keeps (call_ended c.number endcause.Row k) c.number (steps.ended_at place (news_of a out s) (now s) (next_word s) x))
      (sym (committing.is_committed then_seen then_call y place (put a) sees_then order_now got_then g.own n.goes_on free_then refl))
      (subst (λ (k : Stepped). Keeps (call_ended c.number endcause.Row last_seen) c.number k) (sym channel)
      (swapped (call_ended c.number endcause.Row last_seen) c.number (whole mid [] place None) (stopped_attempts (committed_attempts place lasted)) swaps
      (subst (λ (k : Stepped). Keeps (call_ended c.number endcause.Row last_seen) c.number k) virtual ends_there))))
