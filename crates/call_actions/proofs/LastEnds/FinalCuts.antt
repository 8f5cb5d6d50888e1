-- An attempt ends, and no further attempt follows it: the call is committed to it, its other attempts are cut off, and it ends.
use Rattle.std.proofs.Common.{◌≡◌, ◌<◌, ◌+◌, ◌∷◌, ◌++◌, ◌&&◌, ◌||◌, ◌==◌, not, nat_lt, ap, arith, refl, subst, sym, ◌∙◌, Bool, true, false, List, [], Option, None, Some, ℕ, if◌then◌else◌, is_none, is_some, map, option_map}
use Rattle.std.proofs.lemmas.Bool.{and_right, both_ways, eq-eqb, eqb-false, eqb-true, lt-ltb, ne_eqb}
use Rattle.std.proofs.lemmas.List.Folds.{list_all-append}
use Rattle.std.specs.List.{AllByRecursion, list_all, list_any}
use Rattle.std.specs.Option.{option_map_or}
use Rattle.std.specs.Prelude.{option_and_then}
use Rattle.attempt_ledger.specs.Ends.{delay_of}
use Rattle.attempt_ledger.specs.Throttling.{codes_of}
use Rattle.attempt_ledger.specs.declared.row.RowEnd.{RowEnd}
use Rattle.call_actions.proofs.Unconfigured.{some_still}
use Rattle.call_actions.proofs.Columns as columns
use Rattle.call_actions.proofs.Ends.Committed.{moment_by}
use Rattle.call_actions.proofs.Committing.{IsSameAttempt, plan_same, same_if}
use Rattle.call_actions.proofs.Ends.Frames as ending
use Rattle.call_actions.proofs.Ends.Frames.{ended_by, with_end_at}
use Rattle.call_actions.proofs.Ends.Rows as endrows
use Rattle.call_actions.proofs.Ends.Rows.{unended_by}
use Rattle.call_actions.proofs.Ends.Tokens.{bucket_now, more_ends, run_now}
use Rattle.call_actions.proofs.Ending.{after, base, channel_is, d, due_then, e, ends, is_ended, its_call, its_end, its_place, judges, last_then, lent_then, like_then, marks_then, order_then, runs, t, tokens_same, reported}
use Rattle.call_actions.proofs.Final.{ClosesNow}
use Rattle.call_actions.proofs.Frames as frames
use Rattle.call_actions.proofs.LastOnes.{closes_now, not_licensed}
use Rattle.call_actions.proofs.Lists.{changed_here, numbered_not}
use Rattle.call_actions.proofs.Ranks.{all_so, numbered_map}
use Rattle.call_actions.specs.Laws.{IsCounting, IsEnding, news_of}
use Rattle.call_actions.specs.Order.{IsInOrder, IsInTurn, Keeps, goes_on_followed, has_ended}
use Rattle.call_actions.specs.Sees.{AttemptsAgree, Sees, bucket_of, is_live}
use Rattle.call_core.specs.Parts as parts
use Rattle.call_core.specs.Parts.{lasted_attempts, without}
use Rattle.call_core.specs.Steps as steps
use Rattle.call_core.specs.Steps.{Stepped, closed_if}
use Rattle.call_core.specs.declared.attempts.Attempts.{Attempts}
use Rattle.call_core.specs.declared.judge.Judged.{Judged}
use Rattle.call_core.specs.declared.live.LiveRow.{LiveRow}
use Rattle.grpc_base.specs.Codes.{has_code}
use Rattle.grpc_base.specs.declared.event.EndCause.TheVariants as endcause
use Rattle.call_actions.proofs.LastEnds.EndedClose.{ClosesSo, closes_with_cuts}
use Rattle.call_actions.proofs.LastEnds.EndedCut.{KnowsAlike}
use Rattle.call_actions.specs.LastEnds.Laws.{CanClose, ClosesWithCuts, FinalEndsCutOthers}
use Rattle.ledger_stamps.specs.Steps as stamps
use Rattle.session_actions.specs.AttemptEnds.{is_drawing, tokens_at, tokens_at_end, will_count}
use Rattle.session_actions.specs.Attempts.{commitment, is_followed, is_later_of, is_of, is_outstanding, is_over, is_queued}
use Rattle.session_actions.specs.CallEnds.{call_ended}
use Rattle.session_actions.specs.Commitments.{call_committed}
use Rattle.session_actions.specs.Configs.{plan_of}
use Rattle.session_actions.specs.DueAttempts.{due_by_plan, due_state, is_licensed, last_delayed}
use Rattle.session_actions.specs.Entries.{last_moment, next_word, now}
use Rattle.session_actions.specs.Sessions.{link_seen}
use Rattle.session_actions.specs.Tokens.{run_of}
use Rattle.session_actions.specs.Words.{holds, numbered}
use Rattle.session_actions.specs.declared.attempt.Attempt.{Attempt}
use Rattle.session_actions.specs.declared.call.Call.{Call}
use Rattle.session_actions.specs.declared.call.Mark.{Mark}
use Rattle.session_actions.specs.declared.config.ThrottleRun.{ThrottleRun}
use Rattle.session_actions.specs.declared.due.DueState.{DueState}
use Rattle.session_actions.specs.declared.entry.OpenEntry.{OpenEntry}
use Rattle.session_actions.specs.declared.response.Outcome.{Outcome}
use Rattle.session_actions.specs.declared.seen.Seen.{Seen}
use Rattle.call_actions.proofs.TakeActions.CutLive.{none_any}
use Rattle.call_actions.proofs.TakeActions.Maps.{all_both}
use Rattle.call_actions.specs.TakeActions.Cuts.{AttemptsAreCut, is_twin}
use Rattle.call_actions.specs.TakeActions.Serves.{is_ended_at}

still_ended : (f : Attempt → Attempt) → ((a : Attempt) → is_some a.row.ended ≡ true → is_some (f a).row.ended ≡ true) → (o : Option Attempt)
    → holds (λ (q : Attempt). is_some q.row.ended) o ≡ true → holds (λ (q : Attempt). is_some q.row.ended) (option_map f o) ≡ true
still_ended f still None e = absurd (cc)
still_ended f still (Some a) e = still a e

stays_ended : (b : Bool) (e : RowEnd) (o : Option RowEnd) → is_some o ≡ true → is_some (if b then Some e else o) ≡ true
stays_ended true e o f = refl
stays_ended false e o f = f

own_of : (mine rest : Bool) → (mine && rest) ≡ true → mine ≡ true
own_of true rest e = refl
own_of false rest e = absurd (cc)

twin_by : (lives same here : Bool) → (lives ≡ true → same ≡ true → here ≡ false → ⊥) → (lives && same && not here) ≡ false
twin_by true true true differs = refl
twin_by true true false differs = absurd (differs refl refl refl)
twin_by true false here differs = refl
twin_by false same here differs = refl

not_one : (m n : ℕ) → (m ≡ n → ⊥) → (m < n → ⊥) → (n < m → ⊥) → ⊥
not_one m n away less more = omega (arith, away, less, more)

module _ (s : Seen) (c : Call) (x : Stepped) (place : ℕ) (a : Attempt) (out : Outcome) (h : Sees s c x) (o : IsInOrder s c) (turn : IsInTurn s c)
    (g : IsEnding s c place a out) (n : IsCounting s c out) (free : commitment c s ≡ None)
    (not_licensed : is_licensed c a.row.number out.code out.pushback (tokens_at_end a out s) s ≡ false)
    (closes_now : ClosesNow (judges s c x place a out h o turn g n) x.call.attempts) where
  abbrev its : RowEnd
  its = e s c x place a out h o turn g n

  abbrev there : RowEnd
  there = its_end s c x place a out h o turn g n

  abbrev lent : Stepped
  lent = reported s c x place a out h o turn g n

  abbrev put : Attempt → Attempt
  put q = with_end_at place its q

  abbrev then_base : Seen
  then_base = base s c x place a out h o turn g n

  abbrev then_seen : Seen
  then_seen = t s c x place a out h o turn g n

  abbrev then_call : Call
  then_call = d s c x place a out h o turn g n

  abbrev known : Attempts
  known = x.call.attempts

  abbrev number : ℕ
  number = a.row.number

  not_drawing : holds (is_drawing a out s) (Some c) ≡ false
  not_drawing =
      and_right (will_count a out s && is_none (commitment c s) && is_none (delay_of out.pushback)) (is_licensed c number out.code out.pushback (tokens_at a out s c) s)
      (ap (λ (z : Option ℕ). is_licensed c number out.code out.pushback z s) (sym (ap (option_and_then (tokens_at a out s)) (its_call s c x place a out h o turn g n))) ∙ not_licensed)

  word_none : its.word ≡ None
  word_none =
      ap (λ (z : Option Call). if holds (is_drawing a out s) z then Some (next_word s) else None) (its_call s c x place a out h o turn g n)
      ∙ ap (λ (b : Bool). if b then Some (next_word s) else None) not_drawing

  abbrev judge : Judged
  judge = judges s c x place a out h o turn g n

  -- the end in the ledger
  abbrev stamp : ℕ → Option ℕ → Option ℕ → RowEnd
  stamp at tokens word = record there { entry = at; tokens = tokens; word = word }

  same_end : its ≡ there
  same_end =
      ap (λ (z : ℕ). stamp z its.tokens its.word) h.entry_is
      ∙ ap (λ (z : Option ℕ). stamp x.ledger.entry z its.word) (tokens_same s c x place a out h o turn g n)
      ∙ ap (stamp x.ledger.entry (parts.count_of lent.tokens)) word_none

  -- the session after the end, and a channel that knows of the next attempt what the session does
  due_same : IsSameAttempt (due_state then_call then_seen) (marks_then s c x place a out h o turn g n)
  due_same =
      subst (λ (z : DueState). IsSameAttempt z (marks_then s c x place a out h o turn g n)) (sym (due_then s c x place a out h o turn g n))
      (same_if (not (marks_then s c x place a out h o turn g n).stopped && true && has_code (codes_of (plan_of c s)) out.code)
      (due_by_plan (plan_of c s) c (put a) then_base (marks_then s c x place a out h o turn g n) its) (marks_then s c x place a out h o turn g n) (marks_then s c x place a out h o turn g n)
      (plan_same (plan_of c s) c (put a) then_base (marks_then s c x place a out h o turn g n) (marks_then s c x place a out h o turn g n) its (record { newest = refl; placed = refl }))
      (record { newest = refl; placed = refl }))

  abbrev mid : Attempts
  mid = record known {
    last = Some a.place;
    forced = (due_state then_call then_seen).forced;
    stopped = (due_state then_call then_seen).stopped;
    delayed = last_delayed then_call known.sent then_seen;
  }

  attempts_then : AttemptsAgree then_seen then_call mid
  attempts_then = record {
    sent = ending.made_same s c place a its (runs s c x place a out h o turn g n) (ends s c x place a out h o turn g n) ∙ h.attempts.sent;
    due = record {
      newest = due_same.newest ∙ (like_then s c x place a out h o turn g n).newest ∙ h.attempts.due.newest;
      placed = due_same.placed ∙ (like_then s c x place a out h o turn g n).placed ∙ h.attempts.due.placed;
      stopped = refl;
      forced = λ z. refl;
    };
    unplaced = h.attempts.unplaced;
    delayed = λ keeps none. refl;
    last = λ none. last_then s c x place a out h o turn g n ∙ ap (λ (k : ℕ). Some k) (sym (its_place s c x place a out h o turn g n));
    refused = endrows.refused_then s c x place a its (runs s c x place a out h o turn g n) h o (ends s c x place a out h o turn g n) g.own;
    committed = endrows.committed_then s c x place a its (runs s c x place a out h o turn g n) h o (ends s c x place a out h o turn g n) g.own;
  }

  abbrev mid_channel : Attempts → List LiveRow → ℕ → Option ℕ → Stepped
  mid_channel b live p word = record lent {
    call = record lent.call { live = live; attempts = b };
    ledger = record lent.ledger { rows = stamps.changed_at (stamps.ended_row (record there { word = word })) x.ledger.rows p };
  }

  abbrev w : Mark
  w = endrows.w s c x place a its (runs s c x place a out h o turn g n) h o (ends s c x place a out h o turn g n) g.own

  abbrev y : Stepped
  y = mid_channel mid (without place x.call.live) place None

  sees_then : Sees then_seen then_call y
  sees_then = record {
    own = changed_here (λ (q : Call). record q { marks = q.marks ++ w ∷ [] }) c.number s.calls c h.own;
    number_is = h.number_is;
    request = h.request;
    begun = h.begun;
    chosen = h.chosen;
    finished = h.finished;
    longest_is = h.longest_is;
    ended = h.ended;
    attempts = attempts_then;
    live = endrows.live_then s c x place a its (runs s c x place a out h o turn g n) h o (ends s c x place a out h o turn g n) g.own;
    tokens = frames.bucket_reported then_base c.number (λ q. q.messages) (λ q. q.finished) (λ q. q.taken) (λ q. q.end_taken) (λ q. q.marks ++ w ∷ []) (λ q. q.end)
        (endrows.now_open s c x place a its (runs s c x place a out h o turn g n) h o (ends s c x place a out h o turn g n) g.own) (run_of c then_base)
        ∙ ap (option_map (bucket_of then_base)) (run_now place c s)
        ∙ bucket_now s c place a its (runs s c x place a out h o turn g n) (ends s c x place a out h o turn g n) (its_call s c x place a out h o turn g n) (run_of c s) refl turn.counted
        ∙ sym (lent_then s c x place a out h o turn g n);
    entry_is = endrows.entry_then s c x place a its (runs s c x place a out h o turn g n) h o (ends s c x place a out h o turn g n) g.own;
    rows = endrows.rows_then s c x place a its (runs s c x place a out h o turn g n) h o (ends s c x place a out h o turn g n) g.own
        ∙ ap (λ (z : RowEnd). stamps.changed_at (stamps.ended_row z) x.ledger.rows place) same_end;
    call_is = endrows.call_then s c x place a its (runs s c x place a out h o turn g n) h o (ends s c x place a out h o turn g n) g.own;
  }

  order_now : IsInOrder then_seen then_call
  order_now = order_then s c x place a out h o turn g n free due_same.newest

  got_then : numbered then_seen.attempts place ≡ Some (put a)
  got_then = numbered_map put s.attempts place ∙ ap (option_map put) g.there

  free_then : commitment then_call then_seen ≡ None
  free_then =
      columns.commitment_same s ending.placed_before (ended_by place its) (ending.was_there s c place a its (runs s c x place a out h o turn g n) (ends s c x place a out h o turn g n))
      (ending.writes s c place a its (runs s c x place a out h o turn g n) (ends s c x place a out h o turn g n)) c ∙ ap (option_map put) free

  -- it can be committed to this attempt
  end_there : (put a).row.ended ≡ Some its
  end_there = ending.end_here s c place a its (runs s c x place a out h o turn g n) (ends s c x place a out h o turn g n)

  counts_then : (u : ThrottleRun) → list_all (has_ended s) u.ends ≡ true → list_all (is_ended_at then_seen) (u.ends ++ place ∷ []) ≡ true
  counts_then u e =
      list_all-append (is_ended_at then_seen) u.ends (place ∷ [])
      ∙ ap (λ (b : Bool). b && list_all (is_ended_at then_seen) (place ∷ []))
      (all_so (has_ended s) (is_ended_at then_seen)
      (λ p z. ap (holds (λ (q : Attempt). is_some q.row.ended)) (numbered_map put s.attempts p) ∙ still_ended put (λ q f. stays_ended (q.place == place) its q.row.ended f) (numbered s.attempts p) z)
      u.ends e)
      ∙ ap (λ (b : Bool). b && true) (ap (holds (λ (q : Attempt). is_some q.row.ended)) got_then ∙ ap (λ (z : Option RowEnd). is_some z) end_there)

  counted_by : (r : Option ThrottleRun) → option_map_or (λ (u : ThrottleRun). list_all (has_ended s) u.ends) r true ≡ true
      → option_map_or (λ (u : ThrottleRun). list_all (is_ended_at then_seen) u.ends) (option_map (more_ends place) r) true ≡ true
  counted_by None e = refl
  counted_by (Some u) e = counts_then u e

  counted_then : option_map_or (λ (u : ThrottleRun). list_all (is_ended_at then_seen) u.ends) (run_of then_call then_seen) true ≡ true
  counted_then =
      ap (λ (r : Option ThrottleRun). option_map_or (λ (u : ThrottleRun). list_all (is_ended_at then_seen) u.ends) r true) (run_now place c s) ∙ counted_by (run_of c s) turn.counted

  -- no other attempt that goes on has its number: the later of two would follow the other one
  unfollowed : is_followed a s ≡ false
  unfollowed = (ends s c x place a out h o turn g n).unfollowed

  record Apart (q : Attempt) : Type 0 where
    older : goes_on_followed s c q ≡ false
    newer : is_later_of a q ≡ false
    follows : is_of c q ≡ true → is_none q.row.ended ≡ true → is_later_of q a ≡ false

  apart : AllByRecursion Apart s.attempts
  apart =
      all_both (λ (q : Attempt). goes_on_followed s c q ≡ false) (λ (q : Attempt). is_later_of a q ≡ false) Apart
      (λ q one two. record {
        older = one;
        newer = two;
        follows = λ mine none. numbered_not (is_later_of q) s.attempts place a
            (sym (ap (λ (b : Bool). (b && is_none q.row.ended) && is_followed q s) mine ∙ ap (λ (b : Bool). (true && b) && is_followed q s) none) ∙ one) g.there;
      }) s.attempts (none_any (goes_on_followed s c) s.attempts turn.unfollowed) (none_any (is_later_of a) s.attempts unfollowed)

  not_later : (p q : Attempt) → is_of c p ≡ true → is_of c q ≡ true → (p.row.number ≡ q.row.number) → is_later_of q p ≡ false → q.place < p.place → ⊥
  not_later p q mine own same none less =
      let call : p.row.call ≡ q.row.call = eqb-true p.row.call c.number mine ∙ sym (eqb-true q.row.call c.number own) in
      let yes : is_later_of q p ≡ true
      = ap (λ (b : Bool). (b && (p.row.number == q.row.number)) && nat_lt q.place p.place) (eq-eqb p.row.call q.row.call call)
      ∙ ap (λ (b : Bool). (true && b) && nat_lt q.place p.place) (eq-eqb p.row.number q.row.number same) ∙ lt-ltb q.place p.place less in
      both_ways (is_later_of q p) none yes

  no_twin : (q : Attempt) → Apart q → is_of c q ≡ true → is_none (put q).row.ended ≡ true → a.row.number ≡ q.row.number → (a.place ≡ q.place → ⊥) → ⊥
  no_twin q p mine going_on same away =
      let off : (q.place == place) ≡ false = ne_eqb q.place place (λ e. away (its_place s c x place a out h o turn g n ∙ sym e)) in
      let going : is_none q.row.ended ≡ true = sym (ap (λ (b : Bool). is_none (if b then Some its else q.row.ended)) off) ∙ going_on in
      not_one a.place q.place away (not_later q a mine g.own (sym same) p.newer) (not_later a q g.own mine same (p.follows mine going))

  twin_here : (q : Attempt) → Apart q → is_twin then_seen then_call (put a) (put q) ≡ false
  twin_here q p =
      twin_by (is_live then_seen then_call (put q)) (a.row.number == q.row.number) (a.place == q.place)
      (λ lives same away.
      no_twin q p (own_of (is_of c q) (is_outstanding (put q) || is_queued (put q) then_seen) lives)
      (unended_by (is_of c q) (is_some q.row.placed) (is_none q.row.placed) (is_none (put q).row.ended) (is_over (put q) then_seen) lives)
      (eqb-true a.row.number q.row.number same) (eqb-false a.place q.place away))

  twins : (xs : List Attempt) → AllByRecursion Apart xs → list_any (is_twin then_seen then_call (put a)) (map put xs) ≡ false
  twins [] all = refl
  twins (q ∷ xs) all = ap (λ (b : Bool). b || list_any (is_twin then_seen then_call (put a)) (map put xs)) (twin_here q all.0) ∙ twins xs all.1

  can_close : CanClose then_seen then_call (put a)
  can_close = record {
    at = ap (numbered then_seen.attempts) (its_place s c x place a out h o turn g n) ∙ got_then;
    mine = g.own;
    over = ap (λ (z : Option RowEnd). is_none z) end_there;
    open_now = n.goes_on;
    free = free_then;
    alone = twins s.attempts apart;
  }

  -- the channel's own end
  abbrev whole : Attempts → List LiveRow → ℕ → Option ℕ → Stepped
  whole b live p word = steps.ended_by_row p (now s) (mid_channel b live p word)

  abbrev lasted : Attempts
  lasted = lasted_attempts a.place judge.attempts

  channel : steps.ended_at place (news_of a out s) (now s) (next_word s) x ≡ whole lasted (without place x.call.live) place None
  channel =
      channel_is s c x place a out h o turn g n free
      ∙ ap (λ (b : Bool). closed_if b a.place (now s) (after s c x place a out h o turn g n)) closes_now.closes
      ∙ ap (λ (k : Option ℕ). whole lasted lent.call.live a.place k) closes_now.word
      ∙ ap (λ (p : ℕ). whole lasted (without p x.call.live) p None) (its_place s c x place a out h o turn g n)

  alike : KnowsAlike mid lasted
  alike = record { sent = sym closes_now.sent; newest = sym closes_now.newest; placed = sym closes_now.placed; refused = sym closes_now.refused }

  pub closes_cutting : is_some s.current ≡ true → map link_seen s.links ≡ x.ledger.links
      → ClosesWithCuts s c place its (steps.ended_at place (news_of a out s) (now s) (next_word s) x)
  closes_cutting opened links =
      let w : ClosesSo then_seen then_call (put a) (steps.ended_by_row a.place (now then_seen) (record y { call = record y.call { attempts = lasted } }))
      = closes_with_cuts then_seen then_call y (put a) lasted sees_then alike order_now can_close links counted_then
      (some_still (λ (z : OpenEntry). record z { drawn = z.drawn + (if is_some its.word then 1 else 0) }) s.current ∙ opened) in
      let same : steps.ended_by_row a.place (now then_seen) (record y { call = record y.call { attempts = lasted } }) ≡ steps.ended_at place (news_of a out s) (now s) (next_word s) x
      = ap (λ (p : ℕ). steps.ended_by_row p (now then_seen) (mid_channel lasted (without place x.call.live) place None)) (its_place s c x place a out h o turn g n)
      ∙ ap (λ (m : ℕ). steps.ended_by_row place m (mid_channel lasted (without place x.call.live) place None)) (moment_by s.current (if is_some its.word then 1 else 0) (last_moment s))
      ∙ sym channel in
      record {
        cuts = w.cuts;
        seen = w.seen;
        cut = subst (λ (u : Seen). AttemptsAreCut c.number w.cuts u w.seen)
            (ap (λ (p : ℕ). call_committed p then_seen) (its_place s c x place a out h o turn g n) ∙ ap (call_committed place) (sym (is_ended s c x place a out h o turn g n))) w.cut;
        closes = subst (λ (k : Stepped). Keeps (call_ended c.number endcause.Row w.seen) c.number k) same w.closes;
      }

pub final_ends_cut_others : FinalEndsCutOthers
final_ends_cut_others s c x place a out opened h o turn links g n free final =
    closes_cutting s c x place a out h o turn g n free (not_licensed s c x place a out h o turn g n free final) (closes_now s c x place a out h o turn g n free final) opened links
