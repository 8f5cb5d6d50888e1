-- An attempt of a call that is retried ends, and its end licenses a retry.
use Rattle.std.proofs.Common.{◌≡◌, ◌≤◌, ◌-◌, ◌+◌, ◌^◌, ◌&&◌, ◌==◌, not, nat_le, nat_lt, ap, arith, refl, subst, sym, ◌∙◌, Bool, true, false, Option, None, Some, ℕ, zero, suc, pred, if◌then◌else◌, is_none, is_some, min, option_map}
use Rattle.std.proofs.Math.Nat.{max-eq_left}
use Rattle.std.proofs.lemmas.Bool.{and_parts, eqb-false, eqb-true, le-leb, not-false}
use Rattle.std.specs.Option.{option_map_or}
use Rattle.std.specs.Prelude.{option_and_then, unwrap_or}
use Rattle.attempt_ledger.specs.Ends as reads
use Rattle.attempt_ledger.specs.Ends.{delay_of, millis_after}
use Rattle.attempt_ledger.specs.Throttling.{codes_of}
use Rattle.attempt_ledger.specs.declared.next.Next.{Next}
use Rattle.attempt_ledger.specs.declared.next.Next.TheVariants as next
use Rattle.attempt_ledger.specs.declared.row.RowEnd.{RowEnd}
use Rattle.call_actions.proofs.Delays.{delayed_now, not_delayed}
use Rattle.call_actions.proofs.Ends.Frames as ending
use Rattle.call_actions.proofs.Ends.Frames.{AreLike, ended_by, with_end_at}
use Rattle.call_actions.proofs.Ending.{KeepsRest, after, base, channel_is, count_then, counts_now, d, due_then, e, ends, free_then, is_ended, its_call, its_end, judges, lent_then, like_then, marks_then, order_then, runs, sees_then, t, tokens_end, reported, unended, will}
use Rattle.call_actions.proofs.Judging.{above_is}
use Rattle.call_actions.proofs.Lists.{numbered_not}
use Rattle.call_actions.proofs.Made.{delayed_within}
use Rattle.call_actions.proofs.Dues.{plan_is}
use Rattle.call_actions.specs.Laws.{IsCounting, IsEnding, RetriesAreSet, ends_alike, news_of}
use Rattle.call_actions.specs.Order.{IsInOrder, IsInTurn, Keeps, goes_on_older, is_retried}
use Rattle.call_actions.specs.Sees.{DuesAgree, KeepsDelay, Sees}
use Rattle.call_core.specs.Parts as parts
use Rattle.call_core.specs.Parts.{delayed_after, drawn, due_of, from_one, has_none, judged, retry_after, word_of}
use Rattle.call_core.specs.Steps as steps
use Rattle.call_core.specs.Steps.{Stepped, call_plan, closed_if}
use Rattle.call_core.specs.declared.attempts.Attempts.{Attempts}
use Rattle.call_core.specs.declared.judge.Judged.{Judged}
use Rattle.grpc_base.specs.Backoff.{capped_wait, grown, spread_wait}
use Rattle.grpc_base.specs.Codes.{has_code}
use Rattle.grpc_base.specs.declared.plan.CallPlan.{CallPlan}
use Rattle.grpc_base.specs.declared.plan.CallPlan.TheVariants as plan
use Rattle.grpc_base.specs.declared.plan.Pushback.{Pushback}
use Rattle.grpc_base.specs.declared.plan.Pushback.TheVariants as pushback
use Rattle.grpc_base.specs.declared.plan.RetryPolicy.{RetryPolicy}
use Rattle.retry_core.specs.Retries as retries
use Rattle.session_actions.specs.AttemptEnds.{is_drawing, tokens_at, tokens_at_end}
use Rattle.session_actions.specs.Attempts.{commitment, counts_by, is_of, of_its_call}
use Rattle.session_actions.specs.Configs.{plan_of}
use Rattle.session_actions.specs.DueAttempts.{attempts_made, due_by_plan, due_state, is_licensed, is_licensed_by, last_delayed, retry_due, retry_wait, was_delayed}
use Rattle.session_actions.specs.Entries.{next_word, now}
use Rattle.session_actions.specs.Tokens.{allows_attempt, run_of}
use Rattle.session_actions.specs.Words.{holds}
use Rattle.session_actions.specs.declared.attempt.Attempt.{Attempt}
use Rattle.session_actions.specs.declared.call.Call.{Call}
use Rattle.session_actions.specs.declared.config.ThrottleRun.{ThrottleRun}
use Rattle.session_actions.specs.declared.due.DueState.{DueState}
use Rattle.session_actions.specs.declared.response.Outcome.{Outcome}
use Rattle.session_actions.specs.declared.seen.Seen.{Seen}

-- numbers
positive : (k : ℕ) → (k ≡ 0 → ⊥) → 1 ≤ k
positive zero off = absurd (off refl)
positive (suc k) off = omega arith

pred_one : (k : ℕ) → pred (from_one k) ≡ pred k
pred_one zero = refl
pred_one (suc k) = let some : 1 ≤ suc k = omega arith in ap pred (max-eq_left some)

drawn_is : (p : Pushback) (w : ℕ) → (if is_none (delay_of p) then Some w else None) ≡ drawn p w
drawn_is pushback.None w = refl
drawn_is (pushback.After millis) w = refl
drawn_is pushback.Stop w = refl

and_yes : (b : Bool) → (b && true) ≡ b
and_yes true = refl
and_yes false = refl

keeps_retry : (o : Option ℕ) (p : RetryPolicy) → KeepsDelay o (plan.Retry p)
keeps_retry None p = tt
keeps_retry (Some k) p = tt

forced_if : (b : Bool) (m : DueState) (forced : Option ℕ) → (if b then record m { forced = forced } else m).newest ≡ m.newest
forced_if true m forced = refl
forced_if false m forced = refl

module _ (s : Seen) (c : Call) (x : Stepped) (place : ℕ) (a : Attempt) (out : Outcome) (p : RetryPolicy) (h : Sees s c x) (o : IsInOrder s c) (turn : IsInTurn s c)
    (g : IsEnding s c place a out) (n : IsCounting s c out) (free : commitment c s ≡ None) (rp : plan_of c s ≡ plan.Retry p)
    (licensed : is_licensed c a.row.number out.code out.pushback (tokens_at_end a out s) s ≡ true) where
  abbrev number : ℕ
  number = a.row.number

  abbrev its : RowEnd
  its = e s c x place a out h o turn g n

  abbrev then_base : Seen
  then_base = base s c x place a out h o turn g n

  abbrev there : RowEnd
  there = its_end s c x place a out h o turn g n

  abbrev lent : Stepped
  lent = reported s c x place a out h o turn g n

  abbrev put : Attempt → Attempt
  put q = with_end_at place its q

  abbrev known : Attempts
  known = x.call.attempts

  -- its number is that of the newest attempt
  some : 1 ≤ number
  some =
      let no : (is_of c a && (number == 0)) ≡ false = numbered_not (λ (q : Attempt). is_of c q && (q.row.number == 0)) s.attempts place a turn.numbers g.there in
      let not_zero : (number == 0) ≡ false = sym (ap (λ (b : Bool). b && (number == 0)) g.own) ∙ no in
      positive number (eqb-false number 0 not_zero)

  one : from_one number ≡ number
  one = max-eq_left some

  newest : number ≡ attempts_made c s
  newest =
      let no : (is_of c a && is_none a.row.ended && is_retried (plan_of c s) && not (number == attempts_made c s)) ≡ false
      = numbered_not (goes_on_older s c) s.attempts place a turn.latest g.there in
      let same : (is_of c a && is_none a.row.ended && is_retried (plan_of c s) && not (number == attempts_made c s)) ≡ not (number == attempts_made c s)
      = ap (λ (b : Bool). b && is_none a.row.ended && is_retried (plan_of c s) && not (number == attempts_made c s)) g.own
      ∙ ap (λ (z : Option RowEnd). is_none z && is_retried (plan_of c s) && not (number == attempts_made c s)) (unended s c x place a out h o turn g n)
      ∙ ap (λ (q : CallPlan). is_retried q && not (number == attempts_made c s)) rp in
      eqb-true number (attempts_made c s) (not-false (number == attempts_made c s) (sym same ∙ no))

  -- the tokens are the same, and so is what they allow
  above_same : allows_attempt c its.tokens s ≡ parts.is_above lent.tokens
  above_same =
      ap (reads.is_above (option_map (λ (u : ThrottleRun). u.throttle) (run_of c s))) (tokens_end s c x place a out h o turn g n)
      ∙ above_is (count_then s c x place a out h o turn g n) (run_of c s) ∙ ap parts.is_above (sym (lent_then s c x place a out h o turn g n))

  licensed_by : is_licensed_by (plan.Retry p) number out.code out.pushback (allows_attempt c its.tokens s) ≡ true
  licensed_by = ap (λ (q : CallPlan). is_licensed_by q number out.code out.pushback (allows_attempt c its.tokens s)) (sym rp) ∙ licensed

  licensed_there : retries.is_licensed p (from_one number) there (parts.is_above lent.tokens) ≡ true
  licensed_there =
      ap (λ (k : ℕ). is_licensed_by (plan.Retry p) k out.code out.pushback (parts.is_above lent.tokens)) one
      ∙ ap (is_licensed_by (plan.Retry p) number out.code out.pushback) (sym above_same) ∙ licensed_by

  says : has_code p.codes out.code ≡ true
  says =
      let four : ((has_code p.codes out.code && not (reads.is_stop out.pushback) && allows_attempt c its.tokens s) ≡ true) × (nat_lt number p.max ≡ true)
      = and_parts (has_code p.codes out.code && not (reads.is_stop out.pushback) && allows_attempt c its.tokens s) (nat_lt number p.max) licensed_by in
      let two : ((has_code p.codes out.code && not (reads.is_stop out.pushback)) ≡ true) × (allows_attempt c its.tokens s ≡ true)
      = and_parts (has_code p.codes out.code && not (reads.is_stop out.pushback)) (allows_attempt c its.tokens s) four.0 in
      let three : (has_code p.codes out.code ≡ true) × (not (reads.is_stop out.pushback) ≡ true)
      = and_parts (has_code p.codes out.code) (not (reads.is_stop out.pushback)) two.0 in three.0

  abbrev since : ℕ
  since = from_one (from_one number - known.delayed)

  abbrev follows : Next
  follows = retry_after p known number there (parts.is_above lent.tokens) (next_word s)

  again : follows ≡ next.Again (retries.retry_due p since there (next_word s))
  again = ap (λ (b : Bool). if b then next.Again (retries.retry_due p since there (next_word s)) else next.Final) licensed_there

  -- the random word
  licensed_call : is_licensed c number out.code out.pushback (tokens_at a out s c) s ≡ true
  licensed_call =
      ap (λ (z : Option ℕ). is_licensed c number out.code out.pushback z s) (sym (ap (option_and_then (tokens_at a out s)) (its_call s c x place a out h o turn g n))) ∙ licensed

  drawing : of_its_call (is_drawing a out s) a s ≡ is_none (delay_of out.pushback)
  drawing =
      ap (holds (is_drawing a out s)) (its_call s c x place a out h o turn g n)
      ∙ ap (λ (b : Bool). b && is_none (commitment c s) && is_none (delay_of out.pushback) && is_licensed c number out.code out.pushback (tokens_at a out s c) s)
      (will s c x place a out h o turn g n)
      ∙ ap (λ (k : Option Attempt). is_none k && is_none (delay_of out.pushback) && is_licensed c number out.code out.pushback (tokens_at a out s c) s) free
      ∙ ap (λ (b : Bool). is_none (delay_of out.pushback) && b) licensed_call ∙ and_yes (is_none (delay_of out.pushback))

  word_here : its.word ≡ (if is_none (delay_of out.pushback) then Some (next_word s) else None)
  word_here = ap (λ (b : Bool). if b then Some (next_word s) else None) drawing

  word_same : its.word ≡ word_of follows out.pushback (next_word s)
  word_same = word_here ∙ drawn_is out.pushback (next_word s) ∙ sym (ap (λ (f : Next). word_of f out.pushback (next_word s)) again)

  -- the last delay that the server asked for
  delayed_before : last_delayed c known.sent s ≡ known.delayed
  delayed_before =
      h.attempts.delayed (subst (λ (q : CallPlan). KeepsDelay c.config q) (sym rp) (keeps_retry c.config p)) (free_then s c x place a out h o turn g n free)

  sent_is : attempts_made c s ≡ known.sent
  sent_is = h.attempts.sent

  last_before : delay_of out.pushback ≡ None → last_delayed c number then_base ≡ known.delayed
  last_before none =
      let low : attempts_made c s ≤ number = (let same : number ≡ attempts_made c s = newest in omega arith) in
      let sent : attempts_made c s ≤ known.sent = (let same : attempts_made c s ≡ known.sent = sent_is in omega arith) in
      not_delayed s c place a its (runs s c x place a out h o turn g n) (ends s c x place a out h o turn g n) number none
      ∙ delayed_within s c o.numbers number known.sent low sent ∙ delayed_before

  -- when it is due
  since_is : delay_of out.pushback ≡ None → pred (number - last_delayed c number then_base) ≡ pred since
  since_is none =
      ap (λ (k : ℕ). pred (number - k)) (last_before none) ∙ ap (λ (k : ℕ). pred (k - known.delayed)) (sym one) ∙ sym (pred_one (from_one number - known.delayed))

  wait_is : delay_of out.pushback ≡ None → retry_wait p (number - last_delayed c number then_base) its ≡ retries.drawn_wait p since (next_word s)
  wait_is none =
      ap (λ (k : ℕ). spread_wait (min (grown p.initial p.multiplier (10 ^ 18) k) p.limit) (unwrap_or its.word 0)) (since_is none)
      ∙ ap (λ (w : Option ℕ). spread_wait (capped_wait p.initial p.multiplier p.limit since) (unwrap_or w 0))
      (word_here ∙ ap (λ (z : Option ℕ). if is_none z then Some (next_word s) else None) none)

  moment_by : (asks : Option ℕ) → delay_of out.pushback ≡ asks
      → option_map_or (λ (millis : ℕ). millis_after its millis) asks (now s + retry_wait p (number - last_delayed c number then_base) its)
      ≡ option_map_or (millis_after there) asks (now s + retries.drawn_wait p since (next_word s))
  moment_by None none = ap (λ (k : ℕ). now s + k) (wait_is none)
  moment_by (Some millis) asks = refl

  allowed_then : is_licensed c number out.code out.pushback its.tokens then_base ≡ true
  allowed_then =
      ap (λ (b : Bool). is_licensed_by (plan_of c s) number out.code out.pushback b)
      (ending.allows_same s c place a its (runs s c x place a out h o turn g n) (ends s c x place a out h o turn g n) its.tokens)
      ∙ licensed

  abbrev forced : Option ℕ
  forced =
      if is_licensed c number out.code out.pushback its.tokens then_base then Some (retry_due p (number - last_delayed c number then_base) its) else None

  forced_is : forced ≡ due_of follows
  forced_is =
      ap (λ (b : Bool). if b then Some (retry_due p (number - last_delayed c number then_base) its) else None) allowed_then
      ∙ ap (λ (k : ℕ). Some k) (moment_by (delay_of out.pushback) refl) ∙ sym (ap due_of again)

  abbrev m : DueState
  m = marks_then s c x place a out h o turn g n

  due_is : due_state (d s c x place a out h o turn g n) (t s c x place a out h o turn g n) ≡ (if not m.stopped && true && true then record m { forced = forced } else m)
  due_is =
      due_then s c x place a out h o turn g n
      ∙ ap (λ (q : CallPlan). if not m.stopped && true && has_code (codes_of q) out.code then due_by_plan q c (put a) then_base m its else m) rp
      ∙ ap (λ (b : Bool). if not m.stopped && true && b then record m { forced = forced } else m) says

  like : AreLike (is_retried (plan_of c s)) m (due_state c s)
  like = like_then s c x place a out h o turn g n

  -- what the channel judges
  abbrev judged_on : CallPlan → Judged
  judged_on q = judged q known number (has_none lent.call.live) there (parts.is_above lent.tokens) (next_word s)

  abbrev by_plan : Judged
  by_plan = judged_on (plan.Retry p)

  judged_is : judges s c x place a out h o turn g n ≡ by_plan
  judged_is = ap judged_on (sym (plan_is s c x h) ∙ rp)

  due_by : (b : Bool) → m.stopped ≡ b → DuesAgree (if not b && true && true then record m { forced = forced } else m) by_plan.attempts
  due_by true stopped =
      record {
        newest = like.newest ∙ h.attempts.due.newest;
        placed = like.placed ∙ h.attempts.due.placed;
        stopped = like.stopped ∙ h.attempts.due.stopped;
        forced = λ z. (let both : true ≡ false = sym stopped ∙ like.stopped ∙ h.attempts.due.stopped ∙ z in absurd (cc));
      }
  due_by false stopped =
      record {
        newest = like.newest ∙ h.attempts.due.newest;
        placed = like.placed ∙ h.attempts.due.placed;
        stopped = like.stopped ∙ h.attempts.due.stopped;
        forced = λ z. forced_is;
      }

  due_now : DuesAgree (due_state (d s c x place a out h o turn g n) (t s c x place a out h o turn g n)) by_plan.attempts
  due_now = subst (λ (z : DueState). DuesAgree z by_plan.attempts) (sym due_is) (due_by m.stopped refl)

  delayed_by : (q : Pushback) → out.pushback ≡ q → last_delayed c known.sent then_base ≡ delayed_after q (from_one number) known.delayed
  delayed_by pushback.None same =
      not_delayed s c place a its (runs s c x place a out h o turn g n) (ends s c x place a out h o turn g n) known.sent (ap delay_of same) ∙ delayed_before
  delayed_by pushback.Stop same =
      not_delayed s c place a its (runs s c x place a out h o turn g n) (ends s c x place a out h o turn g n) known.sent (ap delay_of same) ∙ delayed_before
  delayed_by (pushback.After millis) same =
      let number_is : number ≡ known.sent = newest ∙ sent_is in
      let low : number ≤ known.sent = omega arith in
      let most : attempts_made c s ≤ known.sent = (let equal : attempts_made c s ≡ known.sent = sent_is in omega arith) in
      let counts : was_delayed c known.sent then_base (put a) ≡ true
      = ap (λ (b : Bool). b && nat_le number known.sent && holds (counts_by (put a) then_base) (ended_by place its a) && holds (λ (z : RowEnd). is_some (delay_of z.pushback)) (ended_by place its a)) g.own
      ∙ ap (λ (b : Bool). b && holds (counts_by (put a) then_base) (ended_by place its a) && holds (λ (z : RowEnd). is_some (delay_of z.pushback)) (ended_by place its a))
      (le-leb number known.sent low)
      ∙ ap (λ (z : Option RowEnd). holds (counts_by (put a) then_base) z && holds (λ (z : RowEnd). is_some (delay_of z.pushback)) z)
      (ending.end_here s c place a its (runs s c x place a out h o turn g n) (ends s c x place a out h o turn g n))
      ∙ ap (λ (b : Bool). b && is_some (delay_of out.pushback)) (counts_now s c x place a out h o turn g n) ∙ ap (λ (q : Pushback). is_some (delay_of q)) same in
      delayed_now s c place a its (runs s c x place a out h o turn g n) (ends s c x place a out h o turn g n) known.sent o.numbers most number_is counts
      ∙ sym (one ∙ number_is)

  kept : KeepsRest by_plan.attempts known
  kept = record { sent = refl; newest = refl; placed = refl; refused = refl; committed = refl }

  sees_now : Sees (t s c x place a out h o turn g n) (d s c x place a out h o turn g n) (after s c x place a out h o turn g n)
  sees_now =
      sees_then s c x place a out h o turn g n (subst (λ (j : Judged). KeepsRest j.attempts known) (sym judged_is) kept)
      (subst (λ (j : Judged). DuesAgree (due_state (d s c x place a out h o turn g n) (t s c x place a out h o turn g n)) j.attempts) (sym judged_is) due_now)
      (λ keeps. delayed_by out.pushback refl ∙ ap (λ (j : Judged). j.attempts.delayed) (sym judged_is))
      (word_same ∙ ap (λ (j : Judged). j.word) (sym judged_is))

  stays : steps.ended_at place (news_of a out s) (now s) (next_word s) x ≡ after s c x place a out h o turn g n
  stays =
      channel_is s c x place a out h o turn g n free
      ∙ ap (λ (j : Judged). closed_if j.closes a.place (now s) (after s c x place a out h o turn g n)) judged_is
      ∙ ap (λ (f : Next). closed_if (parts.is_final f) a.place (now s) (after s c x place a out h o turn g n)) again

  pub retry_is_set : ends_alike s c x place a out
  retry_is_set =
      subst (λ (z : Seen). Keeps z c.number (steps.ended_at place (news_of a out s) (now s) (next_word s) x)) (sym (is_ended s c x place a out h o turn g n))
      (subst (λ (y : Stepped). Keeps (t s c x place a out h o turn g n) c.number y) (sym stays)
      (record {
        call = d s c x place a out h o turn g n;
        number_is = refl;
        sees = sees_now;
        order = order_then s c x place a out h o turn g n free (ap (λ (z : DueState). z.newest) due_is ∙ forced_if (not m.stopped && true && true) m forced);
      }))

pub retries_are_set : RetriesAreSet
retries_are_set s c x place a out p h o turn g n free rp licensed = retry_is_set s c x place a out p h o turn g n free rp licensed
