-- A call that runs never stands still.
use Rattle.std.proofs.Common.{◌≡◌, ◌≤◌, ◌<◌, ℕ, zero, suc, ◌+◌, ◌-◌, Bool, true, false, not, ◌&&◌, ◌||◌, ◌==◌, nat_le, nat_lt, if◌then◌else◌, min, Option, Some, None, is_some, List, [], ◌∷◌, ◌++◌, map, refl, sym, ap, subst, ◌∙◌, arith, ◌⊎◌, inl, inr, eq-eqb}
use Rattle.std.proofs.Math.Nat.{le-max_left, le-min, max-eq_left}
use Rattle.std.proofs.lemmas.Bool.{lt-leb, ltb-true, ne_eqb}
use Rattle.std.specs.Option.{option_map_or}
use Rattle.grpc_base.specs.Codes.{has_code}
use Rattle.grpc_base.specs.Requests.{RequestSeen}
use Rattle.grpc_base.specs.declared.event.EndCause.{EndCause}
use Rattle.grpc_base.specs.declared.event.EndCause.TheVariants as ends
use Rattle.grpc_base.specs.declared.fields.Field.{Field}
use Rattle.grpc_base.specs.declared.plan.CallPlan.{CallPlan}
use Rattle.grpc_base.specs.declared.plan.CallPlan.TheVariants as plans
use Rattle.grpc_base.specs.declared.plan.Chosen.{Chosen}
use Rattle.grpc_base.specs.declared.plan.HedgePolicy.{HedgePolicy}
use Rattle.grpc_base.specs.declared.plan.RetryPolicy.{RetryPolicy}
use Rattle.attempt_ledger.specs.Numbering.{most_attempts}
use Rattle.attempt_ledger.specs.declared.news.EndNews.{EndNews}
use Rattle.attempt_ledger.specs.Ends.{is_stop}
use Rattle.attempt_ledger.specs.declared.next.Next.TheVariants as nexts
use Rattle.attempt_ledger.specs.declared.row.Placed.{Placed}
use Rattle.attempt_ledger.specs.declared.row.RowEnd.{RowEnd}
use Rattle.hedge_core.specs.DueMoments.{delayed_due, forced_by, is_over, next_of, stops}
use Rattle.hedge_core.specs.DueMoments as hedging
use Rattle.hedge_core.specs.declared.hedges.HedgeState.{HedgeState}
use Rattle.retry_core.specs.Retries.{is_licensed, retry_due}
use Rattle.grpc_frame.specs.Messages.{framed}
use Rattle.call_core.specs.declared.attempts.Attempts.{Attempts}
use Rattle.call_core.specs.declared.judge.Judged.{Judged}
use Rattle.call_core.specs.declared.live.LiveRow.{LiveRow}
use Rattle.call_core.specs.declared.state.CallState.{CallState}
use Rattle.call_core.specs.Going.{HasAtMostOne, HasNext, IsAlone, IsGoing, IsRunning, hedges}
use Rattle.call_core.specs.Laws.{IsKept}
use Rattle.call_core.specs.Parts.{committed_buffer, count_of, due_of, find_live, from_one, furthest, has_none, hedge_after, hedge_of, is_above, is_final, is_followed, is_row, is_tested, judged, kept_alone, lasted_attempts, linked, names, next_forced, next_of_plan, plan_of, pushed_over, row_end, stopped_attempts}
use Rattle.call_core.specs.Steps as step
use Rattle.call_core.specs.Steps.{Stepped, call_plan, is_committed_live, judged_of, left_live, new_call, next_due, next_place, settled, with_chosen, with_judged, with_message}
use Rattle.call_core.proofs.Finding.{IsOne, alone_list, found_list, furthest_found, kept_only, linked_list, none_list, one_of, some_list, some_more, without_only}
use Rattle.call_core.proofs.Keeping.{IsAlive, due_alive, found_alive, found_some, not_stopped}
use Rattle.call_core.proofs.Moves.{Moves}

-- the only live row of a call that doesn't hedge is the one that was found
pub alone_found : (call : CallState) (place : ℕ) (row : LiveRow) → HasAtMostOne call → find_live place call.live ≡ Some row → IsOne place row call.live × IsAlone call row
alone_found call place row (inl none) e = absurd (found_some place call.live row e none)
alone_found call place row (inr only) e =
    let one : IsOne place row call.live = one_of place call.live only.0 row only.1.live e in
    let same : only.0 ≡ row = (let p : only.0 ∷ [] ≡ row ∷ [] = sym only.1.live ∙ one.is in cc) in
    (one, subst (λ (x : LiveRow). IsAlone call x) same only.1)

-- a call of which a row is live, or for which an attempt is due, runs
chosen_some : (o : Option Chosen) → (o ≡ None → ⊥) → is_some o ≡ true
chosen_some None never = absurd (never refl)
chosen_some (Some chosen) never = refl

ended_none : (o : Option EndCause) → (is_some o ≡ true → ⊥) → o ≡ None
ended_none None never = refl
ended_none (Some why) never = absurd (never refl)

runs : (call : CallState) → IsAlive call → IsRunning call
runs call alive = record { ended = ended_none call.ended alive.live; configured = chosen_some call.chosen alive.configured }

positive : (n : ℕ) → (n ≡ 0 → ⊥) → 1 ≤ n
positive zero never = absurd (never refl)
positive (suc n) never = omega arith

-- a moment that is forced is due
forced_next : (most : ℕ) (a : Attempts) (moment : ℕ) → a.stopped ≡ false → nat_le most a.sent ≡ false → a.forced ≡ Some moment → is_some (next_forced most a) ≡ true
forced_next most a moment going below forced =
    ap (λ (b : Bool). is_some (if b || nat_le most a.sent then None else a.forced)) going
    ∙ ap (λ (b : Bool). is_some (if b then None else a.forced)) below
    ∙ ap (λ (o : Option ℕ). is_some o) forced

first_next : (plan : CallPlan) (a : Attempts) (moment : ℕ) → a.sent ≡ 0 → a.stopped ≡ false → a.forced ≡ Some moment → 1 ≤ most_attempts plan → is_some (next_of_plan plan a) ≡ true
first_next plans.None a moment none going forced most = forced_next 1 a moment going (lt-leb 1 a.sent (omega (arith, none))) forced
first_next (plans.Retry policy) a moment none going forced most = forced_next policy.max a moment going (lt-leb policy.max a.sent (omega (arith, none, most))) forced
first_next (plans.Hedge policy) a moment none going forced most =
    ap (λ (b : Bool). is_some (if b then next_forced policy.max a else hedging.next_due policy (hedge_of a))) (eq-eqb a.sent 0 none)
    ∙ forced_next policy.max a moment going (lt-leb policy.max a.sent (omega (arith, none, most))) forced

-- a call of which the parts are the same
case_next : (a b : CallState) → b.live ≡ a.live → b.attempts ≡ a.attempts → call_plan b ≡ call_plan a → HasNext a → HasNext b
case_next a b live attempts plan (inl some) = inl (ap (λ (l : List LiveRow). has_none l) live ∙ some)
case_next a b live attempts plan (inr due) =
    inr (ap (λ (p : CallPlan). is_some (next_of_plan p b.attempts)) plan ∙ ap (λ (t : Attempts). is_some (next_of_plan (call_plan a) t)) attempts ∙ due)

case_alone : (a b : CallState) → b.live ≡ a.live → b.attempts ≡ a.attempts → HasAtMostOne a → HasAtMostOne b
case_alone a b live attempts (inl none) = inl (live ∙ none)
case_alone a b live attempts (inr only) =
    inr (
      only.0,
      record {
        live = live ∙ only.1.live;
        number = only.1.number ∙ ap (λ (t : Attempts). t.sent) (sym attempts);
        forced = ap (λ (t : Attempts). t.forced) attempts ∙ only.1.forced;
      },
    )

pub going_like : (a b : CallState) → b.live ≡ a.live → b.ended ≡ a.ended → b.attempts ≡ a.attempts → b.chosen ≡ a.chosen → IsGoing a → IsGoing b
going_like a b live ended attempts chosen old =
    let plan : call_plan b ≡ call_plan a = ap (λ (o : Option Chosen). plan_of o) chosen in
    let runs : IsRunning b → IsRunning a = λ h. record { ended = sym ended ∙ h.ended; configured = ap is_some (sym chosen) ∙ h.configured } in
    record {
      next = λ h. (case_next a b live attempts plan (old.next (runs h)));
      alone = λ h. case_alone a b live attempts (old.alone (ap hedges (sym plan) ∙ h));
      most = subst (λ (p : CallPlan). 1 ≤ most_attempts p) (sym plan) old.most;
      fresh = λ h. ap (λ (t : Attempts). t.sent) attempts ∙ old.fresh (sym chosen ∙ h);
      goes = λ h r c. ap (λ (t : Attempts). t.stopped) attempts ∙ old.goes (ap hedges (sym plan) ∙ h) (runs r) (ap (λ (t : Attempts). t.committed) (sym attempts) ∙ c);
      last = λ r none. subst (λ (t : Attempts). (t.sent ≡ 0) ⊎ (is_some t.last ≡ true)) (sym attempts) (old.last (runs r) (sym live ∙ none));
      none = λ h. live ∙ old.none (ap (λ (t : Attempts). t.sent) (sym attempts) ∙ h);
    }

-- a call that is over
going_over : (call : CallState) → 1 ≤ most_attempts (call_plan call) → (call.chosen ≡ None → call.attempts.sent ≡ 0) → (call.ended ≡ None → ⊥) → call.live ≡ [] → IsGoing call
going_over call most fresh over live = record {
  next = λ h. absurd (over h.ended);
  alone = λ h. inl live;
  most = most;
  fresh = fresh;
  goes = λ h r c. absurd (over r.ended);
  last = λ r h. absurd (over r.ended);
  none = λ h. live;
}

going_ended : (why : EndCause) (moment : ℕ) (s : Stepped) → IsGoing s.call → IsGoing (step.ended_as why moment s).call
going_ended why moment s old = going_over (step.ended_as why moment s).call old.most old.fresh (λ h. (cc)) refl

pub going_new : (number : ℕ) (request : RequestSeen) (begun : ℕ) → IsGoing (new_call number request begun)
going_new number request begun = record {
  next = λ h. absurd (let no : false ≡ true = h.configured in cc);
  alone = λ h. inl refl;
  most = omega arith;
  fresh = λ h. refl;
  goes = λ h r c. absurd (let no : false ≡ true = r.configured in cc);
  last = λ r h. inl refl;
  none = λ h. refl;
}

-- a commitment to a live row
alone_commit : (place moment : ℕ) (row : LiveRow) (s : Stepped) → find_live place s.call.live ≡ Some row → HasAtMostOne s.call → HasAtMostOne (step.committed place moment s).call
alone_commit place moment row s e at_most =
    let both : IsOne place row s.call.live × IsAlone s.call row = alone_found s.call place row at_most e in
    inr (row, record { live = kept_only place row s.call.live both.0; number = both.1.number; forced = both.1.forced })

going_commit : (place moment : ℕ) (row : LiveRow) (s : Stepped) → find_live place s.call.live ≡ Some row → IsGoing s.call → IsGoing (step.committed place moment s).call
going_commit place moment row s e old =
    let some : has_none (kept_alone place s.call.live) ≡ false = alone_list place s.call.live row e in
    record {
      next = λ h. inl some;
      alone = λ h. alone_commit place moment row s e (old.alone h);
      most = old.most;
      fresh = old.fresh;
      goes = λ h r c. absurd (cc);
      last = λ r h. absurd (some_list (kept_alone place s.call.live) some h);
      none = λ h. absurd (found_some place s.call.live row e (old.none h));
    }

going_head_by : (place : ℕ) (row : LiveRow) (meta : List Field) (moment : ℕ) (s : Stepped) (b : Bool) → find_live place s.call.live ≡ Some row → IsGoing s.call → IsGoing (step.with_head meta (if b then s else step.committed place moment (record s { call = record s.call { buffer = committed_buffer place s.call.buffer } }))).call
going_head_by place row meta moment s true e old = going_like s.call _ refl refl refl refl old
going_head_by place row meta moment s false e old =
    let c : Stepped = record s { call = record s.call { buffer = committed_buffer place s.call.buffer } } in
    going_like (step.committed place moment c).call _ refl refl refl refl (going_commit place moment row c e (going_like s.call c.call refl refl refl refl old))

going_message : (octets : List ℕ) (call : CallState) (b : Bool) → IsGoing call → IsGoing (if b then record call { inbox = record call.inbox { messages = call.inbox.messages ++ octets ∷ [] } } else call)
going_message octets call true old = going_like call _ refl refl refl refl old
going_message octets call false old = old

-- the configuration
going_chosen : (chosen : Chosen) (moment : ℕ) (s : Stepped) → 1 ≤ most_attempts chosen.plan → s.call.chosen ≡ None → IsKept s.call → IsGoing s.call → IsGoing (with_chosen chosen moment s).call
going_chosen chosen moment s most fresh kept old =
    let live : s.call.live ≡ [] = (kept.unconfigured fresh).live in
    let sent : s.call.attempts.sent ≡ 0 = old.fresh fresh in
    record {
      next = λ h. inr (first_next chosen.plan (with_chosen chosen moment s).call.attempts moment sent refl refl most);
      alone = λ h. inl live;
      most = most;
      fresh = λ h. sent;
      goes = λ h r c. refl;
      last = λ r h. inl sent;
      none = λ h. live;
    }

-- a placing
linked_number : (place link : ℕ) (row : LiveRow) → (linked place link row).number ≡ row.number
linked_number place link row =
    elim (is_row place row) as (λ b. (if b then record row { link = Some link } else row).number ≡ row.number) [ true ↦ refl | false ↦ refl ]

alone_placed : (place : ℕ) (row : LiveRow) (at : Placed) (s : Stepped) → find_live place s.call.live ≡ Some row → HasAtMostOne s.call → HasAtMostOne (step.placed_row_live row at s).call
alone_placed place row at s e at_most =
    let both : IsOne place row s.call.live × IsAlone s.call row = alone_found s.call place row at_most e in
    inr (
      linked row.place at.link row,
      record {
        live = ap (map (linked row.place at.link)) both.0.is;
        number = linked_number row.place at.link row ∙ both.1.number;
        forced = both.1.forced;
      },
    )

going_placed : (place : ℕ) (row : LiveRow) (at : Placed) (s : Stepped) → find_live place s.call.live ≡ Some row → IsGoing s.call → IsGoing (step.placed_row_live row at s).call
going_placed place row at s e old =
    let some : has_none (map (linked row.place at.link) s.call.live) ≡ false = linked_list row.place at.link s.call.live (found_list place s.call.live row e) in
    record {
      next = λ h. inl some;
      alone = λ h. alone_placed place row at s e (old.alone h);
      most = old.most;
      fresh = old.fresh;
      goes = λ h r c. old.goes h (record { ended = r.ended; configured = r.configured }) c;
      last = λ r h. absurd (some_list (map (linked row.place at.link) s.call.live) some h);
      none = λ h. absurd (found_some place s.call.live row e (old.none h));
    }

-- a transparent retry
follow_some : (b : Bool) (new p : ℕ) → (if b then Some new else Some p) ≡ None → ⊥
follow_some true new p e = (cc)
follow_some false new p e = (cc)

follow_free : (row new : ℕ) (committed : Option ℕ) → (if names row committed then Some new else committed) ≡ None → committed ≡ None
follow_free row new None e = refl
follow_free row new (Some p) e = absurd (follow_some (p == row) new p e)

alone_followed : (place : ℕ) (row : LiveRow) (reported : EndNews) (moment : ℕ) (s : Stepped) → find_live place s.call.live ≡ Some row → HasAtMostOne s.call → HasAtMostOne (step.followed row reported moment (left_live row.place s)).call
alone_followed place row reported moment s e at_most =
    let both : IsOne place row s.call.live × IsAlone s.call row = alone_found s.call place row at_most e in
    let u : Stepped = left_live row.place s in
    let new : LiveRow = record { place = next_place (step.row_ended row.place (row_end reported u.ledger.entry moment (count_of u.tokens)) u).ledger; number = row.number; link = None } in
    inr (
      new,
      record {
        live = ap (λ (l : List LiveRow). l ++ new ∷ []) (without_only place row s.call.live both.0);
        number = both.1.number;
        forced = both.1.forced;
      },
    )

going_followed : (place : ℕ) (row : LiveRow) (reported : EndNews) (moment : ℕ) (s : Stepped) → find_live place s.call.live ≡ Some row → IsAlive s.call → IsGoing s.call → IsGoing (step.followed row reported moment (left_live row.place s)).call
going_followed place row reported moment s e alive old =
    let u : Stepped = left_live row.place s in
    let new : ℕ = next_place (step.row_ended row.place (row_end reported u.ledger.entry moment (count_of u.tokens)) u).ledger in
    let some : has_none (step.followed row reported moment u).call.live ≡ false = some_more u.call.live (record { place = new; number = row.number; link = None }) in
    record {
      next = λ h. inl some;
      alone = λ h. alone_followed place row reported moment s e (old.alone h);
      most = old.most;
      fresh = λ h. absurd (alive.configured h);
      goes = λ h r c. old.goes h (record { ended = r.ended; configured = r.configured }) (follow_free row.place new s.call.attempts.committed c);
      last = λ r h. absurd (some_list (step.followed row reported moment u).call.live some h);
      none = λ h. absurd (found_some place s.call.live row e (old.none h));
    }

-- an end that counts, in a call that isn't committed
and_right : (a b : Bool) → (a && b) ≡ true → b ≡ true
and_right true b e = e
and_right false b e = absurd (cc)

judged_sent : (plan : CallPlan) (a : Attempts) (number : ℕ) (is_alone : Bool) (end : RowEnd) (above : Bool) (word : ℕ) → (judged plan a number is_alone end above word).attempts.sent ≡ a.sent
judged_sent plans.None a number is_alone end above word = refl
judged_sent (plans.Retry policy) a number is_alone end above word = refl
judged_sent (plans.Hedge policy) a number is_alone end above word = refl

judged_goes : (plan : CallPlan) (a : Attempts) (number : ℕ) (is_alone : Bool) (end : RowEnd) (above : Bool) (word : ℕ) → hedges plan ≡ false → (judged plan a number is_alone end above word).attempts.stopped ≡ a.stopped
judged_goes plans.None a number is_alone end above word h = refl
judged_goes (plans.Retry policy) a number is_alone end above word h = refl
judged_goes (plans.Hedge policy) a number is_alone end above word h = absurd (let no : true ≡ false = h in cc)

-- a retry
retry_by : (policy : RetryPolicy) (a : Attempts) (number due : ℕ) (end : RowEnd) (above b : Bool) → is_licensed policy (from_one number) end above ≡ b → a.stopped ≡ false → number ≡ a.sent → is_final (if b then nexts.Again due else nexts.Final) ≡ false → is_some (if a.stopped || nat_le policy.max a.sent then None else due_of (if b then nexts.Again due else nexts.Final)) ≡ true
retry_by policy a number due end above false l going same e = absurd (let no : true ≡ false = e in cc)
retry_by policy a number due end above true l going same e =
    let below : from_one number < policy.max =
    ltb-true (from_one number) policy.max (and_right (has_code policy.codes end.code && not (is_stop end.pushback) && above) (nat_lt (from_one number) policy.max) l) in
    let least : number ≤ from_one number = le-max_left number 1 in
    ap (λ (b : Bool). is_some (if b || nat_le policy.max a.sent then None else Some due)) going
    ∙ ap (λ (b : Bool). is_some (if b then None else Some due)) (lt-leb policy.max a.sent (omega (arith, below, least, same)))

-- a hedge
over_not : (over : Bool) (due : Option ℕ) → is_final (next_of (if over then None else due)) ≡ false → over ≡ false
over_not false due e = refl
over_not true due e = absurd (let no : true ≡ false = e in cc)

hedge_forced : (policy : HedgePolicy) (a : Attempts) (end : RowEnd) (above b : Bool) → has_code policy.codes end.code ≡ b → (a.sent ≡ 0 → ⊥) → (not b || is_final (next_of (hedging.next_due policy (hedge_after policy a end above)))) ≡ false → is_some (hedging.next_due policy (hedge_of (record a { forced = (if b then Some (forced_by end) else a.forced); stopped = a.stopped || stops policy end above }))) ≡ true
hedge_forced policy a end above false c some e = absurd (let no : true ≡ false = e in cc)
hedge_forced policy a end above true c some e =
    let stopped : Bool = a.stopped || stops policy end above in
    let one : 1 ≤ a.sent = positive a.sent some in
    let after : HedgeState = hedge_after policy a end above in
    let off : is_over policy after ≡ false = over_not (is_over policy after) (option_map_or (λ forced. Some forced) after.forced (delayed_due policy after)) e in
    let over : (stopped || (a.sent == 0) || nat_le policy.max a.sent) ≡ false = ap (λ (k : ℕ). stopped || (k == 0) || nat_le policy.max k) (sym (max-eq_left one)) ∙ off in
    ap (λ (b : Bool). is_some (if b then None else Some (forced_by end))) over

hedge_next : (policy : HedgePolicy) (a : Attempts) (end : RowEnd) (above : Bool) (place : ℕ) → (a.sent ≡ 0 → ⊥) → (not (has_code policy.codes end.code) || is_final (next_of (hedging.next_due policy (hedge_after policy a end above)))) ≡ false → is_some (next_of_plan (plans.Hedge policy) (lasted_attempts place (record a { forced = (hedge_after policy a end above).forced; stopped = (hedge_after policy a end above).stopped }))) ≡ true
hedge_next policy a end above place some e =
    let b : Attempts = lasted_attempts place (record a { forced = (hedge_after policy a end above).forced; stopped = (hedge_after policy a end above).stopped }) in
    ap (λ (t : Bool). is_some (if t then next_forced policy.max b else hedging.next_due policy (hedge_of b))) (ne_eqb a.sent 0 some)
    ∙ hedge_forced policy a end above (has_code policy.codes end.code) refl some e

-- an end that doesn't close a call leaves it a live row or a due moment
pub record IsOpenTo (plan : CallPlan) (a : Attempts) (number : ℕ) : Type 0 where
  pub sent : a.sent ≡ 0 → ⊥
  pub alone : hedges plan ≡ false → (number ≡ a.sent) × (a.stopped ≡ false)

judged_next : (plan : CallPlan) (a : Attempts) (number : ℕ) (is_alone : Bool) (end : RowEnd) (above : Bool) (word place : ℕ) → IsOpenTo plan a number → (judged plan a number is_alone end above word).closes ≡ false → (is_alone ≡ false) ⊎ (is_some (next_of_plan plan (lasted_attempts place (judged plan a number is_alone end above word).attempts)) ≡ true)
judged_next plans.None a number is_alone end above word place known e = absurd (let no : true ≡ false = e in cc)
judged_next (plans.Retry policy) a number is_alone end above word place known e =
    let k : (number ≡ a.sent) × (a.stopped ≡ false) = known.alone refl in
    let since : ℕ = from_one (from_one number - a.delayed) in
    inr (retry_by policy a number (retry_due policy since end word) end above (is_licensed policy (from_one number) end above) refl k.1 k.0 e)
judged_next (plans.Hedge policy) a number false end above word place known e = inl refl
judged_next (plans.Hedge policy) a number true end above word place known e = inr (hedge_next policy a end above place known.sent e)

next_judged : (call : CallState) (place : ℕ) (is_alone : Bool) → has_none call.live ≡ is_alone → (is_alone ≡ false) ⊎ (is_some (next_due call) ≡ true) → HasNext call
next_judged call place is_alone same (inl h) = inl (same ∙ h)
next_judged call place is_alone same (inr h) = inr h

known_open : (place : ℕ) (row : LiveRow) (s : Stepped) → find_live place s.call.live ≡ Some row → IsAlive s.call → s.call.attempts.committed ≡ None → IsGoing s.call → IsOpenTo (call_plan s.call) s.call.attempts row.number
known_open place row s e alive free old = record {
  sent = λ h. found_some place s.call.live row e (old.none h);
  alone = λ h. ((alone_found s.call place row (old.alone h) e).1.number, old.goes h (runs s.call alive) free);
}

going_closed : (place : ℕ) (row : LiveRow) (reported : EndNews) (end : RowEnd) (moment word : ℕ) (s : Stepped) (b : Bool) → (judged_of row end word (left_live row.place s).call (settled reported (left_live row.place s)).tokens).closes ≡ b → find_live place s.call.live ≡ Some row → IsAlive s.call → s.call.attempts.committed ≡ None → IsGoing s.call → IsGoing (step.closed_if b row.place moment (with_judged row end (judged_of row end word (left_live row.place s).call (settled reported (left_live row.place s)).tokens) (settled reported (left_live row.place s)))).call
going_closed place row reported end moment word s true c e alive free old =
    going_over (step.closed_if true row.place moment (with_judged row end (judged_of row end word (left_live row.place s).call (settled reported (left_live row.place s)).tokens) (settled reported (left_live row.place s)))).call
    old.most (λ h. absurd (alive.configured h)) (λ h. (cc)) refl
going_closed place row reported end moment word s false c e alive free old =
    let u : Stepped = left_live row.place s in
    let v : Stepped = settled reported u in
    let a : Attempts = s.call.attempts in
    let plan : CallPlan = call_plan s.call in
    let is_alone : Bool = has_none u.call.live in
    let above : Bool = is_above v.tokens in
    let after : Judged = judged_of row end word u.call v.tokens in
    record {
      next = λ h. next_judged (with_judged row end after v).call row.place is_alone refl (judged_next plan a row.number is_alone end above word row.place (known_open place row s e alive free old) c);
      alone = λ h. inl (without_only place row s.call.live (alone_found s.call place row (old.alone h) e).0);
      most = old.most;
      fresh = λ h. absurd (alive.configured h);
      goes = λ h r q. judged_goes plan a row.number is_alone end above word h ∙ old.goes h (runs s.call alive) free;
      last = λ r h. inr refl;
      none = λ h. absurd (found_some place s.call.live row e (old.none (sym (judged_sent plan a row.number is_alone end above word) ∙ h)));
    }

going_counted : (place : ℕ) (row : LiveRow) (reported : EndNews) (moment word : ℕ) (s : Stepped) (o : Option ℕ) → s.call.attempts.committed ≡ o → find_live place s.call.live ≡ Some row → IsAlive s.call → IsGoing s.call → IsGoing (if is_some o then step.ended_as ends.Row moment (step.row_ended row.place (row_end reported s.ledger.entry moment (count_of (settled reported (left_live row.place s)).tokens)) (settled reported (left_live row.place s))) else step.counted_free row (row_end reported s.ledger.entry moment (count_of (settled reported (left_live row.place s)).tokens)) moment word (settled reported (left_live row.place s))).call
going_counted place row reported moment word s (Some p) c e alive old =
    going_over (step.ended_as ends.Row moment (step.row_ended row.place (row_end reported s.ledger.entry moment (count_of (settled reported (left_live row.place s)).tokens)) (settled reported (left_live row.place s)))).call
    old.most (λ h. absurd (alive.configured h)) (λ h. (cc)) refl
going_counted place row reported moment word s None c e alive old =
    let v : Stepped = settled reported (left_live row.place s) in
    let end : RowEnd = row_end reported s.ledger.entry moment (count_of v.tokens) in
    going_closed place row reported end moment word s (judged_of row end word v.call v.tokens).closes refl e alive c old

going_live : (place : ℕ) (row : LiveRow) (reported : EndNews) (moment word : ℕ) (s : Stepped) (b : Bool) → find_live place s.call.live ≡ Some row → IsAlive s.call → IsGoing s.call → IsGoing (if b then step.followed row reported moment (left_live row.place s) else step.counted row reported moment word (settled reported (left_live row.place s))).call
going_live place row reported moment word s true e alive old = going_followed place row reported moment s e alive old
going_live place row reported moment word s false e alive old = going_counted place row reported moment word s s.call.attempts.committed refl e alive old

-- the tokens forbid an attempt
tested_sent : (b : Bool) (n : ℕ) → (n == 0) ≡ b → not b ≡ true → n ≡ 0 → ⊥
tested_sent true n t e none = let no : false ≡ true = e in (cc)
tested_sent false n t e none = let no : true ≡ false = sym (eq-eqb n 0 none) ∙ t in (cc)

tested_hedges : (plan : CallPlan) (a : Attempts) → is_tested plan a ≡ true → (hedges plan ≡ true) × (a.sent ≡ 0 → ⊥)
tested_hedges plans.None a e = absurd (let no : false ≡ true = e in cc)
tested_hedges (plans.Retry policy) a e = absurd (let no : false ≡ true = e in cc)
tested_hedges (plans.Hedge policy) a e = (refl, tested_sent (a.sent == 0) a.sent refl e)

not_both : (b : Bool) → b ≡ true → b ≡ false → ⊥
not_both b e f = let no : true ≡ false = sym e ∙ f in (cc)

going_stopped : (s : Stepped) → has_none s.call.live ≡ false → hedges (call_plan s.call) ≡ true → IsGoing s.call → IsGoing (step.with_attempts (stopped_attempts s.call.attempts) s).call
going_stopped s some hedged old = record {
  next = λ h. inl some;
  alone = λ h. absurd (not_both (hedges (call_plan s.call)) hedged h);
  most = old.most;
  fresh = old.fresh;
  goes = λ h r c. absurd (not_both (hedges (call_plan s.call)) hedged h);
  last = λ r h. absurd (some_list s.call.live some h);
  none = old.none;
}

last_none : (call : CallState) → (call.attempts.sent ≡ 0 → ⊥) → call.attempts.last ≡ None → (call.attempts.sent ≡ 0) ⊎ (is_some call.attempts.last ≡ true) → ⊥
last_none call some e (inl none) = some none
last_none call some e (inr last) = let no : false ≡ true = ap is_some (sym e) ∙ last in (cc)

going_by_some : (last moment : ℕ) (s : Stepped) (b : Bool) → has_none s.call.live ≡ b → hedges (call_plan s.call) ≡ true → IsAlive s.call → IsGoing s.call → IsGoing (if b then step.ended_by_row last moment (step.with_attempts (stopped_attempts s.call.attempts) s) else step.with_attempts (stopped_attempts s.call.attempts) s).call
going_by_some last moment s true e hedged alive old =
    going_over (step.ended_by_row last moment (step.with_attempts (stopped_attempts s.call.attempts) s)).call old.most (λ h. absurd (alive.configured h)) (λ h. (cc)) refl
going_by_some last moment s false e hedged alive old = going_stopped s e hedged old

going_by_none : (s : Stepped) (b : Bool) → has_none s.call.live ≡ b → hedges (call_plan s.call) ≡ true → (s.call.attempts.sent ≡ 0 → ⊥) → s.call.attempts.last ≡ None → IsAlive s.call → IsGoing s.call → IsGoing (step.with_attempts (stopped_attempts s.call.attempts) s).call
going_by_none s true e hedged some last alive old =
    absurd (last_none s.call some last (old.last (runs s.call alive) (none_list s.call.live e)))
going_by_none s false e hedged some last alive old = going_stopped s e hedged old

going_by_last : (last : Option ℕ) (moment : ℕ) (s : Stepped) → s.call.attempts.last ≡ last → hedges (call_plan s.call) ≡ true → (s.call.attempts.sent ≡ 0 → ⊥) → IsAlive s.call → IsGoing s.call → IsGoing (step.ended_by_last last moment (step.with_attempts (stopped_attempts s.call.attempts) s)).call
going_by_last None moment s l hedged some alive old = going_by_none s (has_none s.call.live) refl hedged some l alive old
going_by_last (Some last) moment s l hedged some alive old = going_by_some last moment s (has_none s.call.live) refl hedged alive old

-- an attempt more
forced_is : (most : ℕ) (a : Attempts) (due : ℕ) (b : Bool) → (if b then None else a.forced) ≡ Some due → a.forced ≡ Some due
forced_is most a due true e = absurd (cc)
forced_is most a due false e = e

pub due_forced : (plan : CallPlan) (a : Attempts) (due : ℕ) → hedges plan ≡ false → next_of_plan plan a ≡ Some due → a.forced ≡ Some due
due_forced plans.None a due h e = forced_is 1 a due (a.stopped || nat_le 1 a.sent) e
due_forced (plans.Retry policy) a due h e = forced_is policy.max a due (a.stopped || nat_le policy.max a.sent) e
due_forced (plans.Hedge policy) a due h e = absurd (let no : true ≡ false = h in cc)

alone_none : (call : CallState) (due : ℕ) → call.attempts.forced ≡ Some due → HasAtMostOne call → call.live ≡ []
alone_none call due e (inl none) = none
alone_none call due e (inr only) = absurd (let no : None ≡ Some due = sym only.1.forced ∙ e in cc)

alone_made : (due : ℕ) (s : Stepped) → hedges (call_plan s.call) ≡ false → next_due s.call ≡ Some due → HasAtMostOne s.call → HasAtMostOne (step.made due s).call
alone_made due s h e at_most =
    let new : LiveRow = record { place = next_place s.ledger; number = min (s.call.attempts.sent + 1) 4294967295; link = None } in
    inr (
      new,
      record {
        live = ap (λ (l : List LiveRow). l ++ new ∷ []) (alone_none s.call due (due_forced (call_plan s.call) s.call.attempts due h e) at_most);
        number = refl;
        forced = refl;
      },
    )

sent_some : (n : ℕ) → min (n + 1) 4294967295 ≡ 0 → ⊥
sent_some n e =
    let least : 1 ≤ min (n + 1) 4294967295 = le-min (omega arith) (omega arith) in
    let no : ⊥ = omega (arith, least, e) in no

going_made : (due : ℕ) (s : Stepped) → next_due s.call ≡ Some due → IsAlive s.call → IsGoing s.call → IsGoing (step.made due s).call
going_made due s e alive old =
    let some : has_none (step.made due s).call.live ≡ false = some_more s.call.live (record { place = next_place s.ledger; number = min (s.call.attempts.sent + 1) 4294967295; link = None }) in
    record {
      next = λ h. inl some;
      alone = λ h. alone_made due s h e (old.alone h);
      most = old.most;
      fresh = λ h. absurd (alive.configured h);
      goes = λ h r c. not_stopped (call_plan s.call) s.call.attempts due e;
      last = λ r h. absurd (some_list (step.made due s).call.live some h);
      none = λ h. absurd (sent_some s.call.attempts.sent h);
    }

-- a message more
going_over_if : (place moment : ℕ) (row : LiveRow) (s : Stepped) (over : Bool) → find_live place s.call.live ≡ Some row → IsGoing s.call → IsGoing (if over then step.committed place moment s else s).call
going_over_if place moment row s true e old = going_commit place moment row s e old
going_over_if place moment row s false e old = old

going_accepted : (over : Bool) (row : Option ℕ) (moment : ℕ) (s : Stepped) → ((place : ℕ) → row ≡ Some place → (x : LiveRow) × (find_live place s.call.live ≡ Some x)) → IsGoing s.call → IsGoing (step.committed_over over row moment s).call
going_accepted over None moment s found old = old
going_accepted over (Some place) moment s found old = going_over_if place moment (found place refl).0 s over (found place refl).1 old

-- the parts of a run
pub going_moves : Moves (λ chosen. 1 ≤ most_attempts chosen.plan) (λ s row reported. Unit {0}) (λ moment s t. IsKept s.call → IsGoing s.call → IsGoing t.call)
going_moves = record {
  same = λ moment s kept old. old;
  configured = λ chosen moment s most e fresh kept old. going_chosen chosen moment s most fresh kept old;
  over_limit = λ chosen moment s most e fresh kept old. going_ended ends.Request moment (with_chosen chosen moment s) (going_chosen chosen moment s most fresh kept old);
  ended = λ why moment s by e kept old. going_ended why moment s old;
  too_large = λ row moment s e kept old. going_ended ends.Response moment s old;
  head = λ place row meta moment s e kept old. going_head_by place row meta moment s (is_some s.call.attempts.committed) e old;
  message = λ row octets moment s kept old. going_message octets s.call (is_committed_live row s.call) old;
  row_ended = λ place row reported moment word s e known kept old.
      going_live place row reported moment word s (is_followed s.call.attempts reported.cause reported.unseen) e (found_alive s.call place row kept e) old;
  placed = λ place row at s entry e free kept old. going_placed place row at s e old;
  refused = λ due moment s e passed tested kept old.
      let both : (hedges (call_plan s.call) ≡ true) × (s.call.attempts.sent ≡ 0 → ⊥) = tested_hedges (call_plan s.call) s.call.attempts tested in
      going_by_last s.call.attempts.last moment s refl both.0 both.1 (due_alive s.call kept (not_stopped (call_plan s.call) s.call.attempts due e)) old;
  made = λ due moment s e passed kept old. going_made due s e (due_alive s.call kept (not_stopped (call_plan s.call) s.call.attempts due e)) old;
  accepted = λ message moment s e room kept old.
      let row : Option ℕ = furthest s.call.buffer s.call.live in
      let t : Stepped = record s { call = with_message message row s.call } in
      going_accepted (pushed_over s.call.buffer (framed message) row) row moment t (λ place h. furthest_found s.call.buffer s.call.live place h) (going_like s.call t.call refl refl refl refl old);
}
