-- What is done to a call keeps what holds of every call.
use Rattle.std.proofs.Common.{◌≡◌, ℕ, Bool, true, false, not, ◌&&◌, ◌||◌, ◌==◌, nat_le, nat_lt, if◌then◌else◌, length, Option, Some, None, is_some, List, [], ◌∷◌, ◌++◌, map, refl, sym, ap, subst, ◌∙◌, eq-eqb}
use Rattle.std.proofs.lemmas.Bool.{eqb-true}
use Rattle.grpc_base.specs.declared.event.EndCause.{EndCause}
use Rattle.grpc_base.specs.declared.event.EndCause.TheVariants as ends
use Rattle.grpc_base.specs.declared.event.Refusal.{Refusal}
use Rattle.grpc_base.specs.declared.fields.Field.{Field}
use Rattle.grpc_base.specs.declared.plan.CallPlan.{CallPlan}
use Rattle.grpc_base.specs.declared.plan.CallPlan.TheVariants as plans
use Rattle.grpc_base.specs.declared.plan.Chosen.{Chosen}
use Rattle.grpc_base.specs.declared.plan.HedgePolicy.{HedgePolicy}
use Rattle.grpc_base.specs.Requests.{RequestSeen}
use Rattle.attempt_ledger.specs.declared.news.EndNews.{EndNews}
use Rattle.attempt_ledger.specs.declared.news.News.{News}
use Rattle.attempt_ledger.specs.declared.news.News.TheVariants as news
use Rattle.attempt_ledger.specs.declared.row.Placed.{Placed}
use Rattle.attempt_ledger.specs.declared.row.RowEnd.{RowEnd}
use Rattle.attempt_buffer.specs.Buffers.{Buffered}
use Rattle.hedge_core.specs.DueMoments as hedging
use Rattle.grpc_frame.specs.Messages.{framed}
use Rattle.call_core.specs.declared.attempts.Attempts.{Attempts}
use Rattle.call_core.specs.declared.judge.Judged.{Judged}
use Rattle.call_core.specs.declared.live.LiveRow.{LiveRow}
use Rattle.call_core.specs.declared.state.CallState.{CallState}
use Rattle.call_core.specs.Laws.{AllAt, IsCommittedTo, IsKept, IsOver}
use Rattle.call_core.specs.Parts.{committed_buffer, count_of, find_live, furthest, has_none, hedge_of, is_above, is_followed, is_row, is_tested, is_too_long, judged, kept_alone, linked, names, next_forced, next_of_plan, pushed_over, row_end, stopped_attempts, without}
use Rattle.call_core.specs.Steps as step
use Rattle.call_core.specs.Steps.{Stepped, call_plan, deadline_at, full_with, is_committed_live, judged_of, left_live, new_call, next_due, next_place, send_refusal, settled, with_chosen, with_judged, with_message}

-- lists of live rows
alone_one : (place : ℕ) (row : LiveRow) (live : List LiveRow) (b : Bool) → (row.place == place) ≡ b → AllAt place live → AllAt place (if b then row ∷ live else live)
alone_one place row live true e rest = (eqb-true row.place place e, rest)
alone_one place row live false e rest = rest

alone_at : (place : ℕ) (live : List LiveRow) → AllAt place (kept_alone place live)
alone_at place [] = tt
alone_at place (row ∷ live) = alone_one place row (kept_alone place live) (row.place == place) refl (alone_at place live)

without_one : (p : ℕ) (row : LiveRow) (live : List LiveRow) (b : Bool) → row.place ≡ p → AllAt p live → AllAt p (if b then row ∷ live else live)
without_one p row live true same rest = (same, rest)
without_one p row live false same rest = rest

without_at : (p place : ℕ) (live : List LiveRow) → AllAt p live → AllAt p (without place live)
without_at p place [] all = tt
without_at p place (row ∷ live) all = without_one p row (without place live) (not (is_row place row)) all.0 (without_at p place live all.1)

-- without the only one none is left
without_all : (place : ℕ) (live : List LiveRow) → AllAt place live → without place live ≡ []
without_all place [] all = refl
without_all place (row ∷ live) all =
    ap (λ (b : Bool). if not b then row ∷ without place live else without place live) (eq-eqb row.place place all.0) ∙ without_all place live all.1

linked_place : (place link : ℕ) (row : LiveRow) → (linked place link row).place ≡ row.place
linked_place place link row =
    elim (is_row place row) as (λ b. (if b then record row { link = Some link } else row).place ≡ row.place) [ true ↦ refl | false ↦ refl ]

linked_at : (p place link : ℕ) (live : List LiveRow) → AllAt p live → AllAt p (map (linked place link) live)
linked_at p place link [] all = tt
linked_at p place link (row ∷ live) all = (linked_place place link row ∙ all.0, linked_at p place link live all.1)

-- a row that was found is one of a list that isn't empty, and is at its place
pub found_some : (place : ℕ) (live : List LiveRow) (row : LiveRow) → find_live place live ≡ Some row → live ≡ [] → ⊥
found_some place live row e none =
    let no : None ≡ Some row = subst (λ (xs : List LiveRow). find_live place xs ≡ Some row) none e in (cc)

found_one : (p place : ℕ) (x row : LiveRow) (live : List LiveRow) (b : Bool) → x.place ≡ p → (find_live place live ≡ Some row → row.place ≡ p) → (if b then Some x else find_live place live) ≡ Some row → row.place ≡ p
found_one p place x row live true same rest e = let is : x ≡ row = (cc) in subst (λ (r : LiveRow). r.place ≡ p) is same
found_one p place x row live false same rest e = rest e

pub found_at : (p place : ℕ) (live : List LiveRow) (row : LiveRow) → AllAt p live → find_live place live ≡ Some row → row.place ≡ p
found_at p place [] row all e = absurd (cc)
found_at p place (x ∷ live) row all e = found_one p place x row live (is_row place x) all.0 (found_at p place live row all.1) e

-- no attempt is due of a call that stopped
abbrev forced_with : Bool → ℕ → ℕ → Option ℕ → Option ℕ
forced_with stopped most sent forced = if stopped || nat_le most sent then None else forced

stopped_forced : (most sent : ℕ) (forced : Option ℕ) (due : ℕ) (stopped b : Bool) → stopped ≡ b → forced_with stopped most sent forced ≡ Some due → b ≡ false
stopped_forced most sent forced due stopped false e h = refl
stopped_forced most sent forced due stopped true e h =
    let no : None ≡ Some due = subst (λ (t : Bool). forced_with t most sent forced ≡ Some due) e h in absurd (cc)

stopped_hedge : (policy : HedgePolicy) (a : Attempts) (due : ℕ) (b : Bool) → a.stopped ≡ b → hedging.next_due policy (hedge_of a) ≡ Some due → b ≡ false
stopped_hedge policy a due false e h = refl
stopped_hedge policy a due true e h =
    let no : None ≡ Some due = subst (λ (t : Bool). hedging.next_due policy (record { sent = a.sent; last_placed = a.placed; forced = a.forced; stopped = t; outstanding = 0 }) ≡ Some due) e h in absurd (cc)

hedge_by_sent : (policy : HedgePolicy) (a : Attempts) (due : ℕ) (b : Bool) → (if b then next_forced policy.max a else hedging.next_due policy (hedge_of a)) ≡ Some due → a.stopped ≡ false
hedge_by_sent policy a due true h = stopped_forced policy.max a.sent a.forced due a.stopped a.stopped refl h
hedge_by_sent policy a due false h = stopped_hedge policy a due a.stopped refl h

pub not_stopped : (plan : CallPlan) (a : Attempts) (due : ℕ) → next_of_plan plan a ≡ Some due → a.stopped ≡ false
not_stopped plans.None a due h = stopped_forced 1 a.sent a.forced due a.stopped a.stopped refl h
not_stopped (plans.Retry policy) a due h = stopped_forced policy.max a.sent a.forced due a.stopped a.stopped refl h
not_stopped (plans.Hedge policy) a due h = hedge_by_sent policy a due (a.sent == 0) h

-- a call of which a row is live, or for which an attempt is due, is neither ended nor without a configuration
pub record IsAlive (call : CallState) : Type 0 where
  pub live : is_some call.ended ≡ true → ⊥
  pub configured : call.chosen ≡ None → ⊥

pub found_alive : (call : CallState) (place : ℕ) (row : LiveRow) → IsKept call → find_live place call.live ≡ Some row → IsAlive call
found_alive call place row kept e = record {
  live = λ h. found_some place call.live row e (kept.ended h).live;
  configured = λ h. found_some place call.live row e (kept.unconfigured h).live;
}

over_stopped : (call : CallState) → IsOver call → call.attempts.stopped ≡ false → ⊥
over_stopped call over e = let no : true ≡ false = sym over.stopped ∙ e in (cc)

pub due_alive : (call : CallState) → IsKept call → call.attempts.stopped ≡ false → IsAlive call
due_alive call kept e = record {
  live = λ h. over_stopped call (kept.ended h) e;
  configured = λ h. over_stopped call (kept.unconfigured h) e;
}

-- the call at first
pub kept_new : (number : ℕ) (request : RequestSeen) (begun : ℕ) → IsKept (new_call number request begun)
kept_new number request begun = record {
  ended = λ h. absurd (cc);
  committed = λ place h. absurd (cc);
  unconfigured = λ h. record { live = refl; stopped = refl };
  free = λ h. refl;
}

-- commitment and end
pub kept_commit : (place moment : ℕ) (s : Stepped) → IsKept s.call → (s.call.chosen ≡ None → ⊥) → IsKept (step.committed place moment s).call
kept_commit place moment s kept configured = record {
  ended = λ h. record { live = ap (kept_alone place) (kept.ended h).live; stopped = refl };
  committed = λ p h. record {
    live = (let same : place ≡ p = (cc) in subst (λ (k : ℕ). AllAt k (kept_alone place s.call.live)) same (alone_at place s.call.live));
    stopped = refl;
  };
  unconfigured = λ h. absurd (configured h);
  free = λ h. absurd (configured h);
}

pub kept_end : (why : EndCause) (moment : ℕ) (s : Stepped) → IsKept s.call → IsKept (step.ended_as why moment s).call
kept_end why moment s kept = record {
  ended = λ h. record { live = refl; stopped = refl };
  committed = λ p h. record { live = tt; stopped = refl };
  unconfigured = λ h. record { live = refl; stopped = refl };
  free = λ h. kept.free h;
}

pub kept_end_if : (ends : Bool) (why : EndCause) (moment : ℕ) (s : Stepped) → IsKept s.call → IsKept (step.ended_if ends why moment s).call
kept_end_if true why moment s kept = kept_end why moment s kept
kept_end_if false why moment s kept = kept

pub kept_by_row : (place moment : ℕ) (s : Stepped) → IsKept s.call → (s.call.chosen ≡ None → ⊥) → IsKept (step.ended_by_row place moment s).call
kept_by_row place moment s kept configured = kept_end ends.Row moment (step.committed place moment s) (kept_commit place moment s kept configured)

-- a row that left
kept_left : (place : ℕ) (s : Stepped) → IsKept s.call → IsKept (left_live place s).call
kept_left place s kept = record {
  ended = λ h. record { live = ap (without place) (kept.ended h).live; stopped = (kept.ended h).stopped };
  committed = λ p h. record { live = without_at p place s.call.live (kept.committed p h).live; stopped = (kept.committed p h).stopped };
  unconfigured = λ h. record { live = ap (without place) (kept.unconfigured h).live; stopped = (kept.unconfigured h).stopped };
  free = λ h. kept.free h;
}

-- a transparent retry: the call stays committed to the chain
pub record IsSole (call : CallState) (row : ℕ) : Type 0 where
  pub sole : (place : ℕ) → call.attempts.committed ≡ Some place → (place ≡ row) × (call.live ≡ []) × (call.attempts.stopped ≡ true)

committed_follower : (row new p : ℕ) (committed : Option ℕ) → ((place : ℕ) → committed ≡ Some place → place ≡ row) → (if names row committed then Some new else committed) ≡ Some p → new ≡ p
committed_follower row new p None sole h = absurd (cc)
committed_follower row new p (Some q) sole h =
    let same : q ≡ row = sole q refl in
    let test : (q == row) ≡ true = eq-eqb q row same in
    let is : Some new ≡ Some p = sym (ap (λ (b : Bool). if b then Some new else Some q) test) ∙ h in (cc)

committed_before : (row new p : ℕ) (committed : Option ℕ) → (if names row committed then Some new else committed) ≡ Some p → (q : ℕ) × (committed ≡ Some q)
committed_before row new p None h = absurd (cc)
committed_before row new p (Some q) h = (q, refl)

kept_followed : (row : LiveRow) (reported : EndNews) (moment : ℕ) (s : Stepped) → IsAlive s.call → IsSole s.call row.place → IsKept (step.followed row reported moment s).call
kept_followed row reported moment s alive sole =
    let t : Stepped = step.row_ended row.place (row_end reported s.ledger.entry moment (count_of s.tokens)) s in
    let new : ℕ = next_place t.ledger in
    record {
      ended = λ h. absurd (alive.live h);
      committed = λ p h.
          let q : (q : ℕ) × (s.call.attempts.committed ≡ Some q) = committed_before row.place new p s.call.attempts.committed h in
          let is : new ≡ p = committed_follower row.place new p s.call.attempts.committed (λ place e. (sole.sole place e).0) h in
          record {
            live = subst (λ (xs : List LiveRow). AllAt p (xs ++ record { place = new; number = row.number; link = None } ∷ [])) (sym (sole.sole q.0 q.1).1) (is, tt);
            stopped = (sole.sole q.0 q.1).2;
          };
      unconfigured = λ h. absurd (alive.configured h);
      free = λ h. absurd (alive.configured h);
    }

-- an end that counts
judged_committed : (plan : CallPlan) (a : Attempts) (number : ℕ) (is_alone : Bool) (end : RowEnd) (above : Bool) (word : ℕ) → (judged plan a number is_alone end above word).attempts.committed ≡ a.committed
judged_committed plans.None a number is_alone end above word = refl
judged_committed (plans.Retry policy) a number is_alone end above word = refl
judged_committed (plans.Hedge policy) a number is_alone end above word = refl

kept_judged : (row : LiveRow) (end : RowEnd) (word : ℕ) (s : Stepped) → IsAlive s.call → s.call.attempts.committed ≡ None → IsKept (with_judged row end (judged_of row end word s.call s.tokens) s).call
kept_judged row end word s alive free = record {
  ended = λ h. absurd (alive.live h);
  committed = λ p h.
      let none : None ≡ Some p = sym (judged_committed (call_plan s.call) s.call.attempts row.number (has_none s.call.live) end (is_above s.tokens) word ∙ free) ∙ h in absurd (cc);
  unconfigured = λ h. absurd (alive.configured h);
  free = λ h. absurd (alive.configured h);
}

kept_closed_if : (closes : Bool) (place moment : ℕ) (s : Stepped) → IsKept s.call → (s.call.chosen ≡ None → ⊥) → IsKept (step.closed_if closes place moment s).call
kept_closed_if true place moment s kept configured = kept_by_row place moment s kept configured
kept_closed_if false place moment s kept configured = kept

kept_counted_by : (row : LiveRow) (reported : EndNews) (moment word : ℕ) (s : Stepped) (o : Option ℕ) → s.call.attempts.committed ≡ o → IsKept s.call → IsAlive s.call → IsKept (if is_some o then step.ended_as ends.Row moment (step.row_ended row.place (row_end reported s.ledger.entry moment (count_of s.tokens)) s) else step.counted_free row (row_end reported s.ledger.entry moment (count_of s.tokens)) moment word s).call
kept_counted_by row reported moment word s (Some p) e kept alive =
    kept_end ends.Row moment (step.row_ended row.place (row_end reported s.ledger.entry moment (count_of s.tokens)) s) kept
kept_counted_by row reported moment word s None e kept alive =
    let end : RowEnd = row_end reported s.ledger.entry moment (count_of s.tokens) in
    let after : Judged = judged_of row end word s.call s.tokens in
    kept_closed_if after.closes row.place moment (with_judged row end after s) (kept_judged row end word s alive e) alive.configured

kept_counted : (row : LiveRow) (reported : EndNews) (moment word : ℕ) (s : Stepped) → IsKept s.call → IsAlive s.call → IsKept (step.counted row reported moment word s).call
kept_counted row reported moment word s kept alive = kept_counted_by row reported moment word s s.call.attempts.committed refl kept alive

sole_left : (place : ℕ) (row : LiveRow) (s : Stepped) → IsKept s.call → find_live place s.call.live ≡ Some row → IsSole (left_live row.place s).call row.place
sole_left place row s kept e = record {
  sole = λ p h.
      let all : AllAt p s.call.live = (kept.committed p h).live in
      let is : row.place ≡ p = found_at p place s.call.live row all e in
      (sym is, without_all row.place s.call.live (subst (λ (k : ℕ). AllAt k s.call.live) (sym is) all), (kept.committed p h).stopped);
}

kept_live_by : (b : Bool) (row : LiveRow) (reported : EndNews) (moment word : ℕ) (s : Stepped) → IsKept s.call → IsAlive s.call → IsSole s.call row.place → IsKept (if b then step.followed row reported moment s else step.counted row reported moment word (settled reported s)).call
kept_live_by true row reported moment word s kept alive sole = kept_followed row reported moment s alive sole
kept_live_by false row reported moment word s kept alive sole = kept_counted row reported moment word (settled reported s) kept alive

kept_ended_by : (place : ℕ) (found : Option LiveRow) (reported : EndNews) (moment word : ℕ) (s : Stepped) → find_live place s.call.live ≡ found → IsKept s.call → IsKept (step.ended_if_live found reported moment word s).call
kept_ended_by place None reported moment word s e kept = kept
kept_ended_by place (Some row) reported moment word s e kept =
    let alive : IsAlive s.call = found_alive s.call place row kept e in
    let alive_left : IsAlive (left_live row.place s).call = record { live = alive.live; configured = alive.configured } in
    kept_live_by (is_followed s.call.attempts reported.cause reported.unseen) row reported moment word (left_live row.place s) (kept_left row.place s kept) alive_left (sole_left place row s kept e)

pub kept_ended_at : (row : ℕ) (reported : EndNews) (moment word : ℕ) (s : Stepped) → IsKept s.call → IsKept (step.ended_at row reported moment word s).call
kept_ended_at row reported moment word s kept = kept_ended_by row (find_live row s.call.live) reported moment word s refl kept

-- a change of parts of which the law doesn't speak
kept_like : (a b : CallState) → b.live ≡ a.live → b.ended ≡ a.ended → b.attempts ≡ a.attempts → b.chosen ≡ a.chosen → IsKept a → IsKept b
kept_like a b live ended attempts chosen kept =
    let over : IsOver a → IsOver b = λ o. record { live = live ∙ o.live; stopped = ap (λ t. t.stopped) attempts ∙ o.stopped } in
    record {
      ended = λ h. over (kept.ended (ap is_some (sym ended) ∙ h));
      committed = λ p h.
          let c : IsCommittedTo a p = kept.committed p (sym (ap (λ t. t.committed) attempts) ∙ h) in
          record { live = subst (λ (xs : List LiveRow). AllAt p xs) (sym live) c.live; stopped = ap (λ t. t.stopped) attempts ∙ c.stopped };
      unconfigured = λ h. over (kept.unconfigured (sym chosen ∙ h));
      free = λ h. ap (λ t. t.committed) attempts ∙ kept.free (sym chosen ∙ h);
    }

-- news
kept_head_by : (row : ℕ) (meta : List Field) (moment : ℕ) (s : Stepped) (b : Bool) → IsKept s.call → (s.call.chosen ≡ None → ⊥) → IsKept (step.with_head meta (if b then s else step.committed row moment (record s { call = record s.call { buffer = committed_buffer row s.call.buffer } }))).call
kept_head_by row meta moment s true kept configured = kept_like s.call _ refl refl refl refl kept
kept_head_by row meta moment s false kept configured =
    let c : Stepped = record s { call = record s.call { buffer = committed_buffer row s.call.buffer } } in
    kept_like (step.committed row moment c).call _ refl refl refl refl (kept_commit row moment c (kept_like s.call c.call refl refl refl refl kept) configured)

kept_head_found : (row : ℕ) (meta : List Field) (moment : ℕ) (s : Stepped) (found : Option LiveRow) → find_live row s.call.live ≡ found → IsKept s.call → IsKept (if is_some found then step.with_head meta (step.commit_by_head row moment s) else s).call
kept_head_found row meta moment s None e kept = kept
kept_head_found row meta moment s (Some live) e kept =
    kept_head_by row meta moment s (is_some s.call.attempts.committed) kept (found_alive s.call row live kept e).configured

kept_message : (row : ℕ) (octets : List ℕ) (call : CallState) (b : Bool) → IsKept call → IsKept (if b then record call { inbox = record call.inbox { messages = call.inbox.messages ++ octets ∷ [] } } else call)
kept_message row octets call true kept = kept_like call _ refl refl refl refl kept
kept_message row octets call false kept = kept

pub kept_news : (row : ℕ) (reported : News) (moment word : ℕ) (s : Stepped) → IsKept s.call → IsKept (step.received_news row reported moment word s).call
kept_news row (news.Head tag meta seen) moment word s kept = kept_head_found row meta moment s (find_live row s.call.live) refl kept
kept_news row (news.Message tag octets seen) moment word s kept = kept_message row octets s.call (is_committed_live row s.call) kept
kept_news row (news.TooLarge tag seen) moment word s kept = kept_end_if (is_committed_live row s.call) ends.Response moment s kept
kept_news row (news.Ended tag end) moment word s kept = kept_ended_at row end moment word s kept
kept_news row news.Ready moment word s kept = kept
kept_news row news.Retiring moment word s kept = kept
kept_news row (news.Broken code) moment word s kept = kept

-- the configuration
kept_chosen : (chosen : Chosen) (moment : ℕ) (s : Stepped) → IsKept s.call → s.call.ended ≡ None → s.call.chosen ≡ None → IsKept (with_chosen chosen moment s).call
kept_chosen chosen moment s kept live fresh = record {
  ended = λ h. (let no : false ≡ true = sym (ap is_some live) ∙ h in absurd (cc));
  committed = λ p h. (let no : None ≡ Some p = sym (kept.free fresh) ∙ h in absurd (cc));
  unconfigured = λ h. absurd (cc);
  free = λ h. absurd (cc);
}

kept_configured_by : (chosen : Chosen) (moment : ℕ) (s : Stepped) (ended : Option EndCause) (before : Option Chosen) → s.call.ended ≡ ended → s.call.chosen ≡ before → IsKept s.call → IsKept (if is_some ended || is_some before then s else step.ended_if (is_too_long (Some chosen) s.call.longest) ends.Request moment (with_chosen chosen moment s)).call
kept_configured_by chosen moment s (Some why) before e f kept = kept
kept_configured_by chosen moment s None (Some old) e f kept = kept
kept_configured_by chosen moment s None None e f kept =
    kept_end_if (is_too_long (Some chosen) s.call.longest) ends.Request moment (with_chosen chosen moment s) (kept_chosen chosen moment s kept e f)

pub kept_configured : (chosen : Chosen) (moment : ℕ) (s : Stepped) → IsKept s.call → IsKept (step.configured chosen moment s).call
kept_configured chosen moment s kept = kept_configured_by chosen moment s s.call.ended s.call.chosen refl refl kept

-- a placing
kept_place_live : (row : LiveRow) (at : Placed) (s : Stepped) → IsKept s.call → IsKept (step.placed_row_live row at s).call
kept_place_live row at s kept = record {
  ended = λ h. record { live = ap (map (linked row.place at.link)) (kept.ended h).live; stopped = (kept.ended h).stopped };
  committed = λ p h. record { live = linked_at p row.place at.link s.call.live (kept.committed p h).live; stopped = (kept.committed p h).stopped };
  unconfigured = λ h. record { live = ap (map (linked row.place at.link)) (kept.unconfigured h).live; stopped = (kept.unconfigured h).stopped };
  free = λ h. kept.free h;
}

kept_place_if : (row : LiveRow) (at : Placed) (s : Stepped) (b : Bool) → IsKept s.call → IsKept (if b then s else step.placed_row_live row at s).call
kept_place_if row at s true kept = kept
kept_place_if row at s false kept = kept_place_live row at s kept

kept_place_found : (found : Option LiveRow) (at : Placed) (s : Stepped) → IsKept s.call → IsKept (step.placed_if_live found at s).call
kept_place_found None at s kept = kept
kept_place_found (Some row) at s kept = kept_place_if row at s (is_some row.link) kept

pub kept_placed : (row : ℕ) (at : Placed) (s : Stepped) → IsKept s.call → IsKept (step.placed_at row at s).call
kept_placed row at s kept = kept_place_found (find_live row s.call.live) at s kept

-- the next attempt
kept_made : (due : ℕ) (s : Stepped) → IsKept s.call → s.call.attempts.stopped ≡ false → IsKept (step.made due s).call
kept_made due s kept e =
    let alive : IsAlive s.call = due_alive s.call kept e in
    record {
      ended = λ h. absurd (alive.live h);
      committed = λ p h. (let no : true ≡ false = sym (kept.committed p h).stopped ∙ e in absurd (cc));
      unconfigured = λ h. absurd (alive.configured h);
      free = λ h. absurd (alive.configured h);
    }

kept_stopped : (s : Stepped) → IsKept s.call → IsKept (step.with_attempts (stopped_attempts s.call.attempts) s).call
kept_stopped s kept = record {
  ended = λ h. record { live = (kept.ended h).live; stopped = refl };
  committed = λ p h. record { live = (kept.committed p h).live; stopped = refl };
  unconfigured = λ h. record { live = (kept.unconfigured h).live; stopped = refl };
  free = λ h. kept.free h;
}

kept_by_last_if : (last moment : ℕ) (s : Stepped) (b : Bool) → IsKept s.call → (s.call.chosen ≡ None → ⊥) → IsKept (if b then step.ended_by_row last moment s else s).call
kept_by_last_if last moment s true kept configured = kept_by_row last moment s kept configured
kept_by_last_if last moment s false kept configured = kept

kept_by_last : (last : Option ℕ) (moment : ℕ) (s : Stepped) → IsKept s.call → (s.call.chosen ≡ None → ⊥) → IsKept (step.ended_by_last last moment s).call
kept_by_last None moment s kept configured = kept
kept_by_last (Some last) moment s kept configured = kept_by_last_if last moment s (has_none s.call.live) kept configured

kept_due_if : (moment due : ℕ) (s : Stepped) (b : Bool) → IsKept s.call → s.call.attempts.stopped ≡ false → IsKept (if b then step.refused_due moment s else step.made due s).call
kept_due_if moment due s true kept e =
    kept_by_last s.call.attempts.last moment (step.with_attempts (stopped_attempts s.call.attempts) s) (kept_stopped s kept) (due_alive s.call kept e).configured
kept_due_if moment due s false kept e = kept_made due s kept e

kept_made_late : (moment due : ℕ) (s : Stepped) (b : Bool) → IsKept s.call → s.call.attempts.stopped ≡ false → IsKept (if b then s else step.due_at moment due s).call
kept_made_late moment due s true kept e = kept
kept_made_late moment due s false kept e = kept_due_if moment due s (is_tested (call_plan s.call) s.call.attempts && not (is_above s.tokens)) kept e

kept_made_if : (next : Option ℕ) (moment : ℕ) (s : Stepped) → next_due s.call ≡ next → IsKept s.call → IsKept (step.made_if next moment s).call
kept_made_if None moment s e kept = kept
kept_made_if (Some due) moment s e kept =
    kept_made_late moment due s (nat_lt moment due) kept (not_stopped (call_plan s.call) s.call.attempts due e)

pub kept_due : (moment : ℕ) (s : Stepped) → IsKept s.call → IsKept (step.made_due moment s).call
kept_due moment s kept = kept_made_if (next_due s.call) moment s refl kept

-- what the application does, and the ends by the channel
kept_over_if : (row moment : ℕ) (s : Stepped) (b : Bool) → IsKept s.call → (s.call.chosen ≡ None → ⊥) → IsKept (if b then step.committed row moment s else s).call
kept_over_if row moment s true kept configured = kept_commit row moment s kept configured
kept_over_if row moment s false kept configured = kept

kept_over : (over : Bool) (row : Option ℕ) (moment : ℕ) (s : Stepped) → IsKept s.call → ((place : ℕ) → row ≡ Some place → s.call.chosen ≡ None → ⊥) → IsKept (step.committed_over over row moment s).call
kept_over over None moment s kept configured = kept
kept_over over (Some row) moment s kept configured = kept_over_if row moment s over kept (configured row refl)

furthest_some : (b : Buffered) (live : List LiveRow) (place : ℕ) → furthest b live ≡ Some place → live ≡ [] → ⊥
furthest_some b live place e none =
    let no : None ≡ Some place = subst (λ (xs : List LiveRow). furthest b xs ≡ Some place) none e in (cc)

kept_accepted_if : (full : Option ℕ) (message : List ℕ) (moment : ℕ) (s : Stepped) → IsKept s.call → IsKept (step.accepted_if full message moment s).call
kept_accepted_if (Some held) message moment s kept = kept
kept_accepted_if None message moment s kept =
    let row : Option ℕ = furthest s.call.buffer s.call.live in
    let t : Stepped = record s { call = with_message message row s.call } in
    kept_over (pushed_over s.call.buffer (framed message) row) row moment t (kept_like s.call t.call refl refl refl refl kept)
    (λ place e h. furthest_some s.call.buffer s.call.live place e (kept.unconfigured h).live)

kept_sent_by : (message : List ℕ) (moment : ℕ) (s : Stepped) (b : Bool) → IsKept s.call → IsKept (if b then step.ended_as ends.Request moment s else step.accepted_if (full_with (length message) s.call) message moment s).call
kept_sent_by message moment s true kept = kept_end ends.Request moment s kept
kept_sent_by message moment s false kept = kept_accepted_if (full_with (length message) s.call) message moment s kept

kept_sent_if : (refusal : Option Refusal) (message : List ℕ) (moment : ℕ) (s : Stepped) → IsKept s.call → IsKept (step.sent_if refusal message moment s).call
kept_sent_if None message moment s kept = kept_sent_by message moment s (is_too_long s.call.chosen (length message)) kept
kept_sent_if (Some refusal) message moment s kept = kept

pub kept_sent : (message : List ℕ) (moment : ℕ) (s : Stepped) → IsKept s.call → IsKept (step.sent message moment s).call
kept_sent message moment s kept = kept_sent_if (send_refusal s.call) message moment s kept

pub kept_closed_by : (why : EndCause) (moment : ℕ) (s : Stepped) → IsKept s.call → IsKept (step.closed_by why moment s).call
kept_closed_by why moment s kept = kept_end_if (not (is_some s.call.ended)) why moment s kept

kept_timed_late : (deadline moment : ℕ) (s : Stepped) (b : Bool) → IsKept s.call → IsKept (if b then step.closed_by ends.Deadline moment s else s).call
kept_timed_late deadline moment s true kept = kept_closed_by ends.Deadline moment s kept
kept_timed_late deadline moment s false kept = kept

kept_timed : (deadline : Option ℕ) (moment : ℕ) (s : Stepped) → IsKept s.call → IsKept (step.timed_out_if deadline moment s).call
kept_timed None moment s kept = kept
kept_timed (Some deadline) moment s kept = kept_timed_late deadline moment s (nat_le deadline moment) kept

pub kept_timed_out : (moment : ℕ) (s : Stepped) → IsKept s.call → IsKept (step.timed_out moment s).call
kept_timed_out moment s kept = kept_timed (deadline_at s.call) moment s kept
