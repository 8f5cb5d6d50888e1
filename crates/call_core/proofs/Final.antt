-- A call that ended changes no more, and no further attempt of a call that is committed is made.
use Rattle.std.proofs.Common.{◌≡◌, ℕ, Bool, true, false, not, ◌&&◌, ◌||◌, ◌==◌, nat_le, if◌then◌else◌, Option, Some, None, is_some, List, [], ◌∷◌, ◌++◌, refl, ap, ◌∙◌}
use Rattle.grpc_base.specs.declared.event.EndCause.{EndCause}
use Rattle.grpc_base.specs.declared.event.EndCause.TheVariants as ends
use Rattle.grpc_base.specs.declared.event.Refusal.TheVariants as refusals
use Rattle.grpc_base.specs.declared.plan.CallPlan.{CallPlan}
use Rattle.grpc_base.specs.declared.plan.CallPlan.TheVariants as plans
use Rattle.grpc_base.specs.declared.plan.Chosen.{Chosen}
use Rattle.grpc_base.specs.declared.plan.HedgePolicy.{HedgePolicy}
use Rattle.attempt_ledger.specs.declared.news.EndNews.{EndNews}
use Rattle.attempt_ledger.specs.declared.news.News.{News}
use Rattle.attempt_ledger.specs.declared.news.News.TheVariants as news
use Rattle.attempt_ledger.specs.declared.row.Placed.{Placed}
use Rattle.hedge_core.specs.DueMoments as hedging
use Rattle.call_core.specs.declared.attempts.Attempts.{Attempts}
use Rattle.call_core.specs.declared.live.LiveRow.{LiveRow}
use Rattle.call_core.specs.declared.state.CallState.{CallState}
use Rattle.call_core.specs.Laws.{IsKept}
use Rattle.call_core.specs.Parts.{find_live, hedge_of, is_too_long, names, next_forced, next_of_plan}
use Rattle.call_core.specs.Steps as step
use Rattle.call_core.specs.Steps.{Stepped, call_plan, deadline_at, next_due, send_refusal, with_chosen}

-- a call that stopped has no due moment
forced_none : (most sent : ℕ) (forced : Option ℕ) (b : Bool) → b ≡ true → (if b || nat_le most sent then None else forced) ≡ None
forced_none most sent forced true e = refl
forced_none most sent forced false e = absurd (cc)

hedge_none : (policy : HedgePolicy) (a : Attempts) → a.stopped ≡ true → hedging.next_due policy (hedge_of a) ≡ None
hedge_none policy a e =
    ap (λ (t : Bool). hedging.next_due policy (record { sent = a.sent; last_placed = a.placed; forced = a.forced; stopped = t; outstanding = 0 })) e

either_none : (b : Bool) (x y : Option ℕ) → x ≡ None → y ≡ None → (if b then x else y) ≡ None
either_none true x y first second = first
either_none false x y first second = second

pub stopped_none : (plan : CallPlan) (a : Attempts) → a.stopped ≡ true → next_of_plan plan a ≡ None
stopped_none plans.None a e = forced_none 1 a.sent a.forced a.stopped e
stopped_none (plans.Retry policy) a e = forced_none policy.max a.sent a.forced a.stopped e
stopped_none (plans.Hedge policy) a e =
    either_none (a.sent == 0) (next_forced policy.max a) (hedging.next_due policy (hedge_of a))
    (forced_none policy.max a.sent a.forced a.stopped e) (hedge_none policy a e)

pub stopped_due : (moment : ℕ) (s : Stepped) → s.call.attempts.stopped ≡ true → step.made_due moment s ≡ s
stopped_due moment s e = ap (λ (o : Option ℕ). step.made_if o moment s) (stopped_none (call_plan s.call) s.call.attempts e)

-- no row of a call without live rows is found
pub none_found : (row : ℕ) (live : List LiveRow) → live ≡ [] → find_live row live ≡ None
none_found row live e = ap (find_live row) e

and_false : (b : Bool) → (b && false) ≡ false
and_false true = refl
and_false false = refl

none_committed : (row : ℕ) (call : CallState) → call.live ≡ [] → step.is_committed_live row call ≡ false
none_committed row call e =
    ap (λ (o : Option LiveRow). names row call.attempts.committed && is_some o) (none_found row call.live e) ∙ and_false (names row call.attempts.committed)

-- a call that ended
pub final_due : (moment : ℕ) (s : Stepped) → IsKept s.call → is_some s.call.ended ≡ true → step.made_due moment s ≡ s
final_due moment s kept e = stopped_due moment s (kept.ended e).stopped

pub final_configured : (chosen : Chosen) (moment : ℕ) (s : Stepped) → is_some s.call.ended ≡ true → step.configured chosen moment s ≡ s
final_configured chosen moment s e =
    ap (λ (b : Bool). if b || is_some s.call.chosen then s else step.ended_if (is_too_long (Some chosen) s.call.longest) ends.Request moment (with_chosen chosen moment s)) e

pub final_placed : (row : ℕ) (at : Placed) (s : Stepped) → IsKept s.call → is_some s.call.ended ≡ true → step.placed_at row at s ≡ s
final_placed row at s kept e =
    ap (λ (o : Option LiveRow). step.placed_if_live o at s) (none_found row s.call.live (kept.ended e).live)

pub final_ended_at : (row : ℕ) (reported : EndNews) (moment word : ℕ) (s : Stepped) → IsKept s.call → is_some s.call.ended ≡ true → step.ended_at row reported moment word s ≡ s
final_ended_at row reported moment word s kept e =
    ap (λ (o : Option LiveRow). step.ended_if_live o reported moment word s) (none_found row s.call.live (kept.ended e).live)

pub final_news : (row : ℕ) (reported : News) (moment word : ℕ) (s : Stepped) → IsKept s.call → is_some s.call.ended ≡ true → step.received_news row reported moment word s ≡ s
final_news row (news.Head tag meta seen) moment word s kept e =
    ap (λ (o : Option LiveRow). if is_some o then step.with_head meta (step.commit_by_head row moment s) else s) (none_found row s.call.live (kept.ended e).live)
final_news row (news.Message tag octets seen) moment word s kept e =
    ap (λ (b : Bool). record s { call = (if b then record s.call { inbox = record s.call.inbox { messages = s.call.inbox.messages ++ octets ∷ [] } } else s.call) }) (none_committed row s.call (kept.ended e).live)
final_news row (news.TooLarge tag seen) moment word s kept e =
    ap (λ (b : Bool). step.ended_if b ends.Response moment s) (none_committed row s.call (kept.ended e).live)
final_news row (news.Ended tag end) moment word s kept e = final_ended_at row end moment word s kept e
final_news row news.Ready moment word s kept e = refl
final_news row news.Retiring moment word s kept e = refl
final_news row (news.Broken code) moment word s kept e = refl

pub final_sent : (message : List ℕ) (moment : ℕ) (s : Stepped) → is_some s.call.ended ≡ true → step.sent message moment s ≡ s
final_sent message moment s e =
    ap (λ (b : Bool). step.sent_if (if b then Some refusals.CallEnded else if s.call.is_finished then Some refusals.AfterFinish else None) message moment s) e

pub final_closed : (why : EndCause) (moment : ℕ) (s : Stepped) → is_some s.call.ended ≡ true → step.closed_by why moment s ≡ s
final_closed why moment s e = ap (λ (b : Bool). step.ended_if (not b) why moment s) e

final_timed_late : (moment : ℕ) (s : Stepped) (b : Bool) → step.closed_by ends.Deadline moment s ≡ s → (if b then step.closed_by ends.Deadline moment s else s) ≡ s
final_timed_late moment s true e = e
final_timed_late moment s false e = refl

final_timed : (deadline : Option ℕ) (moment : ℕ) (s : Stepped) → step.closed_by ends.Deadline moment s ≡ s → step.timed_out_if deadline moment s ≡ s
final_timed None moment s e = refl
final_timed (Some deadline) moment s e = final_timed_late moment s (nat_le deadline moment) e

pub final_timed_out : (moment : ℕ) (s : Stepped) → is_some s.call.ended ≡ true → step.timed_out moment s ≡ s
final_timed_out moment s e = final_timed (deadline_at s.call) moment s (final_closed ends.Deadline moment s e)

-- a call that is committed
committed_stopped : (call : CallState) (o : Option ℕ) → call.attempts.committed ≡ o → IsKept call → is_some o ≡ true → call.attempts.stopped ≡ true
committed_stopped call None e kept h = absurd (cc)
committed_stopped call (Some place) e kept h = (kept.committed place e).stopped

pub committed_due : (moment : ℕ) (s : Stepped) → IsKept s.call → is_some s.call.attempts.committed ≡ true → step.made_due moment s ≡ s
committed_due moment s kept h = stopped_due moment s (committed_stopped s.call s.call.attempts.committed refl kept h)
