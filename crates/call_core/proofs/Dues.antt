-- When the next attempt is due, after each thing that decides it.
use Rattle.std.proofs.Common.{◌≡◌, ◌≤◌, ◌<◌, ℕ, ◌+◌, ◌==◌, Bool, true, false, ◌||◌, nat_le, nat_lt, if◌then◌else◌, Option, Some, None, is_some, refl, ap, subst, ◌∙◌, arith}
use Rattle.std.proofs.lemmas.Bool.{leb-true, ltb-true}
use Rattle.std.specs.Option.{option_map_or}
use Rattle.grpc_base.specs.declared.event.EndCause.{EndCause}
use Rattle.grpc_base.specs.declared.event.EndCause.TheVariants as ends
use Rattle.grpc_base.specs.declared.plan.CallPlan.{CallPlan}
use Rattle.grpc_base.specs.declared.plan.CallPlan.TheVariants as plans
use Rattle.grpc_base.specs.declared.plan.Chosen.{Chosen}
use Rattle.grpc_base.specs.declared.plan.HedgePolicy.{HedgePolicy}
use Rattle.attempt_ledger.specs.Numbering.{most_attempts}
use Rattle.attempt_ledger.specs.declared.news.EndNews.{EndNews}
use Rattle.attempt_ledger.specs.declared.row.Placed.{Placed}
use Rattle.hedge_core.specs.DueMoments as hedging
use Rattle.call_core.specs.declared.attempts.Attempts.{Attempts}
use Rattle.call_core.specs.declared.live.LiveRow.{LiveRow}
use Rattle.call_core.specs.Dues.{due_after_placing, is_forbidden}
use Rattle.call_core.specs.Numbering.{IsFresh, IsNumbered}
use Rattle.call_core.specs.Parts.{count_of, find_live, has_none, hedge_of, is_followed, is_refusal, is_too_long, made_attempts, names, next_forced, next_of_plan, placed_attempts, row_end}
use Rattle.call_core.specs.Steps as step
use Rattle.call_core.specs.Steps.{Stepped, call_plan, left_live, next_due, settled, with_chosen}

-- none is due of a call that stopped
if_stopped : (stopped full : Bool) (o : Option ℕ) → stopped ≡ true → (if stopped || full then None else o) ≡ None
if_stopped true full o e = refl
if_stopped false full o e = absurd (cc)

hedge_stopped : (policy : HedgePolicy) (a : Attempts) (b : Bool) → a.stopped ≡ true → (if b then next_forced policy.max a else hedging.next_due policy (hedge_of a)) ≡ None
hedge_stopped policy a true e = if_stopped a.stopped (nat_le policy.max a.sent) a.forced e
hedge_stopped policy a false e =
    ap (λ (t : Bool). hedging.next_due policy (record { sent = a.sent; last_placed = a.placed; forced = a.forced; stopped = t; outstanding = 0 })) e

pub none_stopped : (plan : CallPlan) (a : Attempts) → a.stopped ≡ true → next_of_plan plan a ≡ None
none_stopped plans.None a e = if_stopped a.stopped (nat_le 1 a.sent) a.forced e
none_stopped (plans.Retry policy) a e = if_stopped a.stopped (nat_le policy.max a.sent) a.forced e
none_stopped (plans.Hedge policy) a e = hedge_stopped policy a (a.sent == 0) e

pub none_committed : (place moment : ℕ) (s : Stepped) → next_due (step.committed place moment s).call ≡ None
none_committed place moment s = none_stopped (call_plan s.call) (step.committed place moment s).call.attempts refl

pub none_ended : (why : EndCause) (moment : ℕ) (s : Stepped) → next_due (step.ended_as why moment s).call ≡ None
none_ended why moment s = none_stopped (call_plan s.call) (step.ended_as why moment s).call.attempts refl

-- of a call that has its configuration the first attempt is due
first_due : (most sent moment : ℕ) (full : Bool) → nat_le most sent ≡ full → sent ≡ 0 → 1 ≤ most → (if false || full then None else Some moment) ≡ Some moment
first_due most sent moment false e none some = refl
first_due most sent moment true e none some = let full : most ≤ sent = leb-true most sent e in absurd (let no : ⊥ = omega (arith, full, none, some) in no)

pub first_of_plan : (plan : CallPlan) (a : Attempts) (moment : ℕ) → a.sent ≡ 0 → 1 ≤ most_attempts plan → next_of_plan plan (record a { forced = Some moment; stopped = false }) ≡ Some moment
first_of_plan plans.None a moment none some = first_due 1 a.sent moment (nat_le 1 a.sent) refl none some
first_of_plan (plans.Retry policy) a moment none some = first_due policy.max a.sent moment (nat_le policy.max a.sent) refl none some
first_of_plan (plans.Hedge policy) a moment none some =
    ap (λ (n : ℕ). if n == 0 then next_forced policy.max (record a { forced = Some moment; stopped = false }) else hedging.next_due policy (hedge_of (record a { forced = Some moment; stopped = false }))) none
    ∙ first_due policy.max a.sent moment (nat_le policy.max a.sent) refl none some

configured_by : (chosen : Chosen) (moment : ℕ) (s : Stepped) (ended : Option EndCause) (before : Option Chosen) (long : Bool) → s.call.ended ≡ ended → s.call.chosen ≡ before → ended ≡ None → before ≡ None → is_too_long (Some chosen) s.call.longest ≡ long → long ≡ false → s.call.attempts.sent ≡ 0 → 1 ≤ most_attempts chosen.plan → next_due (if is_some ended || is_some before then s else step.ended_if long ends.Request moment (with_chosen chosen moment s)).call ≡ Some moment
configured_by chosen moment s None None false e f none fresh l short sent some = first_of_plan chosen.plan s.call.attempts moment sent some
configured_by chosen moment s None None true e f none fresh l short sent some = absurd (cc)
configured_by chosen moment s None (Some old) long e f none fresh l short sent some = absurd (cc)
configured_by chosen moment s (Some why) before long e f none fresh l short sent some = absurd (cc)

pub due_configured : (chosen : Chosen) (moment : ℕ) (s : Stepped) → IsNumbered s → 1 ≤ most_attempts chosen.plan → s.call.ended ≡ None → s.call.chosen ≡ None → is_too_long (Some chosen) s.call.longest ≡ false → next_due (step.configured chosen moment s).call ≡ Some moment
due_configured chosen moment s numbered some live fresh short =
    let before : IsFresh s.call.attempts = numbered.fresh fresh in
    configured_by chosen moment s s.call.ended s.call.chosen (is_too_long (Some chosen) s.call.longest) refl refl live fresh refl short before.none some

-- an attempt that was made: none is due before its row is placed or an end forces one
abbrev nothing : Option ℕ
nothing = None

same_none : (b : Bool) → (if b then nothing else nothing) ≡ nothing
same_none true = refl
same_none false = refl

hedge_made : (policy : HedgePolicy) (a : Attempts) (place : ℕ) (b over full : Bool) → (if b then (if full then nothing else nothing) else (if over then nothing else nothing)) ≡ nothing
hedge_made policy a place true over full = same_none full
hedge_made policy a place false over full = same_none over

none_made : (plan : CallPlan) (a : Attempts) (place : ℕ) → next_of_plan plan (made_attempts place a) ≡ None
none_made plans.None a place = same_none (a.stopped || nat_le 1 (made_attempts place a).sent)
none_made (plans.Retry policy) a place = same_none (a.stopped || nat_le policy.max (made_attempts place a).sent)
none_made (plans.Hedge policy) a place =
    hedge_made policy a place ((made_attempts place a).sent == 0) (hedging.is_over policy (hedge_of (made_attempts place a))) (a.stopped || nat_le policy.max (made_attempts place a).sent)

none_by_last : (last moment : ℕ) (s : Stepped) (b : Bool) → s.call.attempts.stopped ≡ true → next_due (if b then step.ended_by_row last moment s else s).call ≡ None
none_by_last last moment s true e = none_ended ends.Row moment (step.committed last moment s)
none_by_last last moment s false e = none_stopped (call_plan s.call) s.call.attempts e

none_last : (last : Option ℕ) (moment : ℕ) (s : Stepped) → s.call.attempts.stopped ≡ true → next_due (step.ended_by_last last moment s).call ≡ None
none_last None moment s e = none_stopped (call_plan s.call) s.call.attempts e
none_last (Some last) moment s e = none_by_last last moment s (has_none s.call.live) e

none_due_at : (moment due : ℕ) (s : Stepped) (forbidden : Bool) → next_due (if forbidden then step.refused_due moment s else step.made due s).call ≡ None
none_due_at moment due s true = none_last s.call.attempts.last moment (step.with_attempts (record s.call.attempts { stopped = true }) s) refl
none_due_at moment due s false = none_made (call_plan s.call) s.call.attempts (step.next_place s.ledger)

none_passed : (moment due : ℕ) (s : Stepped) (early : Bool) → nat_lt moment due ≡ early → due ≤ moment → next_due (if early then s else step.due_at moment due s).call ≡ None
none_passed moment due s true e passed = let early : moment < due = ltb-true moment due e in absurd (let no : ⊥ = omega (arith, early, passed) in no)
none_passed moment due s false e passed = none_due_at moment due s (is_forbidden s)

none_made_if : (next : Option ℕ) (moment due : ℕ) (s : Stepped) → next ≡ Some due → due ≤ moment → next_due (step.made_if next moment s).call ≡ None
none_made_if None moment due s e passed = absurd (cc)
none_made_if (Some d) moment due s e passed =
    let same : due ≡ d = (cc) in
    none_passed moment d s (nat_lt moment d) refl (subst (λ (k : ℕ). k ≤ moment) same passed)

pub none_after_due : (moment due : ℕ) (s : Stepped) → next_due s.call ≡ Some due → due ≤ moment → next_due (step.made_due moment s).call ≡ None
none_after_due moment due s e passed = none_made_if (next_due s.call) moment due s e passed

-- the newest attempt is the one that was made last
newest_at : (moment due : ℕ) (s : Stepped) (forbidden : Bool) → forbidden ≡ false → (if forbidden then step.refused_due moment s else step.made due s).call.attempts.newest ≡ Some (step.next_place s.ledger)
newest_at moment due s true allowed = absurd (cc)
newest_at moment due s false allowed = refl

newest_passed : (moment due : ℕ) (s : Stepped) (early : Bool) → nat_lt moment due ≡ early → due ≤ moment → is_forbidden s ≡ false → (if early then s else step.due_at moment due s).call.attempts.newest ≡ Some (step.next_place s.ledger)
newest_passed moment due s true e passed allowed = let early : moment < due = ltb-true moment due e in absurd (let no : ⊥ = omega (arith, early, passed) in no)
newest_passed moment due s false e passed allowed = newest_at moment due s (is_forbidden s) allowed

newest_made_if : (next : Option ℕ) (moment due : ℕ) (s : Stepped) → next ≡ Some due → due ≤ moment → is_forbidden s ≡ false → (step.made_if next moment s).call.attempts.newest ≡ Some (step.next_place s.ledger)
newest_made_if None moment due s e passed allowed = absurd (cc)
newest_made_if (Some d) moment due s e passed allowed =
    let same : due ≡ d = (cc) in
    newest_passed moment d s (nat_lt moment d) refl (subst (λ (k : ℕ). k ≤ moment) same passed) allowed

pub newest_after_due : (moment due : ℕ) (s : Stepped) → next_due s.call ≡ Some due → due ≤ moment → is_forbidden s ≡ false → (step.made_due moment s).call.attempts.newest ≡ Some (step.next_place s.ledger)
newest_after_due moment due s e passed allowed = newest_made_if (next_due s.call) moment due s e passed allowed

-- the delay counts from the placing of the newest attempt's own row
waits_on : (moment delay : ℕ) (forced : Option ℕ) (stopped full : Bool) → (if stopped || false || full then None else option_map_or (λ f. Some f) forced (Some (moment + delay))) ≡ (if stopped || full then None else Some (option_map_or (λ f. f) forced (moment + delay)))
waits_on moment delay forced true full = refl
waits_on moment delay forced false true = refl
waits_on moment delay None false false = refl
waits_on moment delay (Some f) false false = refl

waits_hedge : (policy : HedgePolicy) (moment : ℕ) (a : Attempts) (b : Bool) → b ≡ false → (if b then next_forced policy.max a else (if a.stopped || b || nat_le policy.max a.sent then None else option_map_or (λ f. Some f) a.forced (Some (moment + policy.delay)))) ≡ due_after_placing policy moment a
waits_hedge policy moment a true e = absurd (cc)
waits_hedge policy moment a false e = waits_on moment policy.delay a.forced a.stopped (nat_le policy.max a.sent)

placed_free : (row : LiveRow) (at : Placed) (s : Stepped) (link : Option ℕ) → row.link ≡ link → link ≡ None → (if is_some link then s else step.placed_row_live row at s) ≡ step.placed_row_live row at s
placed_free row at s None e free = refl
placed_free row at s (Some l) e free = absurd (cc)

placed_found : (found : Option LiveRow) (row : LiveRow) (at : Placed) (s : Stepped) → found ≡ Some row → row.link ≡ None → step.placed_if_live found at s ≡ step.placed_row_live row at s
placed_found None row at s e free = absurd (cc)
placed_found (Some x) row at s e free =
    let same : row ≡ x = (cc) in
    subst (λ (y : LiveRow). step.placed_if_live (Some y) at s ≡ step.placed_row_live row at s) same (placed_free row at s row.link refl free)

pub due_placed : (policy : HedgePolicy) (place : ℕ) (row : LiveRow) (at : Placed) (s : Stepped) → call_plan s.call ≡ plans.Hedge policy → find_live place s.call.live ≡ Some row → row.link ≡ None → names row.place s.call.attempts.newest ≡ true → (s.call.attempts.sent == 0) ≡ false → next_due (step.placed_at place at s).call ≡ due_after_placing policy at.moment s.call.attempts
due_placed policy place row at s plan found free newest sent =
    let a : Attempts = s.call.attempts in
    ap (λ (t : Stepped). next_due t.call) (placed_found (find_live place s.call.live) row at s found free)
    ∙ ap (λ (p : CallPlan). next_of_plan p (placed_attempts row.place at.moment a)) plan
    ∙ ap (λ (b : Bool). next_of_plan (plans.Hedge policy) (record a { placed = (if b then Some at.moment else a.placed) })) newest
    ∙ waits_hedge policy at.moment a (a.sent == 0) sent

same_plan : (plan : CallPlan) (a : Attempts) → next_of_plan plan (record a { placed = a.placed }) ≡ next_of_plan plan a
same_plan plans.None a = refl
same_plan (plans.Retry policy) a = refl
same_plan (plans.Hedge policy) a = refl

pub due_placed_other : (place : ℕ) (row : LiveRow) (at : Placed) (s : Stepped) → find_live place s.call.live ≡ Some row → row.link ≡ None → names row.place s.call.attempts.newest ≡ false → next_due (step.placed_at place at s).call ≡ next_due s.call
due_placed_other place row at s found free newest =
    let a : Attempts = s.call.attempts in
    ap (λ (t : Stepped). next_due t.call) (placed_found (find_live place s.call.live) row at s found free)
    ∙ ap (λ (b : Bool). next_of_plan (call_plan s.call) (record a { placed = (if b then Some at.moment else a.placed) })) newest
    ∙ same_plan (call_plan s.call) a

-- an end that a transparent retry follows
same_followed : (plan : CallPlan) (a : Attempts) (committed : Option ℕ) (refused : Bool) → next_of_plan plan (record a { committed = committed; is_refusal_followed = refused }) ≡ next_of_plan plan a
same_followed plans.None a committed refused = refl
same_followed (plans.Retry policy) a committed refused = refl
same_followed (plans.Hedge policy) a committed refused = refl

followed_live : (b : Bool) (row : LiveRow) (reported : EndNews) (moment word : ℕ) (s : Stepped) → b ≡ true → next_due (if b then step.followed row reported moment (left_live row.place s) else step.counted row reported moment word (settled reported (left_live row.place s))).call ≡ next_due s.call
followed_live true row reported moment word s e =
    same_followed (call_plan s.call) s.call.attempts
    (if names row.place s.call.attempts.committed then Some (step.next_place (step.row_ended row.place (row_end reported s.ledger.entry moment (count_of s.tokens)) (left_live row.place s)).ledger) else s.call.attempts.committed)
    (s.call.attempts.is_refusal_followed || is_refusal reported.cause)
followed_live false row reported moment word s e = absurd (cc)

followed_found : (found : Option LiveRow) (row : LiveRow) (reported : EndNews) (moment word : ℕ) (s : Stepped) → found ≡ Some row → is_followed s.call.attempts reported.cause reported.unseen ≡ true → next_due (step.ended_if_live found reported moment word s).call ≡ next_due s.call
followed_found None row reported moment word s e followed = absurd (cc)
followed_found (Some x) row reported moment word s e followed =
    followed_live (is_followed s.call.attempts reported.cause reported.unseen) x reported moment word s followed

pub due_followed : (place : ℕ) (row : LiveRow) (reported : EndNews) (moment word : ℕ) (s : Stepped) → find_live place s.call.live ≡ Some row → is_followed s.call.attempts reported.cause reported.unseen ≡ true → next_due (step.ended_at place reported moment word s).call ≡ next_due s.call
due_followed place row reported moment word s found followed = followed_found (find_live place s.call.live) row reported moment word s found followed
