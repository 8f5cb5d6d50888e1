-- What a hedged call knows of its attempts is what its marks say.
use Rattle.std.proofs.Common.{◌≡◌, ◌≤◌, ◌<◌, ℕ, suc, zero, ◌+◌, ◌==◌, Bool, true, false, not, ◌&&◌, ◌||◌, nat_le, nat_lt, if◌then◌else◌, length, Option, Some, None, is_some, List, [], ◌∷◌, ◌++◌, refl, sym, ap, subst, ◌∙◌, arith, inl, inr, ◌⊎◌}
use Rattle.std.proofs.Math.Nat.{min-eq_left}
use Rattle.std.proofs.lemmas.Bool.{eqb-true, leb-false}
use Rattle.std.specs.Option.{is_none, option_map, option_map_or}
use Rattle.grpc_base.specs.Codes.{has_code}
use Rattle.grpc_base.specs.Requests.{RequestSeen}
use Rattle.grpc_base.specs.declared.event.EndCause.{EndCause}
use Rattle.grpc_base.specs.declared.event.EndCause.TheVariants as ends
use Rattle.grpc_base.specs.declared.event.Refusal.{Refusal}
use Rattle.grpc_base.specs.declared.fields.Field.{Field}
use Rattle.grpc_base.specs.declared.plan.CallPlan.{CallPlan}
use Rattle.grpc_base.specs.declared.plan.CallPlan.TheVariants as plans
use Rattle.grpc_base.specs.declared.plan.Chosen.{Chosen}
use Rattle.grpc_base.specs.declared.plan.HedgePolicy.{HedgePolicy}
use Rattle.attempt_ledger.specs.declared.ledger.Ledger.{Ledger}
use Rattle.attempt_ledger.specs.declared.news.EndNews.{EndNews}
use Rattle.attempt_ledger.specs.declared.news.News.{News}
use Rattle.attempt_ledger.specs.declared.news.News.TheVariants as news
use Rattle.attempt_ledger.specs.declared.row.Placed as row_placed
use Rattle.attempt_ledger.specs.declared.row.RowEnd.{RowEnd}
use Rattle.a6_numbers.specs.Throttling.{Bucket}
use Rattle.grpc_frame.specs.Messages.{framed}
use Rattle.hedge_core.specs.DueMoments.{forced_by, stops}
use Rattle.call_core.specs.declared.act.CallAct.{CallAct}
use Rattle.call_core.specs.declared.attempts.Attempts.{Attempts}
use Rattle.call_core.specs.declared.live.LiveRow.{LiveRow}
use Rattle.call_core.specs.Laws.{IsForbidden, IsMade, settled_by}
use Rattle.call_core.specs.Marks.{MarksAgree, Configured, Ended, Fits, Forbidden, IsOpen, Made, Mark, Placed, due_in, ended_mark, forced_in, has_stopped, made_in, marks_at, marks_configured, marks_due, marks_ended, marks_received, marks_placed, newest_in, placed_in}
use Rattle.call_core.specs.Numbering.{IsFresh, IsNumbered}
use Rattle.call_core.specs.Parts.{committed_buffer, count_of, find_live, furthest, has_none, is_above, is_followed, is_tested, is_too_long, judged, lasted_attempts, made_attempts, names, next_of_plan, pick_end, placed_attempts, pushed_over, row_end, stopped_attempts}
use Rattle.call_core.proofs.Finding.{found_place}
use Rattle.call_core.proofs.Making.{made_cases}
use Rattle.call_core.specs.Steps as step
use Rattle.call_core.specs.Steps.{Stepped, call_plan, deadline_at, full_with, is_committed_live, judged_of, left_live, next_due, send_refusal, settled, with_chosen, with_judged, with_message}

-- the due moment that the marks say is the one that the call keeps
none_first : (policy : HedgePolicy) (forced : Option ℕ) (full : Bool) → (if full then None else forced) ≡ (if full then None else option_map_or (λ f. Some f) forced None)
none_first policy forced true = refl
none_first policy None false = refl
none_first policy (Some f) false = refl

due_first : (policy : HedgePolicy) (sent : ℕ) (forced placed said : Option ℕ) (stopped first : Bool) → (first ≡ true → said ≡ None) → (first ≡ false → placed ≡ said) → (if first then (if stopped || nat_le policy.max sent then None else forced) else (if stopped || first || nat_le policy.max sent then None else option_map_or (λ f. Some f) forced (option_map (λ p. p + policy.delay) placed))) ≡ (if stopped || nat_le policy.max sent then None else option_map_or (λ f. Some f) forced (option_map (λ p. p + policy.delay) said))
due_first policy sent forced placed said stopped true none same =
    none_first policy forced (stopped || nat_le policy.max sent)
    ∙ ap (λ (o : Option ℕ). if stopped || nat_le policy.max sent then None else option_map_or (λ f. Some f) forced (option_map (λ p. p + policy.delay) o)) (sym (none refl))
due_first policy sent forced placed said true false none same = refl
due_first policy sent forced placed said false false none same =
    ap (λ (o : Option ℕ). if nat_le policy.max sent then None else option_map_or (λ f. Some f) forced (option_map (λ p. p + policy.delay) o)) (same refl)

none_placed : (marks : List Mark) → made_in marks ≡ 0 → newest_in marks ≡ None
none_placed [] e = refl
none_placed (Configured moment ∷ marks) e = refl
none_placed (Made place ∷ marks) e = absurd (let no : ⊥ = omega (arith, e) in no)
none_placed (Placed place moment ∷ marks) e = none_placed marks e
none_placed (Ended end above ∷ marks) e = none_placed marks e
none_placed (Forbidden ∷ marks) e = none_placed marks e

not_placed : (marks : List Mark) → made_in marks ≡ 0 → placed_in marks ≡ None
not_placed [] e = refl
not_placed (Configured moment ∷ marks) e = refl
not_placed (Made place ∷ marks) e = refl
not_placed (Placed place moment ∷ marks) e =
    ap (λ (o : Option ℕ). if names place o then Some moment else placed_in marks) (none_placed marks e) ∙ not_placed marks e
not_placed (Ended end above ∷ marks) e = not_placed marks e
not_placed (Forbidden ∷ marks) e = not_placed marks e

some_made : (n : ℕ) (b : Bool) → (n == 0) ≡ b → b ≡ false → 1 ≤ n
some_made zero true e f = absurd (cc)
some_made zero false e f = absurd (cc)
some_made (suc n) b e f = let some : 1 ≤ suc n = omega (arith) in some

due_fits : (policy : HedgePolicy) (marks : List Mark) (a : Attempts) → Fits policy marks a → next_of_plan (plans.Hedge policy) a ≡ due_in policy marks
due_fits policy marks a fits =
    let first : Bool = made_in marks == 0 in
    let due : Option ℕ → Bool → ℕ → Option ℕ → Option ℕ =
    λ forced stopped sent placed. if sent == 0 then (if stopped || nat_le policy.max sent then None else forced) else (if stopped || (sent == 0) || nat_le policy.max sent then None else option_map_or (λ f. Some f) forced (option_map (λ p. p + policy.delay) placed)) in
    ap (λ (o : Option ℕ). due o a.stopped a.sent a.placed) fits.forced
    ∙ ap (λ (b : Bool). due (forced_in policy marks) b a.sent a.placed) fits.stopped
    ∙ ap (λ (n : ℕ). due (forced_in policy marks) (has_stopped policy marks) n a.placed) fits.sent
    ∙ due_first policy (made_in marks) (forced_in policy marks) a.placed (placed_in marks) (has_stopped policy marks) first (λ e. not_placed marks (eqb-true (made_in marks) 0 e)) (λ e. fits.placed (some_made (made_in marks) first refl e))

pub due_as_marked : (policy : HedgePolicy) (marks : List Mark) (s : Stepped) → IsOpen s.call → call_plan s.call ≡ plans.Hedge policy → MarksAgree policy marks s → next_due s.call ≡ due_in policy marks
due_as_marked policy marks s is_open plan old =
    ap (λ (p : CallPlan). next_of_plan p s.call.attempts) plan ∙ due_fits policy marks s.call.attempts (old is_open plan)

-- a step that leaves the attempts of an open call, or ends it
record Stays (s t : Stepped) : Type 0 where
  is_open : IsOpen t.call → IsOpen s.call
  plan : IsOpen t.call → call_plan t.call ≡ call_plan s.call
  attempts : IsOpen t.call → t.call.attempts ≡ s.call.attempts

stay : (policy : HedgePolicy) (marks : List Mark) (s t : Stepped) → Stays s t → MarksAgree policy marks s → MarksAgree policy marks t
stay policy marks s t stays old is_open plan =
    subst (λ (a : Attempts). Fits policy marks a) (sym (stays.attempts is_open)) (old (stays.is_open is_open) (sym (stays.plan is_open) ∙ plan))

same : (s : Stepped) → Stays s s
same s = record { is_open = λ o. o; plan = λ o. refl; attempts = λ o. refl }

closed : (why : EndCause) (moment : ℕ) (s : Stepped) → IsOpen (step.ended_as why moment s).call → ⊥
closed why moment s o = let bad : Some why ≡ None = o.going in (cc)

committed : (place moment : ℕ) (s : Stepped) → IsOpen (step.committed place moment s).call → ⊥
committed place moment s o = let bad : Some place ≡ None = o.free in (cc)

ended_stays : (why : EndCause) (moment : ℕ) (s t : Stepped) → Stays s (step.ended_as why moment t)
ended_stays why moment s t = record {
  is_open = λ o. absurd (closed why moment t o);
  plan = λ o. absurd (closed why moment t o);
  attempts = λ o. absurd (closed why moment t o);
}

committed_stays : (place moment : ℕ) (s t : Stepped) → Stays s (step.committed place moment t)
committed_stays place moment s t = record {
  is_open = λ o. absurd (committed place moment t o);
  plan = λ o. absurd (committed place moment t o);
  attempts = λ o. absurd (committed place moment t o);
}

stays_if : (b : Bool) (s x y : Stepped) → Stays s x → Stays s y → Stays s (if b then x else y)
stays_if true s x y first second = first
stays_if false s x y first second = second

stays_end_if : (b : Bool) (why : EndCause) (moment : ℕ) (s : Stepped) → Stays s (step.ended_if b why moment s)
stays_end_if b why moment s = stays_if b s (step.ended_as why moment s) s (ended_stays why moment s s) (same s)

-- the ends by the channel
closed_stays : (why : EndCause) (moment : ℕ) (s : Stepped) → Stays s (step.closed_by why moment s)
closed_stays why moment s = stays_end_if (not (is_some s.call.ended)) why moment s

timed_stays : (deadline : Option ℕ) (moment : ℕ) (s : Stepped) → Stays s (step.timed_out_if deadline moment s)
timed_stays None moment s = same s
timed_stays (Some deadline) moment s = stays_if (nat_le deadline moment) s (step.closed_by ends.Deadline moment s) s (closed_stays ends.Deadline moment s) (same s)

-- a message that is sent
with_message_stays : (message : List ℕ) (row : Option ℕ) (s : Stepped) → Stays s (record s { call = with_message message row s.call })
with_message_stays message row s = record {
  is_open = λ o. record { configured = o.configured; free = o.free; going = o.going };
  plan = λ o. refl;
  attempts = λ o. refl;
}

over_stays : (over : Bool) (row : Option ℕ) (moment : ℕ) (s t : Stepped) → Stays s t → Stays s (step.committed_over over row moment t)
over_stays over None moment s t h = h
over_stays over (Some row) moment s t h = stays_if over s (step.committed row moment t) t (committed_stays row moment s t) h

accepted_stays : (full : Option ℕ) (message : List ℕ) (moment : ℕ) (s : Stepped) → Stays s (step.accepted_if full message moment s)
accepted_stays (Some held) message moment s = same s
accepted_stays None message moment s =
    let row : Option ℕ = furthest s.call.buffer s.call.live in
    over_stays (pushed_over s.call.buffer (framed message) row) row moment s (record s { call = with_message message row s.call }) (with_message_stays message row s)

sent_stays_if : (refusal : Option Refusal) (message : List ℕ) (moment : ℕ) (s : Stepped) → Stays s (step.sent_if refusal message moment s)
sent_stays_if (Some refusal) message moment s = same s
sent_stays_if None message moment s =
    stays_if (is_too_long s.call.chosen (length message)) s (step.ended_as ends.Request moment s) (step.accepted_if (full_with (length message) s.call) message moment s)
    (ended_stays ends.Request moment s s) (accepted_stays (full_with (length message) s.call) message moment s)

-- a head and a message that come
with_head_stays : (meta : List Field) (s t : Stepped) → Stays s t → Stays s (step.with_head meta t)
with_head_stays meta s t h = record {
  is_open = λ o. h.is_open (record { configured = o.configured; free = o.free; going = o.going });
  plan = λ o. h.plan (record { configured = o.configured; free = o.free; going = o.going });
  attempts = λ o. h.attempts (record { configured = o.configured; free = o.free; going = o.going });
}

head_stays : (row : ℕ) (meta : List Field) (moment : ℕ) (s : Stepped) → Stays s (step.received_head row meta moment s)
head_stays row meta moment s =
    let b : Stepped = record s { call = record s.call { buffer = committed_buffer row s.call.buffer } } in
    let t : Stepped = step.commit_by_head row moment s in
    stays_if (is_some (find_live row s.call.live)) s (step.with_head meta t) s
    (with_head_stays meta s t (stays_if (is_some s.call.attempts.committed) s s (step.committed row moment b) (same s) (committed_stays row moment s b)))
    (same s)

message_stays : (octets : List ℕ) (s : Stepped) (b : Bool) → Stays s (record s { call = (if b then record s.call { inbox = record s.call.inbox { messages = s.call.inbox.messages ++ octets ∷ [] } } else s.call) })
message_stays octets s true = record {
  is_open = λ o. record { configured = o.configured; free = o.free; going = o.going };
  plan = λ o. refl;
  attempts = λ o. refl;
}
message_stays octets s false = record {
  is_open = λ o. record { configured = o.configured; free = o.free; going = o.going };
  plan = λ o. refl;
  attempts = λ o. refl;
}

pub marked_closed : (policy : HedgePolicy) (marks : List Mark) (why : EndCause) (moment : ℕ) (s : Stepped) → MarksAgree policy marks s → MarksAgree policy marks (step.closed_by why moment s)
marked_closed policy marks why moment s = stay policy marks s (step.closed_by why moment s) (closed_stays why moment s)

pub marked_timed : (policy : HedgePolicy) (marks : List Mark) (moment : ℕ) (s : Stepped) → MarksAgree policy marks s → MarksAgree policy marks (step.timed_out moment s)
marked_timed policy marks moment s = stay policy marks s (step.timed_out moment s) (timed_stays (deadline_at s.call) moment s)

pub marked_sent : (policy : HedgePolicy) (marks : List Mark) (message : List ℕ) (moment : ℕ) (s : Stepped) → MarksAgree policy marks s → MarksAgree policy marks (step.sent message moment s)
marked_sent policy marks message moment s = stay policy marks s (step.sent message moment s) (sent_stays_if (send_refusal s.call) message moment s)

-- the configuration
first_fits : (policy : HedgePolicy) (marks : List Mark) (a : Attempts) (moment : ℕ) → a.sent ≡ 0 → Fits policy (Configured moment ∷ marks) (record a { forced = Some moment; stopped = false })
first_fits policy marks a moment none = record {
  sent = none;
  forced = refl;
  stopped = refl;
  newest = λ e. absurd (let no : ⊥ = omega (arith, e) in no);
  placed = λ e. absurd (let no : ⊥ = omega (arith, e) in no);
}

configured_end : (policy : HedgePolicy) (marks : List Mark) (moment : ℕ) (s : Stepped) (long : Bool) → Fits policy marks s.call.attempts → MarksAgree policy marks (step.ended_if long ends.Request moment s)
configured_end policy marks moment s true fits is_open plan = absurd (closed ends.Request moment s is_open)
configured_end policy marks moment s false fits is_open plan = fits

configured_by : (policy : HedgePolicy) (marks : List Mark) (chosen : Chosen) (moment : ℕ) (s : Stepped) (ended : Option EndCause) (before : Option Chosen) → s.call.ended ≡ ended → s.call.chosen ≡ before → (before ≡ None → s.call.attempts.sent ≡ 0) → MarksAgree policy marks s → MarksAgree policy (if is_some before then marks else Configured moment ∷ marks) (if is_some ended || is_some before then s else step.ended_if (is_too_long (Some chosen) s.call.longest) ends.Request moment (with_chosen chosen moment s))
configured_by policy marks chosen moment s (Some why) (Some old) e f none h = h
configured_by policy marks chosen moment s None (Some old) e f none h = h
configured_by policy marks chosen moment s (Some why) None e f none h =
    λ o plan. absurd (let bad : Some why ≡ None = sym e ∙ o.going in cc)
configured_by policy marks chosen moment s None None e f none h =
    configured_end policy (Configured moment ∷ marks) moment (with_chosen chosen moment s) (is_too_long (Some chosen) s.call.longest) (first_fits policy marks s.call.attempts moment (none refl))

pub marked_configured : (policy : HedgePolicy) (marks : List Mark) (chosen : Chosen) (moment : ℕ) (s : Stepped) → IsNumbered s → MarksAgree policy marks s → MarksAgree policy (marks_configured moment s.call marks) (step.configured chosen moment s)
marked_configured policy marks chosen moment s numbered h =
    configured_by policy marks chosen moment s s.call.ended s.call.chosen refl refl (λ e. let fresh : IsFresh s.call.attempts = numbered.fresh e in fresh.none) h

placed_fits : (policy : HedgePolicy) (marks : List Mark) (a : Attempts) (place moment : ℕ) → Fits policy marks a → Fits policy (Placed place moment ∷ marks) (placed_attempts place moment a)
placed_fits policy marks a place moment old = record {
  sent = old.sent;
  forced = old.forced;
  stopped = old.stopped;
  newest = old.newest;
  placed = λ some.
      ap (λ (o : Option ℕ). if names place o then Some moment else a.placed) (old.newest some)
      ∙ ap (λ (o : Option ℕ). if names place (newest_in marks) then Some moment else o) (old.placed some);
}

placed_link : (policy : HedgePolicy) (marks : List Mark) (place : ℕ) (row : LiveRow) (at : row_placed.Placed) (s : Stepped) (link : Option ℕ) → row.place ≡ place → MarksAgree policy marks s → MarksAgree policy (if is_none link then Placed place at.moment ∷ marks else marks) (if is_some link then s else step.placed_row_live row at s)
placed_link policy marks place row at s (Some l) here old = old
placed_link policy marks place row at s None here old =
    λ o plan.
    let before : Fits policy marks s.call.attempts = old (record { configured = o.configured; free = o.free; going = o.going }) plan in
    subst (λ (k : ℕ). Fits policy (Placed k at.moment ∷ marks) (placed_attempts row.place at.moment s.call.attempts)) here (placed_fits policy marks s.call.attempts row.place at.moment before)

placed_found : (policy : HedgePolicy) (marks : List Mark) (place : ℕ) (found : Option LiveRow) (at : row_placed.Placed) (s : Stepped) → ((row : LiveRow) → found ≡ Some row → row.place ≡ place) → MarksAgree policy marks s → MarksAgree policy (if option_map_or (λ row. is_none row.link) found false then Placed place at.moment ∷ marks else marks) (step.placed_if_live found at s)
placed_found policy marks place None at s here old = old
placed_found policy marks place (Some row) at s here old = placed_link policy marks place row at s row.link (here row refl) old

pub marked_placed : (policy : HedgePolicy) (marks : List Mark) (place : ℕ) (at : row_placed.Placed) (s : Stepped) → MarksAgree policy marks s → MarksAgree policy (marks_placed place at.moment s.call marks) (step.placed_at place at s)
marked_placed policy marks place at s old =
    placed_found policy marks place (find_live place s.call.live) at s (λ row e. found_place place s.call.live row e) old

-- an end
free_before : (b : Bool) (follower : ℕ) (c : Option ℕ) → (if b then Some follower else c) ≡ None → c ≡ None
free_before true follower c e = absurd (cc)
free_before false follower c e = e

followed_marks : (policy : HedgePolicy) (marks : List Mark) (row : LiveRow) (reported : EndNews) (moment : ℕ) (s : Stepped) → MarksAgree policy marks s → MarksAgree policy marks (step.followed row reported moment (left_live row.place s))
followed_marks policy marks row reported moment s old =
    λ o plan.
    let free : s.call.attempts.committed ≡ None = free_before (names row.place s.call.attempts.committed) (step.next_place (step.row_ended row.place (row_end reported s.ledger.entry moment (count_of s.tokens)) (left_live row.place s)).ledger) s.call.attempts.committed o.free in
    let before : Fits policy marks s.call.attempts = old (record { configured = o.configured; free = free; going = o.going }) plan in
    record { sent = before.sent; forced = before.forced; stopped = before.stopped; newest = before.newest; placed = before.placed }

judged_fits : (policy : HedgePolicy) (marks : List Mark) (a : Attempts) (place number : ℕ) (alone : Bool) (end : RowEnd) (above : Bool) (word : ℕ) → Fits policy marks a → Fits policy (Ended end above ∷ marks) (lasted_attempts place (judged (plans.Hedge policy) a number alone end above word).attempts)
judged_fits policy marks a place number alone end above word old = record {
  sent = old.sent;
  forced = ap (λ (o : Option ℕ). if has_code policy.codes end.code then Some (forced_by end) else o) old.forced;
  stopped = ap (λ (b : Bool). b || stops policy end above) old.stopped;
  newest = old.newest;
  placed = old.placed;
}

judged_marks : (policy : HedgePolicy) (marks : List Mark) (row : LiveRow) (end : RowEnd) (word : ℕ) (s : Stepped) → s.call.attempts.committed ≡ None → MarksAgree policy marks s → MarksAgree policy (Ended end (is_above s.tokens) ∷ marks) (with_judged row end (judged_of row end word s.call s.tokens) s)
judged_marks policy marks row end word s free old =
    λ o plan.
    let before : Fits policy marks s.call.attempts = old (record { configured = o.configured; free = free; going = o.going }) plan in
    subst (λ (p : CallPlan). Fits policy (Ended end (is_above s.tokens) ∷ marks) (lasted_attempts row.place (judged p s.call.attempts row.number (has_none s.call.live) end (is_above s.tokens) word).attempts)) (sym plan)
    (judged_fits policy marks s.call.attempts row.place row.number (has_none s.call.live) end (is_above s.tokens) word before)

closed_marks : (policy : HedgePolicy) (marks : List Mark) (closes : Bool) (place moment : ℕ) (s : Stepped) → MarksAgree policy marks s → MarksAgree policy marks (step.closed_if closes place moment s)
closed_marks policy marks true place moment s old = λ o plan. absurd (closed ends.Row moment (step.committed place moment s) o)
closed_marks policy marks false place moment s old = old

counted_marks : (policy : HedgePolicy) (marks : List Mark) (row : LiveRow) (end : RowEnd) (moment word : ℕ) (s : Stepped) (c : Option ℕ) → s.call.attempts.committed ≡ c → MarksAgree policy marks s → MarksAgree policy (Ended end (is_above s.tokens) ∷ marks) (if is_some c then step.ended_as ends.Row moment (step.row_ended row.place end s) else step.counted_free row end moment word s)
counted_marks policy marks row end moment word s (Some p) e old = λ o plan. absurd (closed ends.Row moment (step.row_ended row.place end s) o)
counted_marks policy marks row end moment word s None e old =
    closed_marks policy (Ended end (is_above s.tokens) ∷ marks) (judged_of row end word s.call s.tokens).closes row.place moment (with_judged row end (judged_of row end word s.call s.tokens) s)
    (judged_marks policy marks row end word s e old)

settled_marks : (policy : HedgePolicy) (marks : List Mark) (row : LiveRow) (reported : EndNews) (s : Stepped) → MarksAgree policy marks s → MarksAgree policy marks (settled reported (left_live row.place s))
settled_marks policy marks row reported s old = λ o plan. old (record { configured = o.configured; free = o.free; going = o.going }) plan

live_marks : (policy : HedgePolicy) (marks : List Mark) (row : LiveRow) (reported : EndNews) (moment word : ℕ) (s : Stepped) (b : Bool) → MarksAgree policy marks s → MarksAgree policy (if not b then ended_mark reported moment (settled_by reported s.call s.tokens) s.ledger.entry ∷ marks else marks) (if b then step.followed row reported moment (left_live row.place s) else step.counted row reported moment word (settled reported (left_live row.place s)))
live_marks policy marks row reported moment word s true old = followed_marks policy marks row reported moment s old
live_marks policy marks row reported moment word s false old =
    let t : Stepped = settled reported (left_live row.place s) in
    counted_marks policy marks row (row_end reported s.ledger.entry moment (count_of (settled_by reported s.call s.tokens))) moment word t s.call.attempts.committed refl (settled_marks policy marks row reported s old)

found_marks : (policy : HedgePolicy) (marks : List Mark) (found : Option LiveRow) (reported : EndNews) (moment word : ℕ) (s : Stepped) → MarksAgree policy marks s → MarksAgree policy (if is_some found && not (is_followed s.call.attempts reported.cause reported.unseen) then ended_mark reported moment (settled_by reported s.call s.tokens) s.ledger.entry ∷ marks else marks) (step.ended_if_live found reported moment word s)
found_marks policy marks None reported moment word s old = old
found_marks policy marks (Some row) reported moment word s old = live_marks policy marks row reported moment word s (is_followed s.call.attempts reported.cause reported.unseen) old

pub marked_ended : (policy : HedgePolicy) (marks : List Mark) (place : ℕ) (reported : EndNews) (moment word : ℕ) (s : Stepped) → MarksAgree policy marks s → MarksAgree policy (marks_ended place reported moment s marks) (step.ended_at place reported moment word s)
marked_ended policy marks place reported moment word s old = found_marks policy marks (find_live place s.call.live) reported moment word s old

pub marked_failed : (policy : HedgePolicy) (marks : List Mark) (place moment word : ℕ) (s : Stepped) → MarksAgree policy marks s → MarksAgree policy (marks_ended place pick_end moment s marks) (step.pick_failed place moment word s)
marked_failed policy marks place moment word s old = marked_ended policy marks place pick_end moment word s old

pub marked_received : (policy : HedgePolicy) (marks : List Mark) (place : ℕ) (reported : News) (moment word : ℕ) (s : Stepped) → MarksAgree policy marks s → MarksAgree policy (marks_received place reported moment s marks) (step.received_news place reported moment word s)
marked_received policy marks place (news.Head tag meta seen) moment word s old = stay policy marks s (step.received_head place meta moment s) (head_stays place meta moment s) old
marked_received policy marks place (news.Message tag octets seen) moment word s old =
    stay policy marks s (record s { call = step.received_message place octets s.call }) (message_stays octets s (is_committed_live place s.call)) old
marked_received policy marks place (news.TooLarge tag seen) moment word s old =
    stay policy marks s (step.received_too_large place moment s) (stays_end_if (is_committed_live place s.call) ends.Response moment s) old
marked_received policy marks place (news.Ended tag end) moment word s old = marked_ended policy marks place end moment word s old
marked_received policy marks place news.Ready moment word s old = old
marked_received policy marks place news.Retiring moment word s old = old
marked_received policy marks place (news.Broken code) moment word s old = old

-- an attempt that is due
stopped_marks : (policy : HedgePolicy) (marks : List Mark) (s : Stepped) → MarksAgree policy marks s → MarksAgree policy (Forbidden ∷ marks) (step.with_attempts (stopped_attempts s.call.attempts) s)
stopped_marks policy marks s old =
    λ o plan.
    let before : Fits policy marks s.call.attempts = old (record { configured = o.configured; free = o.free; going = o.going }) plan in
    record { sent = before.sent; forced = before.forced; stopped = refl; newest = before.newest; placed = before.placed }

last_marks : (policy : HedgePolicy) (marks : List Mark) (last : Option ℕ) (moment : ℕ) (s : Stepped) → MarksAgree policy marks s → MarksAgree policy marks (step.ended_by_last last moment s)
last_marks policy marks None moment s old = old
last_marks policy marks (Some last) moment s old = closed_marks policy marks (has_none s.call.live) last moment s old

made_fits : (policy : HedgePolicy) (marks : List Mark) (a : Attempts) (place : ℕ) → a.sent + 1 ≤ 4294967295 → Fits policy marks a → Fits policy (Made place ∷ marks) (made_attempts place a)
made_fits policy marks a place small old = record {
  sent = min-eq_left small ∙ ap (λ (n : ℕ). n + 1) old.sent;
  forced = refl;
  stopped = old.stopped;
  newest = λ some. refl;
  placed = λ some. refl;
}

made_marks : (policy : HedgePolicy) (marks : List Mark) (due : ℕ) (s : Stepped) → s.call.attempts.sent + 1 ≤ 4294967295 → MarksAgree policy marks s → MarksAgree policy (Made (length s.ledger.rows + 1) ∷ marks) (step.made due s)
made_marks policy marks due s small old =
    λ o plan.
    made_fits policy marks s.call.attempts (length s.ledger.rows + 1) small (old (record { configured = o.configured; free = o.free; going = o.going }) plan)

tested_marks : (policy : HedgePolicy) (marks : List Mark) (moment due : ℕ) (s : Stepped) (forbidden : Bool) → s.call.attempts.sent + 1 ≤ 4294967295 → MarksAgree policy marks s → MarksAgree policy (if forbidden then Forbidden ∷ marks else Made (length s.ledger.rows + 1) ∷ marks) (if forbidden then step.refused_due moment s else step.made due s)
tested_marks policy marks moment due s true small old =
    last_marks policy (Forbidden ∷ marks) s.call.attempts.last moment (step.with_attempts (stopped_attempts s.call.attempts) s) (stopped_marks policy marks s old)
tested_marks policy marks moment due s false small old = made_marks policy marks due s small old

due_marks : (policy : HedgePolicy) (marks : List Mark) (moment due : ℕ) (s : Stepped) (early : Bool) → call_plan s.call ≡ plans.Hedge policy → s.call.attempts.sent ≡ made_in marks → s.call.attempts.sent + 1 ≤ 4294967295 → MarksAgree policy marks s → MarksAgree policy (if early then marks else if not (made_in marks == 0) && not (is_above s.tokens) then Forbidden ∷ marks else Made (length s.ledger.rows + 1) ∷ marks) (if early then s else step.due_at moment due s)
due_marks policy marks moment due s true plan sent small old = old
due_marks policy marks moment due s false plan sent small old =
    let tests : is_tested (call_plan s.call) s.call.attempts ≡ not (made_in marks == 0) = ap (λ (p : CallPlan). is_tested p s.call.attempts) plan ∙ ap (λ (n : ℕ). not (n == 0)) sent in
    subst (λ (b : Bool). MarksAgree policy (if b && not (is_above s.tokens) then Forbidden ∷ marks else Made (length s.ledger.rows + 1) ∷ marks) (step.due_at moment due s)) tests
    (tested_marks policy marks moment due s (is_tested (call_plan s.call) s.call.attempts && not (is_above s.tokens)) small old)

below_most : (stopped full : Bool) (most sent due : ℕ) (o : Option ℕ) → nat_le most sent ≡ full → (if stopped || full then None else o) ≡ Some due → sent < most
below_most true full most sent due o e f = absurd (cc)
below_most false true most sent due o e f = absurd (cc)
below_most false false most sent due o e f = leb-false most sent e

at_marks : (policy : HedgePolicy) (marks : List Mark) (moment : ℕ) (s : Stepped) (due : Option ℕ) → due_in policy marks ≡ due → policy.max ≤ 4294967295 → call_plan s.call ≡ plans.Hedge policy → s.call.attempts.sent ≡ made_in marks → MarksAgree policy marks s → MarksAgree policy (marks_at due moment s marks) (step.made_if due moment s)
at_marks policy marks moment s None e limit plan sent old = old
at_marks policy marks moment s (Some due) e limit plan sent old =
    let below : made_in marks < policy.max = below_most (has_stopped policy marks) (nat_le policy.max (made_in marks)) policy.max (made_in marks) due (option_map_or (λ f. Some f) (forced_in policy marks) (option_map (λ p. p + policy.delay) (placed_in marks))) refl e in
    let small : s.call.attempts.sent + 1 ≤ 4294967295 = omega (arith, below, limit, sent) in
    due_marks policy marks moment due s (nat_lt moment due) plan sent small old

-- a making leaves the call open or not, as it was, or ends it
record Opens (s t : Stepped) : Type 0 where
  is_open : IsOpen t.call → IsOpen s.call
  plan : IsOpen t.call → call_plan t.call ≡ call_plan s.call

opens_closed : (closes : Bool) (place moment : ℕ) (s t : Stepped) → Opens s t → Opens s (if closes then step.ended_by_row place moment t else t)
opens_closed true place moment s t h = record {
  is_open = λ o. absurd (closed ends.Row moment (step.committed place moment t) o);
  plan = λ o. absurd (closed ends.Row moment (step.committed place moment t) o);
}
opens_closed false place moment s t h = h

opens_last : (last : Option ℕ) (moment : ℕ) (s t : Stepped) → Opens s t → Opens s (step.ended_by_last last moment t)
opens_last None moment s t h = h
opens_last (Some last) moment s t h = opens_closed (has_none t.call.live) last moment s t h

opens_tested : (moment due : ℕ) (s : Stepped) (forbidden : Bool) → Opens s (if forbidden then step.refused_due moment s else step.made due s)
opens_tested moment due s true =
    opens_last s.call.attempts.last moment s (step.with_attempts (stopped_attempts s.call.attempts) s)
    (record { is_open = λ o. record { configured = o.configured; free = o.free; going = o.going }; plan = λ o. refl })
opens_tested moment due s false = record { is_open = λ o. record { configured = o.configured; free = o.free; going = o.going }; plan = λ o. refl }

opens_early : (moment due : ℕ) (s : Stepped) (early : Bool) → Opens s (if early then s else step.due_at moment due s)
opens_early moment due s true = record { is_open = λ o. o; plan = λ o. refl }
opens_early moment due s false = opens_tested moment due s (is_tested (call_plan s.call) s.call.attempts && not (is_above s.tokens))

opens_made : (due : Option ℕ) (moment : ℕ) (s : Stepped) → Opens s (step.made_if due moment s)
opens_made None moment s = record { is_open = λ o. o; plan = λ o. refl }
opens_made (Some due) moment s = opens_early moment due s (nat_lt moment due)

pub marked_due : (policy : HedgePolicy) (marks : List Mark) (moment : ℕ) (s : Stepped) → policy.max ≤ 4294967295 → MarksAgree policy marks s → MarksAgree policy (marks_due policy moment s marks) (step.made_due moment s)
marked_due policy marks moment s limit old =
    λ o plan.
    let opens : Opens s (step.made_due moment s) = opens_made (next_due s.call) moment s in
    let before : IsOpen s.call = opens.is_open o in
    let same_plan : call_plan s.call ≡ plans.Hedge policy = sym (opens.plan o) ∙ plan in
    let fits : Fits policy marks s.call.attempts = old before same_plan in
    let due : next_due s.call ≡ due_in policy marks = due_as_marked policy marks s before same_plan old in
    subst (λ (d : Option ℕ). MarksAgree policy (marks_due policy moment s marks) (step.made_if d moment s)) (sym due)
    (at_marks policy marks moment s (due_in policy marks) refl limit same_plan fits.sent old) o plan

-- an attempt that is due by the marks is made, unless the tokens forbid it; and none that is not
pub due_is_made : (policy : HedgePolicy) (marks : List Mark) (moment due : ℕ) (s : Stepped) → IsOpen s.call → call_plan s.call ≡ plans.Hedge policy → MarksAgree policy marks s → due_in policy marks ≡ Some due → due ≤ moment → IsForbidden moment s (step.made_due moment s) ⊎ IsMade moment s (step.made_due moment s)
due_is_made policy marks moment due s is_open plan old e passed =
    let is_due : next_due s.call ≡ Some due = due_as_marked policy marks s is_open plan old ∙ e in
    elim (made_cases moment s) [
      | inl none ↦ absurd (let early : moment < due = none.1 due is_due in let no : ⊥ = omega (arith, early, passed) in no)
      | inr some ↦ some
    ]

pub made_is_due : (policy : HedgePolicy) (marks : List Mark) (moment : ℕ) (s : Stepped) → IsOpen s.call → call_plan s.call ≡ plans.Hedge policy → MarksAgree policy marks s → (made : IsMade moment s (step.made_due moment s)) → due_in policy marks ≡ Some made.row.due
made_is_due policy marks moment s is_open plan old made = sym (due_as_marked policy marks s is_open plan old) ∙ made.is_due

pub marked_begun : (policy : HedgePolicy) (number : ℕ) (request : RequestSeen) (begun : ℕ) (ledger : Ledger) (tokens : Option Bucket) (acts : List CallAct) → MarksAgree policy [] (step.lent (step.new_call number request begun) ledger tokens acts)
marked_begun policy number request begun ledger tokens acts = λ o plan. absurd (let bad : false ≡ true = o.configured in cc)

pub marked_elsewhere : (policy : HedgePolicy) (marks : List Mark) (s : Stepped) (ledger : Ledger) (tokens : Option Bucket) → MarksAgree policy marks s → MarksAgree policy marks (record s { ledger = ledger; tokens = tokens })
marked_elsewhere policy marks s ledger tokens old = old
