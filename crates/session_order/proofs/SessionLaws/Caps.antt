-- A call has at most as many attempts as its configuration allows, and none before it has one.
use Rattle.std.proofs.Common.{◌≡◌, ◌+◌, ◌<◌, ◌≤◌, ◌∷◌, ◌++◌, ◌||◌, ◌&&◌, ◌==◌, ◌⊎◌, inl, inr, ap, arith, refl, subst, sym, ◌∙◌, Bool, true, false, List, [], Option, None, Some, ℕ, zero, suc, not, length, map, slice_get, Ok, Err, Result, if◌then◌else◌, nat_le, is_some, option_and_then}
use Rattle.std.proofs.lemmas.Bool.{eqb-false, eqb-true, leb-false, or_parts}
use Rattle.std.specs.List.{count_by, fold, list_any}
use Rattle.std.specs.Option.{option_map, option_map_or, option_or}
use Rattle.attempt_ledger.specs.Numbering.{is_transparent, most_attempts}
use Rattle.attempt_ledger.specs.Throttling.{codes_of}
use Rattle.grpc_base.specs.Codes.{has_code}
use Rattle.attempt_ledger.specs.declared.row.RowKind.TheVariants as kind
use Rattle.attempt_ledger.specs.declared.row.RowEnd.{RowEnd}
use Rattle.attempt_ledger.specs.declared.row.RowKind.{RowKind}
use Rattle.grpc_base.specs.Requests.{RequestSeen}
use Rattle.grpc_base.specs.declared.event.ConfigFault.{ConfigFault}
use Rattle.grpc_base.specs.declared.event.Event.{Event}
use Rattle.grpc_base.specs.declared.plan.Throttle.{Throttle}
use Rattle.service_config.specs.Choice.{chosen_for}
use Rattle.service_config.specs.declared.config.Config.{Config}
use Rattle.session_actions.specs.Actions.{after, after_if}
use Rattle.session_actions.specs.Attempts.{counts_by}
use Rattle.session_actions.specs.Configs.{config_read, held_config, no_choice, plan_of, resolver_answered, run_to_join, with_config, with_held, with_throttled}
use Rattle.session_actions.specs.Deliveries.{begun_call, call_begun_by}
use Rattle.session_actions.specs.DueAttempts.{attempts_made, due_after_end, due_after_making, due_after_mark, due_by_plan, due_state, hedge_due, next_due, no_due}
use Rattle.session_actions.specs.Entries.{entry, now, replied}
use Rattle.session_actions.specs.Making.{attempt_made, new_row, with_row}
use Rattle.session_actions.specs.Sessions.{Does, new_session}
use Rattle.session_actions.specs.Words.{changed, is_number, numbered}
use Rattle.session_actions.specs.declared.action.Action.{Action}
use Rattle.session_actions.specs.declared.attempt.Attempt.{Attempt}
use Rattle.session_actions.specs.declared.call.Call.{Call}
use Rattle.session_actions.specs.declared.call.Mark.{Mark}
use Rattle.session_actions.specs.declared.call.MarkKind.{MarkKind}
use Rattle.session_actions.specs.declared.config.HeldConfig.{HeldConfig}
use Rattle.session_actions.specs.declared.due.DueState.{DueState}
use Rattle.session_actions.specs.declared.entry.OpenEntry.{OpenEntry}
use Rattle.session_actions.specs.declared.seen.Seen.{Seen}
use Rattle.session_actions.specs.declared.seen.Setup.{Setup}
use Rattle.session_order.proofs.Changed.{changed_away, changed_map}
use Rattle.session_order.proofs.Places.{actions_keep_places, sessions_are_in_place}
use Rattle.session_order.specs.Order.{IsInPlace}
use Rattle.session_order.proofs.SessionLaws.Lines.{Asks, IsConfigurable, IsDueBy, IsRetried, next_asks}
use Rattle.session_order.proofs.SessionLaws.Lists.{count_map, count_more, kept, map_more, one_if}
use Rattle.session_order.proofs.SessionLaws.Same.{CallKey, RowKey, Same, call_key, is_configuration, is_configured_by, made_keeps, row_key, same_if, same_self}
use Rattle.session_order.specs.SessionLaws.Attempts.{AttemptsAreCapped, AttemptsNeedConfigs}
use Rattle.session_actions.specs.declared.action.Action.TheVariants as action
use Rattle.grpc_base.specs.declared.event.Event.TheVariants as event
use Rattle.session_actions.specs.declared.call.MarkKind.TheVariants as mark
use Rattle.grpc_base.specs.declared.event.Reply.TheVariants as reply

-- a further attempt of a call, by its key
abbrev pub is_turn : ℕ → RowKey → Bool
is_turn call q = (q.0 == call) && not (is_transparent q.1.1)

abbrev pub turns : ℕ → List RowKey → ℕ
turns call rows = count_by (is_turn call) rows

pub turns_made : (c : Call) (s : Seen) → attempts_made c s ≡ turns c.number (map row_key s.attempts)
turns_made c s = count_map (is_turn c.number) row_key s.attempts

-- the most attempts of a call, by its key: none before it has a configuration
abbrev most_by : List HeldConfig → RequestSeen → ℕ → ℕ
most_by configs request n =
    most_attempts (option_map_or (λ (h : HeldConfig). chosen_for h.config request.path) (numbered configs n) no_choice).plan

abbrev limit_by : List HeldConfig → RequestSeen → Option ℕ → ℕ
limit_by configs request None = 0
limit_by configs request (Some n) = most_by configs request n

abbrev limit : List HeldConfig → Option CallKey → ℕ
limit configs None = 0
limit configs (Some q) = limit_by configs q.0 q.1.0

-- a call without a config has no mark of one; with one, it is there
abbrev IsReportedBy : List HeldConfig → Option ℕ → Bool → Type 0
IsReportedBy configs None marked = marked ≡ false
IsReportedBy configs (Some n) marked = is_some (numbered configs n) ≡ true

abbrev IsReported : List HeldConfig → Option CallKey → Type 0
IsReported configs None = Unit {0}
IsReported configs (Some q) = IsReportedBy configs q.1.0 q.1.1

record IsWithin (rows : List RowKey) (configs : List HeldConfig) (k : ℕ) (o : Option CallKey) : Type 0 where
  few : turns k rows ≤ limit configs o
  reported : IsReported configs o

abbrev AreWithin : Seen → Type 0
AreWithin s = (k : ℕ) → IsWithin (map row_key s.attempts) s.configs k (option_map call_key (numbered s.calls k))

-- what is the same is so still
moved : {xs ys : List RowKey} {cs ds : List HeldConfig} (k : ℕ) {o p : Option CallKey} → ys ≡ xs → ds ≡ cs → p ≡ o → IsWithin xs cs k o → IsWithin ys ds k p
moved {xs = xs} {ys = ys} {cs = cs} {ds = ds} k {o = o} {p = p} a b c h =
    subst (λ (z : List RowKey). IsWithin z ds k p) (sym a)
    (subst (λ (z : List HeldConfig). IsWithin xs z k p) (sym b) (subst (λ (z : Option CallKey). IsWithin xs cs k z) (sym c) h))

same_within : (s t : Seen) → Same s t → AreWithin s → AreWithin t
same_within s t same h k = moved k same.rows same.configs (same.calls k) (h k)

-- a call that begins
fresh_at : {X Y : Type 0} (key : X → Y) (xs : List X) (x : X) (i : ℕ)
    → (option_map key (slice_get (xs ++ x ∷ []) i) ≡ option_map key (slice_get xs i))
    ⊎ ((slice_get xs i ≡ None) × (option_map key (slice_get (xs ++ x ∷ []) i) ≡ Some (key x)))
fresh_at key [] x zero = inr (refl, refl)
fresh_at key [] x (suc i) = inl refl
fresh_at key (z ∷ xs) x zero = inl refl
fresh_at key (z ∷ xs) x (suc i) = fresh_at key xs x i

begun_if : (rows : List RowKey) (configs : List HeldConfig) (k : ℕ) (old new : Option CallKey) (request : RequestSeen)
    → (new ≡ old) ⊎ ((old ≡ None) × (new ≡ Some (request, (None, false)))) → IsWithin rows configs k old → IsWithin rows configs k new
begun_if rows configs k old new request (inl e) h = subst (λ (z : Option CallKey). IsWithin rows configs k z) (sym e) h
begun_if rows configs k old new request (inr p) h =
    let none : IsWithin rows configs k None = subst (λ (z : Option CallKey). IsWithin rows configs k z) p.0 h in
    subst (λ (z : Option CallKey). IsWithin rows configs k z) (sym p.1) (record { few = none.few; reported = refl })

fresh_key : (s : Seen) (c : Call) (i : ℕ)
    → (option_map call_key (slice_get (s.calls ++ c ∷ []) i) ≡ option_map call_key (slice_get s.calls i))
    ⊎ ((slice_get s.calls i ≡ None) × (option_map call_key (slice_get (s.calls ++ c ∷ []) i) ≡ Some (call_key c)))
    → (option_map call_key (slice_get (s.calls ++ c ∷ []) i) ≡ option_map call_key (slice_get s.calls i))
    ⊎ ((option_map call_key (slice_get s.calls i) ≡ None) × (option_map call_key (slice_get (s.calls ++ c ∷ []) i) ≡ Some (call_key c)))
fresh_key s c i (inl e) = inl e
fresh_key s c i (inr p) = inr (ap (option_map call_key) p.0, p.1)

begun_within : (s : Seen) (request : RequestSeen) → AreWithin s → AreWithin (call_begun_by (event.Begin request) s)
begun_within s request h zero = h zero
begun_within s request h (suc i) =
    let c : Call = begun_call (length s.calls + 1) (entry s) (now s) request in
    begun_if (map row_key s.attempts) s.configs (suc i) (option_map call_key (slice_get s.calls i)) (option_map call_key (slice_get (s.calls ++ c ∷ []) i)) request
    (fresh_key s c i (fresh_at call_key s.calls c i)) (h (suc i))

begins_within : (e : Event) (s : Seen) → AreWithin s → AreWithin (call_begun_by e s)
begins_within (event.Begin request) s h = begun_within s request h
begins_within e s h = h

-- a config that is read
config_kept : (configs : List HeldConfig) (x : HeldConfig) (n : ℕ) → is_some (numbered configs n) ≡ true → numbered (configs ++ x ∷ []) n ≡ numbered configs n
config_kept configs x zero e = refl
config_kept configs x (suc i) e = kept_some configs x i (slice_get configs i) refl e
  where
    kept_some : (configs : List HeldConfig) (x : HeldConfig) (i : ℕ) (o : Option HeldConfig) → slice_get configs i ≡ o → is_some o ≡ true
        → slice_get (configs ++ x ∷ []) i ≡ slice_get configs i
    kept_some configs x i None got e = absurd (cc)
    kept_some configs x i (Some y) got e = kept configs x y i got ∙ sym got

read_by : (rows : List RowKey) (configs : List HeldConfig) (x : HeldConfig) (k : ℕ) (request : RequestSeen) (o : Option ℕ) (marked : Bool)
    → IsWithin rows configs k (Some (request, (o, marked))) → IsWithin rows (configs ++ x ∷ []) k (Some (request, (o, marked)))
read_by rows configs x k request None marked h = record { few = h.few; reported = h.reported }
read_by rows configs x k request (Some n) marked h =
    let same : numbered (configs ++ x ∷ []) n ≡ numbered configs n = config_kept configs x n h.reported in
    let most : most_by (configs ++ x ∷ []) request n ≡ most_by configs request n =
    ap (λ (z : Option HeldConfig). most_attempts (option_map_or (λ (h : HeldConfig). chosen_for h.config request.path) z no_choice).plan) same in
    let few : turns k rows ≤ most_by configs request n = h.few in
    record { few = subst (λ (m : ℕ). turns k rows ≤ m) (sym most) few; reported = ap is_some same ∙ h.reported }

read_at : (rows : List RowKey) (configs : List HeldConfig) (x : HeldConfig) (k : ℕ) (o : Option CallKey) → IsWithin rows configs k o
    → IsWithin rows (configs ++ x ∷ []) k o
read_at rows configs x k None h = record { few = h.few; reported = tt }
read_at rows configs x k (Some q) h = read_by rows configs x k q.0 q.1.0 q.1.1 h

held_within : (s : Seen) (config : Config) (run : Option ℕ) → AreWithin s → AreWithin (with_config config run s)
held_within s config run h k =
    read_at (map row_key s.attempts) s.configs (record { config = config; run = run }) k (option_map call_key (numbered s.calls k)) (h k)

throttled_within : (config : Config) (t : Throttle) (run : Option ℕ) (s : Seen) → AreWithin s → AreWithin (with_throttled config t run s)
throttled_within config t (Some run) s h = held_within s config (Some run) h
throttled_within config t None s h = held_within s config (Some (length s.runs + 1)) h

config_within : (config : Config) (t : Option Throttle) (s : Seen) → AreWithin s → AreWithin (with_held config t s)
config_within config None s h = held_within s config None h
config_within config (Some t) s h = throttled_within config t (run_to_join t s) s h

read_within : (config : Result Config ConfigFault) (s : Seen) → AreWithin s → AreWithin (config_read config s)
read_within (Ok config) s h = config_within config config.throttle (replied reply.Done (resolver_answered s)) h
read_within (Err fault) s h = h

-- a call that gets its config
abbrev with_mark : Seen → Call → Call
with_mark s c = record c { marks = c.marks ++ record { what = mark.Configured; moment = now s } ∷ [] }

abbrev with_its : ℕ → ℕ → Call → Call
with_its config entry c = record c { config = Some config; configured = Some entry }

configured_here : (s : Seen) (call config : ℕ) (c : Call) → numbered s.calls call ≡ Some c → c.config ≡ None → is_some (numbered s.configs config) ≡ true
    → AreWithin s
    → IsWithin (map row_key s.attempts) s.configs call
    (option_map call_key (numbered (changed (with_its config (entry s)) call (changed (with_mark s) call s.calls)) call))
configured_here s call config c here none there h =
    let now_is : numbered (changed (with_its config (entry s)) call (changed (with_mark s) call s.calls)) call ≡ Some (with_its config (entry s) (with_mark s c)) =
    changed_map (with_its config (entry s)) call (changed (with_mark s) call s.calls)
    ∙ ap (option_map (with_its config (entry s))) (changed_map (with_mark s) call s.calls ∙ ap (option_map (with_mark s)) here) in
    let old : IsWithin (map row_key s.attempts) s.configs call (Some (call_key c)) =
    subst (λ (z : Option Call). IsWithin (map row_key s.attempts) s.configs call (option_map call_key z)) here (h call) in
    let few : turns call (map row_key s.attempts) ≤ 0 =
    subst (λ (z : Option ℕ). turns call (map row_key s.attempts) ≤ limit_by s.configs c.request z) none old.few in
    subst (λ (z : Option Call). IsWithin (map row_key s.attempts) s.configs call (option_map call_key z)) (sym now_is)
    (record { few = omega (arith, few); reported = there })

configured_away : (s : Seen) (call config k : ℕ) → (k ≡ call → ⊥) → AreWithin s
    → IsWithin (map row_key s.attempts) s.configs k
    (option_map call_key (numbered (changed (with_its config (entry s)) call (changed (with_mark s) call s.calls)) k))
configured_away s call config k away h =
    let same : numbered (changed (with_its config (entry s)) call (changed (with_mark s) call s.calls)) k ≡ numbered s.calls k =
    changed_away (with_its config (entry s)) call k (changed (with_mark s) call s.calls) away ∙ changed_away (with_mark s) call k s.calls away in
    subst (λ (z : Option Call). IsWithin (map row_key s.attempts) s.configs k (option_map call_key z)) (sym same) (h k)

configured_at : (s : Seen) (call config k : ℕ) (b : Bool) (c : Call) → (k == call) ≡ b → numbered s.calls call ≡ Some c → c.config ≡ None
    → is_some (numbered s.configs config) ≡ true → AreWithin s
    → IsWithin (map row_key s.attempts) s.configs k
    (option_map call_key (numbered (changed (with_its config (entry s)) call (changed (with_mark s) call s.calls)) k))
configured_at s call config k false c e here none there h = configured_away s call config k (eqb-false k call e) h
configured_at s call config k true c e here none there h =
    subst (λ (j : ℕ). IsWithin (map row_key s.attempts) s.configs j
    (option_map call_key (numbered (changed (with_its config (entry s)) call (changed (with_mark s) call s.calls)) j))) (sym (eqb-true k call e))
    (configured_here s call config c here none there h)

-- an attempt is due only of a call with a mark of its config
abbrev is_marked : Call → Bool
is_marked c = list_any is_configured_by c.marks

stop_if : (st x y : Bool) (z d : DueState) → st ≡ true → d.stopped ≡ true → (if (not st && x) && y then z else d).stopped ≡ true
stop_if true x y z d e stops = stops
stop_if false x y z d e stops = absurd (cc)

ended_stops : (c : Call) (s : Seen) (d : DueState) (a : Attempt) → d.stopped ≡ true → (o : Option RowEnd)
    → (option_map_or (due_after_end c s d a) o d).stopped ≡ true
ended_stops c s d a stops None = stops
ended_stops c s d a stops (Some e) =
    stop_if d.stopped (counts_by a s e) (has_code (codes_of (plan_of c s)) e.code) (due_by_plan (plan_of c s) c a s d e) d stops stops

end_stops : (c : Call) (s : Seen) (d : DueState) → d.stopped ≡ true → (o : Option Attempt)
    → (option_map_or (λ (a : Attempt). option_map_or (due_after_end c s d a) a.row.ended d) o d).stopped ≡ true
end_stops c s d stops None = stops
end_stops c s d stops (Some a) = ended_stops c s d a stops a.row.ended

making_stops : (b : Bool) (d : DueState) (place : ℕ) → d.stopped ≡ true
    → (if b then d else record d { newest = Some place; placed = None; forced = None }).stopped ≡ true
making_stops true d place stops = stops
making_stops false d place stops = stops

made_stops : (d : DueState) → d.stopped ≡ true → (o : Option Attempt) → (option_map_or (due_after_making d) o d).stopped ≡ true
made_stops d stops None = stops
made_stops d stops (Some a) = making_stops (is_transparent a.row.kind) d a.place stops

placed_stops : (b : Bool) (d : DueState) (moment : ℕ) → d.stopped ≡ true → (if b then record d { placed = Some moment } else d).stopped ≡ true
placed_stops true d moment stops = stops
placed_stops false d moment stops = stops

mark_stops : (c : Call) (s : Seen) (d : DueState) (what : MarkKind) (moment : ℕ) → is_configuration what ≡ false → d.stopped ≡ true
    → (due_after_mark c s what moment d).stopped ≡ true
mark_stops c s d mark.Configured moment plain stops = absurd (cc)
mark_stops c s d (mark.Made row) moment plain stops = made_stops d stops (numbered s.attempts row)
mark_stops c s d (mark.Placed row) moment plain stops = placed_stops (is_number row d.newest) d moment stops
mark_stops c s d (mark.Ended row) moment plain stops = end_stops c s d stops (numbered s.attempts row)
mark_stops c s d mark.Withheld moment plain stops = refl
mark_stops c s d mark.Committed moment plain stops = refl
mark_stops c s d mark.Closed moment plain stops = refl

marks_stop : (c : Call) (s : Seen) (ms : List Mark) (d : DueState) → list_any is_configured_by ms ≡ false → d.stopped ≡ true
    → (fold (λ (d : DueState) (m : Mark). due_after_mark c s m.what m.moment d) d ms).stopped ≡ true
marks_stop c s [] d none stops = stops
marks_stop c s (m ∷ ms) d none stops =
    let parts : (is_configured_by m ≡ false) × (list_any is_configured_by ms ≡ false) = or_parts (is_configured_by m) (list_any is_configured_by ms) none in
    marks_stop c s ms (due_after_mark c s m.what m.moment d) parts.1 (mark_stops c s d m.what m.moment parts.0 stops)

due_if : (st le : Bool) (x : Option ℕ) (due : ℕ) → (if st || le then None else x) ≡ Some due → (st ≡ false) × (le ≡ false)
due_if true le x due e = absurd (cc)
due_if false true x due e = absurd (cc)
due_if false false x due e = (refl, refl)

due_parts : (c : Call) (s : Seen) (due : ℕ) → next_due c s ≡ Some due
    → ((due_state c s).stopped ≡ false) × (nat_le (most_attempts (plan_of c s)) (attempts_made c s) ≡ false)
due_parts c s due e =
    due_if (due_state c s).stopped (nat_le (most_attempts (plan_of c s)) (attempts_made c s))
    (option_or (due_state c s).forced (hedge_due (plan_of c s) (due_state c s))) due e

due_marked_by : (c : Call) (s : Seen) (b : Bool) → is_marked c ≡ b → (due_state c s).stopped ≡ false → is_marked c ≡ true
due_marked_by c s true e goes = e
due_marked_by c s false e goes = (let stops : (due_state c s).stopped ≡ true = marks_stop c s c.marks no_due e refl in absurd (cc))

-- an attempt more
cond_small : (b : Bool) → one_if b ≤ 1
cond_small true = omega arith
cond_small false = omega arith

more_within : (rows : List RowKey) (configs : List HeldConfig) (k : ℕ) (o : Option CallKey) (q : RowKey) → IsWithin rows configs k o
    → (is_turn k q ≡ false) ⊎ (turns k rows < limit configs o) → IsWithin (rows ++ q ∷ []) configs k o
more_within rows configs k o q h (inl e) =
    let more : turns k (rows ++ q ∷ []) ≡ turns k rows + one_if (is_turn k q) = count_more (is_turn k) rows q in
    let none : one_if (is_turn k q) ≡ 0 = ap (λ (b : Bool). one_if b) e in
    let few : turns k rows ≤ limit configs o = h.few in
    record { few = omega (arith, more, none, few); reported = h.reported }
more_within rows configs k o q h (inr less) =
    let more : turns k (rows ++ q ∷ []) ≡ turns k rows + one_if (is_turn k q) = count_more (is_turn k) rows q in
    let one : one_if (is_turn k q) ≤ 1 = cond_small (is_turn k q) in
    record { few = omega (arith, more, one, less); reported = h.reported }

retried_not : (call number k : ℕ) (sort : RowKind) → sort ≡ kind.Transparent → is_turn k (call, (number, sort)) ≡ false
retried_not call number k sort e =
    ap (λ (z : RowKind). is_turn k (call, (number, z))) e ∙ and_false (call == k)
  where
    and_false : (b : Bool) → (b && false) ≡ false
    and_false true = refl
    and_false false = refl

-- the call has a config, of which not all attempts are made
room_by : (c : Call) (s : Seen) (o : Option ℕ) → c.config ≡ o → IsReportedBy s.configs o (is_marked c) → is_marked c ≡ true
    → attempts_made c s < most_attempts (plan_of c s) → attempts_made c s < limit_by s.configs c.request o
room_by c s None e reported marked less = absurd (cc)
room_by c s (Some n) e reported marked less =
    let same : most_by s.configs c.request n ≡ most_attempts (plan_of c s) =
    ap (λ (z : Option ℕ). most_attempts (option_map_or (λ (h : HeldConfig). chosen_for h.config c.request.path) (option_and_then (numbered s.configs) z) no_choice).plan)
    (sym e) in
    subst (λ (m : ℕ). attempts_made c s < m) (sym same) less

due_room : (c : Call) (s : Seen) (due : ℕ) → next_due c s ≡ Some due → numbered s.calls c.number ≡ Some c → AreWithin s
    → turns c.number (map row_key s.attempts) < limit s.configs (option_map call_key (numbered s.calls c.number))
due_room c s due is here h =
    let parts : ((due_state c s).stopped ≡ false) × (nat_le (most_attempts (plan_of c s)) (attempts_made c s) ≡ false) = due_parts c s due is in
    let marked : is_marked c ≡ true = due_marked_by c s (is_marked c) refl parts.0 in
    let own : IsWithin (map row_key s.attempts) s.configs c.number (Some (call_key c)) =
    subst (λ (z : Option Call). IsWithin (map row_key s.attempts) s.configs c.number (option_map call_key z)) here (h c.number) in
    let few : attempts_made c s < most_attempts (plan_of c s) = leb-false (most_attempts (plan_of c s)) (attempts_made c s) parts.1 in
    let room : attempts_made c s < limit_by s.configs c.request c.config = room_by c s c.config refl own.reported marked few in
    let count : attempts_made c s ≡ turns c.number (map row_key s.attempts) = turns_made c s in
    subst (λ (z : Option Call). turns c.number (map row_key s.attempts) < limit s.configs (option_map call_key z)) (sym here)
    (subst (λ (m : ℕ). m < limit_by s.configs c.request c.config) count room)

due_or : (s : Seen) (c : Call) (number k due : ℕ) (sort : RowKind) (b : Bool) → (c.number == k) ≡ b → next_due c s ≡ Some due
    → numbered s.calls c.number ≡ Some c → AreWithin s
    → (is_turn k (c.number, (number, sort)) ≡ false)
    ⊎ (turns k (map row_key s.attempts) < limit s.configs (option_map call_key (numbered s.calls k)))
due_or s c number k due sort false e is here h = inl (ap (λ (b : Bool). b && not (is_transparent sort)) e)
due_or s c number k due sort true e is here h =
    inr (subst (λ (j : ℕ). turns j (map row_key s.attempts) < limit s.configs (option_map call_key (numbered s.calls j))) (eqb-true c.number k e)
    (due_room c s due is here h))

made_or : (s : Seen) (call number k due : ℕ) (sort : RowKind) → IsInPlace s → IsRetried call number sort s ⊎ IsDueBy call number sort due s → AreWithin s
    → (is_turn k (call, (number, sort)) ≡ false)
    ⊎ (turns k (map row_key s.attempts) < limit s.configs (option_map call_key (numbered s.calls k)))
made_or s call number k due sort place (inl r) h = inl (retried_not call number k sort r.kind)
made_or s call number k due sort place (inr d) h =
    let c : Call = d.here in
    let at : c.number ≡ suc d.index = place.calls (suc d.index) c d.there in
    let here : numbered s.calls c.number ≡ Some c = ap (numbered s.calls) at ∙ d.there in
    subst (λ (n : ℕ). (is_turn k (n, (number, sort)) ≡ false)
    ⊎ (turns k (map row_key s.attempts) < limit s.configs (option_map call_key (numbered s.calls k)))) d.is
    (due_or s c number k due sort (c.number == k) refl d.due here h)

row_within : (s : Seen) (call number due : ℕ) (sort : RowKind) → IsInPlace s → IsRetried call number sort s ⊎ IsDueBy call number sort due s → AreWithin s
    → AreWithin (with_row (new_row call number sort due) s)
row_within s call number due sort place asks h k =
    let a : Attempt = record { place = length s.attempts + 1; row = new_row call number sort due; made = entry s; reset = false } in
    subst (λ (rows : List RowKey). IsWithin rows s.configs k (option_map call_key (numbered s.calls k))) (sym (map_more row_key s.attempts a))
    (more_within (map row_key s.attempts) s.configs k (option_map call_key (numbered s.calls k)) (call, (number, sort)) (h k)
    (made_or s call number k due sort place asks h))

made_within : (s : Seen) (call number due : ℕ) (sort : RowKind) → IsInPlace s → IsRetried call number sort s ⊎ IsDueBy call number sort due s → AreWithin s
    → AreWithin (attempt_made call number sort due s)
made_within s call number due sort place asks h =
    same_within (with_row (new_row call number sort due) s) (attempt_made call number sort due s) (made_keeps call number sort due s)
    (row_within s call number due sort place asks h)

-- a call that gets its config
last_there : (s : Seen) (config : ℕ) → is_some (held_config s) ≡ true → config ≡ length s.configs → is_some (numbered s.configs config) ≡ true
last_there s config held e = ap (λ (n : ℕ). is_some (numbered s.configs n)) e ∙ held

configured_within : (s : Seen) (call config : ℕ) → IsInPlace s → IsConfigurable call config s → AreWithin s
    → (k : ℕ) → IsWithin (map row_key s.attempts) s.configs k
    (option_map call_key (numbered (changed (with_its config (entry s)) call (changed (with_mark s) call s.calls)) k))
configured_within s call config place asks h k =
    let c : Call = asks.here in
    let at : c.number ≡ suc asks.index = place.calls (suc asks.index) c asks.there in
    let here : numbered s.calls call ≡ Some c = ap (numbered s.calls) (sym asks.is ∙ at) ∙ asks.there in
    configured_at s call config k (k == call) c refl here asks.none (last_there s config asks.held asks.last) h

-- each action
within_if : (o : Option OpenEntry) (a : Action) (s : Seen) → Asks a s → IsInPlace s → AreWithin s → AreWithin (after_if o a s)
within_if (Some o) action.CallBegins s asks place h = begins_within o.event s h
within_if (Some o) (action.ConfigRead config) s asks place h = read_within config s h
within_if (Some o) (action.CallConfigured call config) s asks place h = configured_within s call config place asks h
within_if (Some o) (action.AttemptMade call number sort due) s asks place h = made_within s call number due sort place asks h
within_if None action.CallBegins s asks place h = h
within_if None (action.ConfigRead config) s asks place h = h
within_if None (action.CallConfigured call config) s asks place h = h
within_if None (action.AttemptMade call number sort due) s asks place h = h
within_if o a s asks place h = same_within s (after_if o a s) (same_if o a s (same_self s) refl) h

new_within : (setup : Setup) → AreWithin (new_session setup)
new_within setup zero = record { few = omega arith; reported = tt }
new_within setup (suc i) = record { few = omega arith; reported = tt }

runs_within : (actions : List Action) (s t : Seen) → IsInPlace s → AreWithin s → Does actions s t → AreWithin t
runs_within [] s t place h does = subst (λ (x : Seen). AreWithin x) (sym does) h
runs_within (a ∷ actions) s t place h does =
    runs_within actions (after a s) t (actions_keep_places a s place) (within_if s.current a s (next_asks s a does.0) place h) does.1

sessions_within : (setup : Setup) (actions : List Action) (s : Seen) → Does actions (new_session setup) s → AreWithin s
sessions_within setup actions s does =
    runs_within actions (new_session setup) s (sessions_are_in_place setup [] (new_session setup) refl) (new_within setup) does

-- as it is said to readers
own_within : (setup : Setup) (actions : List Action) (s : Seen) → Does actions (new_session setup) s → (k : ℕ) (c : Call) → numbered s.calls k ≡ Some c
    → attempts_made c s ≤ limit_by s.configs c.request c.config
own_within setup actions s does k c here =
    let number : c.number ≡ k = (sessions_are_in_place setup actions s does).calls k c here in
    let own : IsWithin (map row_key s.attempts) s.configs k (Some (call_key c)) =
    subst (λ (z : Option Call). IsWithin (map row_key s.attempts) s.configs k (option_map call_key z)) here (sessions_within setup actions s does k) in
    let count : attempts_made c s ≡ turns k (map row_key s.attempts) = turns_made c s ∙ ap (λ (n : ℕ). turns n (map row_key s.attempts)) number in
    subst (λ (n : ℕ). n ≤ limit_by s.configs c.request c.config) (sym count) own.few

capped_by : (c : Call) (s : Seen) (o : Option ℕ) → c.config ≡ o → attempts_made c s ≤ limit_by s.configs c.request o
    → attempts_made c s ≤ most_attempts (plan_of c s)
capped_by c s None e few = omega (arith, few)
capped_by c s (Some n) e few =
    let same : most_by s.configs c.request n ≡ most_attempts (plan_of c s) =
    ap (λ (z : Option ℕ). most_attempts (option_map_or (λ (h : HeldConfig). chosen_for h.config c.request.path) (option_and_then (numbered s.configs) z) no_choice).plan)
    (sym e) in
    subst (λ (m : ℕ). attempts_made c s ≤ m) same few

pub attempts_are_capped : AttemptsAreCapped
attempts_are_capped setup actions s does k c here = capped_by c s c.config refl (own_within setup actions s does k c here)

pub attempts_need_configs : AttemptsNeedConfigs
attempts_need_configs setup actions s does k c here none =
    let few : attempts_made c s ≤ 0 =
    subst (λ (z : Option ℕ). attempts_made c s ≤ limit_by s.configs c.request z) none (own_within setup actions s does k c here) in
    omega (arith, few)
