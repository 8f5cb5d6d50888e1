-- The attempts of a call are numbered in the order of their making.
use Rattle.std.proofs.Common.{◌≡◌, ◌+◌, ◌<◌, ◌∷◌, ◌++◌, ◌&&◌, ◌==◌, ◌⊎◌, inl, inr, ap, arith, refl, subst, sym, ◌∙◌, Bool, true, false, List, [], Option, None, Some, ℕ, zero, suc, not, length, map, slice_get, if◌then◌else◌, unwrap_or, Result, Ok, Err}
use Rattle.std.proofs.lemmas.Bool.{eq-eqb}
use Rattle.std.proofs.lemmas.Option.{slice_get-map}
use Rattle.std.specs.Option.{option_map}
use Rattle.std.specs.Prelude.{take}
use Rattle.attempt_ledger.specs.Numbering.{is_transparent, later_kind}
use Rattle.attempt_ledger.specs.declared.row.RowKind.{RowKind}
use Rattle.grpc_base.specs.declared.plan.CallPlan.{CallPlan}
use Rattle.session_actions.specs.Actions.{after, after_if}
use Rattle.grpc_base.specs.declared.event.ConfigFault.{ConfigFault}
use Rattle.grpc_base.specs.declared.event.Event.{Event}
use Rattle.grpc_base.specs.declared.plan.Throttle.{Throttle}
use Rattle.service_config.specs.declared.config.Config.{Config}
use Rattle.session_actions.specs.Configs.{config_read, plan_of, resolver_answered, run_to_join, with_held, with_throttled}
use Rattle.session_actions.specs.Deliveries.{call_begun_by}
use Rattle.session_actions.specs.DueAttempts.{attempts_made, kind_of_next}
use Rattle.session_actions.specs.Entries.{entry, replied}
use Rattle.session_actions.specs.Making.{attempt_made, new_row, with_row}
use Rattle.session_actions.specs.Sessions.{Does, new_session}
use Rattle.session_actions.specs.declared.action.Action.{Action}
use Rattle.session_actions.specs.declared.attempt.Attempt.{Attempt}
use Rattle.session_actions.specs.declared.call.Call.{Call}
use Rattle.session_actions.specs.declared.entry.OpenEntry.{OpenEntry}
use Rattle.session_actions.specs.declared.seen.Seen.{Seen}
use Rattle.session_order.proofs.SessionLaws.Caps.{is_turn, turns, turns_made}
use Rattle.session_order.proofs.SessionLaws.Lines.{Asks, IsDueBy, IsRetried, next_asks}
use Rattle.session_order.proofs.SessionLaws.Lists.{count_map, count_more, kept, map_more, one_if, past, take_all, take_kept}
use Rattle.session_order.proofs.SessionLaws.Same.{RowKey, made_keeps, row_key, same_if, same_self}
use Rattle.session_order.specs.SessionLaws.Attempts.{AttemptsAreNumbered, IsCounted, RetriesRepeat}
use Rattle.session_actions.specs.declared.action.Action.TheVariants as action
use Rattle.attempt_ledger.specs.declared.row.RowKind.TheVariants as kind
use Rattle.grpc_base.specs.declared.plan.CallPlan.TheVariants as plan
use Rattle.grpc_base.specs.declared.event.Event.TheVariants as event
use Rattle.grpc_base.specs.declared.event.Reply.TheVariants as reply

-- of keys
record IsBefore (rows : List RowKey) (i : ℕ) (q : RowKey) : Type 0 where
  index : ℕ
  here : RowKey
  there : slice_get rows index ≡ Some here
  before : index < i
  call : here.0 ≡ q.0
  number : here.1.0 ≡ q.1.0

record IsOrdered (rows : List RowKey) : Type 0 where
  counted : (i : ℕ) (q : RowKey) → slice_get rows i ≡ Some q → is_transparent q.1.1 ≡ false → q.1.0 ≡ turns q.0 (take (suc i) rows)
  repeated : (i : ℕ) (q : RowKey) → slice_get rows i ≡ Some q → is_transparent q.1.1 ≡ true → IsBefore rows i q

counts_self : (q : RowKey) → is_transparent q.1.1 ≡ false → one_if (is_turn q.0 q) ≡ 1
counts_self q e =
    let own : (q.0 == q.0) ≡ true = eq-eqb q.0 q.0 refl in
    let test : is_turn q.0 q ≡ true = ap (λ (b : Bool). b && not (is_transparent q.1.1)) own ∙ ap not e in ap (λ (b : Bool). one_if b) test

counted_last : (rows : List RowKey) (q : RowKey) → is_transparent q.1.1 ≡ false → q.1.0 ≡ turns q.0 rows + 1
    → q.1.0 ≡ turns q.0 (take (suc (length rows)) (rows ++ q ∷ []))
counted_last rows q plain is =
    let more : turns q.0 (rows ++ q ∷ []) ≡ turns q.0 rows + one_if (is_turn q.0 q) = count_more (is_turn q.0) rows q in
    let one : one_if (is_turn q.0 q) ≡ 1 = counts_self q plain in
    let all : turns q.0 (take (suc (length rows)) (rows ++ q ∷ [])) ≡ turns q.0 (rows ++ q ∷ []) = ap (turns q.0) (take_all rows q) in
    omega (arith, is, more, one, all)

counted_at : (rows : List RowKey) (q y : RowKey) (i : ℕ) → IsOrdered rows → (is_transparent q.1.1 ≡ false → q.1.0 ≡ turns q.0 rows + 1)
    → (slice_get rows i ≡ Some y) ⊎ ((i ≡ length rows) × (q ≡ y)) → is_transparent y.1.1 ≡ false → y.1.0 ≡ turns y.0 (take (suc i) (rows ++ q ∷ []))
counted_at rows q y i h is (inl p) plain = h.counted i y p plain ∙ ap (turns y.0) (sym (take_kept rows q y i p))
counted_at rows q y i h is (inr p) plain =
    let own : is_transparent q.1.1 ≡ false = ap (λ (z : RowKey). is_transparent z.1.1) p.1 ∙ plain in
    let last : q.1.0 ≡ turns q.0 (take (suc (length rows)) (rows ++ q ∷ [])) = counted_last rows q own (is own) in
    let here : q.1.0 ≡ turns q.0 (take (suc i) (rows ++ q ∷ [])) = last ∙ ap (λ (n : ℕ). turns q.0 (take (suc n) (rows ++ q ∷ []))) (sym p.0) in
    subst (λ (z : RowKey). z.1.0 ≡ turns z.0 (take (suc i) (rows ++ q ∷ []))) p.1 here

before_more : (rows : List RowKey) (q y : RowKey) (i : ℕ) → IsBefore rows i y → IsBefore (rows ++ q ∷ []) i y
before_more rows q y i h =
    record { index = h.index; here = h.here; there = kept rows q h.here h.index h.there; before = h.before; call = h.call; number = h.number }

repeated_at : (rows : List RowKey) (q y : RowKey) (i : ℕ) → IsOrdered rows → (is_transparent q.1.1 ≡ true → IsBefore rows (length rows) q)
    → (slice_get rows i ≡ Some y) ⊎ ((i ≡ length rows) × (q ≡ y)) → is_transparent y.1.1 ≡ true → IsBefore (rows ++ q ∷ []) i y
repeated_at rows q y i h is (inl p) again = before_more rows q y i (h.repeated i y p again)
repeated_at rows q y i h is (inr p) again =
    let own : is_transparent q.1.1 ≡ true = ap (λ (z : RowKey). is_transparent z.1.1) p.1 ∙ again in
    before_more rows q y i (subst (λ (n : ℕ). IsBefore rows n y) (sym p.0) (subst (λ (z : RowKey). IsBefore rows (length rows) z) p.1 (is own)))

ordered_more : (rows : List RowKey) (q : RowKey) → IsOrdered rows → (is_transparent q.1.1 ≡ false → q.1.0 ≡ turns q.0 rows + 1)
    → (is_transparent q.1.1 ≡ true → IsBefore rows (length rows) q) → IsOrdered (rows ++ q ∷ [])
ordered_more rows q h is again = record {
  counted = λ i y e plain. counted_at rows q y i h is (past rows q y i e) plain;
  repeated = λ i y e transparent. repeated_at rows q y i h again (past rows q y i e) transparent;
}

-- an attempt that is made
kind_if : (p : CallPlan) (b : Bool) → is_transparent (unwrap_or (if b then Some kind.First else later_kind p) kind.First) ≡ false
kind_if p true = refl
kind_if plan.None false = refl
kind_if (plan.Retry p) false = refl
kind_if (plan.Hedge p) false = refl

next_is_further : (c : Call) (s : Seen) → is_transparent (kind_of_next c s) ≡ false
next_is_further c s = kind_if (plan_of c s) (attempts_made c s + 1 == 1)

below : {X : Type 0} (xs : List X) (i : ℕ) (x : X) → slice_get xs i ≡ Some x → i < length xs
below [] i x e = absurd (cc)
below (z ∷ xs) zero x e = omega arith
below (z ∷ xs) (suc i) x e = (let less : i < length xs = below xs i x e in omega (arith, less))

key_at : (xs : List Attempt) (i : ℕ) (a : Attempt) → slice_get xs i ≡ Some a → slice_get (map row_key xs) i ≡ Some (row_key a)
key_at xs i a e = slice_get-map row_key xs i ∙ ap (option_map row_key) e

retried_before : (s : Seen) (call number : ℕ) (sort : RowKind) → IsRetried call number sort s
    → IsBefore (map row_key s.attempts) (length (map row_key s.attempts)) (call, (number, sort))
retried_before s call number sort r =
    let there : slice_get (map row_key s.attempts) r.index ≡ Some (row_key r.here) = key_at s.attempts r.index r.here r.there in
    record {
      index = r.index;
      here = row_key r.here;
      there = there;
      before = below (map row_key s.attempts) r.index (row_key r.here) there;
      call = r.call;
      number = r.number;
    }

made_number : (s : Seen) (call number due : ℕ) (sort : RowKind) → IsRetried call number sort s ⊎ IsDueBy call number sort due s
    → is_transparent sort ≡ false → number ≡ turns call (map row_key s.attempts) + 1
made_number s call number due sort (inl r) plain = (let again : is_transparent sort ≡ true = ap is_transparent r.kind in absurd (cc))
made_number s call number due sort (inr d) plain =
    let count : attempts_made d.here s ≡ turns call (map row_key s.attempts) =
    turns_made d.here s ∙ ap (λ (n : ℕ). turns n (map row_key s.attempts)) d.is in
    d.number ∙ ap (λ (n : ℕ). n + 1) count

made_before : (s : Seen) (call number due : ℕ) (sort : RowKind) → IsRetried call number sort s ⊎ IsDueBy call number sort due s
    → is_transparent sort ≡ true → IsBefore (map row_key s.attempts) (length (map row_key s.attempts)) (call, (number, sort))
made_before s call number due sort (inl r) again = retried_before s call number sort r
made_before s call number due sort (inr d) again =
    let plain : is_transparent sort ≡ false = ap is_transparent d.kind ∙ next_is_further d.here s in absurd (cc)

row_ordered : (s : Seen) (call number due : ℕ) (sort : RowKind) → IsRetried call number sort s ⊎ IsDueBy call number sort due s
    → IsOrdered (map row_key s.attempts) → IsOrdered (map row_key (with_row (new_row call number sort due) s).attempts)
row_ordered s call number due sort asks h =
    let a : Attempt = record { place = length s.attempts + 1; row = new_row call number sort due; made = entry s; reset = false } in
    subst (λ (rows : List RowKey). IsOrdered rows) (sym (map_more row_key s.attempts a))
    (ordered_more (map row_key s.attempts) (call, (number, sort)) h (made_number s call number due sort asks) (made_before s call number due sort asks))

made_ordered : (s : Seen) (call number due : ℕ) (sort : RowKind) → IsRetried call number sort s ⊎ IsDueBy call number sort due s
    → IsOrdered (map row_key s.attempts) → IsOrdered (map row_key (attempt_made call number sort due s).attempts)
made_ordered s call number due sort asks h =
    subst (λ (rows : List RowKey). IsOrdered rows) (sym (made_keeps call number sort due s).rows) (row_ordered s call number due sort asks h)

-- what else is done leaves attempts as they are
begun_rows : (e : Event) (s : Seen) → (call_begun_by e s).attempts ≡ s.attempts
begun_rows (event.Begin request) s = refl
begun_rows e s = refl

throttled_rows : (config : Config) (t : Throttle) (run : Option ℕ) (s : Seen) → (with_throttled config t run s).attempts ≡ s.attempts
throttled_rows config t (Some run) s = refl
throttled_rows config t None s = refl

held_rows : (config : Config) (t : Option Throttle) (s : Seen) → (with_held config t s).attempts ≡ s.attempts
held_rows config None s = refl
held_rows config (Some t) s = throttled_rows config t (run_to_join t s) s

read_rows : (config : Result Config ConfigFault) (s : Seen) → (config_read config s).attempts ≡ s.attempts
read_rows (Ok config) s = held_rows config config.throttle (replied reply.Done (resolver_answered s))
read_rows (Err fault) s = refl

-- each action
ordered_if : (o : Option OpenEntry) (a : Action) (s : Seen) → Asks a s → IsOrdered (map row_key s.attempts)
    → IsOrdered (map row_key (after_if o a s).attempts)
ordered_if (Some o) (action.AttemptMade call number sort due) s asks h = made_ordered s call number due sort asks h
ordered_if None (action.AttemptMade call number sort due) s asks h = h
ordered_if (Some o) action.CallBegins s asks h = subst (λ (rows : List Attempt). IsOrdered (map row_key rows)) (sym (begun_rows o.event s)) h
ordered_if None action.CallBegins s asks h = h
ordered_if (Some o) (action.ConfigRead config) s asks h = subst (λ (rows : List Attempt). IsOrdered (map row_key rows)) (sym (read_rows config s)) h
ordered_if None (action.ConfigRead config) s asks h = h
ordered_if (Some o) (action.CallConfigured call config) s asks h = h
ordered_if None (action.CallConfigured call config) s asks h = h
ordered_if o a s asks h = subst (λ (rows : List RowKey). IsOrdered rows) (sym (same_if o a s (same_self s) refl).rows) h

runs_ordered : (actions : List Action) (s t : Seen) → IsOrdered (map row_key s.attempts) → Does actions s t → IsOrdered (map row_key t.attempts)
runs_ordered [] s t h does = subst (λ (x : Seen). IsOrdered (map row_key x.attempts)) (sym does) h
runs_ordered (a ∷ actions) s t h does =
    runs_ordered actions (after a s) t (ordered_if s.current a s (next_asks s a does.0) h) does.1

none_ordered : IsOrdered []
none_ordered = record { counted = λ i q e plain. absurd (cc); repeated = λ i q e again. absurd (cc) }

-- as it is said to readers
take_map : (xs : List Attempt) (n : ℕ) → take n (map row_key xs) ≡ map row_key (take n xs)
take_map [] zero = refl
take_map [] (suc n) = refl
take_map (x ∷ xs) zero = refl
take_map (x ∷ xs) (suc n) = ap (λ (ys : List RowKey). row_key x ∷ ys) (take_map xs n)

counted_in : (s : Seen) → IsOrdered (map row_key s.attempts) → IsCounted s
counted_in s h zero a here plain = absurd (cc)
counted_in s h (suc i) a here plain =
    let keyed : a.row.number ≡ turns a.row.call (take (suc i) (map row_key s.attempts)) = h.counted i (row_key a) (key_at s.attempts i a here) plain in
    keyed ∙ ap (turns a.row.call) (take_map s.attempts (suc i)) ∙ sym (count_map (is_turn a.row.call) row_key (take (suc i) s.attempts))

record IsKeyed (o : Option Attempt) (q : RowKey) : Type 0 where
  attempt : Attempt
  here : o ≡ Some attempt
  same : row_key attempt ≡ q

keyed_by : (o : Option Attempt) (q : RowKey) → option_map row_key o ≡ Some q → IsKeyed o q
keyed_by None q e = absurd (cc)
keyed_by (Some a) q e = record { attempt = a; here = refl; same = (cc) }

repeated_in : (s : Seen) → IsOrdered (map row_key s.attempts) → RetriesRepeat s
repeated_in s h zero a here again = absurd (cc)
repeated_in s h (suc i) a here again =
    let b : IsBefore (map row_key s.attempts) i (row_key a) = h.repeated i (row_key a) (key_at s.attempts i a here) again in
    let q : IsKeyed (slice_get s.attempts b.index) b.here =
    keyed_by (slice_get s.attempts b.index) b.here (sym (slice_get-map row_key s.attempts b.index) ∙ b.there) in
    let less : b.index < i = b.before in
    let early : suc b.index < suc i = omega (arith, less) in
    (suc b.index, q.attempt, q.here, early, ap (λ (z : RowKey). z.0) q.same ∙ b.call, ap (λ (z : RowKey). z.1.0) q.same ∙ b.number)

pub attempts_are_numbered : AttemptsAreNumbered
attempts_are_numbered setup actions s does =
    let h : IsOrdered (map row_key s.attempts) = runs_ordered actions (new_session setup) s none_ordered does in
    (counted_in s h, repeated_in s h)
