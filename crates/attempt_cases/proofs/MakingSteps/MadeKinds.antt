-- One attempt that is due is made: channel and session agree after it.
use Rattle.std.proofs.Common.{◌≡◌, ◌∙◌, ◌==◌, ◌&&◌, ◌||◌, ◌+◌, ◌-◌, ◌∷◌, Bool, true, false, not, List, [], Option, None, Some, ℕ, ap, arith, refl, cond, if◌then◌else◌, is_some, nat_le, find}
use Rattle.std.proofs.lemmas.Bool.{and_parts}
use Rattle.std.proofs.lemmas.Bool.Decides.{nat_tests}
use Rattle.std.specs.List.{list_all, list_any}
use Rattle.std.specs.Option.{option_map, option_map_or, option_or}
use Rattle.std.specs.Prelude.{unwrap_or}
use Rattle.attempt_buffer.specs.Buffers.{Cursor}
use Rattle.attempt_ledger.specs.Numbering.{is_transparent, later_kind, most_attempts}
use Rattle.attempt_ledger.specs.declared.row.RowKind.TheVariants as kind
use Rattle.call_actions.specs.Order.{AttemptsAreNumbered}
use Rattle.call_actions.specs.Sees.{Sees}
use Rattle.call_actions.specs.TakeActions.Serves.{AttemptsStandInPlace}
use Rattle.call_core.specs.Parts as parts
use Rattle.call_core.specs.Steps.{Stepped, waits}
use Rattle.channel_actions.specs.Sets.{is_ready_waiter}
use Rattle.grpc_base.specs.declared.plan.CallPlan.{CallPlan}
use Rattle.grpc_base.specs.declared.plan.CallPlan.TheVariants as plan
use Rattle.grpc_base.specs.declared.plan.Chosen.{Chosen}
use Rattle.service_config.specs.Choice.{chosen_for}
use Rattle.session_actions.specs.Configs.{chosen_of, config_of_call, no_choice, waits_for_ready}
use Rattle.session_actions.specs.DueAttempts as session
use Rattle.session_actions.specs.Words.{holds}
use Rattle.session_actions.specs.declared.attempt.Attempt.{Attempt}
use Rattle.session_actions.specs.declared.call.Call.{Call}
use Rattle.session_actions.specs.declared.config.HeldConfig.{HeldConfig}
use Rattle.session_actions.specs.declared.due.DueState.{DueState}
use Rattle.session_actions.specs.declared.seen.Seen.{Seen}

-- an attempt that is due is no transparent retry
pub due_kind : (p : CallPlan) (b : Bool) → is_transparent (unwrap_or (if b then Some kind.First else later_kind p) kind.First) ≡ false
due_kind plan.None true = refl
due_kind plan.None false = refl
due_kind (plan.Retry p) true = refl
due_kind (plan.Retry p) false = refl
due_kind (plan.Hedge p) true = refl
due_kind (plan.Hedge p) false = refl

-- an attempt is due only of a call that is not committed
pub due_open : (p : CallPlan) (made : ℕ) (d : DueState) (due : ℕ) → session.due_by p made d ≡ Some due → d.stopped ≡ false
due_open p made d due e = by_stop d.stopped refl e
  where
    by_stop : (b : Bool) → d.stopped ≡ b → (if b || nat_le (most_attempts p) made then None else option_or d.forced (session.hedge_due p d)) ≡ Some due → d.stopped ≡ false
    by_stop true is f = absurd (let bad : None ≡ Some due = f in (cc))
    by_stop false is f = is

pub free_by : (k : Option Attempt) (b : Bool) → ((b || is_some k) ≡ true → true ≡ false) → k ≡ None
free_by None b stops = refl
free_by (Some a) true stops = absurd (let bad : true ≡ false = stops refl in (cc))
free_by (Some a) false stops = absurd (let bad : true ≡ false = stops refl in (cc))

-- no cursor is of a row to come
far : (n row : ℕ) → nat_le row n ≡ true → (row == n + 1) ≡ false
far n row e = grind (arith, nat_tests)

-- whether a call waits for ready, in both
wait_by : (d : Chosen) (w q : Option Bool) → unwrap_or (option_or w q) false ≡ parts.or_else w (parts.or_else q false)
wait_by d None None = refl
wait_by d None (Some b) = refl
wait_by d (Some b) q = refl

config_wait : (c : Call) (q : Option HeldConfig)
    → parts.or_else (option_map_or (λ (g : HeldConfig). chosen_for g.config c.request.path) q no_choice).wait false
    ≡ parts.config_wait (option_map (λ (g : HeldConfig). chosen_for g.config c.request.path) q)
config_wait c None = refl
config_wait c (Some g) = refl

pub wait_for_ready_of : (s : Seen) (c : Call) (x : Stepped) → Sees s c x → is_ready_waiter s c.number ≡ waits x.call
wait_for_ready_of s c x sees =
    ap (holds (λ (d : Call). waits_for_ready d s)) sees.own ∙ wait_by (chosen_of c s) c.request.wait (chosen_of c s).wait
    ∙ ap (parts.or_else c.request.wait) (config_wait c (config_of_call c s))
    ∙ ap (λ (q : Option Chosen). parts.waits_for c.request q) sees.chosen
    ∙ ap (λ (r : _). parts.waits_for r x.call.chosen) sees.request

pub none_held : (n : ℕ) (cs : List Cursor) → list_all (λ (c : Cursor). nat_le c.row n) cs ≡ true → find (λ (c : Cursor). c.row == n + 1) cs ≡ None
none_held n [] e = refl
none_held n (c ∷ cs) e =
    let both = and_parts (nat_le c.row n) (list_all (λ (k : Cursor). nat_le k.row n) cs) e in
    ap (λ (b : Bool). cond b (Some c) (find (λ (k : Cursor). k.row == n + 1) cs)) (far n c.row both.0) ∙ none_held n cs both.1

pub none_of : {X : Type 0} (o : Option X) → is_some o ≡ false → o ≡ None
none_of None e = refl
none_of (Some x) e = absurd (let bad : true ≡ false = e in (cc))

pub and_second : (a b : Bool) → b ≡ false → (a && b) ≡ false
and_second true b e = e
and_second false b e = refl

any_by : (p : Attempt → Bool) (a : Attempt) (xs : List Attempt) (b : Bool) → p a ≡ b → (find p xs ≡ None → list_any p xs ≡ false) → cond b (Some a) (find p xs) ≡ None
    → (p a || list_any p xs) ≡ false
any_by p a xs true is rest e = absurd (let bad : Some a ≡ None = e in (cc))
any_by p a xs false is rest e = ap (λ (b : Bool). b || list_any p xs) is ∙ rest e

pub any_none : (p : Attempt → Bool) (xs : List Attempt) → find p xs ≡ None → list_any p xs ≡ false
any_none p [] e = refl
any_none p (a ∷ xs) e = any_by p a xs (p a) refl (any_none p xs) e

pub unmapped : {X Y : Type 0} (g : X → Y) (o : Option X) → option_map g o ≡ None → o ≡ None
unmapped g None e = refl
unmapped g (Some x) e = absurd (let bad : Some (g x) ≡ None = e in (cc))

less_by : (p q : Attempt → Bool) (a : Attempt) (xs : List Attempt) (b : Bool) → q a ≡ b → (list_any q xs ≡ false → list_any (λ (k : Attempt). p k && q k) xs ≡ false)
    → (b || list_any q xs) ≡ false → ((p a && q a) || list_any (λ (k : Attempt). p k && q k) xs) ≡ false
less_by p q a xs true is rest e = absurd (let bad : true ≡ false = e in (cc))
less_by p q a xs false is rest e =
    ap (λ (b : Bool). b || list_any (λ (k : Attempt). p k && q k) xs) (and_second (p a) (q a) is) ∙ rest e

pub any_less : (p q : Attempt → Bool) (xs : List Attempt) → list_any q xs ≡ false → list_any (λ (a : Attempt). p a && q a) xs ≡ false
any_less p q [] e = refl
any_less p q (a ∷ xs) e = less_by p q a xs (q a) refl (any_less p q xs) e

pub placed_so : (n : ℕ) (xs : List Attempt) → AttemptsAreNumbered n xs → AttemptsStandInPlace n xs
placed_so n [] p = tt
placed_so n (x ∷ xs) p = (p.0, placed_so _ xs p.1)
