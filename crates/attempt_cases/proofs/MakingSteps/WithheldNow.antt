-- A hedge is withheld while others of its call go on: the session goes on to a point of the same settling, where none of its call is due any more.
use Rattle.std.proofs.Common.{◌≡◌, ◌∙◌, ◌==◌, ◌&&◌, ◌||◌, ◌+◌, ◌∷◌, Bool, true, false, not, List, [], Option, None, Some, ℕ, suc, arith, refl, sym, if◌then◌else◌, is_none, length, map, nat_le, nat_lt, cond, filter, ◌-◌, ◌⊎◌, inl, inr}
use Rattle.std.proofs.lemmas.Bool.Decides.{nat_tests}
use Rattle.std.specs.List.{list_any}
use Rattle.std.specs.Prelude.{option_and_then}
use Rattle.attempt_ledger.specs.declared.row.RowKind.{RowKind}
use Rattle.call_actions.specs.Sees.{live_row}
use Rattle.call_core.specs.Parts as parts
use Rattle.call_core.specs.Parts.{stopped_attempts}
use Rattle.call_core.specs.declared.attempts.Attempts.{Attempts}
use Rattle.call_core.specs.declared.live.LiveRow.{LiveRow}
use Rattle.channel_core.specs.declared.state.slots.CallSlot.{CallSlot}
use Rattle.grpc_base.specs.declared.plan.CallPlan.{CallPlan}
use Rattle.grpc_base.specs.declared.plan.CallPlan.TheVariants as plans
use Rattle.grpc_base.specs.declared.plan.HedgePolicy.{HedgePolicy}
use Rattle.hedge_core.specs.DueMoments as hedging
use Rattle.attempt_ledger.specs.Hedging.{is_hedge}
use Rattle.session_actions.specs.DueAttempts.{attempts_made, kind_of_next, next_due}
use Rattle.session_actions.specs.Entries.{now}
use Rattle.session_actions.specs.Making.{due_action, due_attempt, due_if_past}
use Rattle.session_actions.specs.Tokens.{has_tokens}
use Rattle.session_actions.specs.declared.action.Action.{Action}
use Rattle.session_actions.specs.declared.action.Action.TheVariants as action
use Rattle.session_actions.specs.declared.attempt.Attempt.{Attempt}
use Rattle.session_actions.specs.declared.call.Call.{Call}
use Rattle.session_actions.specs.declared.seen.Seen.{Seen}

-- the line gives that a hedge is withheld
pub record IsWithheldNow (s : Seen) (c : Call) (number : ℕ) : Type 0 where
  pub is_open : c.end ≡ None
  pub due : ℕ
  pub next : next_due c s ≡ Some due
  pub passed : nat_le due (now s) ≡ true
  pub tested : (is_hedge (kind_of_next c s) && not (has_tokens c s)) ≡ true

-- or the making of an attempt
pub record MakesSome (number : ℕ) (a : Action) : Type 0 where
  pub nth : ℕ
  pub why : RowKind
  pub due : ℕ
  pub is : a ≡ action.AttemptMade number nth why due

abbrev pub Either : Seen → Call → Action → Type 0
Either s c a = ((a ≡ action.HedgeWithheld c.number) × IsWithheldNow s c c.number) ⊎ MakesSome c.number a

pub none_of : {X : Type 0} (o : Option X) → is_none o ≡ true → o ≡ None
none_of None e = refl
none_of (Some x) e = absurd (let bad : false ≡ true = e in (cc))

some_is : (a b : Action) → Some a ≡ Some b → b ≡ a
some_is a b e = (cc)

hedge_by : (s : Seen) (c : Call) (a : Action) (d : ℕ) (b : Bool) → (is_hedge (kind_of_next c s) && not (has_tokens c s)) ≡ b → is_none c.end ≡ true → next_due c s ≡ Some d
    → nat_le d (now s) ≡ true
    → Some (if b then action.HedgeWithheld c.number else action.AttemptMade c.number (attempts_made c s + 1) (kind_of_next c s) d) ≡ Some a → Either s c a
hedge_by s c a d true test is_open next passed e =
    inl (some_is (action.HedgeWithheld c.number) a e, record { is_open = none_of c.end is_open; due = d; next = next; passed = passed; tested = test })
hedge_by s c a d false test is_open next passed e =
    inr (record { nth = attempts_made c s + 1; why = kind_of_next c s; due = d; is = some_is (action.AttemptMade c.number (attempts_made c s + 1) (kind_of_next c s) d) a e })

past_by : (s : Seen) (c : Call) (a : Action) (d : ℕ) (b : Bool) → nat_le d (now s) ≡ b → is_none c.end ≡ true → next_due c s ≡ Some d
    → (if b then Some (due_attempt c s d) else None) ≡ Some a → Either s c a
past_by s c a d true past is_open next e = hedge_by s c a d (is_hedge (kind_of_next c s) && not (has_tokens c s)) refl is_open next past e
past_by s c a d false past is_open next e = absurd (let bad : None ≡ Some a = e in (cc))

due_by : (s : Seen) (c : Call) (a : Action) (q : Option ℕ) → next_due c s ≡ q → is_none c.end ≡ true → option_and_then (due_if_past c s) q ≡ Some a → Either s c a
due_by s c a None next is_open e = absurd (let bad : None ≡ Some a = e in (cc))
due_by s c a (Some d) next is_open e = past_by s c a d (nat_le d (now s)) refl is_open next e

open_by : (s : Seen) (c : Call) (a : Action) (b : Bool) → is_none c.end ≡ b → (if b then option_and_then (due_if_past c s) (next_due c s) else None) ≡ Some a → Either s c a
open_by s c a true is_open e = due_by s c a (next_due c s) refl is_open e
open_by s c a false is_open e = absurd (let bad : None ≡ Some a = e in (cc))

pub either : (s : Seen) (c : Call) (a : Action) → due_action s c ≡ Some a → Either s c a
either s c a e = open_by s c a (is_none c.end) refl e

pub made_not : (n m k d : ℕ) (w : RowKind) → action.HedgeWithheld n ≡ action.AttemptMade m k w d → ⊥
made_not n m k d w e = (cc)

-- which rows a call has
abbrev pub some_row : List LiveRow → Bool
some_row [] = false
some_row (r ∷ rows) = true

pub any_live : (p : Attempt → Bool) (xs : List Attempt) → list_any p xs ≡ some_row (map live_row (filter p xs))
any_live p [] = refl
any_live p (a ∷ xs) = by_test (p a) (any_live p xs)
  where
    by_test : (b : Bool) → list_any p xs ≡ some_row (map live_row (filter p xs)) → (b || list_any p xs) ≡ some_row (map live_row (cond b (a ∷ filter p xs) (filter p xs)))
    by_test true e = refl
    by_test false e = e

never_zero : (n : ℕ) → (suc n == 0) ≡ false
never_zero n = grind (arith, nat_tests)

pub has_some : (rows : List LiveRow) → some_row rows ≡ true → parts.has_none rows ≡ false
has_some [] e = absurd (let bad : false ≡ true = e in (cc))
has_some (r ∷ rows) e = never_zero (length rows)

-- where none may be made any more none is due
stopped_hedge : (p : HedgePolicy) (a : Attempts) (b : Bool)
    → (if b then parts.next_forced p.max (stopped_attempts a) else hedging.next_due p (parts.hedge_of (stopped_attempts a))) ≡ None
stopped_hedge p a true = refl
stopped_hedge p a false = refl

pub stopped_plan : (p : CallPlan) (a : Attempts) → parts.next_of_plan p (stopped_attempts a) ≡ None
stopped_plan plans.None a = refl
stopped_plan (plans.Retry p) a = refl
stopped_plan (plans.Hedge p) a = stopped_hedge p a (a.sent == 0)

abbrev pub no_action : Option Action
no_action = None

pub none_given : (b : Bool) → (if b then no_action else no_action) ≡ no_action
none_given true = refl
none_given false = refl

pub not_ahead : (due moment : ℕ) → nat_le due moment ≡ true → nat_lt moment due ≡ false
not_ahead due moment e = grind (arith, nat_tests)

pub equal_numbers : (n m : ℕ) → (n == m) ≡ true → n ≡ m
equal_numbers n m e = grind (arith, nat_tests)

pub same_slot : (a b : CallSlot) (q : Option CallSlot) → q ≡ Some a → q ≡ Some b → b ≡ a
same_slot a b q e f = let both : Some b ≡ Some a = sym f ∙ e in (cc)

pub two_off : (a b : Bool) → (a || b) ≡ false → a ≡ false
two_off true b e = absurd (let bad : true ≡ false = e in (cc))
two_off false b e = refl

pub three : (f c l : Bool) → (f ≡ true → c ≡ true → l ≡ false) → (f && c && l) ≡ false
three true true l e = e refl refl
three true false l e = refl
three false c l e = refl
