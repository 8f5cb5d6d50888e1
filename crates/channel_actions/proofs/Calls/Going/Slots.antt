-- What holds of each call of a table holds after a change of one.
use Rattle.std.proofs.Common.{◌≡◌, ℕ, zero, suc, Option, Some, None, List, [], ◌∷◌, ◌++◌, length, refl, sym, subst, slice_get, slice_set}
use Rattle.std.specs.List.{AllByRecursion}
use Rattle.a6_numbers.specs.Throttling.{Bucket}
use Rattle.attempt_ledger.specs.declared.ledger.Ledger.{Ledger}
use Rattle.call_core.specs.Steps.{Stepped, lent}
use Rattle.call_core.specs.declared.state.CallState.{CallState}
use Rattle.channel_core.specs.Tables.{acted, acted_at, acted_on, changed_call, changed_call_at, changed_call_on, changed_slot, changed_slot_at, changed_slot_on, numbered}
use Rattle.channel_core.specs.declared.state.slots.CallSlot.{CallSlot}
use Rattle.channel_actions.specs.GoingCalls.Going.{GoesOn}
use Rattle.ledger_stamps.specs.Steps.{index_at}

abbrev pub AllGo : List CallSlot → Type 0
AllGo calls = AllByRecursion (λ (slot : CallSlot). GoesOn slot.call) calls

pub all_get : (calls : List CallSlot) (i : ℕ) (slot : CallSlot) → AllGo calls → slice_get calls i ≡ Some slot → GoesOn slot.call
all_get [] i slot all e = absurd (cc)
all_get (x ∷ calls) zero slot all e = (let same : x ≡ slot = (cc) in subst (λ (z : CallSlot). GoesOn z.call) same all.0)
all_get (x ∷ calls) (suc i) slot all e = all_get calls i slot all.1 e

pub all_numbered : (calls : List CallSlot) (number : ℕ) (slot : CallSlot) → AllGo calls → numbered calls number ≡ Some slot → GoesOn slot.call
all_numbered calls zero slot all e = absurd (cc)
all_numbered calls (suc i) slot all e = all_get calls i slot all e

all_set : (calls : List CallSlot) (i : ℕ) (slot : CallSlot) → AllGo calls → GoesOn slot.call → AllGo (slice_set calls i slot)
all_set [] i slot all one = tt
all_set (x ∷ calls) zero slot all one = (one, all.1)
all_set (x ∷ calls) (suc i) slot all one = (all.0, all_set calls i slot all.1 one)

pub all_more : (calls : List CallSlot) (slot : CallSlot) → AllGo calls → GoesOn slot.call → AllGo (calls ++ slot ∷ [])
all_more [] slot all one = (one, tt)
all_more (x ∷ calls) slot all one = (all.0, all_more calls slot all.1 one)

-- a call does something
module _ (f : Stepped → Stepped) (ledger : Ledger) (tokens : Option Bucket) (does : (call : CallState) → GoesOn call → GoesOn (f (lent call ledger tokens [])).call) where
  at_place : (calls : List CallSlot) (i : ℕ) (o : Option CallSlot) → AllGo calls → slice_get calls i ≡ o → AllGo (acted_at f calls i ledger tokens o).calls
  at_place calls i None all e = all
  at_place calls i (Some slot) all e = all_set calls i _ all (does slot.call (all_get calls i slot all e))

  on_place : (calls : List CallSlot) (o : Option ℕ) → AllGo calls → AllGo (acted_on f calls ledger tokens o).calls
  on_place calls None all = all
  on_place calls (Some i) all = at_place calls i (slice_get calls i) all refl

  pub all_acted : (calls : List CallSlot) (number : ℕ) → AllGo calls → AllGo (acted f calls number ledger tokens).calls
  all_acted calls number all = on_place calls (index_at number (length calls)) all

-- a call is changed beside what it does
module _ (f : CallState → CallState) (does : (call : CallState) → GoesOn call → GoesOn (f call)) where
  changed_place : (calls : List CallSlot) (i : ℕ) (o : Option CallSlot) → AllGo calls → slice_get calls i ≡ o → AllGo (changed_call_at f calls i o)
  changed_place calls i None all e = all
  changed_place calls i (Some slot) all e = all_set calls i _ all (does slot.call (all_get calls i slot all e))

  changed_at_place : (calls : List CallSlot) (o : Option ℕ) → AllGo calls → AllGo (changed_call_on f calls o)
  changed_at_place calls None all = all
  changed_at_place calls (Some i) all = changed_place calls i (slice_get calls i) all refl

  pub all_changed : (calls : List CallSlot) (number : ℕ) → AllGo calls → AllGo (changed_call f calls number)
  all_changed calls number all = changed_at_place calls (index_at number (length calls)) all

-- what stands beside a call is changed
module _ (f : CallSlot → CallSlot) (does : (slot : CallSlot) → (f slot).call ≡ slot.call) where
  slot_place : (calls : List CallSlot) (i : ℕ) (o : Option CallSlot) → AllGo calls → slice_get calls i ≡ o → AllGo (changed_slot_at f calls i o)
  slot_place calls i None all e = all
  slot_place calls i (Some slot) all e = all_set calls i (f slot) all (subst GoesOn (sym (does slot)) (all_get calls i slot all e))

  slot_at_place : (calls : List CallSlot) (o : Option ℕ) → AllGo calls → AllGo (changed_slot_on f calls o)
  slot_at_place calls None all = all
  slot_at_place calls (Some i) all = slot_place calls i (slice_get calls i) all refl

  pub all_beside : (calls : List CallSlot) (number : ℕ) → AllGo calls → AllGo (changed_slot f calls number)
  all_beside calls number all = slot_at_place calls (index_at number (length calls)) all
