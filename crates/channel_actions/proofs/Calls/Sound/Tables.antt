-- Where each call of a table is sound, so it is after one of them did something; and the attempts that are to come are no more than before, less those made.
use Rattle.std.proofs.Common.{◌≡◌, ◌≤◌, ◌+◌, ◌-◌, ◌∷◌, ◌++◌, ℕ, zero, suc, List, [], Option, None, Some, refl, ap, sym, subst, arith, length, slice_get, slice_set}
use Rattle.std.specs.List.{AllByRecursion}
use Rattle.a6_numbers.specs.Throttling.{Bucket}
use Rattle.attempt_ledger.specs.Numbering.{most_attempts}
use Rattle.attempt_ledger.specs.declared.ledger.Ledger.{Ledger}
use Rattle.call_core.specs.Parts as parts
use Rattle.call_core.specs.Steps.{Stepped, call_plan, lent}
use Rattle.call_core.specs.declared.attempts.Attempts.{Attempts}
use Rattle.call_core.specs.declared.live.LiveRow.{LiveRow}
use Rattle.call_core.specs.declared.state.CallState.{CallState}
use Rattle.channel_actions.specs.GoingCalls.Going.{GoesOn}
use Rattle.channel_actions.proofs.Calls.Sound.Spends.{Continues, Same, Spends}
use Rattle.channel_actions.proofs.Calls.Sound.Steps.{Sized, Within, is_there, within_more}
use Rattle.channel_actions.specs.SoundCalls.Sound.{IsSoundSlot, to_come}
use Rattle.channel_core.specs.Tables.{acted, acted_at, acted_on, changed_call, changed_call_at, changed_call_on, changed_slot, changed_slot_at, changed_slot_on, numbered}
use Rattle.channel_core.specs.declared.state.slots.CallSlot.{CallSlot}
use Rattle.grpc_base.specs.declared.plan.Chosen.{Chosen}
use Rattle.ledger_stamps.specs.Steps.{index_at}
use Rattle.std.specs.List.{list_all}
use Rattle.std.specs.Prelude.{true}

-- one call
pub record SoundCall (n : ℕ) (call : CallState) : Type 0 where
  pub goes : GoesOn call
  pub within : Within n call
  pub sized : Sized call

pub of_slot : (n : ℕ) (slot : CallSlot) → IsSoundSlot n slot → SoundCall n slot.call
of_slot n slot k = record {
  goes = record { kept = k.kept; going = k.going };
  within = record { live = k.live; held = k.held };
  sized = record { range = k.range; sent = k.sent };
}

pub to_slot : (n : ℕ) (slot : CallSlot) → SoundCall n slot.call → IsSoundSlot n slot
to_slot n slot k = record {
  kept = k.goes.kept;
  going = k.goes.going;
  live = k.within.live;
  held = k.within.held;
  range = k.sized.range;
  sent = k.sized.sent;
}

abbrev pub AllSound : ℕ → List CallSlot → Type 0
AllSound n calls = AllByRecursion (λ (slot : CallSlot). SoundCall n slot.call) calls

sound_more : (n m : ℕ) (call : CallState) → n ≤ m → SoundCall n call → SoundCall m call
sound_more n m call e k = record { goes = k.goes; within = within_more n m call e k.within; sized = k.sized }

pub sound_all_more : (n m : ℕ) (calls : List CallSlot) → n ≤ m → AllSound n calls → AllSound m calls
sound_all_more n m [] e all = tt
sound_all_more n m (x ∷ calls) e all = (sound_more n m x.call e all.0, sound_all_more n m calls e all.1)

pub sound_get : (n : ℕ) (calls : List CallSlot) (i : ℕ) (slot : CallSlot) → AllSound n calls → slice_get calls i ≡ Some slot → SoundCall n slot.call
sound_get n [] i slot all e = absurd (cc)
sound_get n (x ∷ calls) zero slot all e = (let same : x ≡ slot = (cc) in subst (λ (z : CallSlot). SoundCall n z.call) same all.0)
sound_get n (x ∷ calls) (suc i) slot all e = sound_get n calls i slot all.1 e

pub sound_numbered : (n : ℕ) (calls : List CallSlot) (number : ℕ) (slot : CallSlot) → AllSound n calls → numbered calls number ≡ Some slot → SoundCall n slot.call
sound_numbered n calls zero slot all e = absurd (cc)
sound_numbered n calls (suc i) slot all e = sound_get n calls i slot all e

pub sound_each : (n : ℕ) (calls : List CallSlot) → ((i : ℕ) (slot : CallSlot) → slice_get calls i ≡ Some slot → SoundCall n slot.call) → AllSound n calls
sound_each n [] each = tt
sound_each n (x ∷ calls) each = (each zero x refl, sound_each n calls (λ i slot e. each (suc i) slot e))

sound_set : (n m : ℕ) (calls : List CallSlot) (i : ℕ) (slot : CallSlot) → n ≤ m → AllSound n calls → SoundCall m slot.call → AllSound m (slice_set calls i slot)
sound_set n m [] i slot e all one = tt
sound_set n m (x ∷ calls) zero slot e all one = (one, sound_all_more n m calls e all.1)
sound_set n m (x ∷ calls) (suc i) slot e all one = (sound_more n m x.call e all.0, sound_set n m calls i slot e all.1 one)

pub sound_last : (n : ℕ) (calls : List CallSlot) (slot : CallSlot) → AllSound n calls → SoundCall n slot.call → AllSound n (calls ++ slot ∷ [])
sound_last n [] slot all one = (one, tt)
sound_last n (x ∷ calls) slot all one = (all.0, sound_last n calls slot all.1 one)

set_length : (calls : List CallSlot) (i : ℕ) (slot : CallSlot) → length (slice_set calls i slot) ≡ length calls
set_length [] i slot = refl
set_length (x ∷ calls) zero slot = refl
set_length (x ∷ calls) (suc i) slot = ap (λ (k : ℕ). suc k) (set_length calls i slot)

-- what is to come
set_come : (n m : ℕ) (calls : List CallSlot) (i : ℕ) (old new : CallSlot) → slice_get calls i ≡ Some old
    → m + (5 - new.call.attempts.sent) ≤ n + (5 - old.call.attempts.sent) → m + to_come (slice_set calls i new) ≤ n + to_come calls
set_come n m [] i old new e less = absurd (cc)
set_come n m (x ∷ calls) zero old new e less =
    let same : x ≡ old = (cc) in
    let count : x.call.attempts.sent ≡ old.call.attempts.sent = ap (λ (z : CallSlot). z.call.attempts.sent) same in
    let one : to_come (new ∷ calls) ≡ (5 - new.call.attempts.sent) + to_come calls = refl in
    let two : to_come (x ∷ calls) ≡ (5 - x.call.attempts.sent) + to_come calls = refl in
    omega (arith, less, count, one, two)
set_come n m (x ∷ calls) (suc i) old new e less =
    let more : m + to_come (slice_set calls i new) ≤ n + to_come calls = set_come n m calls i old new e less in
    let one : to_come (x ∷ slice_set calls i new) ≡ (5 - x.call.attempts.sent) + to_come (slice_set calls i new) = refl in
    let two : to_come (x ∷ calls) ≡ (5 - x.call.attempts.sent) + to_come calls = refl in
    omega (arith, more, one, two)

-- what a call did, and the table with it
pub record Well (n : ℕ) (call : CallState) (t : Stepped) : Type 0 where
  pub rows : n ≤ length t.ledger.rows
  pub sound : SoundCall (length t.ledger.rows) t.call

pub record Spent (n : ℕ) (call : CallState) (t : Stepped) : Type 0 where
  pub well : Well n call t
  pub all : length t.ledger.rows + (5 - t.call.attempts.sent) ≤ n + (5 - call.attempts.sent)

pub well_by : (call : CallState) (ledger : Ledger) (tokens : Option Bucket) (t : Stepped) → GoesOn t.call → Continues (lent call ledger tokens []) t
    → SoundCall (length ledger.rows) call → Well (length ledger.rows) call t
well_by call ledger tokens t goes_on goes k = record {
  rows = goes.rows;
  sound = record { goes = goes_on; within = goes.within k.within; sized = goes.sized k.sized };
}

pub spent_by : (call : CallState) (ledger : Ledger) (tokens : Option Bucket) (t : Stepped) → GoesOn t.call → Spends (lent call ledger tokens []) t
    → SoundCall (length ledger.rows) call → Spent (length ledger.rows) call t
spent_by call ledger tokens t goes_on spends k = record {
  well = well_by call ledger tokens t goes_on spends.goes k;
  all = spends.all k.sized;
}

pub record Acts (n : ℕ) (calls : List CallSlot) (ledger : Ledger) (after : List CallSlot) : Type 0 where
  pub rows : n ≤ length ledger.rows
  pub sound : AllSound (length ledger.rows) after
  pub count : length after ≡ length calls

pub record Spending (n : ℕ) (calls : List CallSlot) (ledger : Ledger) (after : List CallSlot) : Type 0 where
  pub acts : Acts n calls ledger after
  pub all : length ledger.rows + to_come after ≤ n + to_come calls

self_less : (n : ℕ) → n ≤ n
self_less n = omega arith

acts_none : (ledger : Ledger) (calls : List CallSlot) → AllSound (length ledger.rows) calls → Acts (length ledger.rows) calls ledger calls
acts_none ledger calls all = record { rows = self_less (length ledger.rows); sound = all; count = refl }

spending_none : (ledger : Ledger) (calls : List CallSlot) → AllSound (length ledger.rows) calls → Spending (length ledger.rows) calls ledger calls
spending_none ledger calls all = record { acts = acts_none ledger calls all; all = self_less (length ledger.rows + to_come calls) }

module _ (f : Stepped → Stepped) (ledger : Ledger) (tokens : Option Bucket) (calls : List CallSlot) (all : AllSound (length ledger.rows) calls) where
  module _ (does : (call : CallState) → SoundCall (length ledger.rows) call → Well (length ledger.rows) call (f (lent call ledger tokens []))) where
    well_at : (i : ℕ) (o : Option CallSlot) → slice_get calls i ≡ o
        → Acts (length ledger.rows) calls (acted_at f calls i ledger tokens o).ledger (acted_at f calls i ledger tokens o).calls
    well_at i None e = acts_none ledger calls all
    well_at i (Some slot) e =
        let t : Stepped = f (lent slot.call ledger tokens []) in
        let w : Well (length ledger.rows) slot.call t = does slot.call (sound_get (length ledger.rows) calls i slot all e) in
        record {
          rows = w.rows;
          sound = sound_set (length ledger.rows) (length t.ledger.rows) calls i (record slot { call = t.call }) w.rows all w.sound;
          count = set_length calls i (record slot { call = t.call });
        }

    well_on : (o : Option ℕ) → Acts (length ledger.rows) calls (acted_on f calls ledger tokens o).ledger (acted_on f calls ledger tokens o).calls
    well_on None = acts_none ledger calls all
    well_on (Some i) = well_at i (slice_get calls i) refl

    pub acted_well : (number : ℕ) → Acts (length ledger.rows) calls (acted f calls number ledger tokens).ledger (acted f calls number ledger tokens).calls
    acted_well number = well_on (index_at number (length calls))

  module _ (does : (call : CallState) → SoundCall (length ledger.rows) call → Spent (length ledger.rows) call (f (lent call ledger tokens []))) where
    spent_at : (i : ℕ) (o : Option CallSlot) → slice_get calls i ≡ o
        → Spending (length ledger.rows) calls (acted_at f calls i ledger tokens o).ledger (acted_at f calls i ledger tokens o).calls
    spent_at i None e = spending_none ledger calls all
    spent_at i (Some slot) e =
        let t : Stepped = f (lent slot.call ledger tokens []) in
        let w : Spent (length ledger.rows) slot.call t = does slot.call (sound_get (length ledger.rows) calls i slot all e) in
        record {
          acts = well_at (λ call k. (does call k).well) i (Some slot) e;
          all = set_come (length ledger.rows) (length t.ledger.rows) calls i slot (record slot { call = t.call }) e w.all;
        }

    spent_on : (o : Option ℕ) → Spending (length ledger.rows) calls (acted_on f calls ledger tokens o).ledger (acted_on f calls ledger tokens o).calls
    spent_on None = spending_none ledger calls all
    spent_on (Some i) = spent_at i (slice_get calls i) refl

    pub acted_spent : (number : ℕ) → Spending (length ledger.rows) calls (acted f calls number ledger tokens).ledger (acted f calls number ledger tokens).calls
    acted_spent number = spent_on (index_at number (length calls))

-- a call is changed beside what it does
pub same_sound : (n : ℕ) (c d : CallState) → Same c d → GoesOn d → SoundCall n c → SoundCall n d
same_sound n c d is goes k = record {
  goes = goes;
  within = record { live = subst (λ (l : List LiveRow). list_all (is_there n) l ≡ true) (sym is.live) k.within.live; held = is.held n k.within.held };
  sized =
      let plan : most_attempts (call_plan d) ≡ most_attempts (call_plan c) = ap (λ (o : Option Chosen). most_attempts (parts.plan_of o)) is.chosen in
      let count : d.attempts.sent ≡ c.attempts.sent = ap (λ (a : Attempts). a.sent) is.attempts in
      let range : most_attempts (call_plan c) ≤ 5 = k.sized.range in
      let sent : c.attempts.sent ≤ most_attempts (call_plan c) = k.sized.sent in
      record { range = omega (arith, plan, range); sent = omega (arith, plan, count, sent) };
}

same_come : (n a b : ℕ) → a ≡ b → n + (5 - a) ≤ n + (5 - b)
same_come n a b e = omega (arith, e)

module _ (f : CallState → CallState) (is : (c : CallState) → Same c (f c)) (goes : (c : CallState) → GoesOn c → GoesOn (f c)) (ledger : Ledger) (calls : List CallSlot)
    (all : AllSound (length ledger.rows) calls) where
  abbrev n : ℕ
  n = length ledger.rows

  changed_place : (i : ℕ) (o : Option CallSlot) → slice_get calls i ≡ o → Spending n calls ledger (changed_call_at f calls i o)
  changed_place i None e = spending_none ledger calls all
  changed_place i (Some slot) e =
      let old : SoundCall n slot.call = sound_get n calls i slot all e in
      let new : CallSlot = record slot { call = f slot.call } in
      record {
        acts = record {
          rows = self_less n;
          sound = sound_set n n calls i new (self_less n) all (same_sound n slot.call (f slot.call) (is slot.call) (goes slot.call old.goes) old);
          count = set_length calls i new;
        };
        all =
            set_come n n calls i slot new e
            (same_come n (f slot.call).attempts.sent slot.call.attempts.sent (ap (λ (a : Attempts). a.sent) (is slot.call).attempts));
      }

  changed_at_place : (o : Option ℕ) → Spending n calls ledger (changed_call_on f calls o)
  changed_at_place None = spending_none ledger calls all
  changed_at_place (Some i) = changed_place i (slice_get calls i) refl

  pub changed_spent : (number : ℕ) → Spending n calls ledger (changed_call f calls number)
  changed_spent number = changed_at_place (index_at number (length calls))

-- what stands beside a call is changed
module _ (f : CallSlot → CallSlot) (is : (slot : CallSlot) → (f slot).call ≡ slot.call) (ledger : Ledger) (calls : List CallSlot) (all : AllSound (length ledger.rows) calls) where
  abbrev m : ℕ
  m = length ledger.rows

  slot_place : (i : ℕ) (o : Option CallSlot) → slice_get calls i ≡ o → Spending m calls ledger (changed_slot_at f calls i o)
  slot_place i None e = spending_none ledger calls all
  slot_place i (Some slot) e =
      let old : SoundCall m slot.call = sound_get m calls i slot all e in
      record {
        acts = record {
          rows = self_less m;
          sound = sound_set m m calls i (f slot) (self_less m) all (subst (λ (c : CallState). SoundCall m c) (sym (is slot)) old);
          count = set_length calls i (f slot);
        };
        all =
            set_come m m calls i slot (f slot) e
            (same_come m (f slot).call.attempts.sent slot.call.attempts.sent (ap (λ (c : CallState). c.attempts.sent) (is slot)));
      }

  slot_at_place : (o : Option ℕ) → Spending m calls ledger (changed_slot_on f calls o)
  slot_at_place None = spending_none ledger calls all
  slot_at_place (Some i) = slot_place i (slice_get calls i) refl

  pub slot_spent : (number : ℕ) → Spending m calls ledger (changed_slot f calls number)
  slot_spent number = slot_at_place (index_at number (length calls))
