-- The first of the channel's deadlines that have come is that of the call which ends next in the session.
use Rattle.std.proofs.Common.{◌≡◌, ◌⊎◌, inl, inr, ◌<◌, ◌&&◌, ◌||◌, ◌==◌, ◌∷◌, ap, arith, refl, subst, sym, ◌∙◌, Bool, true, false, List, [], Option, None, Some, ℕ, if◌then◌else◌, nat_le, nat_lt}
use Rattle.std.proofs.lemmas.Bool.{and_parts, both_ways}
use Rattle.std.proofs.lemmas.Bool.Decides.{nat_tests}
use Rattle.std.specs.List.{list_all}
use Rattle.std.specs.Option.{option_map}
use Rattle.std.specs.Prelude.{unwrap_or}
use Rattle.channel_actions.proofs.Links.Settings.Keys.{head_passes}
use Rattle.channel_actions.proofs.Links.Settings.Pairs.{same_is}
use Rattle.channel_actions.proofs.Stamps.{counted_at}
use Rattle.channel_actions.specs.Agrees.{Agrees}
use Rattle.channel_actions.specs.Calls.{deadline_of}
use Rattle.channel_actions.specs.Sets.{PairsAreExactly, is_in_deadlines}
use Rattle.call_cases.proofs.OverdueCalls.Apart.{at}
use Rattle.call_cases.proofs.OverdueCalls.Foremost.{none_numbered, numbered_foremost}
use Rattle.channel_core.specs.States.{StateSeen}
use Rattle.grpc_base.specs.declared.event.EndCause.TheVariants as ending
use Rattle.picker_gate.specs.Pairs.{has, comes_after, is_same}
use Rattle.session_actions.specs.CallEnds.{deadline_or, ending_call, is_due_before, is_past_deadline, next_deadline}
use Rattle.session_actions.specs.Calls.{is_open_call}
use Rattle.session_actions.specs.Configs.{deadline}
use Rattle.session_actions.specs.Entries.{now}
use Rattle.session_actions.specs.Words.{foremost, holds, is_number, numbered}
use Rattle.session_actions.specs.declared.action.Action.TheVariants as action
use Rattle.session_actions.specs.declared.call.Call.{Call}
use Rattle.session_actions.specs.declared.seen.Seen.{Seen}

-- pairs in rising order
same_number : (n : ℕ) → (n == n) ≡ true
same_number n = grind (arith, nat_tests)

equal_numbers : (n m : ℕ) → (n == m) ≡ true → n ≡ m
equal_numbers n m e = grind (arith, nat_tests)

before_by : (p q : ℕ × ℕ) → comes_after p q ≡ true → q.1 < p.1 → nat_lt p.0 q.0 ≡ true
before_by p q e less = grind (arith, nat_tests)

not_before : (p q : ℕ × ℕ) → comes_after p q ≡ true → nat_lt q.0 p.0 ≡ false
not_before p q e = grind (arith, nat_tests)

late_by : (p q : ℕ × ℕ) (m : ℕ) → comes_after p q ≡ true → nat_le p.0 m ≡ false → nat_le q.0 m ≡ false
late_by p q m e late = grind (arith, nat_tests)

not_less : (n : ℕ) → n < n → ⊥
not_less n e = omega (arith, e)

afterwards_by : (p q r : ℕ × ℕ) (rest : List (ℕ × ℕ)) (b : Bool) → is_same q r ≡ b → comes_after p r ≡ true → (has rest q ≡ true → comes_after p q ≡ true)
    → (b || has rest q) ≡ true → comes_after p q ≡ true
afterwards_by p q r rest true e here more h = ap (comes_after p) (same_is q r e) ∙ here
afterwards_by p q r rest false e here more h = more h

after_in : (p q : ℕ × ℕ) (rest : List (ℕ × ℕ)) → list_all (comes_after p) rest ≡ true → has rest q ≡ true → comes_after p q ≡ true
after_in p q [] all h = absurd (cc)
after_in p q (r ∷ rest) all h =
    let both = and_parts (comes_after p r) (list_all (comes_after p) rest) all in
    afterwards_by p q r rest (is_same q r) refl both.0 (after_in p q rest both.1) h

first_by : (p q : ℕ × ℕ) (rest : List (ℕ × ℕ)) (b : Bool) → is_same q p ≡ b → list_all (comes_after p) rest ≡ true → (b || has rest q) ≡ true → (q ≡ p) ⊎ (comes_after p q ≡ true)
first_by p q rest true e all h = inl (same_is q p e)
first_by p q rest false e all h = inr (after_in p q rest all h)

pub first_of_all : (p q : ℕ × ℕ) (rest : List (ℕ × ℕ)) → list_all (comes_after p) rest ≡ true → has (p ∷ rest) q ≡ true → (q ≡ p) ⊎ (comes_after p q ≡ true)
first_of_all p q rest all h = first_by p q rest (is_same q p) refl all h

-- where the first is late, all are
pub all_late : (p : ℕ × ℕ) (rest : List (ℕ × ℕ)) (m : ℕ) → list_all (comes_after p) rest ≡ true → nat_le p.0 m ≡ false → (q : ℕ × ℕ) → has (p ∷ rest) q ≡ true → nat_le q.0 m ≡ false
all_late p rest m all late q h = by_place (first_of_all p q rest all h)
  where
    by_place : (q ≡ p) ⊎ (comes_after p q ≡ true) → nat_le q.0 m ≡ false
    by_place (inl same) = ap (λ (r : ℕ × ℕ). nat_le r.0 m) same ∙ late
    by_place (inr afterwards) = late_by p q m afterwards late

-- a call whose deadline has come
pub record IsPast (s : Seen) (c : Call) (number : ℕ) : Type 0 where
  pub moment : ℕ
  pub deadline_is : deadline c s ≡ Some moment
  pub come : nat_le moment (now s) ≡ true
  pub in_set : is_in_deadlines s moment number ≡ true

module _ (s : Seen) (c : Call) (number : ℕ) (there : numbered s.calls number ≡ Some c) where
  past_by : (q : Option ℕ) → deadline c s ≡ q → is_open_call c ≡ true → holds (λ (t : ℕ). nat_le t (now s)) q ≡ true → IsPast s c number
  past_by None e goes h = absurd (cc)
  past_by (Some t) e goes h = record {
    moment = t;
    deadline_is = e;
    come = h;
    in_set = ap (holds (λ (d : Call). is_number t (deadline_of s d))) there ∙ ap (λ (b : Bool). is_number t (if b then deadline c s else None)) goes
        ∙ ap (is_number t) e ∙ same_number t;
  }

  pub is_past : is_past_deadline s c ≡ true → IsPast s c number
  is_past h =
      let both = and_parts (is_open_call c) (holds (λ (t : ℕ). nat_le t (now s)) (deadline c s)) h in past_by (deadline c s) refl both.0 both.1

-- and one that is in the set
pub record IsTimedCall (s : Seen) (p : ℕ × ℕ) : Type 0 where
  pub call : Call
  pub there : numbered s.calls p.1 ≡ Some call
  pub goes : is_open_call call ≡ true
  pub deadline_is : deadline call s ≡ Some p.0

number_by : (m : ℕ) (q : Option ℕ) → is_number m q ≡ true → q ≡ Some m
number_by m None e = absurd (cc)
number_by m (Some n) e = ap (λ (k : ℕ). Some k) (equal_numbers n m e)

open_by : (s : Seen) (c : Call) (m : ℕ) (b : Bool) → is_open_call c ≡ b → is_number m (if b then deadline c s else None) ≡ true → (is_open_call c ≡ true) × (deadline c s ≡ Some m)
open_by s c m true e h = (e, number_by m (deadline c s) h)
open_by s c m false e h = absurd (cc)

timed_by : (s : Seen) (p : ℕ × ℕ) (q : Option Call) → numbered s.calls p.1 ≡ q → holds (λ (d : Call). is_number p.0 (deadline_of s d)) q ≡ true → IsTimedCall s p
timed_by s p None e h = absurd (cc)
timed_by s p (Some c) e h =
    let both = open_by s c p.0 (is_open_call c) refl h in record { call = c; there = e; goes = both.0; deadline_is = both.1 }

pub is_timed : (s : Seen) (p : ℕ × ℕ) → is_in_deadlines s p.0 p.1 ≡ true → IsTimedCall s p
is_timed s p h = timed_by s p (numbered s.calls p.1) refl h

-- the first deadline has come
module _ (z : StateSeen) (s : Seen) (p : ℕ × ℕ) (rest : List (ℕ × ℕ)) (h : Agrees (at (p ∷ rest) z) s) where
  abbrev exact : PairsAreExactly (p ∷ rest) (is_in_deadlines s)
  exact = h.sets.deadlines

  pub found : IsTimedCall s p
  found = is_timed s p (head_passes p rest (is_in_deadlines s) exact)

  in_place : (m : ℕ) (x : Call) (past : IsPast s x m) → ((past.moment, m) ≡ p) ⊎ (comes_after p (past.moment, m) ≡ true)
  in_place m x past = first_of_all p (past.moment, m) rest exact.rising.0 (exact.exact past.moment m ∙ past.in_set)

  before_is : (x : Call) (t : ℕ) → deadline x s ≡ Some t → is_due_before s found.call x ≡ nat_lt p.0 t
  before_is x t e =
      ap (λ (q : Option ℕ). nat_lt (unwrap_or q 0) (deadline_or x s)) found.deadline_is ∙ ap (λ (q : Option ℕ). nat_lt p.0 (unwrap_or q 0)) e

  after_is : (x : Call) (t : ℕ) → deadline x s ≡ Some t → is_due_before s x found.call ≡ nat_lt t p.0
  after_is x t e =
      ap (λ (q : Option ℕ). nat_lt (unwrap_or q 0) (deadline_or found.call s)) e ∙ ap (λ (q : Option ℕ). nat_lt t (unwrap_or q 0)) found.deadline_is

  prefix : (m : ℕ) (x : Call) → m < p.1 → numbered s.calls m ≡ Some x → is_past_deadline s x ≡ true → is_due_before s found.call x ≡ true
  prefix m x less there passes = before_is x past.moment past.deadline_is ∙ by_place (in_place m x past)
    where
      past : IsPast s x m
      past = is_past s x m there passes

      by_place : ((past.moment, m) ≡ p) ⊎ (comes_after p (past.moment, m) ≡ true) → nat_lt p.0 past.moment ≡ true
      by_place (inl same) = absurd (not_less p.1 (subst (λ (k : ℕ). k < p.1) (ap (λ (q : ℕ × ℕ). q.1) same) less))
      by_place (inr afterwards) = before_by p (past.moment, m) afterwards less

  afterwards : (m : ℕ) (x : Call) → p.1 < m → numbered s.calls m ≡ Some x → is_past_deadline s x ≡ true → is_due_before s x found.call ≡ false
  afterwards m x less there passes = after_is x past.moment past.deadline_is ∙ by_place (in_place m x past)
    where
      past : IsPast s x m
      past = is_past s x m there passes

      by_place : ((past.moment, m) ≡ p) ⊎ (comes_after p (past.moment, m) ≡ true) → nat_lt past.moment p.0 ≡ false
      by_place (inl same) = absurd (not_less p.1 (subst (λ (k : ℕ). p.1 < k) (ap (λ (q : ℕ × ℕ). q.1) same) less))
      by_place (inr afterwards) = not_before p (past.moment, m) afterwards

  module _ (come : nat_le p.0 z.book.moment ≡ true) where
    passes : is_past_deadline s found.call ≡ true
    passes =
        ap (λ (b : Bool). b && holds (λ (t : ℕ). nat_le t (now s)) (deadline found.call s)) found.goes ∙ ap (holds (λ (t : ℕ). nat_le t (now s))) found.deadline_is
        ∙ ap (nat_le p.0) h.clock.moment ∙ come

    pub next_is : next_deadline s ≡ Some (action.CallEnds p.1 ending.Deadline)
    next_is =
        ap (option_map (ending_call ending.Deadline)) (numbered_foremost (is_due_before s) (is_past_deadline s) s.calls p.1 found.call found.there passes prefix afterwards)
        ∙ ap (λ (k : ℕ). Some (action.CallEnds k ending.Deadline)) (counted_at (λ (c : Call). c.number) s.calls p.1 found.call h.kept.calls found.there)

-- or none has
module _ (z : StateSeen) (s : Seen) (d : List (ℕ × ℕ)) (h : Agrees (at d z) s) (late : (q : ℕ × ℕ) → has d q ≡ true → nat_le q.0 z.book.moment ≡ false) where
  not_past : (m : ℕ) (x : Call) (b : Bool) → is_past_deadline s x ≡ b → numbered s.calls m ≡ Some x → is_past_deadline s x ≡ false
  not_past m x false e there = e
  not_past m x true e there =
      let past : IsPast s x m = is_past s x m there e in
      absurd (both_ways (nat_le past.moment z.book.moment) (late (past.moment, m) (h.sets.deadlines.exact past.moment m ∙ past.in_set))
      (sym (ap (nat_le past.moment) h.clock.moment) ∙ past.come))

  pub none_next : next_deadline s ≡ None
  none_next =
      ap (λ (cs : List Call). option_map (ending_call ending.Deadline) (foremost (is_due_before s) cs))
      (none_numbered (is_due_before s) (is_past_deadline s) s.calls (λ m x there. not_past m x (is_past_deadline s x) refl there))
