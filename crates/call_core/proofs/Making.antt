-- The attempts of a call are made when they are due.
use Rattle.std.proofs.Common.{◌≡◌, ◌≤◌, ◌<◌, ℕ, ◌+◌, Bool, true, false, not, ◌&&◌, nat_lt, if◌then◌else◌, min, Option, Some, None, refl, sym, subst, ◌∙◌, ◌⊎◌, inl, inr}
use Rattle.std.proofs.lemmas.Bool.{ltb-false, ltb-true}
use Rattle.call_core.specs.Laws.{IsForbidden, IsMade, NotDue}
use Rattle.call_core.specs.Parts.{has_none, is_above, is_tested, kind_of_next, stopped_attempts}
use Rattle.call_core.specs.Steps as step
use Rattle.call_core.specs.Steps.{Stepped, call_plan, new_row, next_due}

abbrev Cases : ℕ → Stepped → Stepped → Type 0
Cases moment s t = ((t ≡ s) × NotDue moment s.call) ⊎ (IsForbidden moment s t ⊎ IsMade moment s t)

last_if : (last moment : ℕ) (s : Stepped) (b : Bool) → s.call.attempts.stopped ≡ true → (if b then step.ended_by_row last moment s else s).call.attempts.stopped ≡ true
last_if last moment s true e = refl
last_if last moment s false e = e

stopped_by_last : (last : Option ℕ) (moment : ℕ) (s : Stepped) → s.call.attempts.stopped ≡ true → (step.ended_by_last last moment s).call.attempts.stopped ≡ true
stopped_by_last None moment s e = e
stopped_by_last (Some last) moment s e = last_if last moment s (has_none s.call.live) e

forbidden : (moment due : ℕ) (s : Stepped) → next_due s.call ≡ Some due → due ≤ moment → is_tested (call_plan s.call) s.call.attempts ≡ true → is_above s.tokens ≡ false → IsForbidden moment s (step.refused_due moment s)
forbidden moment due s e passed tested tokens = record {
  due = due;
  is_due = e;
  passed = passed;
  is_tested = tested;
  tokens = tokens;
  stopped = stopped_by_last s.call.attempts.last moment (step.with_attempts (stopped_attempts s.call.attempts) s) refl;
}

made : (moment due : ℕ) (s : Stepped) → next_due s.call ≡ Some due → due ≤ moment → (is_tested (call_plan s.call) s.call.attempts ≡ true → is_above s.tokens ≡ true) → IsMade moment s (step.made due s)
made moment due s e passed allowed = record {
  row = new_row s.call.number (min (s.call.attempts.sent + 1) 4294967295) (kind_of_next (call_plan s.call) s.call.attempts) due None;
  rows = refl;
  call = refl;
  is_due = e;
  passed = passed;
  allowed = allowed;
  acts = refl;
}

by_test : (moment due : ℕ) (s : Stepped) (tested above : Bool) → is_tested (call_plan s.call) s.call.attempts ≡ tested → is_above s.tokens ≡ above → next_due s.call ≡ Some due → due ≤ moment → Cases moment s (if tested && not above then step.refused_due moment s else step.made due s)
by_test moment due s true false t a e passed = inr (inl (forbidden moment due s e passed t a))
by_test moment due s true true t a e passed = inr (inr (made moment due s e passed (λ h. a)))
by_test moment due s false above t a e passed = inr (inr (made moment due s e passed (λ h. absurd (let no : false ≡ true = sym t ∙ h in cc))))

by_moment : (moment due : ℕ) (s : Stepped) (b : Bool) → nat_lt moment due ≡ b → next_due s.call ≡ Some due → Cases moment s (if b then s else step.due_at moment due s)
by_moment moment due s true lt e =
    let early : moment < due = ltb-true moment due lt in
    inl (refl, λ d h. let same : due ≡ d = (let p : Some due ≡ Some d = sym e ∙ h in cc) in subst (λ (k : ℕ). moment < k) same early)
by_moment moment due s false lt e =
    by_test moment due s (is_tested (call_plan s.call) s.call.attempts) (is_above s.tokens) refl refl e (ltb-false moment due lt)

by_due : (moment : ℕ) (s : Stepped) (next : Option ℕ) → next_due s.call ≡ next → Cases moment s (step.made_if next moment s)
by_due moment s None e = inl (refl, λ d h. absurd (let p : None ≡ Some d = sym e ∙ h in cc))
by_due moment s (Some due) e = by_moment moment due s (nat_lt moment due) refl e

pub made_cases : (moment : ℕ) (s : Stepped) → ((step.made_due moment s ≡ s) × NotDue moment s.call) ⊎ (IsForbidden moment s (step.made_due moment s) ⊎ IsMade moment s (step.made_due moment s))
made_cases moment s = by_due moment s (next_due s.call) refl
