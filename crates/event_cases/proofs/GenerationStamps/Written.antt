-- A stamp of one policy in the session is that of its generation in the ledger.
use Rattle.std.proofs.Common.{◌≡◌, ◌∷◌, ◌++◌, ◌+◌, ◌==◌, ◌&&◌, ap, arith, refl, sym, ◌∙◌, Bool, true, false, List, [], None, Option, Some, ℕ, suc, zero, if◌then◌else◌, is_none, length, map, nat_lt, slice_get}
use Rattle.std.proofs.lemmas.Bool.Decides.{nat_tests}
use Rattle.std.specs.Option.{option_map_or}
use Rattle.std.specs.Prelude.{slice_set}
use Rattle.attempt_ledger.specs.declared.ledger.Generation.{Generation}
use Rattle.event_cases.proofs.GenerationStamps.Along.{gens}
use Rattle.attempt_cases.proofs.NetSettlings.Stamped.{map_stamped}
use Rattle.ledger_stamps.specs.Steps as stamps
use Rattle.ledger_stamps.specs.Steps.{changed_at, index_at}
use Rattle.session_actions.specs.Words.{changed, changed_if, numbered}
use Rattle.session_actions.specs.declared.policy.PolicyUse.{PolicyUse}

two_sets : (uses : List PolicyUse) (i : ℕ) (x y : PolicyUse) → x.generation ≡ y.generation → gens (slice_set uses i x) ≡ gens (slice_set uses i y)
two_sets [] i x y e = refl
two_sets (g ∷ uses) zero x y e = ap (λ (z : Generation). z ∷ gens uses) e
two_sets (g ∷ uses) (suc i) x y e = ap (λ (l : List Generation). g.generation ∷ l) (two_sets uses i x y e)

module _ (h : Generation → Generation) (f : PolicyUse → PolicyUse) where
  abbrev own : PolicyUse → PolicyUse
  own g = record g { generation = h g.generation }

  pub written : (n : ℕ) (uses : List PolicyUse) (c : PolicyUse) → numbered uses n ≡ Some c → (f c).generation ≡ h c.generation
      → gens (changed f n uses) ≡ changed_at h (gens uses) n
  written zero uses c there e = absurd (cc)
  written (suc i) uses c there e =
      ap (λ (o : Option PolicyUse). gens (changed_if f (suc i) uses o)) there
      ∙ two_sets uses i (f c) (own c) e
      ∙ sym (ap (λ (o : Option PolicyUse). gens (changed_if own (suc i) uses o)) there)
      ∙ map_stamped (λ (g : PolicyUse). g.generation) (λ (g : PolicyUse). g.generation) own h (λ g. refl) (λ g. refl) (suc i) uses

-- the last of a list that grew by one
less_last : (n : ℕ) → nat_lt n (n + 1) ≡ true
less_last n = grind (arith, nat_tests)

change_last : (h : Generation → Generation) (gs : List Generation) (g : Generation) → stamps.changed h (gs ++ g ∷ []) (length gs) ≡ gs ++ h g ∷ []
change_last h [] g = refl
change_last h (x ∷ gs) g = ap (λ (l : List Generation). x ∷ l) (change_last h gs g)

long : (gs : List Generation) (g : Generation) → length (gs ++ g ∷ []) ≡ length gs + 1
long [] g = refl
long (x ∷ gs) g = let more : length (gs ++ g ∷ []) ≡ length gs + 1 = long gs g in omega (arith, more)

pub written_last : (h : Generation → Generation) (gs : List Generation) (g : Generation) (n : ℕ) → n ≡ length gs → changed_at h (gs ++ g ∷ []) (n + 1) ≡ gs ++ h g ∷ []
written_last h gs g n e =
    let number : n + 1 ≡ suc (length gs) = omega (arith, e) in
    let inside : nat_lt (length gs) (length (gs ++ g ∷ [])) ≡ true = ap (nat_lt (length gs)) (long gs g) ∙ less_last (length gs) in
    ap (changed_at h (gs ++ g ∷ [])) number
    ∙ ap (λ (b : Bool). option_map_or (λ (index : ℕ). stamps.changed h (gs ++ g ∷ []) index) (if b then Some (length gs) else None) (gs ++ g ∷ [])) inside
    ∙ change_last h gs g
