-- The values of a name with one more field, and their pushback.
use Rattle.std.proofs.Common.{◌≡◌, ℕ, Bool, true, false, cond, List, [], ◌∷◌, ◌++◌, ap, sym, refl, map, filter, bytes_eq}
use Rattle.grpc_base.specs.declared.fields.Field.{Field}
use Rattle.grpc_base.specs.declared.plan.Pushback.TheVariants as pushback
use Rattle.grpc_meta.specs.ResponseFields.{delay_of, pushback_of, values_of}

-- a field of another name adds no value
pub values_of-other : (name : List ℕ) (before : List Field) (f : Field) → bytes_eq f.name name ≡ false → values_of name (before ++ f ∷ []) ≡ values_of name before
values_of-other name [] f other = rw other
values_of-other name (b ∷ before) f other =
    elim (bytes_eq b.name name) as (λ t. map (λ g. g.value) (cond t (b ∷ filter (λ g. bytes_eq g.name name) (before ++ f ∷ [])) (filter (λ g. bytes_eq g.name name) (before ++ f ∷ []))) ≡ map (λ g. g.value) (cond t (b ∷ filter (λ g. bytes_eq g.name name) before) (filter (λ g. bytes_eq g.name name) before))) [
      | true ↦ ap (λ (vs : List (List ℕ)). b.value ∷ vs) (values_of-other name before f other)
      | false ↦ values_of-other name before f other
    ]

-- and one of the name adds its own
pub values_of-same : (name : List ℕ) (before : List Field) (f : Field) → bytes_eq f.name name ≡ true → values_of name (before ++ f ∷ []) ≡ values_of name before ++ f.value ∷ []
values_of-same name [] f same = rw same
values_of-same name (b ∷ before) f same =
    elim (bytes_eq b.name name) as (λ t. map (λ g. g.value) (cond t (b ∷ filter (λ g. bytes_eq g.name name) (before ++ f ∷ [])) (filter (λ g. bytes_eq g.name name) (before ++ f ∷ []))) ≡ map (λ g. g.value) (cond t (b ∷ filter (λ g. bytes_eq g.name name) before) (filter (λ g. bytes_eq g.name name) before)) ++ f.value ∷ []) [
      | true ↦ ap (λ (vs : List (List ℕ)). b.value ∷ vs) (values_of-same name before f same)
      | false ↦ values_of-same name before f same
    ]

-- a value always says something
delay_is_said : (b : Bool) (n : ℕ) → cond b (pushback.After n) pushback.Stop ≡ pushback.None → ⊥
delay_is_said true n e = cc
delay_is_said false n e = cc

-- a value where there was none
pub pushback_of-first : (values : List (List ℕ)) (value : List ℕ) → pushback.None ≡ pushback_of values → pushback_of (values ++ value ∷ []) ≡ delay_of value
pushback_of-first [] value none = refl
pushback_of-first (v ∷ []) value none = absurd (delay_is_said _ _ (sym none))
pushback_of-first (v ∷ w ∷ more) value none = cc

-- and one more value
pub pushback_of-more : (values : List (List ℕ)) (value : List ℕ) → (pushback_of values ≡ pushback.None → ⊥) → pushback_of (values ++ value ∷ []) ≡ pushback.Stop
pushback_of-more [] value some = absurd (some refl)
pushback_of-more (v ∷ []) value some = refl
pushback_of-more (v ∷ w ∷ more) value some = refl
