-- Lists without repeats.
use Rattle.std.proofs.Common.{◌≡◌, List, [], ◌∷◌, ◌++◌, sym, subst, inl, inr, Contains, arith}
use Rattle.std.proofs.lemmas.List.Elements.{Contains-push_cases, Contains-append_right, Contains-get_or}
use Rattle.grpc_base.specs.declared.address.Address.{Address}
use Rattle.grpc_base.specs.Addresses.{IsWithoutRepeats}

-- what is in a list is in the list with one more before
Contains-afterwards : (x : Address) (xs : List Address) (a : Address) → Contains xs a → Contains (x ∷ xs) a
Contains-afterwards x xs a c = Contains-append_right (x ∷ []) xs a c

-- the prefix of a list is in it
Contains-prefix : (x : Address) (xs : List Address) (a : Address) → a ≡ x → Contains (x ∷ xs) a
Contains-prefix x xs a e =
    subst (λ (y : Address). Contains (x ∷ xs) y) (sym e) (Contains-get_or (x ∷ xs) 0 x (omega arith))

-- a new element at the end keeps a list without repeats
pub IsWithoutRepeats-push : (xs : List Address) (a : Address) → IsWithoutRepeats xs → (Contains xs a → ⊥) → IsWithoutRepeats (xs ++ a ∷ [])
IsWithoutRepeats-push [] a kept new = ((λ c. omega (arith, c.1)), tt)
IsWithoutRepeats-push (x ∷ xs) a kept new = (
  (λ c. elim (Contains-push_cases xs a x c) [ inl in_xs ↦ kept.0 in_xs | inr same ↦ new (Contains-prefix x xs a same) ]),
  IsWithoutRepeats-push xs a kept.1 (λ c. new (Contains-afterwards x xs a c)),
)

-- an address that is not in the list goes to its end
pub IsWithoutRepeats-new : (xs now ys : List Address) (a : Address) → xs ≡ now → (Contains now a → ⊥) → IsWithoutRepeats xs → ys ≡ xs ++ a ∷ [] → IsWithoutRepeats ys
IsWithoutRepeats-new xs now ys a same new kept e =
    subst IsWithoutRepeats (sym e) (IsWithoutRepeats-push xs a kept (λ h. new (subst (λ (zs : List Address). Contains zs a) same h)))
