-- The last one of a list that passes a test.
use Rattle.session_actions.specs.Words.{find_last}
use Rattle.std.proofs.Common.{Bool, List, None, Option, Some, [], ap, false, if◌then◌else◌, refl, slice_get, suc, sym, true, zero, ℕ, ◌∙◌, ◌∷◌, ◌≡◌}
use Rattle.std.specs.Option.{option_or}

pub record IsIn {X : Type 0} (p : X → Bool) (xs : List X) (x : X) : Type 0 where
  pub index : ℕ
  pub here : slice_get xs index ≡ Some x
  pub passes : p x ≡ true

in_by : {X : Type 0} (p : X → Bool) (y x : X) (xs : List X) (o : Option X) (b : Bool) → p y ≡ b → option_or o (if b then Some y else None) ≡ Some x
    → ((z : X) → o ≡ Some z → IsIn p xs z) → IsIn p (y ∷ xs) x
in_by p y x xs (Some z) b is e rest =
    let one : z ≡ x = (cc) in
    let r : IsIn p xs z = rest z refl in
    record { index = suc r.index; here = r.here ∙ ap (λ (w : _). Some w) one; passes = ap p (sym one) ∙ r.passes }
in_by p y x xs None true is e rest =
    let one : y ≡ x = (cc) in record { index = 0; here = ap (λ (w : _). Some w) one; passes = ap p (sym one) ∙ is }
in_by {X = X} p y x xs None false is e rest = absurd (let bad : ◌≡◌ {A = Option X} None (Some x) = e in (cc))

pub last_in : {X : Type 0} (p : X → Bool) (xs : List X) (x : X) → find_last p xs ≡ Some x → IsIn p xs x
last_in {X = X} p [] x e = absurd (let bad : ◌≡◌ {A = Option X} None (Some x) = e in (cc))
last_in p (y ∷ xs) x e = in_by p y x xs (find_last p xs) (p y) refl e (λ z f. last_in p xs z f)

none_by : {X : Type 0} (p : X → Bool) (y x : X) (xs : List X) (o : Option X) (b : Bool) → p y ≡ b → option_or o (if b then Some y else None) ≡ None
    → (o ≡ None → (i : ℕ) → slice_get xs i ≡ Some x → p x ≡ false) → (i : ℕ) → slice_get (y ∷ xs) i ≡ Some x → p x ≡ false
none_by {X = X} p y x xs (Some z) b is e rest i got = absurd (let bad : ◌≡◌ {A = Option X} (Some z) None = e in (cc))
none_by {X = X} p y x xs None true is e rest i got = absurd (let bad : ◌≡◌ {A = Option X} (Some y) None = e in (cc))
none_by p y x xs None false is e rest zero got = let one : y ≡ x = (cc) in ap p (sym one) ∙ is
none_by p y x xs None false is e rest (suc i) got = rest refl i got

pub none_last : {X : Type 0} (p : X → Bool) (xs : List X) → find_last p xs ≡ None → (i : ℕ) (x : X) → slice_get xs i ≡ Some x → p x ≡ false
none_last {X = X} p [] e i x got = absurd (let bad : ◌≡◌ {A = Option X} None (Some x) = got in (cc))
none_last p (y ∷ xs) e i x got = none_by p y x xs (find_last p xs) (p y) refl e (λ f j at. none_last p xs f j x at) i got
