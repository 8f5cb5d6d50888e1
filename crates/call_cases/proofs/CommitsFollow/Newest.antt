-- The last one of a list that passes a test, where none did, and then one is changed so that it does.
use Rattle.std.proofs.Common.{◌≡◌, ◌∷◌, ap, ◌∙◌, Bool, true, List, [], Option, None, Some, ℕ, zero, suc, if◌then◌else◌, slice_get}
use Rattle.std.specs.Option.{option_or}
use Rattle.std.specs.Prelude.{slice_set}
use Rattle.session_actions.specs.Words.{changed, changed_if, find_last, numbered}
use Rattle.session_order.proofs.Lists.{or_none}

new_set : {X : Type 0} (test : X → Bool) (xs : List X) (i : ℕ) (x y : X) → slice_get xs i ≡ Some x → find_last test xs ≡ None → test y ≡ true → find_last test (slice_set xs i y) ≡ Some y
new_set test [] i x y at none now = absurd (cc)
new_set test (z ∷ xs) zero x y at none now =
    ap (λ (o : Option _). option_or o (if test y then Some y else None)) (or_none (find_last test xs) (if test z then Some z else None) none).0
    ∙ ap (λ (q : Bool). if q then Some y else None) now
new_set test (z ∷ xs) (suc i) x y at none now =
    ap (λ (o : Option _). option_or o (if test z then Some z else None)) (new_set test xs i x y at (or_none (find_last test xs) (if test z then Some z else None) none).0 now)

pub new_last : {X : Type 0} (test : X → Bool) (f : X → X) (m : ℕ) (xs : List X) (x : X) → numbered xs m ≡ Some x → find_last test xs ≡ None → test (f x) ≡ true
    → find_last test (changed f m xs) ≡ Some (f x)
new_last test f zero xs x at none now = absurd (cc)
new_last test f (suc i) xs x at none now = ap (λ (o : Option _). find_last test (changed_if f (suc i) xs o)) at ∙ new_set test xs i x (f x) at none now
