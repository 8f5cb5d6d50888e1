-- Lists of labels by their first one.
use Rattle.std.proofs.Common.{◌≡◌, ◌↔◌, suc, List, ◌∷◌, All, subst, sym, Bool, IsTrue, arith}
use Rattle.std.proofs.lemmas.List.Elements.{All-cons}

-- what holds of each element holds of those after the first
all_after : {X : Type 0} (P : X → Type 0) (x : X) (xs : List X) → All P (x ∷ xs) → All P xs
all_after P x xs all = λ k d below. all (suc k) d (omega arith)

-- a test of those after the first decides for all, where it holds of the first
pub more_decided : {X : Type 0} (P : X → Type 0) (all : List X) (x : X) (xs : List X) (b : Bool) → all ≡ x ∷ xs → P x → IsTrue b ↔ All P xs → IsTrue b ↔ All P all
more_decided P all x xs b e p decides = subst (λ ys. IsTrue b ↔ All P ys) (sym e) ((λ h. All-cons P x xs p (decides.0 h)), (λ h. decides.1 (all_after P x xs h)))
