-- What was read of an input that is known.
use Rattle.std.proofs.Common.{◌≡◌, ◌⊎◌, ◌∙◌, ℕ, Option, Some, None, List, ◌++◌, ap, append-nil, inl, inr, refl, subst, sym}
use Rattle.gate_io.specs.Outside.{IsAtEnd, Takes}

pub taken_of : (input text : List ℕ) (left : Option (List ℕ)) → Takes (Some input) left text → (more : List ℕ) × (left ≡ Some more) × (input ≡ text ++ more)
taken_of input text None takes = absurd takes
taken_of input text (Some more) takes = (more, refl, takes)

-- all of it, where nothing is left
pub all_taken : (input text : List ℕ) (left : Option (List ℕ)) → Takes (Some input) left text → IsAtEnd left → input ≡ text
all_taken input text None takes end = absurd takes
all_taken input text (Some more) takes end = takes ∙ ap (λ (x : List ℕ). text ++ x) end ∙ append-nil text

-- what holds of all that was read, or of whatever begins so, holds of the input
pub found : (P Q : List ℕ → Type 0) (input text : List ℕ) (left : Option (List ℕ)) → Takes (Some input) left text
    → (IsAtEnd left × P text) ⊎ ((more : List ℕ) → Q (text ++ more)) → P input ⊎ Q input
found P Q input text left takes (inl (end, holds)) = inl (subst P (sym (all_taken input text left takes end)) holds)
found P Q input text left takes (inr always) =
    let of = taken_of input text left takes in
    inr (subst Q (sym of.2) (always of.0))

pub found_one : (P : List ℕ → Type 0) (input text : List ℕ) (left : Option (List ℕ)) → Takes (Some input) left text
    → (IsAtEnd left × P text) ⊎ ((more : List ℕ) → P (text ++ more)) → P input
found_one P input text left takes holds = by (found P P input text left takes holds)
  where
    by : P input ⊎ P input → P input
    by (inl is) = is
    by (inr is) = is
