-- Pieces of a text, and the texts that they are joined to.
use Rattle.std.proofs.Common.{◌≡◌, ◌≢◌, ℕ, suc, List, [], ◌∷◌, ◌++◌, length, Option, Some, None, refl, ap, sym, inl, inr, ◌∙◌, map}
use Rattle.std.specs.List.{AllByRecursion, join_with_byte, onto_first}
use Rattle.std.specs.Prelude.{◌==◌}
use Rattle.std.proofs.lemmas.List.{append-nil}
use Rattle.std.proofs.lemmas.List.Elements.{All-from_recursion}
use Rattle.std.proofs.lemmas.List.Splits.{join_with_byte-slice_split, slice_split-cons_no, slice_split-cons_yes}
use Rattle.grpc_base.specs.Pieces.{pieces}
use Rattle.grpc_base.proofs.PieceLaws.{pieces-parted, pieces-whole}
use Rattle.script_fields.proofs.TextLaws.{bool_cases}

-- how much a reader of parts has before it
abbrev pub size_left : Option (List ℕ) → ℕ
size_left None = 0
size_left (Some text) = suc (length text)

-- there is always a first piece
pub pieces-some : (b : ℕ) (s : List ℕ) → (piece : List ℕ) × (more : List (List ℕ)) × (pieces b s ≡ piece ∷ more)
pieces-some b [] = ([], [], refl)
pieces-some b (x ∷ s) =
    let p : (piece : List ℕ) × (more : List (List ℕ)) × (pieces b s ≡ piece ∷ more) = pieces-some b s in
    elim (bool_cases (x == b)) [
      | inl same ↦ ([], pieces b s, slice_split-cons_yes (λ d. d == b) x s same)
      | inr other ↦ (x ∷ p.0, p.1, slice_split-cons_no (λ d. d == b) x s other ∙ ap (onto_first x) p.2)
    ]

-- the pieces of a text join to it
pub joined-pieces : (b : ℕ) (s : List ℕ) → join_with_byte b (pieces b s) ≡ s
joined-pieces b s = join_with_byte-slice_split b s

-- a text of one empty piece is empty
pub pieces-blank : (b : ℕ) (s : List ℕ) → pieces b s ≡ [] ∷ [] → s ≡ []
pieces-blank b s e = sym (joined-pieces b s) ∙ ap (join_with_byte b) e

-- texts without the byte are the pieces of what they join to
pub pieces-joined : (b : ℕ) (w : List ℕ) (ws : List (List ℕ)) → AllByRecursion (λ (v : List ℕ). AllByRecursion (λ d. d ≢ b) v) (w ∷ ws) → pieces b (join_with_byte b (w ∷ ws)) ≡ w ∷ ws
pieces-joined b w [] free = pieces-whole b w (All-from_recursion (λ d. d ≢ b) w free.0)
pieces-joined b w (v ∷ ws) free =
    pieces-parted b (join_with_byte b (w ∷ (v ∷ ws))) w (join_with_byte b (v ∷ ws)) refl (All-from_recursion (λ d. d ≢ b) w free.0)
    ∙ ap (λ (t : List (List ℕ)). w ∷ t) (pieces-joined b v ws free.1)

-- what spells values, one of which stands after those that were read
pub one_spelled : {X : Type 0} (f : X → List ℕ) (P : X → Type 0) (xs : List X) (ys : List (List ℕ)) (item : List ℕ) (more : List (List ℕ)) → AllByRecursion P xs → map f xs ≡ ys ++ item ∷ more → (x : X) × P x × (item ≡ f x)
one_spelled f P [] [] item more all e = (let bad : [] ≡ item ∷ more = e in absurd ((cc)))
one_spelled f P [] (y ∷ ys) item more all e = (let bad : [] ≡ y ∷ (ys ++ item ∷ more) = e in absurd ((cc)))
one_spelled f P (x ∷ xs) [] item more all e = (let is : f x ≡ item = (cc) in (x, all.0, sym is))
one_spelled f P (x ∷ xs) (y ∷ ys) item more all e = (let tail : map f xs ≡ ys ++ item ∷ more = (cc) in one_spelled f P xs ys item more all.1 tail)

-- the pieces of a text that is read to its end
pub all_read : (b : ℕ) (text : List ℕ) (ws : List (List ℕ)) → pieces b text ≡ ws ++ [] → (ws ≡ [] → ⊥) × (text ≡ join_with_byte b ws)
all_read b text ws e =
    let is : pieces b text ≡ ws = e ∙ append-nil ws in
    let p : (piece : List ℕ) × (more : List (List ℕ)) × (pieces b text ≡ piece ∷ more) = pieces-some b text in
    ((λ none. (let bad : [] ≡ p.0 ∷ p.1 = sym none ∙ sym is ∙ p.2 in absurd ((cc)))), sym (joined-pieces b text) ∙ ap (join_with_byte b) is)
