-- Pieces of a text that goes on.
use Rattle.std.proofs.Common.{◌≡◌, ◌≢◌, ◌∙◌, ℕ, List, [], ◌∷◌, ◌++◌, All, true, ap, append_assoc, inl, inr, refl, sym}
use Rattle.std.specs.Prelude.{◌==◌}
use Rattle.std.specs.List.{onto_first}
use Rattle.std.proofs.lemmas.List.Splits.{slice_split-cons_no, slice_split-cons_yes}
use Rattle.grpc_base.specs.Pieces.{pieces}
use Rattle.grpc_base.proofs.PieceLaws.{pieces-parted, pieces-whole}
use Rattle.script_fields.proofs.PartLaws.{pieces-some}
use Rattle.script_fields.proofs.TextLaws.{bool_cases}
use Rattle.script_input.specs.Scripts.{is_closed}

blank_snoc : {X : Type 0} (xs : List X) (x : X) → [] ≡ xs ++ x ∷ [] → ⊥
blank_snoc [] x e = absurd (cc)
blank_snoc (y ∷ xs) x e = absurd (cc)

one_snoc : {X : Type 0} (xs : List X) (x y : X) → y ∷ [] ≡ xs ++ x ∷ [] → (xs ≡ []) × (x ≡ y)
one_snoc [] x y e = (refl, (cc))
one_snoc (z ∷ xs) x y e = (let rest : [] ≡ xs ++ x ∷ [] = (cc) in absurd (blank_snoc xs x rest))

-- the last part goes on in the first of what follows
pub pieces_append : (b : ℕ) (t u : List ℕ) (ps : List (List ℕ)) (p q : List ℕ) (qs : List (List ℕ)) → pieces b t ≡ ps ++ p ∷ [] → pieces b u ≡ q ∷ qs → pieces b (t ++ u) ≡ ps ++ (p ++ q) ∷ qs
pieces_append b [] u ps p q qs e f =
    let both : (ps ≡ []) × (p ≡ []) = one_snoc ps p [] e in
    f ∙ ap (λ (r : List ℕ). (r ++ q) ∷ qs) (sym both.1) ∙ ap (λ (r : List (List ℕ)). r ++ (p ++ q) ∷ qs) (sym both.0)
pieces_append b (x ∷ t) u [] p q qs e f =
    let s : (part : List ℕ) × (parts : List (List ℕ)) × (pieces b t ≡ part ∷ parts) = pieces-some b t in
    elim (bool_cases (x == b)) [
      | inl same ↦ (
          let is : pieces b (x ∷ t) ≡ [] ∷ (s.0 ∷ s.1) = slice_split-cons_yes (λ d. d == b) x t same ∙ ap (λ (r : List (List ℕ)). [] ∷ r) s.2 in
          let bad : [] ∷ (s.0 ∷ s.1) ≡ p ∷ [] = sym is ∙ e in
          absurd (cc)
          )
      | inr other ↦ (
          let is : pieces b (x ∷ t) ≡ (x ∷ s.0) ∷ s.1 = slice_split-cons_no (λ d. d == b) x t other ∙ ap (onto_first x) s.2 in
          let whole : (x ∷ s.0) ∷ s.1 ≡ p ∷ [] = sym is ∙ e in
          let prefix : x ∷ s.0 ≡ p = (cc) in
          let none : s.1 ≡ [] = (cc) in
          let rest : pieces b (t ++ u) ≡ (s.0 ++ q) ∷ qs = pieces_append b t u [] s.0 q qs (s.2 ∙ ap (λ (r : List (List ℕ)). s.0 ∷ r) none) f in
          let made : pieces b (x ∷ (t ++ u)) ≡ (x ∷ (s.0 ++ q)) ∷ qs = slice_split-cons_no (λ d. d == b) x (t ++ u) other ∙ ap (onto_first x) rest in
          made ∙ ap (λ (r : List ℕ). (r ++ q) ∷ qs) prefix
          )
    ]
pieces_append b (x ∷ t) u (y ∷ ps) p q qs e f =
    let s : (part : List ℕ) × (parts : List (List ℕ)) × (pieces b t ≡ part ∷ parts) = pieces-some b t in
    elim (bool_cases (x == b)) [
      | inl same ↦ (
          let is : pieces b (x ∷ t) ≡ [] ∷ pieces b t = slice_split-cons_yes (λ d. d == b) x t same in
          let whole : [] ∷ pieces b t ≡ y ∷ (ps ++ p ∷ []) = sym is ∙ e in
          let prefix : [] ≡ y = (cc) in
          let others : pieces b t ≡ ps ++ p ∷ [] = (cc) in
          let rest : pieces b (t ++ u) ≡ ps ++ (p ++ q) ∷ qs = pieces_append b t u ps p q qs others f in
          let made : pieces b (x ∷ (t ++ u)) ≡ [] ∷ (ps ++ (p ++ q) ∷ qs) = slice_split-cons_yes (λ d. d == b) x (t ++ u) same ∙ ap (λ (r : List (List ℕ)). [] ∷ r) rest in
          made ∙ ap (λ (r : List ℕ). r ∷ (ps ++ (p ++ q) ∷ qs)) prefix
          )
      | inr other ↦ (
          let is : pieces b (x ∷ t) ≡ (x ∷ s.0) ∷ s.1 = slice_split-cons_no (λ d. d == b) x t other ∙ ap (onto_first x) s.2 in
          let whole : (x ∷ s.0) ∷ s.1 ≡ y ∷ (ps ++ p ∷ []) = sym is ∙ e in
          let prefix : x ∷ s.0 ≡ y = (cc) in
          let others : s.1 ≡ ps ++ p ∷ [] = (cc) in
          let rest : pieces b (t ++ u) ≡ s.0 ∷ (ps ++ (p ++ q) ∷ qs) = pieces_append b t u (s.0 ∷ ps) p q qs (s.2 ∙ ap (λ (r : List (List ℕ)). s.0 ∷ r) others) f in
          let made : pieces b (x ∷ (t ++ u)) ≡ (x ∷ s.0) ∷ (ps ++ (p ++ q) ∷ qs) = slice_split-cons_no (λ d. d == b) x (t ++ u) other ∙ ap (onto_first x) rest in
          made ∙ ap (λ (r : List ℕ). r ∷ (ps ++ (p ++ q) ∷ qs)) prefix
          )
    ]

-- some bytes without a line feed more
pub parts_longer : (t w : List ℕ) (ps : List (List ℕ)) (p : List ℕ) → pieces 10 t ≡ ps ++ p ∷ [] → All (λ b. b ≢ 10) w → pieces 10 (t ++ w) ≡ ps ++ (p ++ w) ∷ []
parts_longer t w ps p e free = pieces_append 10 t w ps p w [] e (pieces-whole 10 w free)

-- and the line feed after them
pub parts_ended : (t w more : List ℕ) (ps : List (List ℕ)) (p : List ℕ) → pieces 10 t ≡ ps ++ p ∷ [] → All (λ b. b ≢ 10) w → pieces 10 ((t ++ (w ++ 10 ∷ [])) ++ more) ≡ ps ++ (p ++ w) ∷ pieces 10 more
parts_ended t w more ps p e free =
    ap (pieces 10) (append_assoc t (w ++ 10 ∷ []) more ∙ ap (λ (r : List ℕ). t ++ r) (append_assoc w (10 ∷ []) more))
    ∙ pieces_append 10 t (w ++ 10 ∷ more) ps p w (pieces 10 more) e (pieces-parted 10 (w ++ 10 ∷ more) w more refl free)

pub closed_some : (s : List ℕ) → is_closed (pieces 10 s) ≡ true
closed_some s = (let p : (part : List ℕ) × (parts : List (List ℕ)) × (pieces 10 s ≡ part ∷ parts) = pieces-some 10 s in ap is_closed p.2)

pub some_after : (s : List ℕ) → pieces 10 s ≡ [] → ⊥
some_after s none = (let p : (part : List ℕ) × (parts : List (List ℕ)) × (pieces 10 s ≡ part ∷ parts) = pieces-some 10 s in let bad : [] ≡ p.0 ∷ p.1 = sym none ∙ p.2 in absurd (cc))
