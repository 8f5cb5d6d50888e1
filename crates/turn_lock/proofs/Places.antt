-- Entries with their places, and beginnings of a history.
use Rattle.std.proofs.Common.{◌≡◌, ℕ, zero, suc, ◌+◌, ◌≤◌, Bool, true, false, nat_lt, cond, eqb, List, [], ◌∷◌, ◌++◌, length, drop, Some, slice_get, refl, sym, ap, ◌∙◌, subst, append_assoc, arith}
use Rattle.std.proofs.lemmas.List.{length-append, append-nil, drop_at}
use Rattle.std.proofs.lemmas.Bool.Decides.{nat_tests}
use Rattle.std.proofs.lemmas.Option.{none-some, slice_get_within}
use Rattle.turn_lock.specs.History.{StartsWith, places, times, put_in_order, merged, Stands, Ascends, once_below}

one_more : (x n : ℕ) → cond (eqb n x) 1 0 + once_below x n ≡ once_below x (n + 1)
one_more x n = grind (arith, nat_tests)

module _ {E : Type 0} where
  pub times-append : (x : ℕ) (a b : List (ℕ × E)) → times x (a ++ b) ≡ times x a + times x b
  times-append x [] b = omega arith
  times-append x (p ∷ a) b = omega (arith, times-append x a b)

  pub times-places : (x n : ℕ) (es : List E) → times x (places n es) + once_below x n ≡ once_below x (n + length es)
  times-places x n [] = let e : n + 0 ≡ n = omega arith in rw e (omega arith)
  times-places x n (e ∷ es) = let is : n + 1 + length es ≡ n + suc (length es) = omega arith in
      let more : times x (places (n + 1) es) + once_below x (n + 1) ≡ once_below x (n + suc (length es)) = times-places x (n + 1) es ∙ ap (once_below x) is in
      let here = one_more x n in omega (arith, more, here)

  pub times-put : (x : ℕ) (p : ℕ × E) (qs : List (ℕ × E)) → times x (put_in_order p qs) ≡ cond (eqb p.0 x) 1 0 + times x qs
  times-put x p [] = refl
  times-put x p (q ∷ qs) = elim (nat_lt p.0 q.0) as (λ b. times x (cond b (p ∷ q ∷ qs) (q ∷ put_in_order p qs)) ≡ cond (eqb p.0 x) 1 0 + (cond (eqb q.0 x) 1 0 + times x qs)) [
    | true ↦ refl
    | false ↦ (let e = times-put x p qs in omega (arith, e))
  ]

  pub times-merged : (x : ℕ) (ps qs : List (ℕ × E)) → times x (merged ps qs) ≡ times x ps + times x qs
  times-merged x [] qs = omega arith
  times-merged x (p ∷ ps) qs = omega (arith, times-put x p (merged ps qs), times-merged x ps qs)

  pub get_more : (xs ys : List E) (k : ℕ) (e : E) → slice_get xs k ≡ Some e → slice_get (xs ++ ys) k ≡ Some e
  get_more [] ys k e h = absurd (none-some e h)
  get_more (x ∷ xs) ys zero e h = h
  get_more (x ∷ xs) ys (suc k) e h = get_more xs ys k e h

  get_here : (xs : List E) (e : E) (ys : List E) (n : ℕ) → length xs ≡ n → slice_get (xs ++ e ∷ ys) n ≡ Some e
  get_here [] e ys zero h = refl
  get_here [] e ys (suc n) h = absurd (omega arith)
  get_here (x ∷ xs) e ys zero h = absurd (omega arith)
  get_here (x ∷ xs) e ys (suc n) h = get_here xs e ys n (omega arith)

  stands-longer : (history more : List E) (ps : List (ℕ × E)) → Stands history ps → Stands (history ++ more) ps
  stands-longer history more [] s = tt
  stands-longer history more (p ∷ ps) s = (get_more history more p.0 p.1 s.0, stands-longer history more ps s.1)

  pub stands-later : (history later : List E) (ps : List (ℕ × E)) → StartsWith later history → Stands history ps → Stands later ps
  stands-later history later ps w s = subst (λ (h : List E). Stands h ps) (sym w.1) (stands-longer history w.0 ps s)

  pub stands-append : (history : List E) (a b : List (ℕ × E)) → Stands history a → Stands history b → Stands history (a ++ b)
  stands-append history [] b s t = t
  stands-append history (p ∷ a) b s t = (s.0, stands-append history a b s.1 t)

  places_stand : (history es : List E) (n : ℕ) → length history ≡ n → Stands (history ++ es) (places n es)
  places_stand history [] n h = tt
  places_stand history (e ∷ es) n h = (
    get_here history e es n h,
    subst (λ (l : List E). Stands l (places (n + 1) es)) (append_assoc history (e ∷ []) es)
        (places_stand (history ++ e ∷ []) es (n + 1) (length-append history (e ∷ []) ∙ omega arith)),
  )

  pub stands-places : (history later : List E) (made : List E) → later ≡ history ++ made → Stands later (places (length history) made)
  stands-places history later made e = subst (λ (l : List E). Stands l (places (length history) made)) (sym e) (places_stand history made (length history) refl)

  stands-put : (history : List E) (p : ℕ × E) (qs : List (ℕ × E)) → slice_get history p.0 ≡ Some p.1 → Stands history qs → Stands history (put_in_order p qs)
  stands-put history p [] h s = (h, tt)
  stands-put history p (q ∷ qs) h s = elim (nat_lt p.0 q.0) as (λ b. Stands history (cond b (p ∷ q ∷ qs) (q ∷ put_in_order p qs))) [
    | true ↦ (h, s)
    | false ↦ (s.0, stands-put history p qs h s.1)
  ]

  pub stands-merged : (history : List E) (ps qs : List (ℕ × E)) → Stands history ps → Stands history qs → Stands history (merged ps qs)
  stands-merged history [] qs s t = t
  stands-merged history (p ∷ ps) qs s t = stands-put history p (merged ps qs) s.0 (stands-merged history ps qs s.1 t)

  pub starts_self : (xs : List E) → StartsWith xs xs
  starts_self xs = ([], sym (append-nil xs))

  pub starts_empty : (xs : List E) → StartsWith xs []
  starts_empty xs = (xs, refl)

  pub starts_longer : (xs ys zs : List E) → StartsWith ys xs → StartsWith zs ys → StartsWith zs xs
  starts_longer xs ys zs v w = (v.0 ++ w.0, w.1 ∙ (ap (λ (l : List E). l ++ w.0) v.1 ∙ append_assoc xs v.0 w.0))

  -- what a history has more than its beginning
  pub rest_is : (history later : List E) → (w : StartsWith later history) → drop (length history) later ≡ w.0
  rest_is history later w = ap (drop (length history)) w.1 ∙ drop_at history w.0 (length history) refl

  pub length_later : (history later : List E) → (w : StartsWith later history) → length later ≡ length history + length w.0
  length_later history later w = ap length w.1 ∙ length-append history w.0

  pub merged_none : (ps qs : List (ℕ × E)) → ps ≡ [] → qs ≡ [] → merged ps qs ≡ []
  merged_none ps qs a b = ap (λ (l : List (ℕ × E)). merged l qs) a ∙ b

  pub ascends-lower : (m n : ℕ) (ps : List (ℕ × E)) → m ≤ n → Ascends n ps → Ascends m ps
  ascends-lower m n [] h s = tt
  ascends-lower m n (p ∷ ps) h s = let first = s.0 in (omega (arith, first), s.1)

  pub ascends-places : (m n : ℕ) (es : List E) → m ≤ n → Ascends m (places n es)
  ascends-places m n [] h = tt
  ascends-places m n (e ∷ es) h = (h, ascends-places n (n + 1) es (omega arith))

  pub ascends-append : (history : List E) (m : ℕ) (ps qs : List (ℕ × E)) → m ≤ length history → Stands history ps → Ascends m ps → Ascends (length history) qs → Ascends m (ps ++ qs)
  ascends-append history m [] qs h s a b = ascends-lower m (length history) qs h b
  ascends-append history m (p ∷ ps) qs h s a b = let within = slice_get_within history p.0 p.1 s.0 in (a.0, ascends-append history p.0 ps qs (omega (arith, within)) s.1 a.1 b)

  put_before : (m : ℕ) (p q : ℕ × E) (qs : List (ℕ × E)) (b : Bool) → nat_lt p.0 q.0 ≡ b → m ≤ p.0 → (m ≤ q.0) × Ascends q.0 qs → (q.0 ≤ p.0 → Ascends q.0 (put_in_order p qs)) → Ascends m (cond b (p ∷ q ∷ qs) (q ∷ put_in_order p qs))
  put_before m p q qs true is h s later = (h, (grind (arith, nat_tests), s.1))
  put_before m p q qs false is h s later = (s.0, later (grind (arith, nat_tests)))

  pub ascends-put : (m : ℕ) (p : ℕ × E) (qs : List (ℕ × E)) → m ≤ p.0 → Ascends m qs → Ascends m (put_in_order p qs)
  ascends-put m p [] h s = (h, tt)
  ascends-put m p (q ∷ qs) h s = put_before m p q qs (nat_lt p.0 q.0) refl h s (λ le. ascends-put q.0 p qs le s.1)

  pub ascends-merged : (ps qs : List (ℕ × E)) → Ascends 0 ps → Ascends 0 qs → Ascends 0 (merged ps qs)
  ascends-merged [] qs a b = b
  ascends-merged (p ∷ ps) qs a b = ascends-put 0 p (merged ps qs) (omega arith) (ascends-merged ps qs (ascends-lower 0 p.0 ps (omega arith) a.1) b)
