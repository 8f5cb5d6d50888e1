-- The attempts of a session, once those have ended whose ends are left, are those that it has, with these ended.
use Rattle.std.proofs.Common.{◌≡◌, ◌+◌, ◌<◌, ◌==◌, ◌||◌, ◌∷◌, ap, arith, refl, subst, sym, ◌∙◌, Bool, List, [], false, if◌then◌else◌, map, suc, true, zero, ℕ}
use Rattle.std.proofs.lemmas.Bool.Decides.{nat_tests}
use Rattle.attempt_ledger.specs.declared.row.RowEnd.{RowEnd}
use Rattle.end_cases.proofs.AttemptEnds.LeftLinks.{changed_down, places_left}
use Rattle.end_cases.specs.AttemptEnds.Left.{rows_ended}
use Rattle.lb_policy.specs.Table.{is_one_of}
use Rattle.link_actions.specs.ResetActions.Laws.{AttemptsAreEndedAt, IsEndedIf}
use Rattle.link_actions.specs.Sees.{AttemptsStandInPlace}
use Rattle.session_actions.specs.AttemptEnds.{with_end}
use Rattle.session_actions.specs.Words.{changed}
use Rattle.session_actions.specs.declared.attempt.Attempt.{Attempt}

-- one of them ended
abbrev one_ended : RowEnd → Bool → Attempt → Attempt
one_ended e b a = if b then with_end e a else a

abbrev IsOneEnded : RowEnd → ℕ → List Attempt → List Attempt → Type 0
IsOneEnded e t [] [] = Unit {0}
IsOneEnded e t (a ∷ as_) (b ∷ bs) = (b ≡ one_ended e (a.place == t) a) × IsOneEnded e t as_ bs
IsOneEnded e t _ _ = ⊥

away : (m k t : ℕ) → m ≡ k → t < k → (m == t) ≡ false
away m k t e h = grind (arith, nat_tests, e, h)

later_off : (m k t i : ℕ) → m ≡ k → t + 1 ≡ k + suc (suc i) → (m == t) ≡ false
later_off m k t i e h = grind (arith, nat_tests, e, h)

here : (m k t : ℕ) → m ≡ k → t + 1 ≡ k + 1 → (m == t) ≡ true
here m k t e h = grind (arith, nat_tests, e, h)

none_from : (e : RowEnd) (t k : ℕ) (xs : List Attempt) → AttemptsStandInPlace k xs → t < k → IsOneEnded e t xs xs
none_from e t k [] places low = tt
none_from e t k (x ∷ xs) places low =
    let next : t < k + 1 = omega (arith, low) in
    (sym (ap (λ (b : Bool). one_ended e b x) (away x.place k t places.0 low)), none_from e t (k + 1) xs places.1 next)

one_from : (e : RowEnd) (n k t : ℕ) (xs : List Attempt) → AttemptsStandInPlace k xs → t + 1 ≡ k + n → IsOneEnded e t xs (changed (with_end e) n xs)
one_from e zero k t xs places at = (let low : t < k = omega (arith, at) in none_from e t k xs places low)
one_from e (suc i) k t [] places at = tt
one_from e (suc zero) k t (x ∷ xs) places at =
    let next : t < k + 1 = omega (arith, at) in
    (sym (ap (λ (b : Bool). one_ended e b x) (here x.place k t places.0 at)), none_from e t (k + 1) xs places.1 next)
one_from e (suc (suc i)) k t (x ∷ xs) places at =
    let next : t + 1 ≡ k + 1 + suc i = omega (arith, at) in
    subst (IsOneEnded e t (x ∷ xs)) (sym (changed_down (with_end e) i x xs))
    (sym (ap (λ (b : Bool). one_ended e b x) (later_off x.place k t i places.0 at)), one_from e (suc i) (k + 1) t xs places.1 next)

-- and others after it
pair_by : (e : RowEnd) (a b c : Attempt) (p q : Bool) → b ≡ one_ended e p a → IsEndedIf q b c → IsEndedIf (p || q) a c
pair_by e a b c true true is ended = (ended.0, ended.1 ∙ ap (with_end ended.0) is)
pair_by e a b c true false is same = (e, same ∙ is)
pair_by e a b c false true is ended = (ended.0, ended.1 ∙ ap (with_end ended.0) is)
pair_by e a b c false false is same = same ∙ is

place_by : (e : RowEnd) (a b : Attempt) (p : Bool) → b ≡ one_ended e p a → b.place ≡ a.place
place_by e a b true is = ap (λ (z : Attempt). z.place) is
place_by e a b false is = ap (λ (z : Attempt). z.place) is

turned : (m n : ℕ) → (m == n) ≡ (n == m)
turned m n = grind (arith, nat_tests)

one_more : (e : RowEnd) (t : ℕ) (ts : List ℕ) (as_ bs cs : List Attempt) → IsOneEnded e t as_ bs → AttemptsAreEndedAt ts bs cs → AttemptsAreEndedAt (t ∷ ts) as_ cs
one_more e t ts [] [] [] one are = tt
one_more e t ts (a ∷ as_) (b ∷ bs) (c ∷ cs) one are =
    let place : b.place ≡ a.place = place_by e a b (a.place == t) one.0 in
    let pair : IsEndedIf ((a.place == t) || is_one_of ts b.place) a c = pair_by e a b c (a.place == t) (is_one_of ts b.place) one.0 are.0 in
    (subst (λ (k : Bool). IsEndedIf (k || is_one_of ts a.place) a c) (turned a.place t) (subst (λ (k : ℕ). IsEndedIf ((a.place == t) || is_one_of ts k) a c) place pair), one_more e t ts as_ bs cs one.1 are.1)
one_more e t ts [] [] (c ∷ cs) one are = absurd are
one_more e t ts [] (b ∷ bs) cs one are = absurd one
one_more e t ts (a ∷ as_) [] cs one are = absurd one
one_more e t ts (a ∷ as_) (b ∷ bs) [] one are = absurd are

none_ended : (xs : List Attempt) → AttemptsAreEndedAt [] xs xs
none_ended [] = tt
none_ended (x ∷ xs) = (refl, none_ended xs)

pub rows_are_ended : (ends : List (ℕ × RowEnd)) (xs : List Attempt) → AttemptsStandInPlace 1 xs → AttemptsAreEndedAt (map (λ (x : ℕ × RowEnd). x.0) ends) xs (rows_ended ends xs)
rows_are_ended [] xs places = none_ended xs
rows_are_ended (x ∷ ends) xs places =
    let ys : List Attempt = changed (with_end x.1) x.0 xs in
    let at : x.0 + 1 ≡ 1 + x.0 = omega arith in
    one_more x.1 x.0 (map (λ (y : ℕ × RowEnd). y.0) ends) xs ys (rows_ended ends ys) (one_from x.1 x.0 1 x.0 xs places at) (rows_are_ended ends ys (places_left (x ∷ []) xs places))
