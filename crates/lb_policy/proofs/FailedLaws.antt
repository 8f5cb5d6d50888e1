-- The failed subchannels are some of the view, in its order.
use Rattle.std.proofs.Common.{◌≡◌, ℕ, ◌==◌, ◌∙◌, Bool, true, false, not, ◌||◌, ◌&&◌, cond, List, [], ◌∷◌, map, refl, ap, sym, subst}
use Rattle.std.specs.List.{filter, list_any}
use Rattle.std.proofs.lemmas.Bool.{or_parts, eqb-true, eq-eqb}
use Rattle.grpc_base.specs.declared.event.Conn.{Conn}
use Rattle.grpc_base.specs.declared.event.Conn.TheVariants as conn
use Rattle.lb_policy.specs.declared.seen.SubSeen.{SubSeen}
use Rattle.lb_policy.specs.Table.{PolicySeen, is_ready, is_open, is_one_of, is_among, IsWithoutRepeats}
use Rattle.lb_policy.specs.Steps.{emptied, given, noted, noted_sub, counts_as_failed, failed_in, failed_after}
use Rattle.lb_policy.specs.Runs.{PolicyCall, Reset, Accept, Note, PickOne, after_call, after_calls, GivesViews, FailedAreOfTheView, FailedStaysOfTheView}
use Rattle.lb_policy.proofs.NoteLaws.{noted_by, noted-sub, numbers-noted}

-- the numbers of those that pass a test
abbrev pub numbers_of : (SubSeen → Bool) → List SubSeen → List ℕ
numbers_of test view = map (λ (s : SubSeen). s.sub) (filter test view)

-- of each element of a list
abbrev pub Each : {A : Type 0} → (A → Type 0) → List A → Type 0
Each P [] = Unit {0}
Each P (x ∷ xs) = P x × Each P xs

pub each-one : {A : Type 0} (P Q : A → Type 0) → ((x : A) → P x → Q x) → (xs : List A) → Each P xs → Each Q xs
each-one P Q f [] h = tt
each-one P Q f (x ∷ xs) h = (f x h.0, each-one P Q f xs h.1)

pub each-two : {A : Type 0} (P Q R : A → Type 0) → ((x : A) → P x → Q x → R x) → (xs : List A) → Each P xs → Each Q xs → Each R xs
each-two P Q R f [] h g = tt
each-two P Q R f (x ∷ xs) h g = (f x h.0 g.0, each-two P Q R f xs h.1 g.1)

-- in a view without repeats, a subchannel has one of the numbers of those that pass a test exactly where it passes; the
-- view is that of any list whose elements show a subchannel
or-with : (a b c : Bool) → a ≡ false → b ≡ c → (a || b) ≡ c
or-with true b c e h = let g : ⊥ = (cc) in absurd g
or-with false b c e h = h

turned-round : (n m : ℕ) (b : Bool) → (n == m) ≡ b → (m == n) ≡ false → b ≡ false
turned-round n m true e f = let g : (m == n) ≡ true = eq-eqb m n (sym (eqb-true n m e)) in (cc)
turned-round n m false e f = refl

abbrev pub shown_of : {A : Type 0} → (A → SubSeen) → (A → Bool) → List A → List ℕ
shown_of seen test xs = map (λ x. (seen x).sub) (filter test xs)

apart : {A : Type 0} (seen : A → SubSeen) (n : ℕ) (xs : List A) → list_any (λ (t : SubSeen). t.sub == n) (map seen xs) ≡ false → Each (λ (x : A). (n == (seen x).sub) ≡ false) xs
apart seen n [] h = tt
apart seen n (x ∷ xs) h =
    let parts : (((seen x).sub == n) ≡ false) × (list_any (λ (u : SubSeen). u.sub == n) (map seen xs) ≡ false) = or_parts ((seen x).sub == n) (list_any (λ (u : SubSeen). u.sub == n) (map seen xs)) h in
    (turned-round n (seen x).sub (n == (seen x).sub) refl parts.0, apart seen n xs parts.1)

absent-step : {A : Type 0} (seen : A → SubSeen) (n : ℕ) (x : A) (rest : List A) (b : Bool) → ((seen x).sub == n) ≡ false → is_one_of (map (λ (y : A). (seen y).sub) rest) n ≡ false → is_one_of (map (λ (y : A). (seen y).sub) (cond b (x ∷ rest) rest)) n ≡ false
absent-step seen n x rest true e h = or-with ((seen x).sub == n) (is_one_of (map (λ y. (seen y).sub) rest) n) false e h
absent-step seen n x rest false e h = h

absent : {A : Type 0} (seen : A → SubSeen) (test : A → Bool) (n : ℕ) (xs : List A) → list_any (λ (t : SubSeen). t.sub == n) (map seen xs) ≡ false → is_one_of (shown_of seen test xs) n ≡ false
absent seen test n [] h = refl
absent seen test n (x ∷ xs) h =
    let parts : (((seen x).sub == n) ≡ false) × (list_any (λ (u : SubSeen). u.sub == n) (map seen xs) ≡ false) = or_parts ((seen x).sub == n) (list_any (λ (u : SubSeen). u.sub == n) (map seen xs)) h in
    absent-step seen n x (filter test xs) (test x) parts.0 (absent seen test n xs parts.1)

or-first : (a b : Bool) → a ≡ true → (a || b) ≡ true
or-first true b e = refl
or-first false b e = let g : ⊥ = (cc) in absurd g

marks-step : {A : Type 0} (seen : A → SubSeen) (test : A → Bool) (x : A) (xs : List A) (b : Bool) → test x ≡ b → list_any (λ (t : SubSeen). t.sub == (seen x).sub) (map seen xs) ≡ false → Each (λ (y : A). is_among (shown_of seen test xs) (seen y) ≡ test y) xs → Each (λ (y : A). is_among (map (λ (z : A). (seen z).sub) (cond b (x ∷ filter test xs) (filter test xs))) (seen y) ≡ test y) (x ∷ xs)
marks-step seen test x xs true e h next =
    (or-first ((seen x).sub == (seen x).sub) (is_one_of (shown_of seen test xs) (seen x).sub) (eq-eqb (seen x).sub (seen x).sub refl) ∙ sym e, each-two (λ y. ((seen x).sub == (seen y).sub) ≡ false) (λ y. is_among (shown_of seen test xs) (seen y) ≡ test y) (λ y. is_among ((seen x).sub ∷ shown_of seen test xs) (seen y) ≡ test y) (λ y a m. or-with ((seen x).sub == (seen y).sub) (is_among (shown_of seen test xs) (seen y)) (test y) a m) xs (apart seen (seen x).sub xs h) next)
marks-step seen test x xs false e h next = (absent seen test (seen x).sub xs h ∙ sym e, next)

pub marks-of : {A : Type 0} (seen : A → SubSeen) (test : A → Bool) (xs : List A) → IsWithoutRepeats (map seen xs) → Each (λ (y : A). is_among (shown_of seen test xs) (seen y) ≡ test y) xs
marks-of seen test [] h = tt
marks-of seen test (x ∷ xs) h = marks-step seen test x xs (test x) refl h.0 (marks-of seen test xs h.1)

map-self : (view : List SubSeen) → map (λ (s : SubSeen). s) view ≡ view
map-self [] = refl
map-self (s ∷ view) = ap (λ (rest : List SubSeen). s ∷ rest) (map-self view)

marks : (test : SubSeen → Bool) (view : List SubSeen) → IsWithoutRepeats view → Each (λ (s : SubSeen). is_among (numbers_of test view) s ≡ test s) view
marks test view h = marks-of (λ (s : SubSeen). s) test view (subst IsWithoutRepeats (sym (map-self view)) h)

-- tests that agree on a view, and a view in which a state was noted
number-more : (s : SubSeen) (b : Bool) (xs ys : List SubSeen) → map (λ (x : SubSeen). x.sub) xs ≡ map (λ (x : SubSeen). x.sub) ys → map (λ (x : SubSeen). x.sub) (cond b (s ∷ xs) xs) ≡ map (λ (x : SubSeen). x.sub) (cond b (s ∷ ys) ys)
number-more s true xs ys e = ap (λ (ns : List ℕ). s.sub ∷ ns) e
number-more s false xs ys e = e

pub same-numbers : (t u : SubSeen → Bool) (view : List SubSeen) → Each (λ (s : SubSeen). t s ≡ u s) view → numbers_of t view ≡ numbers_of u view
same-numbers t u [] h = refl
same-numbers t u (s ∷ view) h =
    ap (λ (b : Bool). map (λ (x : SubSeen). x.sub) (cond b (s ∷ filter t view) (filter t view))) h.0 ∙ number-more s (u s) (filter t view) (filter u view) (same-numbers t u view h.1)

noted-more : (sub : ℕ) (state : Conn) (s : SubSeen) (b : Bool) (xs ys : List SubSeen) → map (λ (x : SubSeen). x.sub) xs ≡ map (λ (x : SubSeen). x.sub) ys → map (λ (x : SubSeen). x.sub) (cond b (noted_sub sub state s ∷ xs) xs) ≡ map (λ (x : SubSeen). x.sub) (cond b (s ∷ ys) ys)
noted-more sub state s true xs ys e = ap (λ (n : ℕ). n ∷ map (λ (x : SubSeen). x.sub) xs) (noted-sub sub state s) ∙ ap (λ (ns : List ℕ). s.sub ∷ ns) e
noted-more sub state s false xs ys e = e

pub noted-numbers : (test : SubSeen → Bool) (sub : ℕ) (state : Conn) (view : List SubSeen) → numbers_of test (map (noted_sub sub state) view) ≡ numbers_of (λ (s : SubSeen). test (noted_sub sub state s)) view
noted-numbers test sub state [] = refl
noted-numbers test sub state (s ∷ view) =
    noted-more sub state s (test (noted_sub sub state s)) (filter test (map (noted_sub sub state) view)) (filter (λ (t : SubSeen). test (noted_sub sub state t)) view) (noted-numbers test sub state view)

-- no subchannel stands twice after a note where none did before
any-number : (n : ℕ) (view : List SubSeen) → list_any (λ (t : SubSeen). t.sub == n) view ≡ is_one_of (map (λ (t : SubSeen). t.sub) view) n
any-number n [] = refl
any-number n (t ∷ view) = ap (λ (b : Bool). (t.sub == n) || b) (any-number n view)

pub once-noted : (sub : ℕ) (state : Conn) (view : List SubSeen) → IsWithoutRepeats view → IsWithoutRepeats (map (noted_sub sub state) view)
once-noted sub state [] h = tt
once-noted sub state (s ∷ view) h =
    (any-number (noted_sub sub state s).sub (map (noted_sub sub state) view) ∙ ap (λ (ns : List ℕ). is_one_of ns (noted_sub sub state s).sub) (numbers-noted sub state view) ∙ ap (is_one_of (map (λ (t : SubSeen). t.sub) view)) (noted-sub sub state s) ∙ sym (any-number s.sub view) ∙ h.0, once-noted sub state view h.1)

-- what a note makes of the failed ones, as those of the view that pass a test
put-more : (s : SubSeen) (b : Bool) (xs : List SubSeen) (ns : List ℕ) → ns ≡ map (λ (x : SubSeen). x.sub) xs → cond b (s.sub ∷ ns) ns ≡ map (λ (x : SubSeen). x.sub) (cond b (s ∷ xs) xs)
put-more s true xs ns e = ap (λ (ms : List ℕ). s.sub ∷ ms) e
put-more s false xs ns e = e

pub filter-numbers : (test : ℕ → Bool) (view : List SubSeen) → filter test (map (λ (s : SubSeen). s.sub) view) ≡ numbers_of (λ (s : SubSeen). test s.sub) view
filter-numbers test [] = refl
filter-numbers test (s ∷ view) =
    put-more s (test s.sub) (filter (λ (t : SubSeen). test t.sub) view) (filter test (map (λ (t : SubSeen). t.sub) view)) (filter-numbers test view)

both-more : (test : ℕ → Bool) (c : SubSeen → Bool) (s : SubSeen) (b : Bool) (view rest : List SubSeen) → filter test (map (λ (x : SubSeen). x.sub) view) ≡ map (λ (x : SubSeen). x.sub) rest → filter test (map (λ (x : SubSeen). x.sub) (cond b (s ∷ view) view)) ≡ map (λ (x : SubSeen). x.sub) (cond (b && test s.sub) (s ∷ rest) rest)
both-more test c s true view rest e = put-more s (test s.sub) rest (filter test (map (λ (x : SubSeen). x.sub) view)) e
both-more test c s false view rest e = e

pub filter-both : (test : ℕ → Bool) (c : SubSeen → Bool) (view : List SubSeen) → filter test (numbers_of c view) ≡ numbers_of (λ (s : SubSeen). c s && test s.sub) view
filter-both test c [] = refl
filter-both test c (s ∷ view) =
    both-more test c s (c s) (filter c view) (filter (λ (t : SubSeen). c t && test t.sub) view) (filter-both test c view)

-- after a step each one is failed exactly where it counts as failed
and-no : (b : Bool) → (b && false) ≡ false
and-no true = refl
and-no false = refl

and-yes : (b : Bool) → (b && true) ≡ b
and-yes true = refl
and-yes false = refl

settled : (o a r c : Bool) → c ≡ (o || (a && r)) → (o || (a && r)) ≡ (o || (c && r))
settled true a r c e = refl
settled false true true c e = sym e ∙ sym (and-yes c)
settled false true false c e = sym (and-no c)
settled false false r c e = ap (λ (b : Bool). b && r) (sym e)

by-failure : (failed after : List ℕ) (s : SubSeen) (b : Bool) → is_among failed s ≡ counts_as_failed failed s → is_among after s ≡ (b || is_among failed s) → (b || is_among failed s) ≡ counts_as_failed after (noted_by b conn.Failure s)
by-failure failed after s true a g = refl
by-failure failed after s false a g = a ∙ ap (λ (x : Bool). not (is_open s.state) || (x && not (is_ready s.state))) (sym g)

by-ready : (failed after : List ℕ) (s : SubSeen) (b : Bool) → is_among failed s ≡ counts_as_failed failed s → is_among after s ≡ (counts_as_failed failed s && not b) → (counts_as_failed failed s && not b) ≡ counts_as_failed after (noted_by b conn.Ready s)
by-ready failed after s true a g = and-no (counts_as_failed failed s) ∙ sym (and-no (is_among after s))
by-ready failed after s false a g =
    and-yes (counts_as_failed failed s) ∙ ap (λ (x : Bool). not (is_open s.state) || (x && not (is_ready s.state))) (a ∙ sym (and-yes (counts_as_failed failed s)) ∙ sym g)

abbrev IsStill : Conn → Type 0
IsStill state = (is_open state ≡ true) × (is_ready state ≡ false)

by-still : (failed : List ℕ) (s : SubSeen) (state : Conn) (b : Bool) → IsStill state → is_among failed s ≡ counts_as_failed failed s → counts_as_failed failed s ≡ counts_as_failed failed (noted_by b state s)
by-still failed s state true h a =
    sym a ∙ sym (and-yes (is_among failed s)) ∙ sym (ap (λ (x : Bool). not x || (is_among failed s && not (is_ready state))) h.0 ∙ ap (λ (x : Bool). is_among failed s && not x) h.1)
by-still failed s state false h a = refl

-- the failed ones of the view before, the same as what is noted
abbrev OfView : List ℕ → List SubSeen → Type 0
OfView failed view = failed ≡ failed_in failed view

counted-each : (failed : List ℕ) (view : List SubSeen) → IsWithoutRepeats view → OfView failed view → Each (λ (s : SubSeen). is_among failed s ≡ counts_as_failed failed s) view
counted-each failed view once e =
    subst (λ (ns : List ℕ). Each (λ (s : SubSeen). is_among ns s ≡ counts_as_failed failed s) view) (sym e) (marks (counts_as_failed failed) view once)

-- failed ones that are those of the view that pass a test, which says what counts as failed after a note
closes : (after : List ℕ) (test : SubSeen → Bool) (sub : ℕ) (state : Conn) (view : List SubSeen) → after ≡ numbers_of test view → Each (λ (s : SubSeen). test s ≡ counts_as_failed after (noted_sub sub state s)) view → OfView after (map (noted_sub sub state) view)
closes after test sub state view e h =
    e ∙ same-numbers test (λ (s : SubSeen). counts_as_failed after (noted_sub sub state s)) view h ∙ sym (noted-numbers (counts_as_failed after) sub state view)

marked : (after : List ℕ) (test : SubSeen → Bool) (view : List SubSeen) → IsWithoutRepeats view → after ≡ numbers_of test view → Each (λ (s : SubSeen). is_among after s ≡ test s) view
marked after test view once e = subst (λ (ns : List ℕ). Each (λ (s : SubSeen). is_among ns s ≡ test s) view) (sym e) (marks test view once)

still-note : (sub : ℕ) (state : Conn) (failed : List ℕ) (view : List SubSeen) → IsStill state → IsWithoutRepeats view → OfView failed view → OfView failed (map (noted_sub sub state) view)
still-note sub state failed view h once e =
    closes failed (counts_as_failed failed) sub state view e (each-one (λ (s : SubSeen). is_among failed s ≡ counts_as_failed failed s) (λ (s : SubSeen). counts_as_failed failed s ≡ counts_as_failed failed (noted_sub sub state s)) (λ s a. by-still failed s state (s.sub == sub) h a) view (counted-each failed view once e))

pub after-note : (sub : ℕ) (state : Conn) (failed : List ℕ) (view : List SubSeen) → IsWithoutRepeats view → OfView failed view → OfView (failed_after sub state failed view) (map (noted_sub sub state) view)
after-note sub conn.Failure failed view once e =
    let shape : failed_after sub conn.Failure failed view ≡ numbers_of (λ (s : SubSeen). (s.sub == sub) || is_among failed s) view = filter-numbers (λ (n : ℕ). (n == sub) || is_one_of failed n) view in
    closes (failed_after sub conn.Failure failed view) (λ (s : SubSeen). (s.sub == sub) || is_among failed s) sub conn.Failure view shape (each-two (λ (s : SubSeen). is_among failed s ≡ counts_as_failed failed s) (λ (s : SubSeen). is_among (failed_after sub conn.Failure failed view) s ≡ ((s.sub == sub) || is_among failed s)) (λ (s : SubSeen). ((s.sub == sub) || is_among failed s) ≡ counts_as_failed (failed_after sub conn.Failure failed view) (noted_sub sub conn.Failure s)) (λ s a g. by-failure failed (failed_after sub conn.Failure failed view) s (s.sub == sub) a g) view (counted-each failed view once e) (marked (failed_after sub conn.Failure failed view) (λ (s : SubSeen). (s.sub == sub) || is_among failed s) view once shape))
after-note sub conn.Ready failed view once e =
    let shape : failed_after sub conn.Ready failed view ≡ numbers_of (λ (s : SubSeen). counts_as_failed failed s && not (s.sub == sub)) view = ap (filter (λ (n : ℕ). not (n == sub))) e ∙ filter-both (λ (n : ℕ). not (n == sub)) (counts_as_failed failed) view in
    closes (failed_after sub conn.Ready failed view) (λ (s : SubSeen). counts_as_failed failed s && not (s.sub == sub)) sub conn.Ready view shape (each-two (λ (s : SubSeen). is_among failed s ≡ counts_as_failed failed s) (λ (s : SubSeen). is_among (failed_after sub conn.Ready failed view) s ≡ (counts_as_failed failed s && not (s.sub == sub))) (λ (s : SubSeen). (counts_as_failed failed s && not (s.sub == sub)) ≡ counts_as_failed (failed_after sub conn.Ready failed view) (noted_sub sub conn.Ready s)) (λ s a g. by-ready failed (failed_after sub conn.Ready failed view) s (s.sub == sub) a g) view (counted-each failed view once e) (marked (failed_after sub conn.Ready failed view) (λ (s : SubSeen). counts_as_failed failed s && not (s.sub == sub)) view once shape))
after-note sub conn.Idle failed view once e = still-note sub conn.Idle failed view (refl, refl) once e
after-note sub conn.Connecting failed view once e = still-note sub conn.Connecting failed view (refl, refl) once e
after-note sub conn.Shutdown failed view once e = still-note sub conn.Shutdown failed view (refl, refl) once e

pub after-given : (before : List ℕ) (view : List SubSeen) → IsWithoutRepeats view → OfView (failed_in before view) view
after-given before view once =
    same-numbers (counts_as_failed before) (counts_as_failed (failed_in before view)) view (each-one (λ (s : SubSeen). is_among (failed_in before view) s ≡ counts_as_failed before s) (λ (s : SubSeen). counts_as_failed before s ≡ counts_as_failed (failed_in before view) s) (λ s m. settled (not (is_open s.state)) (is_among before s) (not (is_ready s.state)) (is_among (failed_in before view) s) m) view (marks (counts_as_failed before) view once))

-- over whole runs
runs : (calls : List PolicyCall) (p : PolicySeen) → GivesViews calls → IsWithoutRepeats p.view → FailedAreOfTheView p → FailedAreOfTheView (after_calls calls p)
runs [] p gives once e = e
runs (Reset ∷ calls) p gives once e = runs calls (emptied p) gives tt refl
runs (Accept view ∷ calls) p gives once e = runs calls (given view p) gives.1 gives.0 (after-given p.failed view gives.0)
runs (Note sub state ∷ calls) p gives once e = runs calls (noted sub state p) gives (once-noted sub state p.view once) (after-note sub state p.failed p.view once e)
runs (PickOne ∷ calls) p gives once e = runs calls (after_call PickOne p) gives once e

pub failed-stays : FailedStaysOfTheView
failed-stays calls p gives = runs calls (emptied p) gives tt refl
