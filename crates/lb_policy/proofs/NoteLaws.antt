-- Noting the same state again.
use Rattle.std.proofs.Common.{◌≡◌, ℕ, ◌==◌, Bool, true, false, not, ◌&&◌, ◌||◌, cond, if◌then◌else◌, List, [], ◌∷◌, map, refl, ap, sym, ◌∙◌}
use Rattle.std.specs.List.{filter}
use Rattle.std.proofs.lemmas.Bool.{eqb-true, eq-eqb}
use Rattle.std.proofs.lemmas.Map.Views.{any-filter_same}
use Rattle.grpc_base.specs.declared.event.Conn.{Conn}
use Rattle.grpc_base.specs.declared.event.Conn.TheVariants as conn
use Rattle.lb_policy.specs.declared.seen.SubSeen.{SubSeen}
use Rattle.lb_policy.specs.Table.{is_one_of}
use Rattle.lb_policy.specs.Steps.{noted_sub, failed_after}
use Rattle.lb_policy.specs.Laws.{NotingAgainChangesNothing}

abbrev pub noted_by : Bool → Conn → SubSeen → SubSeen
noted_by b state s = if b then record s { state = state } else s

pub noted-by : (sub : ℕ) (state : Conn) (s : SubSeen) (b : Bool) → (s.sub == sub) ≡ b → noted_sub sub state s ≡ noted_by b state s
noted-by sub state s b e = ap (λ (t : Bool). noted_by t state s) e

twice-by : (sub : ℕ) (state : Conn) (s : SubSeen) (b : Bool) → (s.sub == sub) ≡ b → noted_sub sub state (noted_sub sub state s) ≡ noted_sub sub state s
twice-by sub state s true e =
    ap (noted_sub sub state) (noted-by sub state s true e) ∙ noted-by sub state (record s { state = state }) true e ∙ sym (noted-by sub state s true e)
twice-by sub state s false e = ap (noted_sub sub state) (noted-by sub state s false e)

pub noted_sub-again : (sub : ℕ) (state : Conn) (s : SubSeen) → noted_sub sub state (noted_sub sub state s) ≡ noted_sub sub state s
noted_sub-again sub state s = twice-by sub state s (s.sub == sub) refl

map-again : (sub : ℕ) (state : Conn) (view : List SubSeen) → map (noted_sub sub state) (map (noted_sub sub state) view) ≡ map (noted_sub sub state) view
map-again sub state [] = refl
map-again sub state (s ∷ view) =
    ap (λ (t : SubSeen). t ∷ map (noted_sub sub state) (map (noted_sub sub state) view)) (noted_sub-again sub state s) ∙ ap (λ (rest : List SubSeen). noted_sub sub state s ∷ rest) (map-again sub state view)

sub-by : (state : Conn) (s : SubSeen) (b : Bool) → (noted_by b state s).sub ≡ s.sub
sub-by state s true = refl
sub-by state s false = refl

-- a state that is noted leaves the number
pub noted-sub : (sub : ℕ) (state : Conn) (s : SubSeen) → (noted_sub sub state s).sub ≡ s.sub
noted-sub sub state s = sub-by state s (s.sub == sub)

pub numbers-noted : (sub : ℕ) (state : Conn) (view : List SubSeen) → map (λ (s : SubSeen). s.sub) (map (noted_sub sub state) view) ≡ map (λ (s : SubSeen). s.sub) view
numbers-noted sub state [] = refl
numbers-noted sub state (s ∷ view) =
    ap (λ (n : ℕ). n ∷ map (λ (t : SubSeen). t.sub) (map (noted_sub sub state) view)) (noted-sub sub state s) ∙ ap (λ (ns : List ℕ). s.sub ∷ ns) (numbers-noted sub state view)

-- a number of a list is one of its numbers that pass a test exactly where it passes
pub one-of-filter : (test : ℕ → Bool) (ns : List ℕ) (n : ℕ) → is_one_of (filter test ns) n ≡ (test n && is_one_of ns n)
one-of-filter test ns n = any-filter_same (λ (m : ℕ). m == n) test (test n) (λ m e. ap test (eqb-true m n e)) ns

or-true : (a b : Bool) → b ≡ true → (a || b) ≡ true
or-true true b e = refl
or-true false b e = e

or-first : (a b : Bool) → a ≡ true → (a || b) ≡ true
or-first true b e = refl
or-first false b e = let g : ⊥ = (cc) in absurd g

-- the numbers of ks, each of which is one of ns, that were filtered out of ns before
abbrev AllOf : List ℕ → List ℕ → Type 0
AllOf ns [] = Unit {0}
AllOf ns (k ∷ ks) = (is_one_of ns k ≡ true) × AllOf ns ks

all-of-more : (n : ℕ) (ns ks : List ℕ) → AllOf ns ks → AllOf (n ∷ ns) ks
all-of-more n ns [] h = tt
all-of-more n ns (k ∷ ks) h = (or-true (n == k) (is_one_of ns k) h.0, all-of-more n ns ks h.1)

all-of-self : (ns : List ℕ) → AllOf ns ns
all-of-self [] = tt
all-of-self (n ∷ ns) = (or-first (n == n) (is_one_of ns n) (eq-eqb n n refl), all-of-more n ns ns (all-of-self ns))

put-again : (one here before : Bool) → here ≡ true → (one || ((one || before) && here)) ≡ (one || before)
put-again true here before e = refl
put-again false here true e = e
put-again false here false e = refl

abbrev put_in : ℕ → List ℕ → ℕ → Bool
put_in sub failed n = (n == sub) || is_one_of failed n

put-in-again : (sub : ℕ) (failed ns ks : List ℕ) → AllOf ns ks → filter (put_in sub (filter (put_in sub failed) ns)) ks ≡ filter (put_in sub failed) ks
put-in-again sub failed ns [] h = refl
put-in-again sub failed ns (k ∷ ks) h =
    let one : put_in sub (filter (put_in sub failed) ns) k ≡ put_in sub failed k =
    ap (λ (b : Bool). (k == sub) || b) (one-of-filter (put_in sub failed) ns k) ∙ put-again (k == sub) (is_one_of ns k) (is_one_of failed k) h.0 in
    ap (λ (b : Bool). cond b (k ∷ filter (put_in sub (filter (put_in sub failed) ns)) ks) (filter (put_in sub (filter (put_in sub failed) ns)) ks)) one ∙ ap (λ (rest : List ℕ). cond (put_in sub failed k) (k ∷ rest) rest) (put-in-again sub failed ns ks h.1)

filter-step : (test : ℕ → Bool) (n : ℕ) (ns : List ℕ) (b : Bool) → test n ≡ b → filter test (filter test ns) ≡ filter test ns → filter test (cond b (n ∷ filter test ns) (filter test ns)) ≡ cond b (n ∷ filter test ns) (filter test ns)
filter-step test n ns true e h = ap (λ (c : Bool). cond c (n ∷ filter test (filter test ns)) (filter test (filter test ns))) e ∙ ap (λ (rest : List ℕ). n ∷ rest) h
filter-step test n ns false e h = h

filter-twice : (test : ℕ → Bool) (ns : List ℕ) → filter test (filter test ns) ≡ filter test ns
filter-twice test [] = refl
filter-twice test (n ∷ ns) = filter-step test n ns (test n) refl (filter-twice test ns)

failed-again : (sub : ℕ) (state : Conn) (failed : List ℕ) (view : List SubSeen) → failed_after sub state (failed_after sub state failed view) (map (noted_sub sub state) view) ≡ failed_after sub state failed view
failed-again sub conn.Failure failed view =
    ap (filter (put_in sub (failed_after sub conn.Failure failed view))) (numbers-noted sub conn.Failure view) ∙ put-in-again sub failed (map (λ (s : SubSeen). s.sub) view) (map (λ (s : SubSeen). s.sub) view) (all-of-self (map (λ (s : SubSeen). s.sub) view))
failed-again sub conn.Ready failed view = filter-twice (λ (n : ℕ). not (n == sub)) failed
failed-again sub conn.Idle failed view = refl
failed-again sub conn.Connecting failed view = refl
failed-again sub conn.Shutdown failed view = refl

pub noted-again : NotingAgainChangesNothing
noted-again sub state p =
    ap (λ (view : List SubSeen). record p { view = view; failed = failed_after sub state (failed_after sub state p.failed p.view) (map (noted_sub sub state) p.view) }) (map-again sub state p.view) ∙ ap (λ (failed : List ℕ). record p { view = map (noted_sub sub state) p.view; failed = failed }) (failed-again sub state p.failed p.view)
