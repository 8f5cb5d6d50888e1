-- Attempts whose ends a session still owes: what else happens in between leaves its links as far ahead as they were, with these ends and without.
use Rattle.std.proofs.Common.{◌≡◌, ◌++◌, ◌+◌, ◌==◌, ◌||◌, ◌∷◌, ap, arith, refl, subst, sym, ◌∙◌, Bool, true, false, List, [], Option, None, Some, ℕ, zero, suc, length, slice_get}
use Rattle.std.proofs.lemmas.Bool.{and_parts, both_ways, eqb-false, eqb-true}
use Rattle.std.proofs.lemmas.Bool.Decides.{nat_tests}
use Rattle.std.specs.List.{list_all}
use Rattle.std.specs.Prelude.{nat_le}
use Rattle.attempt_ledger.specs.declared.row.RowEnd.{RowEnd}
use Rattle.attempt_ledger.specs.declared.row.RowKind.TheVariants as kind
use Rattle.call_cases.proofs.ConfiguredCalls.Lists.{changed_length}
use Rattle.channel_core.specs.States.{StateSeen}
use Rattle.end_cases.proofs.AttemptEnds.AheadCommits as commits
use Rattle.end_cases.proofs.AttemptEnds.AheadStays.{calls_end_ahead}
use Rattle.end_cases.proofs.EndRetries.AheadMakes as makes
use Rattle.end_cases.specs.AttemptEnds.Ahead.{LinksAhead}
use Rattle.end_cases.specs.AttemptEnds.Left.{all_left, rows_ended}
use Rattle.grpc_base.specs.declared.event.EndCause.{EndCause}
use Rattle.link_actions.proofs.Ended.{changed_one}
use Rattle.link_actions.specs.Sees.{AttemptsStandInPlace}
use Rattle.session_actions.specs.AttemptEnds.{with_end}
use Rattle.session_actions.specs.Attempts.{with_attempt}
use Rattle.session_actions.specs.CallEnds.{call_ended}
use Rattle.session_actions.specs.Calls.{marked}
use Rattle.session_actions.specs.Commitments.{with_commitment}
use Rattle.session_actions.specs.Entries.{entry, now}
use Rattle.session_actions.specs.Making.{new_row}
use Rattle.session_actions.specs.Words.{changed, changed_if, numbered}
use Rattle.session_actions.specs.declared.attempt.Attempt.{Attempt}
use Rattle.session_actions.specs.declared.call.Call.{Call}
use Rattle.session_actions.specs.declared.call.MarkKind.TheVariants as mark
use Rattle.session_actions.specs.declared.seen.Seen.{Seen}
use Rattle.session_order.proofs.Changed.{changed_away, changed_twice}

-- a list of which the things of two numbers are changed
down_by : {X : Type 0} (f : X → X) (i : ℕ) (x : X) (xs : List X) (o : Option X) → changed_if f (suc (suc i)) (x ∷ xs) o ≡ x ∷ changed_if f (suc i) xs o
down_by f i x xs None = refl
down_by f i x xs (Some y) = refl

pub changed_down : {X : Type 0} (f : X → X) (i : ℕ) (x : X) (xs : List X) → changed f (suc (suc i)) (x ∷ xs) ≡ x ∷ changed f (suc i) xs
changed_down f i x xs = down_by f i x xs (slice_get xs i)

pub changed_swaps : {X : Type 0} (f g : X → X) (m n : ℕ) (xs : List X) → (m ≡ n → (x : X) → f (g x) ≡ g (f x)) → changed f m (changed g n xs) ≡ changed g n (changed f m xs)
changed_swaps f g zero n xs same = refl
changed_swaps f g (suc i) zero xs same = refl
changed_swaps f g (suc i) (suc j) [] same = refl
changed_swaps f g (suc zero) (suc zero) (x ∷ xs) same = ap (λ (y : _). y ∷ xs) (same refl x)
changed_swaps f g (suc zero) (suc (suc j)) (x ∷ xs) same = ap (changed f (suc zero)) (changed_down g j x xs) ∙ sym (changed_down g j (f x) xs)
changed_swaps f g (suc (suc i)) (suc zero) (x ∷ xs) same = changed_down f i (g x) xs ∙ sym (ap (changed g (suc zero)) (changed_down f i x xs))
changed_swaps f g (suc (suc i)) (suc (suc j)) (x ∷ xs) same =
    ap (changed f (suc (suc i))) (changed_down g j x xs) ∙ changed_down f i x (changed g (suc j) xs)
    ∙ ap (λ (ys : List _). x ∷ ys) (changed_swaps f g (suc i) (suc j) xs (λ e. same (ap suc e)))
    ∙ sym (changed_down g j x (changed f (suc i) xs)) ∙ sym (ap (changed g (suc (suc j))) (changed_down f i x xs))

none_less : (n : ℕ) → nat_le (suc n) 0 ≡ false
none_less n = grind (arith, nat_tests)

one_less : (i n : ℕ) → nat_le (suc (suc i)) (suc n) ≡ true → nat_le (suc i) n ≡ true
one_less i n e = grind (arith, nat_tests, e)

changed_more : {X : Type 0} (f : X → X) (n : ℕ) (xs ys : List X) → nat_le n (length xs) ≡ true → changed f n (xs ++ ys) ≡ changed f n xs ++ ys
changed_more f zero xs ys within = refl
changed_more f (suc i) [] ys within = absurd (both_ways (nat_le (suc i) 0) (none_less i) within)
changed_more f (suc zero) (x ∷ xs) ys within = refl
changed_more f (suc (suc i)) (x ∷ xs) ys within =
    changed_down f i x (xs ++ ys) ∙ ap (λ (zs : List _). x ∷ zs) (changed_more f (suc i) xs ys (one_less i (length xs) within)) ∙ sym (ap (λ (zs : List _). zs ++ ys) (changed_down f i x xs))

-- the places of what is left
abbrev pub is_among : List (ℕ × RowEnd) → ℕ → Bool
is_among [] n = false
is_among (x ∷ later) n = (x.0 == n) || is_among later n

-- what bears not on ends may come before them
pub rows_swap : (f : Attempt → Attempt) → ((e : RowEnd) (a : Attempt) → with_end e (f a) ≡ f (with_end e a)) → (later : List (ℕ × RowEnd)) (n : ℕ) (xs : List Attempt)
    → rows_ended later (changed f n xs) ≡ changed f n (rows_ended later xs)
rows_swap f same [] n xs = refl
rows_swap f same (x ∷ later) n xs =
    ap (rows_ended later) (changed_swaps (with_end x.1) f x.0 n xs (λ e a. same x.1 a)) ∙ rows_swap f same later n (changed (with_end x.1) x.0 xs)

-- nor an end of another one
other_first : (m n : ℕ) (b : Bool) → ((m == n) || b) ≡ false → (m ≡ n → ⊥) × (b ≡ false)
other_first m n b e = by (m == n) refl e
  where
    by : (c : Bool) → (m == n) ≡ c → (c || b) ≡ false → (m ≡ n → ⊥) × (b ≡ false)
    by true is off = absurd (cc)
    by false is off = (eqb-false m n is, off)

pub rows_apart : (f : Attempt → Attempt) (later : List (ℕ × RowEnd)) (n : ℕ) (xs : List Attempt) → is_among later n ≡ false → rows_ended later (changed f n xs) ≡ changed f n (rows_ended later xs)
rows_apart f [] n xs off = refl
rows_apart f (x ∷ later) n xs off =
    let k = other_first x.0 n (is_among later n) off in
    ap (rows_ended later) (changed_swaps (with_end x.1) f x.0 n xs (λ e. absurd (k.0 e))) ∙ rows_apart f later n (changed (with_end x.1) x.0 xs) k.1

pub rows_still : (later : List (ℕ × RowEnd)) (n : ℕ) (xs : List Attempt) → is_among later n ≡ false → numbered (rows_ended later xs) n ≡ numbered xs n
rows_still [] n xs off = refl
rows_still (x ∷ later) n xs off =
    let k = other_first x.0 n (is_among later n) off in
    rows_still later n (changed (with_end x.1) x.0 xs) k.1 ∙ changed_away (with_end x.1) x.0 n xs (λ e. k.0 (sym e))

-- an end that comes now of one whose end is left is written over
over_by : (e : RowEnd) (x : ℕ × RowEnd) (later : List (ℕ × RowEnd)) (n : ℕ) (xs : List Attempt) (c : Bool) → (x.0 == n) ≡ c → (c || is_among later n) ≡ true
    → (is_among later n ≡ true → rows_ended later (changed (with_end e) n (changed (with_end x.1) x.0 xs)) ≡ rows_ended later (changed (with_end x.1) x.0 xs))
    → rows_ended (x ∷ later) (changed (with_end e) n xs) ≡ rows_ended (x ∷ later) xs
over_by e x later n xs true is on rest =
    let same : x.0 ≡ n = eqb-true x.0 n is in
    ap (λ (k : ℕ). rows_ended later (changed (with_end x.1) k (changed (with_end e) n xs))) same ∙ ap (rows_ended later) (changed_twice (with_end e) (with_end x.1) n xs)
    ∙ ap (λ (k : ℕ). rows_ended later (changed (with_end x.1) k xs)) (sym same)
over_by e x later n xs false is on rest = ap (rows_ended later) (changed_swaps (with_end x.1) (with_end e) x.0 n xs (λ at. absurd (eqb-false x.0 n is at))) ∙ rest on

pub rows_over : (e : RowEnd) (later : List (ℕ × RowEnd)) (n : ℕ) (xs : List Attempt) → is_among later n ≡ true → rows_ended later (changed (with_end e) n xs) ≡ rows_ended later xs
rows_over e [] n xs on = absurd (cc)
rows_over e (x ∷ later) n xs on = over_by e x later n xs (x.0 == n) refl on (λ k. rows_over e later n (changed (with_end x.1) x.0 xs) k)

pub rows_long : (later : List (ℕ × RowEnd)) (xs : List Attempt) → length (rows_ended later xs) ≡ length xs
rows_long [] xs = refl
rows_long (x ∷ later) xs = rows_long later (changed (with_end x.1) x.0 xs) ∙ changed_length (with_end x.1) x.0 xs

rows_more : (later : List (ℕ × RowEnd)) (xs ys : List Attempt) → list_all (λ (x : ℕ × RowEnd). nat_le x.0 (length xs)) later ≡ true → rows_ended later (xs ++ ys) ≡ rows_ended later xs ++ ys
rows_more [] xs ys within = refl
rows_more (x ∷ later) xs ys within =
    let k = and_parts (nat_le x.0 (length xs)) (list_all (λ (y : ℕ × RowEnd). nat_le y.0 (length xs)) later) within in
    ap (rows_ended later) (changed_more (with_end x.1) x.0 xs ys k.0)
    ∙ rows_more later (changed (with_end x.1) x.0 xs) ys
    (subst (λ (n : ℕ). list_all (λ (y : ℕ × RowEnd). nat_le y.0 n) later ≡ true) (sym (changed_length (with_end x.1) x.0 xs)) k.1)

-- each attempt is there, of the same call
pub record IsStillThere (xs : List Attempt) (n : ℕ) (a : Attempt) : Type 0 where
  pub one : Attempt
  pub there : numbered xs n ≡ Some one
  pub call : one.row.call ≡ a.row.call

still_there_by : (x : ℕ × RowEnd) (n : ℕ) (xs : List Attempt) (a : Attempt) (b : Bool) → (n == x.0) ≡ b → numbered xs n ≡ Some a → IsStillThere (changed (with_end x.1) x.0 xs) n a
still_there_by x n xs a true is there = record { one = with_end x.1 a; there = changed_one (with_end x.1) x.0 n xs a true is there; call = refl }
still_there_by x n xs a false is there = record { one = a; there = changed_one (with_end x.1) x.0 n xs a false is there; call = refl }

pub still_there : (later : List (ℕ × RowEnd)) (n : ℕ) (xs : List Attempt) (a : Attempt) → numbered xs n ≡ Some a → IsStillThere (rows_ended later xs) n a
still_there [] n xs a there = record { one = a; there = there; call = refl }
still_there (x ∷ later) n xs a there =
    let k = still_there_by x n xs a (n == x.0) refl there in
    let q = still_there later n (changed (with_end x.1) x.0 xs) k.one k.there in
    record { one = q.one; there = q.there; call = q.call ∙ k.call }

-- each stands at its place
places_changed : (e : RowEnd) (n k : ℕ) (ys : List Attempt) → AttemptsStandInPlace k ys → AttemptsStandInPlace k (changed (with_end e) n ys)
places_changed e zero k ys are = are
places_changed e (suc i) k [] are = are
places_changed e (suc zero) k (y ∷ ys) are = are
places_changed e (suc (suc i)) k (y ∷ ys) are = subst (AttemptsStandInPlace k) (sym (changed_down (with_end e) i y ys)) (are.0, places_changed e (suc i) (k + 1) ys are.1)

pub places_left : (later : List (ℕ × RowEnd)) (xs : List Attempt) → AttemptsStandInPlace 1 xs → AttemptsStandInPlace 1 (rows_ended later xs)
places_left [] xs places = places
places_left (x ∷ later) xs places = places_left later (changed (with_end x.1) x.0 xs) (places_changed x.1 x.0 1 xs places)

-- a call ends
pub calls_end_left : (later : List (ℕ × RowEnd)) (u : Seen) (number : ℕ) (why : EndCause) (also : List ℕ) (x : StateSeen) → LinksAhead also x (all_left later u)
    → LinksAhead also x (all_left later (call_ended number why u))
calls_end_left later u number why also x ahead = calls_end_ahead (all_left later u) number why also x ahead

-- a call is committed
module _ (later : List (ℕ × RowEnd)) (u : Seen) (place : ℕ) (pa : Attempt) (there : numbered u.attempts place ≡ Some pa) (places : AttemptsStandInPlace 1 u.attempts) where
  abbrev k : IsStillThere (rows_ended later u.attempts) place pa
  k = still_there later place u.attempts pa there

  abbrev w : Seen
  w = all_left later u

  abbrev v : Seen
  v = commits.v u place pa there places

  places_w : AttemptsStandInPlace 1 w.attempts
  places_w = places_left later u.attempts places

  same : commits.v w place k.one k.there places_w ≡ all_left later v
  same =
      ap (λ (n : ℕ). marked mark.Committed n (with_attempt (with_commitment (entry u)) place w)) k.call
      ∙ ap (λ (xs : List Attempt). record v { attempts = xs }) (sym (rows_swap (with_commitment (entry u)) (λ e a. refl) later place u.attempts))

  pub commits_left : (also : List ℕ) (x : StateSeen) → LinksAhead also x (all_left later u) → LinksAhead also x (all_left later v)
  commits_left also x ahead = subst (LinksAhead also x) same (commits.commits_ahead w place k.one k.there places_w also x ahead)

-- an attempt is made
module _ (later : List (ℕ × RowEnd)) (u : Seen) (call number due : ℕ) (within : list_all (λ (x : ℕ × RowEnd). nat_le x.0 (length u.attempts)) later ≡ true) where
  abbrev new_at : ℕ → Attempt
  new_at n = record { place = n + 1; row = new_row call number kind.Transparent due; made = entry u; reset = false }

  -- the session then, with this count of attempts
  abbrev made_as : ℕ → List Attempt → Seen
  made_as n xs = record u {
    attempts = xs;
    calls = changed (λ (c : Call). record c { marks = c.marks ++ record { what = mark.Made (n + 1); moment = now u } ∷ [] }) call u.calls;
  }

  abbrev then_made : Seen
  then_made = makes.v u call number due

  grown : (n : ℕ) → n ≡ length u.attempts → made_as n (rows_ended later u.attempts ++ new_at n ∷ []) ≡ all_left later then_made
  grown n long =
      ap (λ (m : ℕ). made_as m (rows_ended later u.attempts ++ new_at m ∷ [])) long
      ∙ ap (made_as (length u.attempts)) (sym (rows_more later u.attempts (new_at (length u.attempts) ∷ []) within))

  pub makes_left : (also : List ℕ) (x : StateSeen) → LinksAhead also x (all_left later u) → LinksAhead also x (all_left later then_made)
  makes_left also x ahead =
      subst (LinksAhead also x) (grown (length (rows_ended later u.attempts)) (rows_long later u.attempts)) (makes.makes_ahead (all_left later u) call number due also x ahead)
