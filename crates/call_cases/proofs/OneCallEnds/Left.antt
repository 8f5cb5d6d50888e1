-- The pairs that are left of a queue, and of the outstanding attempts, once the rows of a call are given up.
use Rattle.std.proofs.Common.{◌≡◌, ◌&&◌, ◌==◌, ◌∷◌, not, ap, arith, refl, subst, sym, ◌∙◌, Bool, true, false, cond, List, [], Option, None, Some, ℕ, zero, suc, filter, map, slice_get}
use Rattle.std.proofs.lemmas.Bool.Decides.{nat_tests}
use Rattle.std.specs.Option.{option_map}
use Rattle.attempt_ledger.specs.declared.row.Placed.{Placed}
use Rattle.call_actions.specs.Sees.{live_row}
use Rattle.call_core.specs.declared.live.LiveRow.{LiveRow}
use Rattle.channel_actions.proofs.Links.Settings.Pairs.{exactly_remove, self_same}
use Rattle.channel_actions.specs.ActsFollowed.Followed.{all_out_gone, all_queue_gone, out_gone, queue_gone}
use Rattle.channel_actions.specs.Sets.{PairsAreExactly}
use Rattle.picker_gate.specs.Pairs.{is_same}
use Rattle.session_actions.specs.declared.attempt.Attempt.{Attempt}

abbrev pub Test : Type 0
Test = ℕ → ℕ → Bool

abbrev without : ℕ × ℕ → Test → Test
without p test a b = test a b && not (is_same p (a, b))

abbrev pub queue_left : ℕ → ℕ → Option ℕ → Test → Test
queue_left n row None test = without (n, row) test
queue_left n row (Some link) test = test

abbrev pub all_queue_left : ℕ → List LiveRow → Test → Test
all_queue_left n [] test = test
all_queue_left n (r ∷ live) test = all_queue_left n live (queue_left n r.place r.link test)

abbrev pub out_left : ℕ → Option ℕ → Test → Test
out_left row None test = test
out_left row (Some link) test = without (link, row) test

abbrev pub all_out_left : List LiveRow → Test → Test
all_out_left [] test = test
all_out_left (r ∷ live) test = all_out_left live (out_left r.place r.link test)

-- the sets have exactly these pairs
queue_one : (n row : ℕ) (o : Option ℕ) (pairs : List (ℕ × ℕ)) (test : Test) → PairsAreExactly pairs test
    → PairsAreExactly (queue_gone n row o pairs) (queue_left n row o test)
queue_one n row None pairs test h = exactly_remove pairs test (n, row) h
queue_one n row (Some link) pairs test h = h

pub queue_exactly : (n : ℕ) (live : List LiveRow) (pairs : List (ℕ × ℕ)) (test : Test) → PairsAreExactly pairs test
    → PairsAreExactly (all_queue_gone n live pairs) (all_queue_left n live test)
queue_exactly n [] pairs test h = h
queue_exactly n (r ∷ live) pairs test h =
    queue_exactly n live (queue_gone n r.place r.link pairs) (queue_left n r.place r.link test) (queue_one n r.place r.link pairs test h)

out_one : (row : ℕ) (o : Option ℕ) (pairs : List (ℕ × ℕ)) (test : Test) → PairsAreExactly pairs test
    → PairsAreExactly (out_gone row o pairs) (out_left row o test)
out_one row None pairs test h = h
out_one row (Some link) pairs test h = exactly_remove pairs test (link, row) h

pub out_exactly : (live : List LiveRow) (pairs : List (ℕ × ℕ)) (test : Test) → PairsAreExactly pairs test → PairsAreExactly (all_out_gone live pairs) (all_out_left live test)
out_exactly [] pairs test h = h
out_exactly (r ∷ live) pairs test h =
    out_exactly live (out_gone r.place r.link pairs) (out_left r.place r.link test) (out_one r.place r.link pairs test h)

-- pairs of other calls, and of other rows
and_on : (b : Bool) → (b && true) ≡ b
and_on true = refl
and_on false = refl

and_off : (b : Bool) → (b && false) ≡ false
and_off true = refl
and_off false = refl

other_call : (n row a b : ℕ) → (a == n) ≡ false → is_same (n, row) (a, b) ≡ false
other_call n row a b off = grind (arith, nat_tests)

other_row : (link row a b : ℕ) → (row == b) ≡ false → is_same (link, row) (a, b) ≡ false
other_row link row a b off = grind (arith, nat_tests)

stays : (p : ℕ × ℕ) (test : Test) (a b : ℕ) → is_same p (a, b) ≡ false → without p test a b ≡ test a b
stays p test a b off = ap (λ (z : Bool). test a b && not z) off ∙ and_on (test a b)

queue_away_one : (n row : ℕ) (o : Option ℕ) (test : Test) (a b : ℕ) → (a == n) ≡ false → queue_left n row o test a b ≡ test a b
queue_away_one n row None test a b off = stays (n, row) test a b (other_call n row a b off)
queue_away_one n row (Some link) test a b off = refl

pub queue_away : (n : ℕ) (live : List LiveRow) (test : Test) (a b : ℕ) → (a == n) ≡ false → all_queue_left n live test a b ≡ test a b
queue_away n [] test a b off = refl
queue_away n (r ∷ live) test a b off = queue_away n live (queue_left n r.place r.link test) a b off ∙ queue_away_one n r.place r.link test a b off

out_away_one : (row : ℕ) (o : Option ℕ) (test : Test) (a b : ℕ) → (row == b) ≡ false → out_left row o test a b ≡ test a b
out_away_one row None test a b off = refl
out_away_one row (Some link) test a b off = stays (link, row) test a b (other_row link row a b off)

-- a pair that is not there stays away
queue_none_one : (n row : ℕ) (o : Option ℕ) (test : Test) (a b : ℕ) → test a b ≡ false → queue_left n row o test a b ≡ false
queue_none_one n row None test a b e = ap (λ (z : Bool). z && not (is_same (n, row) (a, b))) e
queue_none_one n row (Some link) test a b e = e

pub queue_none : (n : ℕ) (live : List LiveRow) (test : Test) (a b : ℕ) → test a b ≡ false → all_queue_left n live test a b ≡ false
queue_none n [] test a b e = e
queue_none n (r ∷ live) test a b e = queue_none n live (queue_left n r.place r.link test) a b (queue_none_one n r.place r.link test a b e)

out_none_one : (row : ℕ) (o : Option ℕ) (test : Test) (a b : ℕ) → test a b ≡ false → out_left row o test a b ≡ false
out_none_one row None test a b e = e
out_none_one row (Some link) test a b e = ap (λ (z : Bool). z && not (is_same (link, row) (a, b))) e

pub out_none : (live : List LiveRow) (test : Test) (a b : ℕ) → test a b ≡ false → all_out_left live test a b ≡ false
out_none [] test a b e = e
out_none (r ∷ live) test a b e = out_none live (out_left r.place r.link test) a b (out_none_one r.place r.link test a b e)

-- the pair of a row that is taken out is gone
taken : (p : ℕ × ℕ) (test : Test) → without p test p.0 p.1 ≡ false
taken p test = ap (λ (z : Bool). test p.0 p.1 && not z) (self_same p) ∙ and_off (test p.0 p.1)

queue_taken : (n : ℕ) (a : Attempt) (test : Test) → a.row.placed ≡ None → queue_left n a.place (option_map (λ (at : Placed). at.link) a.row.placed) test n a.place ≡ false
queue_taken n a test e =
    ap (λ (o : Option Placed). queue_left n a.place (option_map (λ (at : Placed). at.link) o) test n a.place) e ∙ taken (n, a.place) test

out_taken : (at : Placed) (a : Attempt) (test : Test) → a.row.placed ≡ Some at → out_left a.place (option_map (λ (at : Placed). at.link) a.row.placed) test at.link a.place ≡ false
out_taken at a test e =
    ap (λ (o : Option Placed). out_left a.place (option_map (λ (at : Placed). at.link) o) test at.link a.place) e ∙ taken (at.link, a.place) test

module _ (n : ℕ) (p : Attempt → Bool) where
  queue_in : (a x : Attempt) (xs : List Attempt) (test : Test) (q : Bool) → ((t : Test) → all_queue_left n (map live_row (filter p xs)) t n a.place ≡ false)
      → all_queue_left n (map live_row (cond q (x ∷ filter p xs) (filter p xs))) test n a.place ≡ false
  queue_in a x xs test true rest = rest (queue_left n x.place (option_map (λ (at : Placed). at.link) x.row.placed) test)
  queue_in a x xs test false rest = rest test

  queue_here : (a x : Attempt) (xs : List Attempt) (test : Test) (q : Bool) → x ≡ a → q ≡ true → a.row.placed ≡ None
      → all_queue_left n (map live_row (cond q (x ∷ filter p xs) (filter p xs))) test n a.place ≡ false
  queue_here a x xs test false same passes e = absurd (cc)
  queue_here a x xs test true same passes e =
      subst (λ (z : Attempt). all_queue_left n (map live_row (z ∷ filter p xs)) test n a.place ≡ false) (sym same)
      (queue_none n (map live_row (filter p xs)) (queue_left n a.place (option_map (λ (at : Placed). at.link) a.row.placed) test) n a.place (queue_taken n a test e))

  pub queue_out : (xs : List Attempt) (i : ℕ) (a : Attempt) (test : Test) → slice_get xs i ≡ Some a → p a ≡ true → a.row.placed ≡ None
      → all_queue_left n (map live_row (filter p xs)) test n a.place ≡ false
  queue_out [] i a test at passes e = absurd (cc)
  queue_out (x ∷ xs) zero a test at passes e = let same : x ≡ a = (cc) in queue_here a x xs test (p x) same (ap p same ∙ passes) e
  queue_out (x ∷ xs) (suc i) a test at passes e = queue_in a x xs test (p x) (λ t. queue_out xs i a t at passes e)

  out_in : (link : ℕ) (a x : Attempt) (xs : List Attempt) (test : Test) (q : Bool) → ((t : Test) → all_out_left (map live_row (filter p xs)) t link a.place ≡ false)
      → all_out_left (map live_row (cond q (x ∷ filter p xs) (filter p xs))) test link a.place ≡ false
  out_in link a x xs test true rest = rest (out_left x.place (option_map (λ (at : Placed). at.link) x.row.placed) test)
  out_in link a x xs test false rest = rest test

  out_here : (at : Placed) (a x : Attempt) (xs : List Attempt) (test : Test) (q : Bool) → x ≡ a → q ≡ true → a.row.placed ≡ Some at
      → all_out_left (map live_row (cond q (x ∷ filter p xs) (filter p xs))) test at.link a.place ≡ false
  out_here at a x xs test false same passes e = absurd (cc)
  out_here at a x xs test true same passes e =
      subst (λ (z : Attempt). all_out_left (map live_row (z ∷ filter p xs)) test at.link a.place ≡ false) (sym same)
      (out_none (map live_row (filter p xs)) (out_left a.place (option_map (λ (at : Placed). at.link) a.row.placed) test) at.link a.place (out_taken at a test e))

  pub out_out : (xs : List Attempt) (i : ℕ) (a : Attempt) (at : Placed) (test : Test) → slice_get xs i ≡ Some a → p a ≡ true → a.row.placed ≡ Some at
      → all_out_left (map live_row (filter p xs)) test at.link a.place ≡ false
  out_out [] i a at test there passes e = absurd (cc)
  out_out (x ∷ xs) zero a at test there passes e = let same : x ≡ a = (cc) in out_here at a x xs test (p x) same (ap p same ∙ passes) e
  out_out (x ∷ xs) (suc i) a at test there passes e = out_in at.link a x xs test (p x) (λ t. out_out xs i a at t there passes e)

  -- of a row that none of them has
  rest_by : (row : ℕ) (x : Attempt) (xs : List Attempt) (test : Test) (link : ℕ) (q : Bool) → (q ≡ true → (x.place == row) ≡ false)
      → ((t : Test) → all_out_left (map live_row (filter p xs)) t link row ≡ t link row)
      → all_out_left (map live_row (cond q (x ∷ filter p xs) (filter p xs))) test link row ≡ test link row
  rest_by row x xs test link true off rest =
      rest (out_left x.place (option_map (λ (at : Placed). at.link) x.row.placed) test)
      ∙ out_away_one x.place (option_map (λ (at : Placed). at.link) x.row.placed) test link row (off refl)
  rest_by row x xs test link false off rest = rest test

  pub out_rest : (row : ℕ) (xs : List Attempt) (test : Test) (link : ℕ) → ((i : ℕ) (a : Attempt) → slice_get xs i ≡ Some a → p a ≡ true → (a.place == row) ≡ false)
      → all_out_left (map live_row (filter p xs)) test link row ≡ test link row
  out_rest row [] test link off = refl
  out_rest row (x ∷ xs) test link off = rest_by row x xs test link (p x) (off zero x refl) (λ t. out_rest row xs t link (λ i a at. off (suc i) a at))
