-- The streams of a connection have rising numbers, so each has a number of its own.
use Rattle.std.proofs.Common.{◌≡◌, ℕ, zero, suc, ◌<◌, ◌≤◌, Bool, true, false, List, [], ◌∷◌, ◌++◌, length, refl, sym, ◌∙◌, ap, subst, Some, None, arith, inl, inr}
use Rattle.std.specs.Prelude.{Option, find, position, nat_lt, cond, if◌then◌else◌, slice_get, slice_set, ◌==◌}
use Rattle.std.specs.List.{position_or_len, remove}
use Rattle.std.proofs.lemmas.Bool.{eqb-true, eq-eqb, ne_eqb, cases_lt, lt-ltb, le-ltb}
use Rattle.std.proofs.lemmas.List.Folds.{find_at}
use Rattle.std.proofs.lemmas.Option.{slice_get_within}
use Rattle.relay_connection.specs.declared.stream.RelayStream.{RelayStream}
use Rattle.relay_connection.specs.Laws.{Rises}
use Rattle.relay_connection.specs.Streams.{is_numbered, is_over, put}
use Rattle.relay_connection.proofs.Places.{get_set, there_is}

abbrev pub number_of : RelayStream → ℕ
number_of s = s.asking.number

abbrev pub own : ℕ → List RelayStream → Option RelayStream
own n streams = find (is_numbered n) streams

rises_lower : (low other high : ℕ) (xs : List RelayStream) → Rises low xs high → other ≤ low → Rises other xs high
rises_lower low other high [] h l = omega (arith, h, l)
rises_lower low other high (x ∷ xs) h l = let first = h.0 in (omega (arith, first, l), h.1)

pub rises_most : (low high : ℕ) (xs : List RelayStream) → Rises low xs high → low ≤ high
rises_most low high [] h = h
rises_most low high (x ∷ xs) h =
    let rest = rises_most (number_of x) high xs h.1 in
    let first = h.0 in omega (arith, first, rest)

rises_at : (low high : ℕ) (xs : List RelayStream) (i : ℕ) (t : RelayStream) → slice_get xs i ≡ Some t → Rises low xs high → low < number_of t
rises_at low high [] i t e h = absurd (cc)
rises_at low high (x ∷ xs) zero t e h =
    let same : x ≡ t = cc in
    let n : number_of x ≡ number_of t = ap number_of same in
    let first = h.0 in omega (arith, n, first)
rises_at low high (x ∷ xs) (suc i) t e h =
    let rest = rises_at (number_of x) high xs i t e h.1 in
    let first = h.0 in omega (arith, first, rest)

rises_set : (low high : ℕ) (xs : List RelayStream) (i : ℕ) (t u : RelayStream) → slice_get xs i ≡ Some t → number_of u ≡ number_of t → Rises low xs high → Rises low (slice_set xs i u) high
rises_set low high [] i t u e n h = absurd (cc)
rises_set low high (x ∷ xs) zero t u e n h =
    let same : x ≡ t = cc in
    let own_is : number_of u ≡ number_of x = n ∙ sym (ap number_of same) in
    let first = h.0 in
    (omega (arith, first, own_is), subst (λ (k : ℕ). Rises k xs high) (sym own_is) h.1)
rises_set low high (x ∷ xs) (suc i) t u e n h = (h.0, rises_set (number_of x) high xs i t u e n h.1)

rises_remove : (low high : ℕ) (xs : List RelayStream) (i : ℕ) (t : RelayStream) → slice_get xs i ≡ Some t → Rises low xs high → Rises low (remove xs i) high
rises_remove low high [] i t e h = absurd (cc)
rises_remove low high (x ∷ xs) zero t e h =
    let first = h.0 in rises_lower (number_of x) low high xs h.1 (omega (arith, first))
rises_remove low high (x ∷ xs) (suc i) t e h = (h.0, rises_remove (number_of x) high xs i t e h.1)

pub rises_push : (low high n : ℕ) (xs : List RelayStream) (u : RelayStream) → Rises low xs high → high < n → number_of u ≡ n → Rises low (xs ++ u ∷ []) n
rises_push low high n [] u h l e = (omega (arith, h, l, e), omega (arith, e))
rises_push low high n (x ∷ xs) u h l e = (h.0, rises_push (number_of x) high n xs u h.1 l e)

put_by : (low high : ℕ) (xs : List RelayStream) (i : ℕ) (t u : RelayStream) (b : Bool) → slice_get xs i ≡ Some t → number_of u ≡ number_of t → Rises low xs high → Rises low (if b then remove (slice_set xs i u) i else slice_set xs i u) high
put_by low high xs i t u true e n h =
    rises_remove low high (slice_set xs i u) i u (get_set xs i t u e) (rises_set low high xs i t u e n h)
put_by low high xs i t u false e n h = rises_set low high xs i t u e n h

pub rises_put : (low high : ℕ) (xs : List RelayStream) (i : ℕ) (t u : RelayStream) → slice_get xs i ≡ Some t → number_of u ≡ number_of t → Rises low xs high → Rises low (put xs i u) high
rises_put low high xs i t u e n h = put_by low high xs i t u (is_over u) e n h

pub rises_written : (low high : ℕ) (xs : List RelayStream) (i : ℕ) (t u : RelayStream) → slice_get xs i ≡ Some t → number_of u ≡ number_of t → Rises low xs high → Rises low (slice_set xs i u) high
rises_written low high xs i t u e n h = rises_set low high xs i t u e n h

-- none has a number below
pub none_above : (n low high : ℕ) (xs : List RelayStream) → Rises low xs high → n ≤ low → own n xs ≡ None
none_above n low high [] h l = refl
none_above n low high (x ∷ xs) h l =
    let first = h.0 in
    let test : (number_of x == n) ≡ false = ne_eqb (number_of x) n (λ e. absurd (omega (arith, e, first, l))) in
    rw test (none_above n (number_of x) high xs h.1 (omega (arith, first, l)))

-- a stream that is there is its number's own
pub own_at : (n low high : ℕ) (xs : List RelayStream) (i : ℕ) (t : RelayStream) → slice_get xs i ≡ Some t → number_of t ≡ n → Rises low xs high → own n xs ≡ Some t
own_at n low high [] i t e q h = absurd (cc)
own_at n low high (x ∷ xs) zero t e q h =
    let same : x ≡ t = cc in
    let test : (number_of x == n) ≡ true = eq-eqb (number_of x) n (ap number_of same ∙ q) in
    rw test (ap (λ (s : RelayStream). Some s) same)
own_at n low high (x ∷ xs) (suc i) t e q h =
    let above = rises_at (number_of x) high xs i t e h.1 in
    let test : (number_of x == n) ≡ false = ne_eqb (number_of x) n (λ k. absurd (omega (arith, k, above, q))) in
    rw test (own_at n (number_of x) high xs i t e q h.1)

-- what is written over a stream of another number, or taken off, changes nothing
set_other : (n : ℕ) (xs : List RelayStream) (i : ℕ) (t u : RelayStream) → slice_get xs i ≡ Some t → number_of u ≡ number_of t → (number_of t == n) ≡ false → own n (slice_set xs i u) ≡ own n xs
set_other n [] i t u e q d = absurd (cc)
set_other n (x ∷ xs) zero t u e q d =
    let same : x ≡ t = cc in
    let first : (number_of u == n) ≡ false = ap (λ (k : ℕ). k == n) q ∙ d in
    let second : (number_of x == n) ≡ false = ap (λ (k : ℕ). k == n) (ap number_of same) ∙ d in
    rw first (rw second refl)
set_other n (x ∷ xs) (suc i) t u e q d =
    ap (λ (o : Option RelayStream). if (number_of x == n) then Some x else o) (set_other n xs i t u e q d)

remove_other : (n : ℕ) (xs : List RelayStream) (i : ℕ) (t : RelayStream) → slice_get xs i ≡ Some t → (number_of t == n) ≡ false → own n (remove xs i) ≡ own n xs
remove_other n [] i t e d = absurd (cc)
remove_other n (x ∷ xs) zero t e d =
    let same : x ≡ t = cc in
    let test : (number_of x == n) ≡ false = ap (λ (k : ℕ). k == n) (ap number_of same) ∙ d in
    rw test refl
remove_other n (x ∷ xs) (suc i) t e d =
    ap (λ (o : Option RelayStream). if (number_of x == n) then Some x else o) (remove_other n xs i t e d)

remove_own : (n low high : ℕ) (xs : List RelayStream) (i : ℕ) (t : RelayStream) → slice_get xs i ≡ Some t → number_of t ≡ n → Rises low xs high → own n (remove xs i) ≡ None
remove_own n low high [] i t e q h = absurd (cc)
remove_own n low high (x ∷ xs) zero t e q h =
    let same : x ≡ t = cc in
    let own_is : number_of x ≡ n = ap number_of same ∙ q in
    none_above n (number_of x) high xs h.1 (omega (arith, own_is))
remove_own n low high (x ∷ xs) (suc i) t e q h =
    let above = rises_at (number_of x) high xs i t e h.1 in
    let test : (number_of x == n) ≡ false = ne_eqb (number_of x) n (λ k. absurd (omega (arith, k, above, q))) in
    rw test (remove_own n (number_of x) high xs i t e q h.1)

pub written_own : (n low high : ℕ) (xs : List RelayStream) (i : ℕ) (t u : RelayStream) → slice_get xs i ≡ Some t → number_of u ≡ number_of t → number_of t ≡ n → Rises low xs high → own n (slice_set xs i u) ≡ Some u
written_own n low high xs i t u e q own_is h =
    own_at n low high (slice_set xs i u) i u (get_set xs i t u e) (q ∙ own_is) (rises_set low high xs i t u e q h)

pub written_other : (n : ℕ) (xs : List RelayStream) (i : ℕ) (t u : RelayStream) → slice_get xs i ≡ Some t → number_of u ≡ number_of t → (number_of t == n) ≡ false → own n (slice_set xs i u) ≡ own n xs
written_other n xs i t u e q d = set_other n xs i t u e q d

put_other_by : (n : ℕ) (xs : List RelayStream) (i : ℕ) (t u : RelayStream) (b : Bool) → slice_get xs i ≡ Some t → number_of u ≡ number_of t → (number_of t == n) ≡ false → own n (if b then remove (slice_set xs i u) i else slice_set xs i u) ≡ own n xs
put_other_by n xs i t u true e q d =
    remove_other n (slice_set xs i u) i u (get_set xs i t u e) (ap (λ (k : ℕ). k == n) q ∙ d) ∙ set_other n xs i t u e q d
put_other_by n xs i t u false e q d = set_other n xs i t u e q d

pub put_other : (n : ℕ) (xs : List RelayStream) (i : ℕ) (t u : RelayStream) → slice_get xs i ≡ Some t → number_of u ≡ number_of t → (number_of t == n) ≡ false → own n (put xs i u) ≡ own n xs
put_other n xs i t u e q d = put_other_by n xs i t u (is_over u) e q d

put_own_by : (n low high : ℕ) (xs : List RelayStream) (i : ℕ) (t u : RelayStream) (b : Bool) → slice_get xs i ≡ Some t → number_of u ≡ number_of t → number_of t ≡ n → Rises low xs high → own n (if b then remove (slice_set xs i u) i else slice_set xs i u) ≡ (if b then None else Some u)
put_own_by n low high xs i t u true e q own_is h =
    remove_own n low high (slice_set xs i u) i u (get_set xs i t u e) (q ∙ own_is) (rises_set low high xs i t u e q h)
put_own_by n low high xs i t u false e q own_is h = written_own n low high xs i t u e q own_is h

pub put_own : (n low high : ℕ) (xs : List RelayStream) (i : ℕ) (t u : RelayStream) → slice_get xs i ≡ Some t → number_of u ≡ number_of t → number_of t ≡ n → Rises low xs high → own n (put xs i u) ≡ (if is_over u then None else Some u)
put_own n low high xs i t u e q own_is h = put_own_by n low high xs i t u (is_over u) e q own_is h

-- a stream more, of another number
pub push_other : (n : ℕ) (xs : List RelayStream) (u : RelayStream) → (number_of u == n) ≡ false → own n (xs ++ u ∷ []) ≡ own n xs
push_other n [] u d = rw d refl
push_other n (x ∷ xs) u d =
    ap (λ (o : Option RelayStream). if (number_of x == n) then Some x else o) (push_other n xs u d)

push_own_by : (n : ℕ) (x : RelayStream) (xs : List RelayStream) (u : RelayStream) (b : Bool) → (if b then Some x else own n xs) ≡ None → (own n xs ≡ None → own n (xs ++ u ∷ []) ≡ Some u) → (if b then Some x else own n (xs ++ u ∷ [])) ≡ Some u
push_own_by n x xs u true none afterwards = absurd (cc)
push_own_by n x xs u false none afterwards = afterwards none

pub push_own : (n : ℕ) (xs : List RelayStream) (u : RelayStream) → own n xs ≡ None → number_of u ≡ n → own n (xs ++ u ∷ []) ≡ Some u
push_own n [] u none e = let test : (number_of u == n) ≡ true = eq-eqb (number_of u) n e in rw test refl
push_own n (x ∷ xs) u none e = push_own_by n x xs u (number_of x == n) none (λ k. push_own n xs u k e)

-- the place of a number
pub record IsAt (n : ℕ) (xs : List RelayStream) (s : RelayStream) : Type 0 where
  pub place : ℕ
  pub position_is : position (is_numbered n) xs ≡ Some place
  pub there : slice_get xs place ≡ Some s
  pub number_is : number_of s ≡ n

own_number_by : (n : ℕ) (x s : RelayStream) (xs : List RelayStream) (b : Bool) → (number_of x == n) ≡ b → (own n xs ≡ Some s → number_of s ≡ n) → (if b then Some x else own n xs) ≡ Some s → number_of s ≡ n
own_number_by n x s xs true t afterwards e =
    let same : x ≡ s = cc in sym (ap number_of same) ∙ eqb-true (number_of x) n t
own_number_by n x s xs false t afterwards e = afterwards e

own_number : (n : ℕ) (xs : List RelayStream) (s : RelayStream) → own n xs ≡ Some s → number_of s ≡ n
own_number n [] s e = absurd (cc)
own_number n (x ∷ xs) s e = own_number_by n x s xs (number_of x == n) refl (λ k. own_number n xs s k) e

pub is_at : (n : ℕ) (xs : List RelayStream) (s : RelayStream) → own n xs ≡ Some s → IsAt n xs s
is_at n xs s e =
    let k = position_or_len (is_numbered n) xs in
    let there : slice_get xs k ≡ Some s = sym (find_at (is_numbered n) xs) ∙ e in
    let lt = slice_get_within xs k s there in
    let test : nat_lt k (length xs) ≡ true = lt-ltb k (length xs) lt in
    record {
      place = k;
      position_is = ap (λ (b : Bool). cond b (Some k) None) test;
      there = there;
      number_is = own_number n xs s e;
    }

past_by : (xs : List RelayStream) (k : ℕ) → slice_get xs k ≡ None → length xs ≤ k
past_by xs k e =
    elim (cases_lt k (length xs)) [
      | inl lt ↦ let t = there_is xs k lt in let some = t.1 in absurd (cc)
      | inr past ↦ past
    ]

pub is_nowhere : (n : ℕ) (xs : List RelayStream) → own n xs ≡ None → position (is_numbered n) xs ≡ None
is_nowhere n xs e =
    let k = position_or_len (is_numbered n) xs in
    let past = past_by xs k (sym (find_at (is_numbered n) xs) ∙ e) in
    let test : nat_lt k (length xs) ≡ false = le-ltb k (length xs) past in
    ap (λ (b : Bool). cond b (Some k) None) test
