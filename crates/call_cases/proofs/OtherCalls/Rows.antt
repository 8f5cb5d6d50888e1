-- The other calls of a session are the same, and so are their part of the ledger and their rows.
use Rattle.call_actions.proofs.Places.{place_is}
use Rattle.call_actions.proofs.CallsApart.Acts.{IsIn, at_place, in_filter}
use Rattle.call_actions.proofs.CallsApart.Kept.{seen_same}
use Rattle.call_actions.proofs.CallsApart.Seen.{all_numbered}
use Rattle.call_actions.specs.CallsApart.Apart.{CallsAreNumbered, IsApart}
use Rattle.call_cases.proofs.OtherCalls.Along.{goes_apart, goes_on}
use Rattle.call_cases.proofs.OtherCalls.Grows.{GrowsBut}
use Rattle.call_cases.specs.OtherCalls.Laws.{ColumnsStay, OthersAreSame, RowsStay}
use Rattle.call_cases.specs.OtherCalls.Others.{GoesApart, is_of_number}
use Rattle.attempt_ledger.specs.declared.ledger.CallSeen.{CallSeen}
use Rattle.session_actions.specs.Attempts.{call_of, is_of}
use Rattle.session_actions.specs.Sessions.{call_seen}
use Rattle.session_actions.specs.Words.{numbered}
use Rattle.session_actions.specs.declared.attempt.Attempt.{Attempt}
use Rattle.session_actions.specs.declared.call.Call.{Call}
use Rattle.session_actions.specs.declared.seen.Seen.{Seen}
use Rattle.std.proofs.Common.{Bool, List, None, Option, Some, [], ap, arith, cond, false, filter, is_some, option_map, refl, slice_get, suc, sym, true, zero, ℕ, ◌+◌, ◌==◌, ◌∙◌, ◌∷◌, ◌≡◌}
use Rattle.std.proofs.lemmas.Bool.{eq-eqb}

-- one of a list that passes a test is one of those that pass
more_in : {X : Type 0} (x : X) (xs : List X) (a : X) → IsIn xs a → IsIn (x ∷ xs) a
more_in x xs a i = record { index = suc i.index; here = i.here }

passes_by : {X : Type 0} (p : X → Bool) (x : X) (xs : List X) (b : Bool) → p x ≡ b → (i : ℕ) (a : X) → slice_get (x ∷ xs) i ≡ Some a → p a ≡ true
    → ((j : ℕ) → slice_get xs j ≡ Some a → IsIn (filter p xs) a) → IsIn (cond b (x ∷ filter p xs) (filter p xs)) a
passes_by p x xs true e zero a got passes rest = record { index = zero; here = got }
passes_by p x xs true e (suc i) a got passes rest = more_in x (filter p xs) a (rest i got)
passes_by p x xs false e zero a got passes rest =
    let one : x ≡ a = (cc) in
    let both : true ≡ false = sym passes ∙ sym (ap p one) ∙ e in absurd (cc)
passes_by p x xs false e (suc i) a got passes rest = rest i got

filter_in : {X : Type 0} (p : X → Bool) (xs : List X) (i : ℕ) (a : X) → slice_get xs i ≡ Some a → p a ≡ true → IsIn (filter p xs) a
filter_in p [] i a got passes = absurd (cc)
filter_in p (x ∷ xs) i a got passes = passes_by p x xs (p x) refl i a got passes (λ j e. filter_in p xs j a e passes)

-- the number of a call is its place
number_from : (n : ℕ) (xs : List Call) (i : ℕ) (c : Call) → CallsAreNumbered n xs → slice_get xs i ≡ Some c → c.number ≡ n + i
number_from n [] i c h e = absurd (cc)
number_from n (d ∷ xs) zero c h e =
    let one : c ≡ d = (cc) in ap (λ (q : Call). q.number) one ∙ h.0 ∙ (let up : n ≡ n + 0 = omega arith in up)
number_from n (d ∷ xs) (suc i) c h e = number_from (suc n) xs i c h.1 e ∙ (let up : suc n + i ≡ n + suc i = omega arith in up)

pub number_at : (xs : List Call) (k : ℕ) (c : Call) → CallsAreNumbered 1 xs → numbered xs k ≡ Some c → c.number ≡ k
number_at xs zero c h e = absurd (cc)
number_at xs (suc i) c h e = number_from 1 xs i c h e ∙ (let up : 1 + i ≡ suc i = omega arith in up)

module _ (number : ℕ) (s t : Seen) (g : GoesApart number s t) where
  pub number_is : (k : ℕ) (c : Call) → numbered s.calls k ≡ Some c → c.number ≡ k
  number_is k c e = number_at s.calls k c g.earlier.book.calls e

  pub own_of : (k : ℕ) (c : Call) → numbered s.calls k ≡ Some c → numbered s.calls c.number ≡ Some c
  own_of k c e = ap (numbered s.calls) (number_is k c e) ∙ e

  pub off_of : (k : ℕ) (c : Call) → numbered s.calls k ≡ Some c → (k == number) ≡ false → (c.number == number) ≡ false
  off_of k c e off = ap (λ (n : ℕ). n == number) (number_is k c e) ∙ off

  pub apart_at : (k : ℕ) (c : Call) → numbered s.calls k ≡ Some c → (k == number) ≡ false → IsApart s t c
  apart_at k c e off = goes_apart number c (off_of k c e off) s t g (own_of k c e)

  same_by : (k : ℕ) (o : Option Call) → numbered s.calls k ≡ o → (k == number) ≡ false → numbered t.calls k ≡ o
  same_by k None e off =
      let grown : GrowsBut number s t = goes_on number s t g in grown.calls k off e
  same_by k (Some c) e off =
      let a : IsApart s t c = apart_at k c e off in
      ap (numbered t.calls) (sym (number_is k c e)) ∙ a.call ∙ own_of k c e

  pub calls_same : (k : ℕ) → (k == number) ≡ false → numbered t.calls k ≡ numbered s.calls k
  calls_same k off = same_by k (numbered s.calls k) refl off

  seen_by : (k : ℕ) (o : Option Call) → numbered s.calls k ≡ o → (k == number) ≡ false → option_map (call_seen t) o ≡ option_map (call_seen s) o
  seen_by k None e off = refl
  seen_by k (Some c) e off = ap (λ (z : CallSeen). Some z) (seen_same s t c (apart_at k c e off) (own_of k c e))

  pub columns_same : (k : ℕ) → (k == number) ≡ false → option_map (call_seen t) (numbered t.calls k) ≡ option_map (call_seen s) (numbered s.calls k)
  columns_same k off = ap (option_map (call_seen t)) (calls_same k off) ∙ seen_by k (numbered s.calls k) refl off

  -- a row of another call was there
  pub row_before : (c : Call) → IsApart s t c → (row : ℕ) (a : Attempt) → numbered t.attempts row ≡ Some a → is_of c a ≡ true → numbered s.attempts row ≡ Some a
  row_before c k zero a got mine = absurd (cc)
  row_before c k (suc i) a got mine =
      let one : IsIn (filter (is_of c) t.attempts) a = filter_in (is_of c) t.attempts i a got mine in
      let two : IsIn s.attempts a = in_filter (is_of c) s.attempts one.index a (ap (λ (l : List Attempt). slice_get l one.index) (sym k.attempts) ∙ one.here) in
      ap (numbered s.attempts) (sym (place_is (suc i) t.attempts a g.later.book.places got)) ∙ at_place s.attempts a g.earlier.book.places two

  row_of : (a : Attempt) (row : ℕ) → numbered t.attempts row ≡ Some a → (a.row.call == number) ≡ false → (o : Option Call) → numbered t.calls a.row.call ≡ o → is_some o ≡ true
      → numbered s.attempts row ≡ Some a
  row_of a row e off None got there = absurd (cc)
  row_of a row e off (Some d) got there =
      let before : numbered s.calls a.row.call ≡ Some d = sym (calls_same a.row.call off) ∙ got in
      let mine : is_of d a ≡ true = ap (λ (n : ℕ). a.row.call == n) (number_is a.row.call d before) ∙ eq-eqb a.row.call a.row.call refl in
      row_before d (apart_at a.row.call d before off) row a e mine

  rows_by : (row : ℕ) (o : Option Attempt) → numbered t.attempts row ≡ o → is_of_number number o ≡ false → numbered t.attempts row ≡ numbered s.attempts row
  rows_by row None e off =
      let grown : GrowsBut number s t = goes_on number s t g in e ∙ sym (grown.rows row e)
  rows_by row (Some a) e off =
      e ∙ sym (row_of a row e off (call_of a t) refl (all_numbered (λ (q : Attempt). is_some (call_of q t)) t.attempts row a g.later.owned e))

  pub rows_same : (row : ℕ) → is_of_number number (numbered t.attempts row) ≡ false → numbered t.attempts row ≡ numbered s.attempts row
  rows_same row off = rows_by row (numbered t.attempts row) refl off

pub others_are_same : OthersAreSame
others_are_same number s t g k off = calls_same number s t g k off

pub columns_stay : ColumnsStay
columns_stay number s t g k off = columns_same number s t g k off

pub rows_stay : RowsStay
rows_stay number s t g row off = rows_same number s t g row off
