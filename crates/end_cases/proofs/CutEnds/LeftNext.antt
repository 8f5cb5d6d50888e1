-- The first of the ends that a session owes comes, or came already, as a cut: its links are as far ahead as before, with the others that are left.
use Rattle.std.proofs.Math.Nat.{le_refl}
use Rattle.std.proofs.Common.{Bool, List, Some, [], ap, false, refl, subst, suc, sym, true, zero, ℕ, ◌==◌, ◌∙◌, ◌∷◌, ◌≡◌}
use Rattle.attempt_ledger.specs.declared.row.RowEnd.{RowEnd}
use Rattle.call_cases.proofs.EndsFollow.Codes.{ended_code}
use Rattle.call_cases.proofs.LinkEnds.Cutting.{counted_places}
use Rattle.channel_core.specs.States.{StateSeen}
use Rattle.end_cases.proofs.AttemptEnds.LeftLinks.{changed_down, is_among, places_left, rows_apart}
use Rattle.end_cases.proofs.CutEnds.Ahead.{IsReady}
use Rattle.end_cases.proofs.CutEnds.AsFar.{AreSameRows, IsAsFar, IsSameCall, as_far}
use Rattle.end_cases.proofs.CutEnds.LeftCuts.{AreOwned, calls_of, limit_of, links_of, owned_left, ready_left, rows_changed, rows_of}
use Rattle.end_cases.specs.AttemptEnds.Ahead.{LinksAhead}
use Rattle.end_cases.specs.AttemptEnds.Left.{all_left, rows_ended}
use Rattle.link_actions.proofs.Ended.{changed_one, noted_call}
use Rattle.link_actions.specs.Sees.{AttemptsStandInPlace}
use Rattle.session_actions.specs.AttemptEnds.{attempt_ended, reset_code_of, with_end}
use Rattle.session_actions.specs.Entries.{now}
use Rattle.session_actions.specs.Words.{changed, numbered}
use Rattle.session_actions.specs.Writing.{accepted_bytes}
use Rattle.session_actions.specs.declared.attempt.Attempt.{Attempt}
use Rattle.session_actions.specs.declared.call.Call.{Call}
use Rattle.session_actions.specs.declared.call.MarkKind.TheVariants as mark
use Rattle.session_actions.specs.declared.seen.Seen.{Seen}

changed_self : {X : Type 0} (f : X → X) (n : ℕ) (xs : List X) (x : X) → numbered xs n ≡ Some x → f x ≡ x → changed f n xs ≡ xs
changed_self f zero xs x at same = refl
changed_self f (suc i) [] x at same = refl
changed_self f (suc zero) (y ∷ xs) x at same =
    let one : y ≡ x = (cc) in ap (λ (z : _). z ∷ xs) (ap f one ∙ same ∙ sym one)
changed_self f (suc (suc i)) (y ∷ xs) x at same = changed_down f i y xs ∙ ap (λ (zs : List _). y ∷ zs) (changed_self f (suc i) xs x at same)

-- an end that brings the same reset as the one that was owed (by its cause, the entry in which it came, and the bytes that were read by then)
abbrev pub ResetsAlike : RowEnd → RowEnd → Seen → Type 0
ResetsAlike d e s = (b : Attempt) → reset_code_of s (with_end e b) ≡ reset_code_of s (with_end d b)

module _ (d e : RowEnd) (later : List (ℕ × RowEnd)) (s : Seen) (a : Attempt) (there : numbered s.attempts a.place ≡ Some a) (is : IsReady s) (owned : AreOwned s)
    (apart : is_among later a.place ≡ false) (alike : ResetsAlike d e s) where
  abbrev s1 : Seen
  s1 = all_left ((a.place, d) ∷ later) s

  ready_s : IsReady s1
  ready_s = ready_left ((a.place, d) ∷ later) s is

  before : s1.attempts ≡ changed (with_end d) a.place (rows_ended later s.attempts)
  before = rows_apart (with_end d) later a.place s.attempts apart

  -- it comes
  abbrev u : Seen
  u = attempt_ended a.place e s

  abbrev u1 : Seen
  u1 = all_left later u

  code_u : (b : Attempt) → reset_code_of u1 b ≡ reset_code_of s1 b
  code_u b = ended_code s a.place a e is.places there b

  after_rows : u1.attempts ≡ changed (with_end e) a.place (rows_ended later s.attempts)
  after_rows = ap (rows_ended later) (rows_of s a e is.places there) ∙ rows_apart (with_end e) later a.place s.attempts apart

  places_u : AttemptsStandInPlace 1 u1.attempts
  places_u = subst (AttemptsStandInPlace 1) (sym after_rows) (placed_then)
    where
      placed_then : AttemptsStandInPlace 1 (changed (with_end e) a.place (rows_ended later s.attempts))
      placed_then = places_left ((a.place, e) ∷ []) (rows_ended later s.attempts) (places_left later s.attempts is.places)

  call_by : (n : ℕ) (c : Call) (b : Bool) → (n == a.row.call) ≡ b → numbered s.calls n ≡ Some c → IsSameCall s1 u1 n c
  call_by n c true g at = record {
    call = noted_call (mark.Ended a.place) (now s) c;
    there = ap (λ (cs : List Call). numbered cs n) (calls_of s a e is.places there) ∙ changed_one (noted_call (mark.Ended a.place) (now s)) a.row.call n s.calls c true g at;
    limit = limit_of s a e is.places there c;
    more = le_refl (accepted_bytes c);
  }
  call_by n c false g at = record {
    call = c;
    there = ap (λ (cs : List Call). numbered cs n) (calls_of s a e is.places there) ∙ changed_one (noted_call (mark.Ended a.place) (now s)) a.row.call n s.calls c false g at;
    limit = limit_of s a e is.places there c;
    more = le_refl (accepted_bytes c);
  }

  far : IsAsFar s1 u1
  far = record {
    links = links_of s a e is.places there;
    calls = λ n c at. call_by n c (n == a.row.call) refl at;
    rows =
        subst (λ (ys : List Attempt). AreSameRows s1 u1 ys u1.attempts) (sym before)
        (subst (AreSameRows s1 u1 (changed (with_end d) a.place (rows_ended later s.attempts))) (sym after_rows)
        (rows_changed s1 u1 code_u d e (λ b. code_u (with_end e b) ∙ alike b) a.place (rows_ended later s.attempts)));
    owned = owned_left ((a.place, d) ∷ later) s owned;
    numbers = ready_s.numbers;
    counted = counted_places 1 u1.attempts places_u;
    places = places_u;
  }

  pub first_ends : (also : List ℕ) (x : StateSeen) → LinksAhead also x s1 → LinksAhead also x (all_left later (attempt_ended a.place e s))
  first_ends also x h = as_far s1 u1 far also x h

  -- it came already
  module _ (over : a.row.ended ≡ Some e) where
    abbrev t1 : Seen
    t1 = all_left later s

    same_one : with_end e a ≡ a
    same_one = ap (λ (q : _). record a { row = record a.row { ended = q } }) (sym over)

    now_rows : t1.attempts ≡ changed (with_end e) a.place (rows_ended later s.attempts)
    now_rows = ap (rows_ended later) (sym (changed_self (with_end e) a.place s.attempts a there same_one)) ∙ rows_apart (with_end e) later a.place s.attempts apart

    places_t : AttemptsStandInPlace 1 t1.attempts
    places_t = places_left later s.attempts is.places

    far_over : IsAsFar s1 t1
    far_over = record {
      links = refl;
      calls = λ n c at. record { call = c; there = at; limit = refl; more = le_refl (accepted_bytes c) };
      rows =
          subst (λ (ys : List Attempt). AreSameRows s1 t1 ys t1.attempts) (sym before)
          (subst (AreSameRows s1 t1 (changed (with_end d) a.place (rows_ended later s.attempts))) (sym now_rows)
          (rows_changed s1 t1 (λ b. refl) d e (λ b. alike b) a.place (rows_ended later s.attempts)));
      owned = owned_left ((a.place, d) ∷ later) s owned;
      numbers = ready_s.numbers;
      counted = counted_places 1 t1.attempts places_t;
      places = places_t;
    }

    pub first_is_over : (also : List ℕ) (x : StateSeen) → LinksAhead also x s1 → LinksAhead also x (all_left later s)
    first_is_over also x h = as_far s1 t1 far_over also x h
