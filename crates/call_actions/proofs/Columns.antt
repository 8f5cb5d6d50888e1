-- Columns of attempts that are written, a placing or an end: what a session says of an end is the same, whichever attempt it is of.
use Rattle.std.proofs.Common.{◌≡◌, ◌||◌, ◌&&◌, ◌==◌, not, ap, refl, ◌∙◌, Bool, true, false, Option, None, Some, is_none, is_some, map, option_map}
use Rattle.std.specs.List.{list_any}
use Rattle.attempt_ledger.specs.Ends.{is_cut}
use Rattle.attempt_ledger.specs.TransparentRows.{is_by_peer, is_refused, is_unsent}
use Rattle.attempt_ledger.specs.declared.row.Placed.{Placed}
use Rattle.attempt_ledger.specs.declared.row.RowCause.{RowCause}
use Rattle.attempt_ledger.specs.declared.row.RowEnd.{RowEnd}
use Rattle.call_actions.proofs.Unconfigured.{some_still}
use Rattle.call_actions.proofs.Frames.{holds_same}
use Rattle.call_actions.proofs.Ranks.{any_map, any_map_all, find_last_map}
use Rattle.session_actions.specs.Attempts.{call_of, commitment, counts_by, is_commitment, is_followed, is_later_of, is_of, is_over, is_over_in, is_to_follow, of_its_call, wants_follower_by, was_refused, was_retried_so}
use Rattle.session_actions.specs.Words.{holds}
use Rattle.session_actions.specs.declared.attempt.Attempt.{Attempt}
use Rattle.session_actions.specs.declared.call.Call.{Call}
use Rattle.session_actions.specs.declared.seen.Seen.{Seen}

-- each attempt with these two columns
abbrev pub written : (Attempt → Option Placed) → (Attempt → Option RowEnd) → Attempt → Attempt
written pl en a = record a { row = record a.row { placed = pl a; ended = en a } }

abbrev pub written_seen : (Attempt → Option Placed) → (Attempt → Option RowEnd) → Seen → Seen
written_seen pl en s = record s { attempts = map (written pl en) s.attempts }

and_three : (x y z w : Bool) → (y && w) ≡ (z && w) → ((x && y) && w) ≡ ((x && z) && w)
and_three true y z w e = e
and_three false y z w e = refl

none_map : {X : Type 0} (h : X → X) (o : Option X) → is_none (option_map h o) ≡ is_none o
none_map h None = refl
none_map h (Some x) = refl

-- no end is written by which a retry of a refused attempt would have been made before
pub record Writes (s : Seen) (en : Attempt → Option RowEnd) (bad : Attempt → Bool) : Type 0 where
  pub none : list_any bad s.attempts ≡ false
  pub refused : (q : Attempt) → bad q ≡ false → (holds is_refused (en q) && is_followed q s) ≡ (was_refused q && is_followed q s)

module _ (s : Seen) (pl : Attempt → Option Placed) (en : Attempt → Option RowEnd) (bad : Attempt → Bool) (k : Writes s en bad) where
  abbrev h : Attempt → Attempt
  h a = written pl en a

  abbrev t : Seen
  t = written_seen pl en s

  pub followed_same : (a : Attempt) → is_followed (h a) t ≡ is_followed a s
  followed_same a = any_map_all (is_later_of (h a)) (is_later_of a) h (λ q. refl) s.attempts

  pub commitment_same : (c : Call) → commitment c t ≡ option_map h (commitment c s)
  commitment_same c = find_last_map (is_commitment c) (is_commitment c) h (λ q. refl) s.attempts

  place_by : (o : Option Attempt) → option_map (λ (q : Attempt). q.place) (option_map h o) ≡ option_map (λ (q : Attempt). q.place) o
  place_by None = refl
  place_by (Some q) = refl

  pub place_same : (c : Call) → option_map (λ (q : Attempt). q.place) (commitment c t) ≡ option_map (λ (q : Attempt). q.place) (commitment c s)
  place_same c = ap (option_map (λ (q : Attempt). q.place)) (commitment_same c) ∙ place_by (commitment c s)

  pub free_same : (c : Call) → is_some (commitment c t) ≡ is_some (commitment c s)
  free_same c = ap (λ (o : Option Attempt). is_some o) (commitment_same c) ∙ some_still h (commitment c s)

  number_by : (a : Attempt) (o : Option Attempt)
      → holds (λ (q : Attempt). not (q.row.number == a.row.number)) (option_map h o) ≡ holds (λ (q : Attempt). not (q.row.number == a.row.number)) o
  number_by a None = refl
  number_by a (Some q) = refl

  pub over_same : (a : Attempt) → is_over (h a) t ≡ is_over a s
  over_same a =
      holds_same (λ (c : Call). is_over_in c (h a) t) (λ (c : Call). is_over_in c a s)
      (λ c. ap (λ (o : Option Attempt). is_some c.end || holds (λ (q : Attempt). not (q.row.number == a.row.number)) o) (commitment_same c)
      ∙ ap (λ (b : Bool). is_some c.end || b) (number_by a (commitment c s))) (call_of a s)

  -- which retries of refused attempts there were
  pub retried_same : (c : Call) → was_retried_so c t ≡ was_retried_so c s
  retried_same c =
      any_map (λ (q : Attempt). is_of c q && was_refused q && is_followed q t) (λ (q : Attempt). is_of c q && was_refused q && is_followed q s) bad h
      (λ q good. ap (λ (b : Bool). is_of c q && holds is_refused (en q) && b) (followed_same q)
      ∙ and_three (is_of c q) (holds is_refused (en q)) (was_refused q) (is_followed q s) (k.refused q good)) s.attempts k.none

  pub follow_same : (why : RowCause) (unseen : Bool) (c : Call) → is_to_follow c why unseen t ≡ is_to_follow c why unseen s
  follow_same why unseen c =
      ap (λ (o : Option Attempt). is_unsent why || (unseen && is_by_peer why && is_none o && not (was_retried_so c t))) (commitment_same c)
      ∙ ap (λ (b : Bool). is_unsent why || (unseen && is_by_peer why && b && not (was_retried_so c t))) (none_map h (commitment c s))
      ∙ ap (λ (b : Bool). is_unsent why || (unseen && is_by_peer why && is_none (commitment c s) && not b)) (retried_same c)

  -- which ends count
  pub wants_same : (a : Attempt) (e : RowEnd) → wants_follower_by (h a) t e ≡ wants_follower_by a s e
  wants_same a e =
      ap (λ (b : Bool). not b && of_its_call (λ (c : Call). is_to_follow c e.cause e.unseen t) (h a) t) (followed_same a)
      ∙ ap (λ (b : Bool). not (is_followed a s) && b)
      (holds_same (λ (c : Call). is_to_follow c e.cause e.unseen t) (λ (c : Call). is_to_follow c e.cause e.unseen s) (follow_same e.cause e.unseen) (call_of a s))

  pub counts_same : (a : Attempt) (e : RowEnd) → counts_by (h a) t e ≡ counts_by a s e
  counts_same a e =
      ap (λ (b : Bool). not (is_cut e.cause) && not b && not (wants_follower_by (h a) t e)) (followed_same a)
      ∙ ap (λ (b : Bool). not (is_cut e.cause) && not (is_followed a s) && not b) (wants_same a e)
