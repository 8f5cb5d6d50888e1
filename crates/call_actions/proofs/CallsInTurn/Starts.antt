-- A call without an attempt is in order and in turn; and what is of another call leaves it so.
use Rattle.call_actions.proofs.CallsApart.Kept.{wants_same}
use Rattle.attempt_ledger.specs.declared.ledger.CallEnd.{CallEnd}
use Rattle.attempt_ledger.specs.declared.row.RowEnd.{RowEnd}
use Rattle.call_actions.proofs.Lists.{any_none}
use Rattle.call_actions.proofs.Ranks.{all_so}
use Rattle.call_actions.specs.Order.{IsInOrder, IsInTurn, goes_on_followed, goes_on_older, is_beyond, is_own_mark, is_retried}
use Rattle.call_actions.proofs.CallsApart.Seen.{counted_by, others_are_in_turn}
use Rattle.call_actions.proofs.CallsApart.Through.{any_apart}
use Rattle.call_actions.specs.CallsApart.Apart.{run_number, IsApart}
use Rattle.call_actions.proofs.CallsInTurn.Changes.{some_last}
use Rattle.call_actions.specs.CallsInTurn.Laws.{CallsStart, OthersAreSteady}
use Rattle.call_actions.specs.CallsInTurn.Turns.{is_rowless, waits}
use Rattle.session_actions.specs.Attempts.{commitment, is_commitment, is_of, wants_follower, wants_follower_by, is_followed}
use Rattle.session_actions.specs.Configs.{plan_of}
use Rattle.session_actions.specs.DueAttempts.{attempts_made, due_after_mark, no_due}
use Rattle.session_actions.specs.Words.{holds, numbered}
use Rattle.session_actions.specs.declared.attempt.Attempt.{Attempt}
use Rattle.session_actions.specs.declared.call.Call.{Call}
use Rattle.session_actions.specs.declared.call.Mark.{Mark}
use Rattle.session_actions.specs.declared.call.MarkKind.TheVariants as mark
use Rattle.session_actions.specs.declared.call.MarkKind.{MarkKind}
use Rattle.session_actions.specs.declared.due.DueState.{DueState}
use Rattle.session_actions.specs.declared.seen.Seen.{Seen}
use Rattle.std.proofs.Common.{Bool, List, None, Option, Some, [], ap, false, fold, is_none, is_some, nat_lt, not, refl, true, ℕ, ◌&&◌, ◌==◌, ◌||◌, ◌∙◌, ◌∷◌, ◌≡◌}
use Rattle.std.proofs.lemmas.Bool.{and_parts}
use Rattle.std.specs.List.{list_all, list_any}

-- none passes a stronger test
none_own : (p : Attempt → Bool) (c : Call) → ((q : Attempt) → is_of c q ≡ false → p q ≡ false) → (xs : List Attempt) → list_any (is_of c) xs ≡ false → list_any p xs ≡ false
none_own p c restricted xs none = any_none p (is_of c) restricted xs none

-- marks that name no attempt leave that there is no newest one
rowless_newest : (c : Call) (s : Seen) (w : MarkKind) (moment : ℕ) (d : DueState) → is_rowless w ≡ true → (due_after_mark c s w moment d).newest ≡ d.newest
rowless_newest c s mark.Configured moment d e = refl
rowless_newest c s (mark.Made row) moment d e = absurd (cc)
rowless_newest c s (mark.Placed row) moment d e = absurd (cc)
rowless_newest c s (mark.Ended row) moment d e = absurd (cc)
rowless_newest c s mark.Withheld moment d e = refl
rowless_newest c s mark.Committed moment d e = refl
rowless_newest c s mark.Closed moment d e = refl

newest_none : (c : Call) (s : Seen) (d : DueState) (list : List Mark) → list_all (λ (m : Mark). is_rowless m.what) list ≡ true
    → (fold (λ (z : DueState) (m : Mark). due_after_mark c s m.what m.moment z) d list).newest ≡ d.newest
newest_none c s d [] e = refl
newest_none c s d (m ∷ list) e =
    let parts : (is_rowless m.what ≡ true) × (list_all (λ (x : Mark). is_rowless x.what) list ≡ true) = and_parts (is_rowless m.what) (list_all (λ (x : Mark). is_rowless x.what) list) e in
    newest_none c s (due_after_mark c s m.what m.moment d) list parts.1 ∙ rowless_newest c s m.what m.moment d parts.0

rowless_own : (s : Seen) (c : Call) (w : MarkKind) → is_rowless w ≡ true → is_own_mark s c w ≡ true
rowless_own s c mark.Configured e = refl
rowless_own s c (mark.Made row) e = absurd (cc)
rowless_own s c (mark.Placed row) e = refl
rowless_own s c (mark.Ended row) e = absurd (cc)
rowless_own s c mark.Withheld e = refl
rowless_own s c mark.Committed e = refl
rowless_own s c mark.Closed e = refl

both_so : (b : Bool) → b ≡ false → b ≡ true → ⊥
both_so true e f = absurd (cc)
both_so false e f = absurd (cc)

no_end : (c : Call) (s : Seen) → c.end ≡ None → list_any (is_of c) s.attempts ≡ false → (is_some c.end || is_some (commitment c s)) ≡ false
no_end c s is_open none =
    ap (λ (o : Option CallEnd). is_some o || is_some (commitment c s)) is_open ∙ some_last (is_commitment c) s.attempts
    ∙ none_own (is_commitment c) c (λ q e. ap (λ (b : Bool). b && is_some q.row.committed) e) s.attempts none

pub calls_start : CallsStart
calls_start s c book none marks is_open =
    let order : IsInOrder s c = record {
      places = book.places;
      marks = all_so (λ (m : Mark). is_rowless m.what) (λ (m : Mark). is_own_mark s c m.what) (λ m e. rowless_own s c m.what e) c.marks marks;
      numbers = none_own (is_beyond s c) c (λ q e. ap (λ (b : Bool). b && nat_lt (attempts_made c s) q.row.number) e) s.attempts none;
      first = λ zero_made. newest_none c s no_due c.marks marks;
      stops = λ over. absurd (both_so (is_some c.end || is_some (commitment c s)) (no_end c s is_open none) over);
    } in
    let turn : IsInTurn s c = record {
      unfollowed = none_own (goes_on_followed s c) c (λ q e. ap (λ (b : Bool). (b && is_none q.row.ended) && is_followed q s) e) s.attempts none;
      latest = none_own (goes_on_older s c) c
          (λ q e. ap (λ (b : Bool). ((b && is_none q.row.ended) && is_retried (plan_of c s)) && not (q.row.number == attempts_made c s)) e) s.attempts none;
      numbers = none_own (λ (q : Attempt). is_of c q && (q.row.number == 0)) c (λ q e. ap (λ (b : Bool). b && (q.row.number == 0)) e) s.attempts none;
      counted = counted_by s book.counted (run_number c s);
    } in
    let quiescent : list_any (waits s c) s.attempts ≡ false = none_own (waits s c) c (λ q e. ap (λ (b : Bool). b && wants_follower q s) e) s.attempts none in
    (order, record { turn = turn; quiescent = quiescent })

-- of another call
wants_alike : (s t : Seen) (c : Call) (k : IsApart s t c) (own : numbered s.calls c.number ≡ Some c) (q : Attempt) → is_of c q ≡ true → (o : Option RowEnd)
    → holds (wants_follower_by q t) o ≡ holds (wants_follower_by q s) o
wants_alike s t c k own q mine None = refl
wants_alike s t c k own q mine (Some e) = wants_same s t c k own q mine e

pub others_are_steady : OthersAreSteady
others_are_steady s t c k book own order steady = record {
  turn = others_are_in_turn s t c k book own order steady.turn;
  quiescent = any_apart (is_of c) (waits t c) (waits s c) (λ q e. ap (λ (b : Bool). b && wants_follower q t) e) (λ q e. ap (λ (b : Bool). b && wants_follower q s) e)
      (λ q mine. ap (λ (b : Bool). is_of c q && b) (wants_alike s t c k own q mine q.row.ended)) s.attempts t.attempts k.attempts ∙ steady.quiescent;
}
