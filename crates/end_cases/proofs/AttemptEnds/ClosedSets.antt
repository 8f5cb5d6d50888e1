-- The sets of the channel, once an attempt has ended and its call by it: nothing of the call is in them any more.
use Rattle.std.proofs.Common.{◌≡◌, ◌&&◌, ◌||◌, ◌==◌, not, ap, refl, sym, ◌∙◌, Bool, true, false, List, Option, None, Some, ℕ, is_none, is_some}
use Rattle.std.proofs.lemmas.Bool.{and_right, eqb-true}
use Rattle.attempt_ledger.specs.declared.row.Placed.{Placed}
use Rattle.attempt_ledger.specs.declared.row.RowEnd.{RowEnd}
use Rattle.call_actions.proofs.Lists.{numbered_not}
use Rattle.call_actions.proofs.Places.{place_is}
use Rattle.call_actions.specs.Laws.{IsCounting}
use Rattle.call_actions.specs.Sees.{is_live}
use Rattle.std.specs.List.{list_any}
use Rattle.call_cases.specs.OtherCalls.Laws.{SetsApart}
use Rattle.channel_actions.specs.Sets.{PairsAreExactly, is_in_ready_waiters, is_in_queue, is_ready_waiter, is_waiting}
use Rattle.end_cases.proofs.AttemptEnds.After.{numbers}
use Rattle.end_cases.proofs.AttemptEnds.Base.{books, c, queue_off}
use Rattle.end_cases.proofs.AttemptEnds.Closing as closing
use Rattle.end_cases.proofs.AttemptEnds.Closing.{Between, Continues}
use Rattle.end_cases.proofs.AttemptEnds.OffSets.{and_on, queue_left}
use Rattle.end_cases.specs.AttemptEnds.Ends.{EndNext}
use Rattle.channel_core.specs.States.{StateSeen}
use Rattle.session_actions.specs.Attempts.{is_of, is_outstanding, is_over, is_over_in, is_queued}
use Rattle.session_actions.specs.Words.{holds, numbered}
use Rattle.session_actions.specs.declared.attempt.Attempt.{Attempt}
use Rattle.session_actions.specs.declared.call.Call.{Call}
use Rattle.session_actions.specs.declared.entry.OpenEntry.{OpenEntry}
use Rattle.session_actions.specs.declared.response.Outcome.{Outcome}
use Rattle.session_actions.specs.declared.seen.Seen.{Seen}
use Rattle.session_order.specs.declared.line.Line.{Line}

and_none : (p q : Bool) → q ≡ false → (p && q) ≡ false
and_none p q e = and_right p q e

none_waits : (mine out_ q off : Bool) → ((mine && (out_ || q)) && off) ≡ false → ((mine && q) && off) ≡ false
none_waits true true true true e = absurd (cc)
none_waits true false true true e = absurd (cc)
none_waits true out_ true false e = refl
none_waits true out_ false off e = refl
none_waits false out_ q off e = refl

module _ (later : List (ℕ × RowEnd)) (waits : Line → Bool) (also : List ℕ) (a : Attempt) (out : Outcome) (x : StateSeen) (o : OpenEntry) (s : Seen) (is : EndNext later waits also a out x o s)
    (counting : IsCounting s (c later waits also a out x o s is) out) (b : Between later waits also a out x o s is counting) (goes : Continues later waits also a out x o s is counting b)
    (none_else : list_any (λ (q : Attempt). is_live s (c later waits also a out x o s is) q && not (q.place == a.place)) s.attempts ≡ false)
    (others : SetsApart (closing.n later waits also a out x o s is counting) s (closing.closed later waits also a out x o s is counting b)) where
  abbrev call : Call
  call = c later waits also a out x o s is

  abbrev m : ℕ
  m = call.number

  abbrev then_ : Seen
  then_ = closing.closed later waits also a out x o s is counting b

  abbrev ended : Call
  ended = closing.ended later waits also a out x o s is counting b

  abbrev ended_here : numbered then_.calls m ≡ Some ended
  ended_here = closing.closed_here later waits also a out x o s is counting b goes

  -- no attempt of the call is queued: it has ended; and before, none but this one was
  over_then : (q : Attempt) → (q.row.call == m) ≡ true → is_over q then_ ≡ true
  over_then q mine =
      ap (holds (λ (g : Call). is_over_in g q then_)) (ap (numbered then_.calls) (eqb-true q.row.call m mine) ∙ ended_here)

  wait_one : (q : Attempt) (b : Bool) → (q.row.call == m) ≡ b → ((q.row.call == m) && is_queued q then_) ≡ false
  wait_one q false mine = ap (λ (b : Bool). b && is_queued q then_) mine
  wait_one q true mine =
      ap (λ (b : Bool). (q.row.call == m) && ((is_none q.row.placed && is_none q.row.ended) && not b)) (over_then q mine)
      ∙ and_none (q.row.call == m) ((is_none q.row.placed && is_none q.row.ended) && false) (and_right (is_none q.row.placed && is_none q.row.ended) false refl)

  wait_by : (r : Option Attempt) → holds (λ (q : Attempt). (q.row.call == m) && is_queued q then_) r ≡ false
  wait_by None = refl
  wait_by (Some q) = wait_one q (q.row.call == m) refl

  wait_then : (row : ℕ) → is_waiting then_ m row ≡ false
  wait_then row = wait_by (numbered then_.attempts row)

  was_by : (row : ℕ) (r : Option Attempt) → numbered s.attempts row ≡ r → (holds (λ (q : Attempt). (q.row.call == m) && is_queued q s) r && not (row == a.place)) ≡ false
  was_by row None there = refl
  was_by row (Some q) there =
      none_waits (is_of call q) (is_outstanding q) (is_queued q s) (not (row == a.place))
      (ap (λ (i : ℕ). is_live s call q && not (i == a.place)) (sym (place_is row s.attempts q (numbers later waits also a out x o s is) there))
      ∙ numbered_not (λ (g : Attempt). is_live s call g && not (g.place == a.place)) s.attempts row q (none_else) there)

  wait_was : (row : ℕ) → (is_waiting s m row && not (row == a.place)) ≡ false
  wait_was row = was_by row (numbered s.attempts row) refl

  -- it did not wait, where it was placed
  unplaced_by : (p : Option Placed) (q over : Bool) → is_some p ≡ true → ((is_none p && q) && over) ≡ false
  unplaced_by None q over e = absurd (cc)
  unplaced_by (Some at) q over e = refl

  not_waiting : is_some a.row.placed ≡ true → (row : ℕ) (b : Bool) → (row == a.place) ≡ b → is_waiting s m row ≡ false
  not_waiting some row false e = sym (and_on (is_waiting s m row)) ∙ ap (λ (b : Bool). is_waiting s m row && not b) (sym e) ∙ wait_was row
  not_waiting some row true e =
      ap (is_waiting s m) (eqb-true row a.place e) ∙ ap (holds (λ (q : Attempt). (q.row.call == m) && is_queued q s)) is.ending.there
      ∙ and_none (a.row.call == m) (is_queued a s) (unplaced_by a.row.placed (is_none a.row.ended) (not (is_over a s)) some)

  module _ (test other : ℕ → ℕ → Bool) (none_then : (row : ℕ) → other m row ≡ false) (none_was : (row : ℕ) → (test m row && not (row == a.place)) ≡ false)
      (none_placed : is_some a.row.placed ≡ true → (row : ℕ) → test m row ≡ false) (away : (i row : ℕ) → (i == m) ≡ false → other i row ≡ test i row) where
    pub none_left : (pairs : List (ℕ × ℕ)) → PairsAreExactly pairs test → PairsAreExactly (queue_off a.row.call a.place a.row.placed pairs) other
    none_left pairs h =
        queue_left later waits also a out x o s is test other (λ row. none_then row ∙ sym (none_was row)) away
        (λ some row passes. (let both : false ≡ true = sym (none_placed some row) ∙ passes in absurd (cc))) pairs h

  and_swap : (p q r : Bool) → ((p && r) && q) ≡ false → ((p && q) && r) ≡ false
  and_swap true true true e = absurd (cc)
  and_swap true true false e = refl
  and_swap true false r e = refl
  and_swap false q r e = refl

  pub queue_then : PairsAreExactly (queue_off a.row.call a.place a.row.placed x.queue) (is_in_queue then_)
  queue_then =
      none_left (is_in_queue s) (is_in_queue then_) (λ row. ap (λ (b : Bool). b && not (is_ready_waiter then_ m)) (wait_then row))
      (λ row. and_swap (is_waiting s m row) (not (is_ready_waiter s m)) (not (row == a.place)) (ap (λ (b : Bool). b && not (is_ready_waiter s m)) (wait_was row)))
      (λ some row. ap (λ (b : Bool). b && not (is_ready_waiter s m)) (not_waiting some row (row == a.place) refl)) (λ i row e. others.queue i row e) x.queue (books later waits also a out x o s is).sets.queue

  pub wait_for_ready_then : PairsAreExactly (queue_off a.row.call a.place a.row.placed x.ready_waiters) (is_in_ready_waiters then_)
  wait_for_ready_then =
      none_left (is_in_ready_waiters s) (is_in_ready_waiters then_) (λ row. ap (λ (b : Bool). b && is_ready_waiter then_ m) (wait_then row))
      (λ row. and_swap (is_waiting s m row) (is_ready_waiter s m) (not (row == a.place)) (ap (λ (b : Bool). b && is_ready_waiter s m) (wait_was row)))
      (λ some row. ap (λ (b : Bool). b && is_ready_waiter s m) (not_waiting some row (row == a.place) refl)) (λ i row e. others.ready_waiters i row e) x.ready_waiters (books later waits also a out x o s is).sets.ready_waiters
