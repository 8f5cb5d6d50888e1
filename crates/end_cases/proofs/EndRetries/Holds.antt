-- What the channel holds of the messages of a call, once a transparent retry of it is made: what the session has.
use Rattle.std.proofs.Common.{◌≡◌, ◌≤◌, ◌&&◌, ◌||◌, ◌==◌, ◌+◌, ◌++◌, ◌∷◌, not, ap, arith, refl, subst, sym, ◌∙◌, Bool, true, false, List, [], Option, None, Some, ℕ, zero, suc, cond, filter, if◌then◌else◌, is_none, is_some, length, option_map, slice_get}
use Rattle.std.proofs.lemmas.Bool.{eq-eqb}
use Rattle.std.proofs.lemmas.Bool.Decides.{nat_tests}
use Rattle.std.proofs.lemmas.List.Elements.{filter-append}
use Rattle.std.specs.List.{AllByRecursion}
use Rattle.std.specs.Option.{option_map_or}
use Rattle.attempt_buffer.specs.Buffers.{Buffered, Committed, Cursor, closed, is_committed_row, shut, taken_by, taken_from, taken_uncommitted, text_of}
use Rattle.attempt_ledger.specs.TransparentRows.{is_by_peer, is_unsent}
use Rattle.call_actions.specs.TakeActions.Serves.{AttemptsAreFed, Holds, IsAt, IsFed, Serves, came, drained_so_far, passed}
use Rattle.channel_actions.specs.Calls.{lent_to}
use Rattle.end_cases.proofs.AttemptEnds.After.{free_then}
use Rattle.end_cases.proofs.AttemptEnds.Base.{c, e, has, slot, slot_there, x1}
use Rattle.end_cases.proofs.AttemptEnds.Buffers.{closed_is, taken_kept}
use Rattle.end_cases.proofs.AttemptEnds.Committed.{alone, unended_by}
use Rattle.end_cases.proofs.AttemptEnds.Fed.{buffer_then, free_buffer, holds_then}
use Rattle.end_cases.proofs.AttemptEnds.Lists.{snoc_by, within}
use Rattle.end_cases.proofs.AttemptEnds.OneEnded as first
use Rattle.end_cases.proofs.EndRetries.Free as free_retry
use Rattle.end_cases.proofs.EndRetries.Next as retry
use Rattle.end_cases.proofs.EndRetries.Step.{rows_before}
use Rattle.end_cases.proofs.EndRetries.Taken as taken_retry
use Rattle.attempt_cases.proofs.MakingSteps.MadeKinds.{none_held}
use Rattle.attempt_ledger.specs.declared.row.RowEnd.{RowEnd}
use Rattle.end_cases.specs.AttemptEnds.Ends.{EndNext, IsHeld}
use Rattle.channel_core.specs.States.{StateSeen}
use Rattle.channel_core.specs.declared.state.slots.CallSlot.{CallSlot}
use Rattle.grpc_frame.specs.Messages.{framed_all}
use Rattle.session_actions.specs.AttemptEnds.{with_end}
use Rattle.session_actions.specs.Attempts.{commitment, is_of, is_outstanding, is_over, is_to_follow, was_retried_so}
use Rattle.session_actions.specs.Deliveries.{response_items}
use Rattle.session_actions.specs.Responses.{response, response_by}
use Rattle.session_actions.specs.Words.{numbered}
use Rattle.session_actions.specs.Writing.{drained}
use Rattle.session_actions.specs.declared.attempt.Attempt.{Attempt}
use Rattle.session_actions.specs.declared.call.Call.{Call}
use Rattle.session_actions.specs.declared.entry.OpenEntry.{OpenEntry}
use Rattle.session_actions.specs.declared.response.Outcome.{Outcome}
use Rattle.session_actions.specs.declared.seen.Seen.{Seen}
use Rattle.session_order.specs.declared.line.Line.{Line}

all_snoc : {X : Type 0} (P : X → Type 0) (xs : List X) (x : X) → AllByRecursion P xs → P x → AllByRecursion P (xs ++ x ∷ [])
all_snoc P [] x all here = (here, tt)
all_snoc P (y ∷ xs) x all here = (all.0, all_snoc P xs x all.1 here)

own_by : (P : Attempt → Type 0) (p : Attempt → Bool) (x : Attempt) (xs : List Attempt) (b : Bool) → p x ≡ b → (p x ≡ true → P x) → AllByRecursion P (filter p xs)
    → AllByRecursion P (cond b (x ∷ filter p xs) (filter p xs))
own_by P p x xs true e here rest = (here e, rest)
own_by P p x xs false e here rest = rest

all_own : (P : Attempt → Type 0) (p : Attempt → Bool) (xs : List Attempt) → ((i : ℕ) (q : Attempt) → slice_get xs i ≡ Some q → p q ≡ true → P q) → AllByRecursion P (filter p xs)
all_own P p [] each = tt
all_own P p (x ∷ xs) each = own_by P p x xs (p x) refl (each zero x refl) (all_own P p xs (λ i q at. each (suc i) q at))

-- one of those that pass, by its place
own_at : (P : Attempt → Type 0) (p : Attempt → Bool) (xs : List Attempt) (i : ℕ) (q : Attempt) → slice_get xs i ≡ Some q → p q ≡ true → AllByRecursion P (filter p xs) → P q
own_at P p [] i q at pass all = absurd (cc)
own_at P p (x ∷ xs) zero q at pass all =
    let same : x ≡ q = (cc) in
    let here : AllByRecursion P (cond true (x ∷ filter p xs) (filter p xs))
    = subst (λ (b : Bool). AllByRecursion P (cond b (x ∷ filter p xs) (filter p xs))) (ap p same ∙ pass) all in
    subst P same here.0
own_at P p (x ∷ xs) (suc i) q at pass all = own_at P p xs i q at pass (rest_of (p x) all)
  where
    rest_of : (b : Bool) → AllByRecursion P (cond b (x ∷ filter p xs) (filter p xs)) → AllByRecursion P (filter p xs)
    rest_of true h = h.1
    rest_of false h = h

afterwards : (m k : ℕ) → m ≤ k → (k + 1 == m) ≡ false
afterwards m k e = grind (arith, nat_tests, e)

none_of : {X : Type 0} (o : Option X) → is_some o ≡ false → o ≡ None
none_of None e = refl
none_of (Some x) e = absurd (cc)

-- a buffer that is committed
pub record IsOf (b : Buffered) : Type 0 where
  pub row : Committed
  pub is : b.committed ≡ Some row

of_by : (b : Buffered) (o : Option Committed) → b.committed ≡ o → is_some o ≡ true → IsOf b
of_by b None e some = absurd (cc)
of_by b (Some m) e some = record { row = m; is = e }

module _ (later : List (ℕ × RowEnd)) (waits : Line → Bool) (also : List ℕ) (a : Attempt) (out : Outcome) (x : StateSeen) (o : OpenEntry) (s : Seen) (is : EndNext later waits also a out x o s)
    (going : (c later waits also a out x o s is).end ≡ None) (follows : is_to_follow (c later waits also a out x o s is) out.cause out.unseen s ≡ true) where
  abbrev k : Call
  k = c later waits also a out x o s is

  abbrev n : ℕ
  n = k.number

  abbrev v : Seen
  v = retry.v later waits also a out x o s is going follows

  abbrev place : ℕ
  place = retry.place later waits also a out x o s is going follows

  abbrev was : CallSlot
  was = slot later waits also a out x o s is

  abbrev b : Buffered
  b = was.call.buffer

  abbrev served : Serves s k (lent_to (x1 later waits also a out x o s is) s was)
  served = (has later waits also a out x o s is).sees.serves

  was_held : Holds s k b
  was_held = served.holds going

  its_held : IsHeld (length x.book.ledger.rows) b
  its_held = is.held follows n was (slot_there later waits also a out x o s is)

  abbrev all : List ℕ
  all = framed_all k.messages

  own_more : (q : Attempt) → (q.row.call == n) ≡ true → filter (is_of k) (v.attempts ++ q ∷ []) ≡ filter (is_of k) v.attempts ++ q ∷ []
  own_more q own = filter-append (is_of k) v.attempts (q ∷ []) ∙ ap (λ (g : Bool). filter (is_of k) v.attempts ++ cond g (q ∷ []) []) own

  -- a call that is not committed
  module _ (free : commitment k s ≡ None) where
    abbrev t : Seen
    t = free_retry.t later waits also a out x o s is going follows free

    abbrev dt : Call
    dt = free_retry.dt later waits also a out x o s is going follows free

    abbrev new : Attempt
    new = free_retry.new later waits also a out x o s is going follows free

    abbrev z : Buffered
    z = buffer_then later waits also a out x o s is going free

    pub free_came : came dt t ≡ came k s
    free_came =
        ap (λ (q : Option Attempt). option_map_or (λ (g : Attempt). response_items (response g t)) q []) (free_retry.free_now later waits also a out x o s is going follows free)
        ∙ sym (ap (λ (q : Option Attempt). option_map_or (λ (g : Attempt). response_items (response g s)) q []) free)

    none_before : taken_by place b ≡ None
    none_before =
        ap (taken_from place b.cursors) (none_of b.committed (free_buffer later waits also a out x o s is going free))
        ∙ ap (λ (m : ℕ). taken_uncommitted (m + 1) b.cursors) (sym (rows_before later waits also a out x o s is follows))
        ∙ ap (option_map (λ (q : Cursor). q.taken)) (none_held (length x.book.ledger.rows) b.cursors its_held.rows_are)

    none_then : taken_by place z ≡ None
    none_then =
        taken_kept b a.place (free_buffer later waits also a out x o s is going free) place
        (afterwards a.place (length v.attempts) (within v.attempts a.place (with_end (e later waits also a out x o s is) a) (first.one_there later waits also a out x o s is)))
        ∙ none_before

    fed_new : IsFed (taken_by place z) (text_of z) false (drained new t) all
    fed_new = subst (λ (q : Option ℕ). IsFed q (text_of z) false (drained new t) all) (sym none_then) tt

    held_then : Holds v (retry.dk later waits also a out x o s is going follows) z
    held_then = holds_then later waits also a out x o s is going free

    holds_more : Holds t dt z
    holds_more = record {
      fed = subst (λ (l : List Attempt). AttemptsAreFed t dt z l) (sym (own_more new (eq-eqb n n refl)))
          (all_snoc (λ (q : Attempt). IsFed (taken_by q.place z) (text_of z) (is_outstanding q) (drained q t) all) (filter (is_of k) v.attempts) new held_then.fed fed_new);
      held = subst (λ (m : ℕ). IsAt (passed z) (text_of z) m all)
          (ap (λ (q : Option Attempt). option_map_or (λ (g : Attempt). drained g v) q 0) (free_then later waits also a out x o s is going free)
          ∙ sym (ap (λ (q : Option Attempt). option_map_or (λ (g : Attempt). drained g t) q 0) (free_retry.free_now later waits also a out x o s is going follows free))) held_then.held;
      committed = held_then.committed ∙ ap (λ (q : Option Attempt). is_some q) (free_then later waits also a out x o s is going free)
          ∙ sym (ap (λ (q : Option Attempt). is_some q) (free_retry.free_now later waits also a out x o s is going follows free));
    }

    pub free_holds : Holds t dt (closed a.place b)
    free_holds = subst (λ (q : Buffered). Holds t dt q) (sym (closed_is b a.place (free_buffer later waits also a out x o s is going free))) holds_more

  -- a call that is committed to the attempt: this was never sent
  module _ (held : commitment k s ≡ Some a) where
    abbrev w : Seen
    w = taken_retry.w later waits also a out x o s is going follows held

    abbrev dw : Call
    dw = taken_retry.dw later waits also a out x o s is going follows held

    abbrev taken : Attempt
    taken = taken_retry.taken later waits also a out x o s is going follows held

    was_unsent : is_unsent out.cause ≡ true
    was_unsent =
        first_of (is_unsent out.cause) (out.unseen && is_by_peer out.cause) (not (was_retried_so k s))
        (sym (ap (λ (q : Option Attempt). is_unsent out.cause || (((out.unseen && is_by_peer out.cause) && is_none q) && not (was_retried_so k s))) held) ∙ follows)
      where
        first_of : (p q r : Bool) → (p || ((q && false) && r)) ≡ true → p ≡ true
        first_of true q r h = refl
        first_of false true r h = absurd (cc)
        first_of false false r h = absurd (cc)

    streamless : a.row.stream ≡ None
    streamless = (is.unsent was_unsent).1

    on_link : is_outstanding a ≡ true
    on_link =
        ap (λ (g : Bool). g && is_none a.row.ended) (is.unsent was_unsent).0
        ∙ unended_by (is_of k a) (is_some a.row.placed) (is_none a.row.placed) (is_none a.row.ended) (is_over a s) is.ending.lives

    pub taken_came : came dw w ≡ came k s
    taken_came =
        ap (λ (q : Option Attempt). option_map_or (λ (g : Attempt). response_items (response g w)) q []) (taken_retry.has_it later waits also a out x o s is going follows held)
        ∙ sym (ap (λ (q : Option Attempt). option_map_or (λ (g : Attempt). response_items (response g s)) q []) held
        ∙ ap (λ (q : Option ℕ). response_items (response_by a s q)) streamless)

    of : IsOf b
    of = of_by b b.committed refl (was_held.committed ∙ ap (λ (q : Option Attempt). is_some q) held)

    none_cursors : b.cursors ≡ []
    none_cursors = its_held.alone of.row of.is

    -- the row to which it is committed is that of the attempt
    fed_it : (i : ℕ) → numbered s.attempts i ≡ Some a → IsFed (taken_by a.place b) (text_of b) (is_outstanding a) (drained a s) all
    fed_it zero there = absurd (cc)
    fed_it (suc i) there = own_at (λ (q : Attempt). IsFed (taken_by q.place b) (text_of b) (is_outstanding q) (drained q s) all) (is_of k) s.attempts i a there is.ending.own was_held.fed

    open_by : (g : Bool) → is_committed_row a.place (Some of.row) ≡ g → g ≡ true
    open_by true e = refl
    open_by false e =
        let none : taken_by a.place b ≡ None
        = ap (taken_from a.place b.cursors) of.is ∙ ap (λ (g : Bool). if g then Some of.row.taken else taken_uncommitted a.place b.cursors) e
        ∙ ap (λ (l : List Cursor). taken_uncommitted a.place l) none_cursors in
        let bad : IsFed None (text_of b) true (drained a s) all
        = subst (λ (q : Option ℕ). IsFed q (text_of b) true (drained a s) all) none
        (subst (λ (g : Bool). IsFed (taken_by a.place b) (text_of b) g (drained a s) all) on_link (fed_it a.place is.ending.there)) in
        absurd bad

    is_its_row : is_committed_row a.place (Some of.row) ≡ true
    is_its_row = ap (λ (g : Bool). g) refl ∙ open_by (is_committed_row a.place (Some of.row)) refl

    abbrev y : Buffered
    y = record { messages = b.messages; cursors = []; committed = Some (shut of.row); is_whole = b.is_whole }

    closed_so : closed a.place b ≡ y
    closed_so =
        ap (λ (q : Option Committed). if is_committed_row a.place q then record b { committed = option_map shut q } else record b { committed = q; cursors = filter (λ (g : Cursor). not (g.row == a.place)) b.cursors }) of.is
        ∙ ap (λ (g : Bool). if g then record b { committed = Some (shut of.row) } else record b { committed = Some of.row; cursors = filter (λ (g : Cursor). not (g.row == a.place)) b.cursors }) is_its_row
        ∙ ap (λ (l : List Cursor). record b { committed = Some (shut of.row); cursors = l }) none_cursors

    -- none has a place in it
    none_out : (i : ℕ) (q : Attempt) → slice_get (v.attempts ++ taken ∷ []) i ≡ Some q → is_of k q ≡ true → is_outstanding q ≡ false
    none_out i q at own =
        snoc_by v.attempts taken i q at (is_outstanding q ≡ false)
        (λ old. first.none_out later waits also a out x o s is (alone later waits also a out x o s is going (ap (λ (r : Option Attempt). is_some r) held)) i q old own)
        (λ same. ap is_outstanding (sym same))

    fed_none : (q : Attempt) → is_outstanding q ≡ false → IsFed (taken_by q.place y) (text_of y) (is_outstanding q) (drained q w) all
    fed_none q off = subst (λ (g : Bool). IsFed None (text_of y) g (drained q w) all) (sym off) tt

    drained_then : drained_so_far k s ≡ drained_so_far dw w
    drained_then =
        ap (λ (q : Option Attempt). option_map_or (λ (g : Attempt). drained g s) q 0) held
        ∙ ap (λ (q : Option ℕ). drained (record a { row = record a.row { stream = q } }) s) streamless
        ∙ sym (ap (λ (q : Option Attempt). option_map_or (λ (g : Attempt). drained g w) q 0) (taken_retry.has_it later waits also a out x o s is going follows held))

    passed_same : passed b ≡ passed y
    passed_same = ap (λ (q : Option Committed). option_map_or (λ (m : Committed). m.taken) q 0) of.is

    holds_shut : Holds w dw y
    holds_shut = record {
      fed = all_own (λ (q : Attempt). IsFed (taken_by q.place y) (text_of y) (is_outstanding q) (drained q w) all) (is_of k) (v.attempts ++ taken ∷ [])
          (λ i q at own. fed_none q (none_out i q at own));
      held = subst (λ (m : ℕ). IsAt (passed y) (text_of y) m all) drained_then
          (subst (λ (m : ℕ). IsAt m (text_of b) (drained_so_far k s) all) passed_same was_held.held);
      committed = sym (ap (λ (q : Option Attempt). is_some q) (taken_retry.has_it later waits also a out x o s is going follows held));
    }

    pub taken_holds : Holds w dw (closed a.place b)
    taken_holds = subst (λ (q : Buffered). Holds w dw q) (sym closed_so) holds_shut
