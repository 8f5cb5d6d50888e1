-- The sets of the channel once a transparent retry is made: the attempt that ended is out of them, and the retry waits for a pick.
use Rattle.std.proofs.Common.{◌≡◌, ◌&&◌, ◌||◌, ◌==◌, ◌+◌, ◌++◌, ◌∷◌, not, ap, arith, refl, subst, sym, ◌∙◌, Bool, true, false, List, [], Option, None, Some, ℕ, zero, suc, if◌then◌else◌, is_none, is_some, length, option_map, slice_get}
use Rattle.std.proofs.lemmas.Bool.{and_parts, and_right, eq-eqb, eqb-true}
use Rattle.std.proofs.lemmas.Bool.Decides.{nat_tests}
use Rattle.std.specs.BTreeSet.{insert_key}
use Rattle.attempt_ledger.specs.declared.row.Placed.{Placed}
use Rattle.attempt_ledger.specs.declared.row.RowEnd.{RowEnd}
use Rattle.call_actions.proofs.Lists.{numbered_last}
use Rattle.call_actions.proofs.Places.{place_is}
use Rattle.call_actions.specs.Sees.{Sees}
use Rattle.call_core.specs.Steps.{Stepped, waits as waits_for}
use Rattle.channel_actions.proofs.Links.Settings.Pairs.{exactly_by, exactly_insert}
use Rattle.channel_actions.proofs.Links.Settings.Timers.{timers_exactly}
use Rattle.channel_actions.specs.Calls.{deadline_of, due_of}
use Rattle.call_cases.specs.OtherCalls.Laws.{SetsApart}
use Rattle.channel_actions.specs.Sets.{PairsAreExactly, is_awaiting_config, is_in_deadlines, is_in_dues, is_in_fail_fast, is_in_outstanding, is_in_ready_waiters, is_in_queue, is_ready_waiter, is_waiting}
use Rattle.end_cases.proofs.AttemptEnds.After.{attempt_at, commitment_is, d_here, in_out, put, put_call, put_ended, put_placed, waits_by}
use Rattle.end_cases.proofs.AttemptEnds.Committed.{going_over}
use Rattle.end_cases.proofs.AttemptEnds.Base.{books, c, e, has, here, out_off, queue_off, slot}
use Rattle.end_cases.proofs.AttemptEnds.OffSets.{and_on, away_pair, out_left, own_pair, queue_left}
use Rattle.end_cases.proofs.AttemptEnds.OneEnded as first
use Rattle.end_cases.proofs.EndRetries.Next as retry
use Rattle.end_cases.proofs.EndRetries.Next.{Leads, Retry}
use Rattle.attempt_cases.proofs.MakingSteps.MadeKinds.{wait_for_ready_of}
use Rattle.end_cases.specs.AttemptEnds.Ends.{EndNext}
use Rattle.channel_core.specs.States.{StateSeen}
use Rattle.channel_core.specs.Timing.{timer_moved}
use Rattle.channel_core.specs.declared.state.slots.CallSlot.{CallSlot}
use Rattle.picker_gate.specs.Pairs.{is_same, pair_cmp}
use Rattle.session_actions.specs.AttemptEnds.{with_end}
use Rattle.session_actions.specs.Attempts.{commitment, is_outstanding, is_over, is_over_in, is_queued, is_to_follow}
use Rattle.session_actions.specs.Calls.{is_open_call}
use Rattle.session_actions.specs.Configs.{waits_for_ready}
use Rattle.session_actions.specs.Links.{link_number}
use Rattle.session_actions.specs.Words.{holds, is_number, numbered}
use Rattle.session_actions.specs.declared.attempt.Attempt.{Attempt}
use Rattle.session_actions.specs.declared.call.Call.{Call}
use Rattle.session_actions.specs.declared.entry.OpenEntry.{OpenEntry}
use Rattle.session_actions.specs.declared.response.Outcome.{Outcome}
use Rattle.session_actions.specs.declared.seen.Seen.{Seen}
use Rattle.session_order.proofs.Lists.{holds_same}
use Rattle.session_order.specs.declared.line.Line.{Line}

-- a look at one of a list, but for the last one
not_there : (i : ℕ) (l : ℕ) → (suc i == l + 1) ≡ (i == l)
not_there i l = grind (arith, nat_tests)

off_at : (test : Attempt → Bool) (xs : List Attempt) (y : Attempt) (i : ℕ) → (holds test (slice_get (xs ++ y ∷ []) i) && not (i == length xs)) ≡ holds test (slice_get xs i)
off_at test [] y zero = and_right (test y) false refl
off_at test [] y (suc i) = refl
off_at test (x ∷ xs) y zero = ap (λ (b : Bool). test x && not b) (let off : (0 == suc (length xs)) ≡ false = grind (arith, nat_tests) in off) ∙ and_on (test x)
off_at test (x ∷ xs) y (suc i) = ap (λ (b : Bool). holds test (slice_get (xs ++ y ∷ []) i) && not b) (let same : (suc i == suc (length xs)) ≡ (i == length xs) = grind (arith, nat_tests) in same) ∙ off_at test xs y i

off_last : (test : Attempt → Bool) (xs : List Attempt) (y : Attempt) (m : ℕ) → (holds test (numbered (xs ++ y ∷ []) m) && not (m == length xs + 1)) ≡ holds test (numbered xs m)
off_last test xs y zero = refl
off_last test xs y (suc i) = ap (λ (b : Bool). holds test (slice_get (xs ++ y ∷ []) i) && not b) (not_there i (length xs)) ∙ off_at test xs y i

-- one that does not pass the test leaves the look
more_at : (test : Attempt → Bool) (xs : List Attempt) (y : Attempt) (i : ℕ) → test y ≡ false → holds test (slice_get (xs ++ y ∷ []) i) ≡ holds test (slice_get xs i)
more_at test [] y zero e = e
more_at test [] y (suc i) e = refl
more_at test (x ∷ xs) y zero e = refl
more_at test (x ∷ xs) y (suc i) e = more_at test xs y i e

more_looks : (test : Attempt → Bool) (xs : List Attempt) (y : Attempt) (m : ℕ) → test y ≡ false → holds test (numbered (xs ++ y ∷ []) m) ≡ holds test (numbered xs m)
more_looks test xs y zero e = refl
more_looks test xs y (suc i) e = more_at test xs y i e

holds_map : (test old : Attempt → Bool) (f : Attempt → Attempt) → ((q : Attempt) → test (f q) ≡ old q) → (o : Option Attempt) → holds test (option_map f o) ≡ holds old o
holds_map test old f same None = refl
holds_map test old f same (Some q) = same q

and_swap : (p q r : Bool) → ((p && r) && q) ≡ ((p && q) && r)
and_swap true true true = refl
and_swap true true false = refl
and_swap true false true = refl
and_swap true false false = refl
and_swap false q r = refl

put_back : (p g : Bool) → (g ≡ true → p ≡ true) → (g || (p && not g)) ≡ p
put_back true true turn = refl
put_back true false turn = refl
put_back false true turn = absurd (let both : false ≡ true = turn refl in (cc))
put_back false false turn = refl

kept_out : (p g : Bool) → (g ≡ true → p ≡ false) → (p && not g) ≡ p
kept_out true true turn = absurd (let both : true ≡ false = turn refl in (cc))
kept_out true false turn = refl
kept_out false g turn = refl

unplaced_by : (o : Option Placed) (p over : Bool) → is_some o ≡ true → ((is_none o && p) && over) ≡ false
unplaced_by None p over e = absurd (cc)
unplaced_by (Some at) p over e = refl

pair_parts : (n row i j : ℕ) → is_same (i, j) (n, row) ≡ true → (i ≡ n) × (j ≡ row)
pair_parts n row i j e = (grind (arith, nat_tests, e), grind (arith, nat_tests, e))

turn_pair : (n row i j : ℕ) → is_same (n, row) (i, j) ≡ is_same (i, j) (n, row)
turn_pair n row i j = grind (arith, nat_tests)

module _ (later : List (ℕ × RowEnd)) (waits : Line → Bool) (also : List ℕ) (a : Attempt) (out : Outcome) (x : StateSeen) (o : OpenEntry) (s : Seen) (is : EndNext later waits also a out x o s)
    (going : (c later waits also a out x o s is).end ≡ None) (follows : is_to_follow (c later waits also a out x o s is) out.cause out.unseen s ≡ true)
    (r : Retry later waits also a out x o s is going follows) (leads : Leads later waits also a out x o s is going follows r)
    (others : SetsApart (retry.n later waits also a out x o s is going follows) s (retry.done later waits also a out x o s is going follows r)) where
  abbrev k : Call
  k = c later waits also a out x o s is

  abbrev n : ℕ
  n = k.number

  abbrev v : Seen
  v = retry.v later waits also a out x o s is going follows

  abbrev w : Seen
  w = retry.done later waits also a out x o s is going follows r

  abbrev grown : Seen
  grown = retry.grown later waits also a out x o s is going follows r

  abbrev dw : Call
  dw = retry.its later waits also a out x o s is going follows r

  abbrev new : Attempt
  new = retry.fresh later waits also a out x o s is going follows r

  abbrev place : ℕ
  place = length v.attempts + 1

  abbrev end_ : RowEnd
  end_ = e later waits also a out x o s is

  abbrev put_ : Attempt → Attempt
  put_ q = put later waits also a out x o s is q

  -- which attempts of the call are over, is as it was
  number_by : (q : Attempt) (g : Bool) → (if g then with_end end_ q else q).row.number ≡ q.row.number
  number_by q true = refl
  number_by q false = refl

  over_one : (q : Attempt) → (q.row.call == n) ≡ true → is_over (put_ q) v ≡ is_over q s
  over_one q own =
      ap (λ (m : ℕ). holds (λ (g : Call). is_over_in g (put_ q) v) (numbered v.calls m)) (put_call later waits also a out x o s is q ∙ eqb-true q.row.call n own)
      ∙ ap (holds (λ (g : Call). is_over_in g (put_ q) v)) (d_here later waits also a out x o s is)
      ∙ ap (λ (r : Option Attempt). is_some k.end || holds (λ (b : Attempt). not (b.row.number == (put_ q).row.number)) r) (commitment_is later waits also a out x o s is k)
      ∙ ap (λ (g : Bool). is_some k.end || g)
      (holds_map (λ (b : Attempt). not (b.row.number == (put_ q).row.number)) (λ (b : Attempt). not (b.row.number == q.row.number)) put_
      (λ b. ap (λ (m : ℕ). not (m == (put_ q).row.number)) (number_by b (b.place == a.place)) ∙ ap (λ (m : ℕ). not (b.row.number == m)) (number_by q (q.place == a.place))) (commitment k s))
      ∙ sym (ap (holds (λ (g : Call). is_over_in g q s)) (ap (numbered s.calls) (eqb-true q.row.call n own) ∙ here later waits also a out x o s is))

  over_two : (q : Attempt) → (q.row.call == n) ≡ true → is_over q w ≡ is_over q v
  over_two q own =
      ap (holds (λ (g : Call). is_over_in g q w)) (ap (numbered w.calls) (eqb-true q.row.call n own) ∙ leads.here)
      ∙ sym (ap (holds (λ (g : Call). is_over_in g q grown)) (ap (numbered v.calls) (eqb-true q.row.call n own) ∙ d_here later waits also a out x o s is)) ∙ leads.over q

  wait_one : (q : Attempt) (g : Bool) → (q.row.call == n) ≡ g → (((put_ q).row.call == n) && is_queued (put_ q) v) ≡ (((q.row.call == n) && is_queued q s) && not (q.place == a.place))
  wait_one q false off =
      ap (λ (m : ℕ). (m == n) && is_queued (put_ q) v) (put_call later waits also a out x o s is q) ∙ ap (λ (g : Bool). g && is_queued (put_ q) v) off
      ∙ sym (ap (λ (g : Bool). (g && is_queued q s) && not (q.place == a.place)) off)
  wait_one q true own =
      ap (λ (m : ℕ). (m == n) && is_queued (put_ q) v) (put_call later waits also a out x o s is q)
      ∙ ap (λ (g : Bool). (q.row.call == n) && ((is_none (put_ q).row.placed && is_none (put_ q).row.ended) && not g)) (over_one q own)
      ∙ ap (λ (z : Option Placed). (q.row.call == n) && ((is_none z && is_none (put_ q).row.ended) && not (is_over q s))) (put_placed later waits also a out x o s is q)
      ∙ ap (λ (z : Option RowEnd). (q.row.call == n) && ((is_none q.row.placed && is_none z) && not (is_over q s))) (put_ended later waits also a out x o s is q)
      ∙ ap (λ (g : Bool). (q.row.call == n) && g) (waits_by (q.place == a.place) end_ q.row.placed q.row.ended (is_over q s))
      ∙ ap (λ (g : Bool). g && (is_queued q s && not (q.place == a.place))) own ∙ sym (ap (λ (g : Bool). (g && is_queued q s) && not (q.place == a.place)) own)

  wait_two : (q : Attempt) (g : Bool) → (q.row.call == n) ≡ g → ((q.row.call == n) && is_queued q w) ≡ ((q.row.call == n) && is_queued q v)
  wait_two q false off = ap (λ (g : Bool). g && is_queued q w) off ∙ sym (ap (λ (g : Bool). g && is_queued q v) off)
  wait_two q true own = ap (λ (g : Bool). (q.row.call == n) && ((is_none q.row.placed && is_none q.row.ended) && not g)) (over_two q own)

  was_by : (row : ℕ) (q : Option Attempt) → numbered s.attempts row ≡ q
      → holds (λ (b : Attempt). ((b.row.call == n) && is_queued b s) && not (b.place == a.place)) q ≡ (holds (λ (b : Attempt). (b.row.call == n) && is_queued b s) q && not (row == a.place))
  was_by row None at = refl
  was_by row (Some b) at =
      ap (λ (m : ℕ). ((b.row.call == n) && is_queued b s) && not (m == a.place)) (place_is row s.attempts b (first.kept later waits also a out x o s is).book.places at)

  waiting : (row : ℕ) → (is_waiting w n row && not (row == place)) ≡ (is_waiting s n row && not (row == a.place))
  waiting row =
      off_last (λ (q : Attempt). (q.row.call == n) && is_queued q w) v.attempts new row
      ∙ holds_same (λ (q : Attempt). (q.row.call == n) && is_queued q w) (λ (q : Attempt). (q.row.call == n) && is_queued q v) (λ q. wait_two q (q.row.call == n) refl) (numbered v.attempts row)
      ∙ ap (holds (λ (q : Attempt). (q.row.call == n) && is_queued q v)) (attempt_at later waits also a out x o s is row)
      ∙ holds_map (λ (q : Attempt). (q.row.call == n) && is_queued q v) (λ (q : Attempt). ((q.row.call == n) && is_queued q s) && not (q.place == a.place)) put_
      (λ q. wait_one q (q.row.call == n) refl) (numbered s.attempts row)
      ∙ was_by row (numbered s.attempts row) refl

  -- the retry waits
  over_new : is_over new w ≡ false
  over_new =
      over_two new (eq-eqb n n refl) ∙ ap (holds (λ (g : Call). is_over_in g new v)) (d_here later waits also a out x o s is)
      ∙ sym (ap (holds (λ (g : Call). is_over_in g (with_end end_ a) v)) (ap (numbered v.calls) (eqb-true a.row.call n is.ending.own) ∙ d_here later waits also a out x o s is))
      ∙ sym (ap (λ (b : Attempt). is_over b v) (first.put_is later waits also a out x o s is)) ∙ over_one a is.ending.own
      ∙ going_over later waits also a out x o s is going a a.place is.ending.there is.ending.lives

  waits_new : is_waiting w n place ≡ true
  waits_new =
      ap (holds (λ (q : Attempt). (q.row.call == n) && is_queued q w)) (numbered_last v.attempts new)
      ∙ ap (λ (g : Bool). g && not (is_over new w)) (eq-eqb n n refl) ∙ ap not over_new

  -- whether the call waits for ready
  wait_for_ready_same : is_ready_waiter w n ≡ is_ready_waiter s n
  wait_for_ready_same = ap (holds (λ (g : Call). waits_for_ready g w)) leads.here ∙ sym (ap (holds (λ (g : Call). waits_for_ready g s)) (here later waits also a out x o s is))

  -- it was placed, and did not wait; or it waited
  not_waiting : is_some a.row.placed ≡ true → (row : ℕ) (g : Bool) → (row == a.place) ≡ g → is_waiting s n row ≡ true → (row == a.place) ≡ false
  not_waiting some row false off waits_ = off
  not_waiting some row true own waits_ =
      let none : is_waiting s n a.place ≡ false
      = ap (holds (λ (q : Attempt). (q.row.call == n) && is_queued q s)) is.ending.there
      ∙ and_right (a.row.call == n) (is_queued a s) (unplaced_by a.row.placed (is_none a.row.ended) (not (is_over a s)) some) in
      let both : true ≡ false = sym waits_ ∙ ap (is_waiting s n) (eqb-true row a.place own) ∙ none in
      absurd (cc)

  -- a queue of those calls that wait for ready, or of the others
  module _ (waits_so : Bool) (before after : ℕ → ℕ → Bool) (was : (row : ℕ) → before n row ≡ (is_waiting s n row && waits_so)) (now_ : (row : ℕ) → after n row ≡ (is_waiting w n row && waits_so))
      (away : (i row : ℕ) → (i == n) ≡ false → after i row ≡ before i row) (pairs : List (ℕ × ℕ)) (exact : PairsAreExactly pairs before) where
    abbrev rest : ℕ → ℕ → Bool
    rest i row = after i row && not (is_same (n, place) (i, row))

    rest_own : (row : ℕ) → rest n row ≡ (before n row && not (row == a.place))
    rest_own row =
        ap (λ (g : Bool). after n row && not g) (own_pair n place row) ∙ ap (λ (g : Bool). g && not (row == place)) (now_ row)
        ∙ and_swap (is_waiting w n row) (not (row == place)) waits_so ∙ ap (λ (g : Bool). g && waits_so) (waiting row)
        ∙ sym (and_swap (is_waiting s n row) (not (row == a.place)) waits_so) ∙ ap (λ (g : Bool). g && not (row == a.place)) (sym (was row))

    rest_away : (i row : ℕ) → (i == n) ≡ false → rest i row ≡ before i row
    rest_away i row off = ap (λ (g : Bool). after i row && not g) (away_pair n place i row off) ∙ and_on (after i row) ∙ away i row off

    left : PairsAreExactly (queue_off a.row.call a.place a.row.placed pairs) rest
    left =
        queue_left later waits also a out x o s is before rest rest_own rest_away
        (λ some row passes. not_waiting some row (row == a.place) refl (and_parts (is_waiting s n row) waits_so (sym (was row) ∙ passes)).0) pairs exact

    here_after : (i row : ℕ) → is_same (i, row) (n, place) ≡ true → after i row ≡ waits_so
    here_after i row e =
        let both = pair_parts n place i row e in
        ap (λ (j : ℕ). after j row) both.0 ∙ ap (after n) both.1 ∙ now_ place ∙ ap (λ (g : Bool). g && waits_so) waits_new

    pub put_in : waits_so ≡ true → PairsAreExactly (insert_key pair_cmp (queue_off a.row.call a.place a.row.placed pairs) (n, place)) after
    put_in yes_ =
        exactly_by (insert_key pair_cmp (queue_off a.row.call a.place a.row.placed pairs) (n, place)) (λ i row. is_same (i, row) (n, place) || rest i row) after
        (exactly_insert (queue_off a.row.call a.place a.row.placed pairs) rest (n, place) left)
        (λ i row. ap (λ (g : Bool). is_same (i, row) (n, place) || (after i row && not g)) (turn_pair n place i row)
        ∙ put_back (after i row) (is_same (i, row) (n, place)) (λ e. here_after i row e ∙ yes_))

    pub left_out : waits_so ≡ false → PairsAreExactly (queue_off a.row.call a.place a.row.placed pairs) after
    left_out no_ =
        exactly_by (queue_off a.row.call a.place a.row.placed pairs) rest after left
        (λ i row. ap (λ (g : Bool). after i row && not g) (turn_pair n place i row)
        ∙ kept_out (after i row) (is_same (i, row) (n, place)) (λ e. here_after i row e ∙ no_))

  module _ (z : Stepped) (sees : Sees w dw z) where
    wait_for_ready_is : is_ready_waiter w n ≡ waits_for z.call
    wait_for_ready_is = wait_for_ready_of w dw z sees

    queue_by : (g : Bool) → waits_for z.call ≡ g
        → PairsAreExactly (if g then queue_off a.row.call a.place a.row.placed x.queue else insert_key pair_cmp (queue_off a.row.call a.place a.row.placed x.queue) (n, place)) (is_in_queue w)
    queue_by true e =
        left_out (not (is_ready_waiter w n)) (is_in_queue s) (is_in_queue w) (λ row. ap (λ (g : Bool). is_waiting s n row && not g) (sym wait_for_ready_same)) (λ row. refl)
        (λ i row off. others.queue i row off) x.queue (books later waits also a out x o s is).sets.queue (ap not (wait_for_ready_is ∙ e))
    queue_by false e =
        put_in (not (is_ready_waiter w n)) (is_in_queue s) (is_in_queue w) (λ row. ap (λ (g : Bool). is_waiting s n row && not g) (sym wait_for_ready_same)) (λ row. refl)
        (λ i row off. others.queue i row off) x.queue (books later waits also a out x o s is).sets.queue (ap not (wait_for_ready_is ∙ e))

    wait_for_ready_by : (g : Bool) → waits_for z.call ≡ g
        → PairsAreExactly (if g then insert_key pair_cmp (queue_off a.row.call a.place a.row.placed x.ready_waiters) (n, place) else queue_off a.row.call a.place a.row.placed x.ready_waiters) (is_in_ready_waiters w)
    wait_for_ready_by true e =
        put_in (is_ready_waiter w n) (is_in_ready_waiters s) (is_in_ready_waiters w) (λ row. ap (λ (g : Bool). is_waiting s n row && g) (sym wait_for_ready_same)) (λ row. refl)
        (λ i row off. others.ready_waiters i row off) x.ready_waiters (books later waits also a out x o s is).sets.ready_waiters (wait_for_ready_is ∙ e)
    wait_for_ready_by false e =
        left_out (is_ready_waiter w n) (is_in_ready_waiters s) (is_in_ready_waiters w) (λ row. ap (λ (g : Bool). is_waiting s n row && g) (sym wait_for_ready_same)) (λ row. refl)
        (λ i row off. others.ready_waiters i row off) x.ready_waiters (books later waits also a out x o s is).sets.ready_waiters (wait_for_ready_is ∙ e)

    abbrev queue_with : Bool → List (ℕ × ℕ)
    queue_with g = if g then queue_off a.row.call a.place a.row.placed x.queue else insert_key pair_cmp (queue_off a.row.call a.place a.row.placed x.queue) (n, place)

    abbrev wait_for_ready_with : Bool → List (ℕ × ℕ)
    wait_for_ready_with g = if g then insert_key pair_cmp (queue_off a.row.call a.place a.row.placed x.ready_waiters) (n, place) else queue_off a.row.call a.place a.row.placed x.ready_waiters

    pub queue_then : PairsAreExactly (queue_with (waits_for z.call)) (is_in_queue w)
    queue_then = queue_by (waits_for z.call) refl

    pub wait_for_ready_then : PairsAreExactly (wait_for_ready_with (waits_for z.call)) (is_in_ready_waiters w)
    wait_for_ready_then = wait_for_ready_by (waits_for z.call) refl

  -- the outstanding ones
  pub out_more : (link row : ℕ) → is_in_outstanding w link row ≡ is_in_outstanding v link row
  out_more link row = more_looks (λ (q : Attempt). is_outstanding q && (link_number q == link)) v.attempts new row refl

  pub outs_then : PairsAreExactly (out_off a.place a.row.placed x.outstanding) (is_in_outstanding w)
  outs_then = out_left later waits also a out x o s is w (λ link row. out_more link row ∙ in_out later waits also a out x o s is link row)

  -- calls without a config
  unconfigured_by : (z j : ℕ) (g : Bool) → (j == n) ≡ g → is_awaiting_config s z j ≡ is_awaiting_config w z j
  unconfigured_by z j true e =
      subst (λ (m : ℕ). is_awaiting_config s z m ≡ is_awaiting_config w z m) (sym (eqb-true j n e))
      (ap (λ (q : Option Call). (z == 0) && holds (λ (g : Call). is_open_call g && is_none g.config) q) (here later waits also a out x o s is)
      ∙ sym (ap (λ (q : Option Call). (z == 0) && holds (λ (g : Call). is_open_call g && is_none g.config) q) leads.here))
  unconfigured_by z j false e = sym (others.awaiting_config z j e)

  fail_fast_by : (z j : ℕ) (g : Bool) → (j == n) ≡ g → is_in_fail_fast s z j ≡ is_in_fail_fast w z j
  fail_fast_by z j true e =
      subst (λ (m : ℕ). is_in_fail_fast s z m ≡ is_in_fail_fast w z m) (sym (eqb-true j n e))
      (ap (λ (g : Bool). g && not (is_ready_waiter s n)) (unconfigured_by z n true (eq-eqb n n refl)) ∙ ap (λ (g : Bool). is_awaiting_config w z n && not g) (sym wait_for_ready_same))
  fail_fast_by z j false e = sym (others.fail_fast z j e)

  pub unconfigured_then : PairsAreExactly x.awaiting_config (is_awaiting_config w)
  unconfigured_then = exactly_by x.awaiting_config (is_awaiting_config s) (is_awaiting_config w) (books later waits also a out x o s is).sets.awaiting_config (λ z j. unconfigured_by z j (j == n) refl)

  pub fail_fast_then : PairsAreExactly x.fail_fast (is_in_fail_fast w)
  fail_fast_then = exactly_by x.fail_fast (is_in_fail_fast s) (is_in_fail_fast w) (books later waits also a out x o s is).sets.fail_fast (λ z j. fail_fast_by z j (j == n) refl)

  -- the timers of the call
  module _ (then_slot : CallSlot) where
    pub dues_then : due_of w dw ≡ then_slot.due → PairsAreExactly (timer_moved n (slot later waits also a out x o s is).due then_slot.due x.dues) (is_in_dues w)
    dues_then due =
        timers_exactly n x.dues (is_in_dues s) (slot later waits also a out x o s is).due then_slot.due (books later waits also a out x o s is).sets.dues
        (λ m. ap (holds (λ (g : Call). is_number m (due_of s g))) (here later waits also a out x o s is) ∙ ap (is_number m) (has later waits also a out x o s is).sees.due)
        (is_in_dues w) (λ m j e. others.dues m j e) (λ m. ap (holds (λ (g : Call). is_number m (due_of w g))) leads.here ∙ ap (is_number m) due)

    pub deadlines_then : deadline_of w dw ≡ then_slot.deadline → PairsAreExactly (timer_moved n (slot later waits also a out x o s is).deadline then_slot.deadline x.deadlines) (is_in_deadlines w)
    deadlines_then past =
        timers_exactly n x.deadlines (is_in_deadlines s) (slot later waits also a out x o s is).deadline then_slot.deadline (books later waits also a out x o s is).sets.deadlines
        (λ m. ap (holds (λ (g : Call). is_number m (deadline_of s g))) (here later waits also a out x o s is) ∙ ap (is_number m) (has later waits also a out x o s is).sees.deadline_is)
        (is_in_deadlines w) (λ m j e. others.deadlines m j e) (λ m. ap (holds (λ (g : Call). is_number m (deadline_of w g))) leads.here ∙ ap (is_number m) past)
