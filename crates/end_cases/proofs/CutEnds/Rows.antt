-- The sets of rows once the call has ended: its attempts wait no more, and none of them is outstanding; those of other calls are as before.
use Rattle.attempt_ledger.specs.declared.row.Placed.{Placed}
use Rattle.attempt_ledger.specs.declared.row.RowEnd.{RowEnd}
use Rattle.call_actions.proofs.Ranks.{numbered_map}
use Rattle.call_actions.specs.Laws.{IsCounting, is_last_end}
use Rattle.call_actions.specs.Sees.{is_live}
use Rattle.call_actions.specs.TakeActions.Cuts.{next_cut_of}
use Rattle.call_core.specs.declared.live.LiveRow.{LiveRow}
use Rattle.channel_actions.proofs.ActsFollowed.Acts.{IsDone}
use Rattle.call_cases.proofs.OtherCalls.Sets.{sets_stay}
use Rattle.channel_actions.proofs.Links.Settings.Pairs.{exactly_by}
use Rattle.channel_actions.specs.ActsFollowed.Followed.{all_out_gone, all_queue_gone}
use Rattle.call_cases.specs.OtherCalls.Laws.{SetsApart}
use Rattle.call_cases.specs.OtherCalls.Others.{is_of_number}
use Rattle.channel_actions.specs.Sets.{PairsAreExactly, is_in_outstanding, is_in_ready_waiters, is_in_queue, is_ready_waiter, is_waiting}
use Rattle.end_cases.proofs.AttemptEnds.After.{in_out, in_wait}
use Rattle.end_cases.proofs.AttemptEnds.Base.{books, c, e, x1}
use Rattle.end_cases.proofs.AttemptEnds.ClosedLines as lines
use Rattle.end_cases.proofs.AttemptEnds.Closing as closing
use Rattle.end_cases.proofs.AttemptEnds.OffSets.{out_left}
use Rattle.end_cases.proofs.AttemptEnds.OneEnded as first_end
use Rattle.end_cases.proofs.AttemptEnds.Sets.{wait_for_ready_then, queue_then}
use Rattle.call_cases.proofs.CallPosts.Report.{map_changed}
use Rattle.end_cases.proofs.CutEnds.Acts.{first, is_done, last}
use Rattle.end_cases.proofs.CutEnds.Call.{b, done, given_rows, goes, goes_else, w, whole}
use Rattle.end_cases.proofs.CutEnds.Ends.{none_outstanding, place_of}
use Rattle.end_cases.proofs.CutEnds.Walk.{Walked}
use Rattle.call_cases.proofs.OneCallEnds.Along.{owner}
use Rattle.call_cases.proofs.OneCallEnds.Left.{Test, all_out_left, all_queue_left, out_exactly, out_none, out_out, out_rest, queue_away, queue_exactly, queue_none, queue_out}
use Rattle.end_cases.specs.AttemptEnds.Ends.{EndNext}
use Rattle.end_cases.specs.AttemptEnds.Laws.{goes_on_after}
use Rattle.channel_core.specs.States.{StateSeen}
use Rattle.session_actions.specs.AttemptEnds.{with_end}
use Rattle.session_actions.specs.Attempts.{commitment, is_of, is_outstanding, is_over, is_over_in, is_queued}
use Rattle.session_actions.specs.Configs.{plan_of}
use Rattle.session_actions.specs.Links.{link_number}
use Rattle.session_actions.specs.Words.{holds, numbered}
use Rattle.session_actions.specs.declared.attempt.Attempt.{Attempt}
use Rattle.session_actions.specs.declared.call.Call.{Call}
use Rattle.session_actions.specs.declared.entry.OpenEntry.{OpenEntry}
use Rattle.session_actions.specs.declared.response.Outcome.{Outcome}
use Rattle.session_actions.specs.declared.seen.Seen.{Seen}
use Rattle.session_order.specs.declared.line.Line.{Line}
use Rattle.std.proofs.Common.{Bool, List, None, Option, Some, ap, eqb-true, false, is_none, is_some, not, option_map, refl, slice_get, subst, suc, sym, true, zero, ℕ, ◌&&◌, ◌==◌, ◌||◌, ◌∙◌, ◌≡◌}
use Rattle.std.proofs.lemmas.Bool.{and_parts, and_right, both_ways}
use Rattle.std.specs.Option.{option_map_or}

unplaced_by : (p : Option Placed) (e v : Bool) → ((is_none p && e) && v) ≡ true → p ≡ None
unplaced_by None e v h = refl
unplaced_by (Some at) e v h = absurd (cc)

both_of : (p q : Bool) → p ≡ true → q ≡ true → (p && q) ≡ true
both_of true q e f = f
both_of false q e f = absurd (cc)

or_right : (p q : Bool) → q ≡ true → (p || q) ≡ true
or_right true q e = refl
or_right false q e = e

or_left : (p q : Bool) → p ≡ true → (p || q) ≡ true
or_left true q e = refl
or_left false q e = absurd (cc)

owner_is : (n : ℕ) (q : Option Attempt) → is_of_number n q ≡ holds (λ (i : ℕ). i == n) (option_map owner q)
owner_is n None = refl
owner_is n (Some a) = refl

module _ (later : List (ℕ × RowEnd)) (waits : Line → Bool) (also : List ℕ) (a : Attempt) (out : Outcome) (x : StateSeen) (o : OpenEntry) (s : Seen) (is : EndNext later waits also a out x o s)
    (counting : IsCounting s (c later waits also a out x o s is) out) (free : commitment (c later waits also a out x o s is) s ≡ None)
    (final : goes_on_after (plan_of (c later waits also a out x o s is) s) s (c later waits also a out x o s is) a out ≡ false)
    (last_end : is_last_end (plan_of (c later waits also a out x o s is) s) (c later waits also a out x o s is) a out s ≡ true) where
  abbrev n : ℕ
  n = (c later waits also a out x o s is).number

  abbrev k : Call
  k = c later waits also a out x o s is

  abbrev v : Seen
  v = closing.v later waits also a out x o s is counting

  abbrev t : Seen
  t = (whole later waits also a out x o s is counting free final last_end).seen

  abbrev walked : Walked later waits also a out x o s is counting free final t
  walked = (done later waits also a out x o s is counting free final last_end).walked

  abbrev none_left : next_cut_of n t ≡ None
  none_left = (done later waits also a out x o s is counting free final last_end).none

  abbrev closed_ : Seen
  closed_ = w later waits also a out x o s is counting free final last_end

  abbrev rows1 : List LiveRow
  rows1 = given_rows later waits also a out x o s is counting free final last_end

  abbrev gone : Attempt → Bool
  gone q = goes_else later waits also a out x o s is counting free final last_end q

  abbrev begin : StateSeen
  begin = first later waits also a out x o s is counting free final last_end

  abbrev end_ : StateSeen
  end_ = last later waits also a out x o s is counting free final last_end

  those_done : IsDone n rows1 begin end_
  those_done = is_done later waits also a out x o s is counting free final last_end

  others : SetsApart n s closed_
  others =
      lines.others later waits also a out x o s is counting (b later waits also a out x o s is counting free final last_end)
      (goes later waits also a out x o s is counting free final last_end)

  others_v : SetsApart n s v
  others_v = sets_stay n (x1 later waits also a out x o s is) s v (first_end.apart_one later waits also a out x o s is) (books later waits also a out x o s is).calls

  place_at : (i : ℕ) (q : Attempt) → slice_get s.attempts i ≡ Some q → q.place ≡ suc i
  place_at i q at = place_of later waits also a out x o s is counting q i at

  -- one of the call that went on, and is not the one that ended
  passes : (i : ℕ) (q : Attempt) → slice_get s.attempts i ≡ Some q → (q.row.call == n) ≡ true → (is_outstanding q || is_queued q s) ≡ true → not (suc i == a.place) ≡ true
      → gone q ≡ true
  passes i q at own lives off =
      both_of (is_live s k q) (not (q.place == a.place)) (both_of (is_of k q) (is_outstanding q || is_queued q s) own lives)
      (ap (λ (m : ℕ). not (m == a.place)) (place_at i q at) ∙ off)

  -- the queue of those that wait for ready, or the other one
  waits_by : (row : ℕ) (test : Test) (q : Option Attempt) → numbered s.attempts row ≡ q → holds (λ (g : Attempt). (g.row.call == n) && is_queued g s) q ≡ true → not (row == a.place) ≡ true
      → all_queue_left n rows1 test n row ≡ false
  waits_by row test None at h off = absurd (cc)
  waits_by zero test (Some q) at h off = absurd (cc)
  waits_by (suc i) test (Some q) at h off =
      let those : ((q.row.call == n) ≡ true) × (is_queued q s ≡ true) = and_parts (q.row.call == n) (is_queued q s) h in
      let unplaced : q.row.placed ≡ None = unplaced_by q.row.placed (is_none q.row.ended) (not (is_over q s)) those.1 in
      subst (λ (m : ℕ). all_queue_left n rows1 test n m ≡ false) (place_at i q at)
      (queue_out n gone s.attempts i q test at (passes i q at those.0 (or_right (is_outstanding q) (is_queued q s) those.1) off) unplaced)

  waiting_v : (row : ℕ) → is_waiting v n row ≡ true → (test : Test) → all_queue_left n rows1 test n row ≡ false
  waiting_v row h test =
      let those : (is_waiting s n row ≡ true) × (not (row == a.place) ≡ true)
      = and_parts (is_waiting s n row) (not (row == a.place)) (sym (in_wait later waits also a out x o s is counting.goes_on free row) ∙ h) in
      waits_by row test (numbered s.attempts row) refl those.0 those.1

  -- it has ended
  over_then : (q : Attempt) → (q.row.call == n) ≡ true → is_over q closed_ ≡ true
  over_then q mine =
      ap (holds (λ (g : Call). is_over_in g q closed_))
      (ap (numbered closed_.calls) (eqb-true q.row.call n mine)
      ∙ closing.closed_here later waits also a out x o s is counting (b later waits also a out x o s is counting free final last_end) (goes later waits also a out x o s is counting free final last_end))

  wait_one : (q : Attempt) (g : Bool) → (q.row.call == n) ≡ g → ((q.row.call == n) && is_queued q closed_) ≡ false
  wait_one q false mine = ap (λ (g : Bool). g && is_queued q closed_) mine
  wait_one q true mine =
      ap (λ (g : Bool). (q.row.call == n) && ((is_none q.row.placed && is_none q.row.ended) && not g)) (over_then q mine)
      ∙ and_right (q.row.call == n) ((is_none q.row.placed && is_none q.row.ended) && false) (and_right (is_none q.row.placed && is_none q.row.ended) false refl)

  wait_by : (r : Option Attempt) → holds (λ (q : Attempt). (q.row.call == n) && is_queued q closed_) r ≡ false
  wait_by None = refl
  wait_by (Some q) = wait_one q (q.row.call == n) refl

  none_waits : (row : ℕ) → is_waiting closed_ n row ≡ false
  none_waits row = wait_by (numbered closed_.attempts row)

  module _ (test other : Test) (of_waiting : (row : ℕ) → test n row ≡ true → is_waiting v n row ≡ true) (none : (row : ℕ) → other n row ≡ false)
      (away : (i row : ℕ) → (i == n) ≡ false → other i row ≡ test i row) where
    own_pair : (row : ℕ) (g : Bool) → test n row ≡ g → all_queue_left n rows1 test n row ≡ false
    own_pair row true e = waiting_v row (of_waiting row e) test
    own_pair row false e = queue_none n rows1 test n row e

    pair_by : (i row : ℕ) (g : Bool) → (i == n) ≡ g → all_queue_left n rows1 test i row ≡ other i row
    pair_by i row true e =
        subst (λ (m : ℕ). all_queue_left n rows1 test m row ≡ other m row) (sym (eqb-true i n e)) (own_pair row (test n row) refl ∙ sym (none row))
    pair_by i row false e = queue_away n rows1 test i row e ∙ sym (away i row e)

    pub pairs_left : (pairs : List (ℕ × ℕ)) → PairsAreExactly pairs test → PairsAreExactly (all_queue_gone n rows1 pairs) other
    pairs_left pairs h =
        exactly_by (all_queue_gone n rows1 pairs) (all_queue_left n rows1 test) other (queue_exactly n rows1 pairs test h) (λ i row. pair_by i row (i == n) refl)

  pub queue_on : PairsAreExactly end_.queue (is_in_queue closed_)
  queue_on =
      subst (λ (pairs : List (ℕ × ℕ)). PairsAreExactly pairs (is_in_queue closed_)) (sym those_done.queue)
      (pairs_left (is_in_queue v) (is_in_queue closed_) (λ row e. (and_parts (is_waiting v n row) (not (is_ready_waiter v n)) e).0)
      (λ row. ap (λ (g : Bool). g && not (is_ready_waiter closed_ n)) (none_waits row)) (λ i row e. others.queue i row e ∙ sym (others_v.queue i row e)) begin.queue
      (queue_then later waits also a out x o s is counting.goes_on free others_v))

  pub wait_for_ready_on : PairsAreExactly end_.ready_waiters (is_in_ready_waiters closed_)
  wait_for_ready_on =
      subst (λ (pairs : List (ℕ × ℕ)). PairsAreExactly pairs (is_in_ready_waiters closed_)) (sym those_done.ready_waiters)
      (pairs_left (is_in_ready_waiters v) (is_in_ready_waiters closed_) (λ row e. (and_parts (is_waiting v n row) (is_ready_waiter v n) e).0)
      (λ row. ap (λ (g : Bool). g && is_ready_waiter closed_ n) (none_waits row)) (λ i row e. others.ready_waiters i row e ∙ sym (others_v.ready_waiters i row e)) begin.ready_waiters
      (wait_for_ready_then later waits also a out x o s is counting.goes_on free others_v))

  -- those that were outstanding
  owned_alike : (row : ℕ) → is_of_number n (numbered closed_.attempts row) ≡ is_of_number n (numbered s.attempts row)
  owned_alike row =
      owner_is n (numbered closed_.attempts row)
      ∙ ap (holds (λ (i : ℕ). i == n)) (sym (numbered_map owner t.attempts row) ∙ ap (λ (l : List ℕ). numbered l row) walked.owners ∙ numbered_map owner s.attempts row)
      ∙ sym (owner_is n (numbered s.attempts row))

  owned_v : (row : ℕ) → is_of_number n (numbered v.attempts row) ≡ is_of_number n (numbered s.attempts row)
  owned_v row =
      owner_is n (numbered v.attempts row)
      ∙ ap (holds (λ (i : ℕ). i == n))
      (sym (numbered_map owner v.attempts row)
      ∙ ap (λ (l : List ℕ). numbered l row) (map_changed owner (with_end (e later waits also a out x o s is)) (λ q. refl) a.place s.attempts) ∙ numbered_map owner s.attempts row)
      ∙ sym (owner_is n (numbered s.attempts row))

  in_by : (link row : ℕ) (q : Option Attempt) → numbered t.attempts row ≡ q → is_of_number n q ≡ true → holds (λ (g : Attempt). is_outstanding g && (link_number g == link)) q ≡ false
  in_by link row None at mine = refl
  in_by link zero (Some q) at mine = absurd (cc)
  in_by link (suc i) (Some q) at mine =
      ap (λ (g : Bool). g && (link_number q == link)) (none_outstanding later waits also a out x o s is counting free final t walked none_left i q at mine)

  placed_out : (link i : ℕ) (q : Attempt) (test : Test) (p : Option Placed) → q.row.placed ≡ p → slice_get s.attempts i ≡ Some q → gone q ≡ true
      → (is_some p && is_none q.row.ended) ≡ true → (option_map_or (λ (at : Placed). at.link) p 0 == link) ≡ true → all_out_left rows1 test link (suc i) ≡ false
  placed_out link i q test None h at goes_ on same_link = absurd (cc)
  placed_out link i q test (Some at) h there goes_ on same_link =
      subst (λ (m : ℕ). all_out_left rows1 test link m ≡ false) (place_at i q there)
      (subst (λ (m : ℕ). all_out_left rows1 test m q.place ≡ false) (eqb-true at.link link same_link) (out_out n gone s.attempts i q at test there goes_ h))

  out_by : (link row : ℕ) (test : Test) (q : Option Attempt) → numbered s.attempts row ≡ q → is_of_number n q ≡ true
      → holds (λ (g : Attempt). is_outstanding g && (link_number g == link)) q ≡ true → not (row == a.place) ≡ true → all_out_left rows1 test link row ≡ false
  out_by link row test None at mine h off = absurd (cc)
  out_by link zero test (Some q) at mine h off = absurd (cc)
  out_by link (suc i) test (Some q) at mine h off =
      let those : (is_outstanding q ≡ true) × ((link_number q == link) ≡ true) = and_parts (is_outstanding q) (link_number q == link) h in
      placed_out link i q test q.row.placed refl at (passes i q at mine (or_left (is_outstanding q) (is_queued q s) those.0) off) those.0 those.1

  own_out : (link row : ℕ) (g : Bool) → is_in_outstanding v link row ≡ g → is_of_number n (numbered s.attempts row) ≡ true
      → all_out_left rows1 (is_in_outstanding v) link row ≡ false
  own_out link row true h mine =
      let those : (is_in_outstanding s link row ≡ true) × (not (row == a.place) ≡ true)
      = and_parts (is_in_outstanding s link row) (not (row == a.place)) (sym (in_out later waits also a out x o s is link row) ∙ h) in
      out_by link row (is_in_outstanding v) (numbered s.attempts row) refl mine those.0 those.1
  own_out link row false h mine = out_none rows1 (is_in_outstanding v) link row h

  other_row : (row i : ℕ) (q : Attempt) (g : Bool) → (q.place == row) ≡ g → slice_get s.attempts i ≡ Some q → gone q ≡ true → is_of_number n (numbered s.attempts row) ≡ false → (q.place == row) ≡ false
  other_row row i q true h at goes_ off =
      let here : numbered s.attempts row ≡ Some q = ap (numbered s.attempts) (sym (eqb-true q.place row h) ∙ place_at i q at) ∙ at in
      let lives : is_live s k q ≡ true = (and_parts (is_live s k q) (not (q.place == a.place)) goes_).0 in
      let mine : is_of_number n (numbered s.attempts row) ≡ true = ap (is_of_number n) here ∙ (and_parts (is_of k q) (is_outstanding q || is_queued q s) lives).0 in
      absurd (both_ways (is_of_number n (numbered s.attempts row)) off mine)
  other_row row i q false h at goes_ off = h

  out_pair : (link row : ℕ) (g : Bool) → is_of_number n (numbered closed_.attempts row) ≡ g → all_out_left rows1 (is_in_outstanding v) link row ≡ is_in_outstanding closed_ link row
  out_pair link row true h =
      own_out link row (is_in_outstanding v link row) refl (sym (owned_alike row) ∙ h) ∙ sym (in_by link row (numbered t.attempts row) refl h)
  out_pair link row false h =
      let off : is_of_number n (numbered s.attempts row) ≡ false = sym (owned_alike row) ∙ h in
      out_rest n gone row s.attempts (is_in_outstanding v) link (λ i q at goes_. other_row row i q (q.place == row) refl at goes_ off)
      ∙ others_v.outstanding link row (owned_v row ∙ off) ∙ sym (others.outstanding link row h)

  pub outstanding_on : PairsAreExactly end_.outstanding (is_in_outstanding closed_)
  outstanding_on =
      subst (λ (pairs : List (ℕ × ℕ)). PairsAreExactly pairs (is_in_outstanding closed_)) (sym those_done.outstanding)
      (exactly_by (all_out_gone rows1 begin.outstanding) (all_out_left rows1 (is_in_outstanding v)) (is_in_outstanding closed_)
      (out_exactly rows1 begin.outstanding (is_in_outstanding v) (out_left later waits also a out x o s is v (in_out later waits also a out x o s is)))
      (λ link row. out_pair link row (is_of_number n (numbered closed_.attempts row)) refl))
