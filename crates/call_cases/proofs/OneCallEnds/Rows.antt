-- The sets of rows once a call has ended: its attempts wait no more, and none of them is outstanding; those of other calls are as before.
use Rattle.std.proofs.Common.{◌≡◌, ◌&&◌, ◌||◌, ◌==◌, not, ap, refl, subst, sym, ◌∙◌, Bool, true, false, List, Option, None, Some, ℕ, zero, suc, eqb-true, filter, is_none, is_some, map, slice_get}
use Rattle.std.proofs.lemmas.Bool.{and_parts, both_ways}
use Rattle.std.specs.Option.{option_map, option_map_or}
use Rattle.attempt_ledger.specs.declared.row.Placed.{Placed}
use Rattle.call_actions.proofs.Ranks.{numbered_map}
use Rattle.call_actions.specs.Sees.{is_live, live_row}
use Rattle.call_core.specs.declared.live.LiveRow.{LiveRow}
use Rattle.call_cases.proofs.EndsFollow.Cuts.{is_gone, place_suc}
use Rattle.call_cases.proofs.EndsFollow.Follow.{base, mid}
use Rattle.channel_actions.proofs.Links.Settings.Pairs.{exactly_by}
use Rattle.call_cases.specs.EndsFollow.Laws.{is_late}
use Rattle.call_cases.specs.OtherCalls.Laws.{SetsApart}
use Rattle.call_cases.specs.OtherCalls.Others.{is_of_number}
use Rattle.channel_actions.specs.Sets.{PairsAreExactly, is_in_outstanding, is_in_ready_waiters, is_in_queue, is_ready_waiter, is_waiting}
use Rattle.call_cases.proofs.CallEnds.Alone.{has_cut, to}
use Rattle.call_cases.proofs.CallEnds.Linked.{live_is, on, own, slot, w}
use Rattle.call_cases.proofs.CallEnds.On.{are_cut, early_by, resets, t, their}
use Rattle.call_cases.proofs.CallEnds.Sets.{apart, done}
use Rattle.call_cases.proofs.OneCallEnds.Along.{IsSameBut, cuts_same, owner, resets_carry, same_ended, same_reset}
use Rattle.call_cases.proofs.OneCallEnds.Left.{Test, all_out_left, all_queue_left, out_exactly, out_none, out_out, out_rest, queue_away, queue_exactly, queue_none, queue_out}
use Rattle.call_cases.specs.CallEnds.Ends.{IsToEnd}
use Rattle.channel_core.specs.States.{StateSeen}
use Rattle.grpc_base.specs.declared.event.EndCause.{EndCause}
use Rattle.session_actions.specs.Attempts.{is_of, is_outstanding, is_over, is_queued}
use Rattle.session_actions.specs.CallEnds.{call_ended}
use Rattle.session_actions.specs.Links.{link_number}
use Rattle.session_actions.specs.Words.{holds, numbered}
use Rattle.session_actions.specs.declared.attempt.Attempt.{Attempt}
use Rattle.session_actions.specs.declared.call.Call.{Call}
use Rattle.session_actions.specs.declared.entry.OpenEntry.{OpenEntry}
use Rattle.session_actions.specs.declared.seen.Seen.{Seen}
use Rattle.session_order.proofs.Changed.{passes_not}
use Rattle.session_order.specs.Quiescent.{is_to_cut}
use Rattle.session_order.specs.declared.line.Line.{Line}
use Rattle.session_order.specs.declared.line.Line.TheVariants as line

and_off : (b : Bool) → (b && false) ≡ false
and_off true = refl
and_off false = refl

or_true : (b : Bool) → (b || true) ≡ true
or_true true = refl
or_true false = refl

not_first : (a b : Bool) → (a && b) ≡ false → b ≡ true → a ≡ false
not_first true true e f = e
not_first true false e f = absurd (cc)
not_first false b e f = refl

unplaced_by : (p : Option Placed) (e v : Bool) → ((is_none p && e) && v) ≡ true → p ≡ None
unplaced_by None e v h = refl
unplaced_by (Some at) e v h = absurd (cc)

owner_is : (n : ℕ) (q : Option Attempt) → is_of_number n q ≡ holds (λ (k : ℕ). k == n) (option_map owner q)
owner_is n None = refl
owner_is n (Some a) = refl

module _ (waits : Line → Bool) (n : ℕ) (why : EndCause) (x : StateSeen) (o : OpenEntry) (s : Seen) (is : IsToEnd waits n why x o s) where
  abbrev u : Seen
  u = (resets waits n why x o s is).seen

  abbrev c : Call
  c = is.call

  abbrev live : List LiveRow
  live = (slot waits n why x o s is).call.live

  abbrev is_alive : Attempt → Bool
  is_alive a = is_live s c a

  rows_are : map live_row (filter is_alive s.attempts) ≡ live
  rows_are = live_is waits n why x o s is

  pub same : IsSameBut n s u
  same =
      resets_carry waits n o (call_ended n why s) (base waits n why o s (to waits n why x o s is)) (IsSameBut n s) (λ v a k h. same_reset n s v a k h)
      (resets waits n why x o s is).actions (t waits n why x o s is) u (has_cut waits n why x o s is).reset (resets waits n why x o s is).resets
      (cuts_same waits n o (call_ended n why s) (base waits n why o s (to waits n why x o s is)) s (their waits n why x o s is) (call_ended n why s) (t waits n why x o s is)
      (mid waits n why o s (to waits n why x o s is)) (are_cut waits n why x o s is) (same_ended n why s))

  others : SetsApart n s u
  others = apart waits n why x o s is (on waits n why x o s is).kept

  over_now : (a : Attempt) → (a.row.call == n) ≡ true → is_over a u ≡ true
  over_now a mine = is_gone n u (done waits n why x o s is) a mine

  place_is : (i : ℕ) (a : Attempt) → slice_get s.attempts i ≡ Some a → a.place ≡ suc i
  place_is i a at = place_suc i s.attempts a is.agrees.kept.book.places at

  mine_is : (a : Attempt) → is_of c a ≡ (a.row.call == n)
  mine_is a = ap (λ (k : ℕ). a.row.call == k) (own waits n why x o s is)

  -- those that waited for a pick
  unqueued_by : (a : Attempt) (b : Bool) → (a.row.call == n) ≡ b → ((a.row.call == n) && is_queued a u) ≡ false
  unqueued_by a true e =
      ap (λ (b : Bool). (a.row.call == n) && ((is_none a.row.placed && is_none a.row.ended) && not b)) (over_now a e)
      ∙ ap (λ (b : Bool). (a.row.call == n) && b) (and_off (is_none a.row.placed && is_none a.row.ended)) ∙ and_off (a.row.call == n)
  unqueued_by a false e = ap (λ (b : Bool). b && is_queued a u) e

  unqueued : (q : Option Attempt) → holds (λ (a : Attempt). (a.row.call == n) && is_queued a u) q ≡ false
  unqueued None = refl
  unqueued (Some a) = unqueued_by a (a.row.call == n) refl

  waits_by : (row : ℕ) (test : Test) (q : Option Attempt) → numbered s.attempts row ≡ q → holds (λ (a : Attempt). (a.row.call == n) && is_queued a s) q ≡ true
      → all_queue_left n live test n row ≡ false
  waits_by row test None at h = absurd (cc)
  waits_by zero test (Some a) at h = absurd (cc)
  waits_by (suc i) test (Some a) at h =
      let parts : ((a.row.call == n) ≡ true) × (is_queued a s ≡ true) = and_parts (a.row.call == n) (is_queued a s) h in
      let lives : is_alive a ≡ true
      = ap (λ (b : Bool). b && (is_outstanding a || is_queued a s)) (mine_is a ∙ parts.0) ∙ ap (λ (b : Bool). is_outstanding a || b) parts.1 ∙ or_true (is_outstanding a) in
      let unplaced : a.row.placed ≡ None = unplaced_by a.row.placed (is_none a.row.ended) (not (is_over a s)) parts.1 in
      subst (λ (k : ℕ). all_queue_left n live test n k ≡ false) (place_is i a at)
      (subst (λ (l : List LiveRow). all_queue_left n l test n a.place ≡ false) rows_are (queue_out n is_alive s.attempts i a test at lives unplaced))

  module _ (test later : Test) (of_waiting : (row : ℕ) → test n row ≡ true → is_waiting s n row ≡ true) (none : (row : ℕ) → later n row ≡ false)
      (away : (k row : ℕ) → (k == n) ≡ false → later k row ≡ test k row) where
    own_pair : (row : ℕ) (b : Bool) → test n row ≡ b → all_queue_left n live test n row ≡ false
    own_pair row true e = waits_by row test (numbered s.attempts row) refl (of_waiting row e)
    own_pair row false e = queue_none n live test n row e

    pair_by : (k row : ℕ) (b : Bool) → (k == n) ≡ b → all_queue_left n live test k row ≡ later k row
    pair_by k row true e =
        subst (λ (m : ℕ). all_queue_left n live test m row ≡ later m row) (sym (eqb-true k n e)) (own_pair row (test n row) refl ∙ sym (none row))
    pair_by k row false e = queue_away n live test k row e ∙ sym (away k row e)

    pair_same : (k row : ℕ) → all_queue_left n live test k row ≡ later k row
    pair_same k row = pair_by k row (k == n) refl

  pub queue_on : PairsAreExactly (w waits n why x o s is).queue (is_in_queue u)
  queue_on =
      exactly_by (w waits n why x o s is).queue (all_queue_left n live (is_in_queue s)) (is_in_queue u) (queue_exactly n live x.queue (is_in_queue s) is.agrees.sets.queue)
      (pair_same (is_in_queue s) (is_in_queue u) (λ row e. (and_parts (is_waiting s n row) (not (is_ready_waiter s n)) e).0)
      (λ row. ap (λ (b : Bool). b && not (is_ready_waiter u n)) (unqueued (numbered u.attempts row))) (λ k row e. others.queue k row e))

  pub wait_for_ready_on : PairsAreExactly (w waits n why x o s is).ready_waiters (is_in_ready_waiters u)
  wait_for_ready_on =
      exactly_by (w waits n why x o s is).ready_waiters (all_queue_left n live (is_in_ready_waiters s)) (is_in_ready_waiters u)
      (queue_exactly n live x.ready_waiters (is_in_ready_waiters s) is.agrees.sets.ready_waiters)
      (pair_same (is_in_ready_waiters s) (is_in_ready_waiters u) (λ row e. (and_parts (is_waiting s n row) (is_ready_waiter s n) e).0)
      (λ row. ap (λ (b : Bool). b && is_ready_waiter u n) (unqueued (numbered u.attempts row))) (λ k row e. others.ready_waiters k row e))

  -- those that were outstanding
  uncut : (row : ℕ) (a : Attempt) → numbered u.attempts row ≡ Some a → is_to_cut u a ≡ false
  uncut row a at =
      passes_not (is_to_cut u) u.attempts row a ((on waits n why x o s is).still line.Cut (early_by (waits line.Cut) (is_late line.Cut) (is.late line.Cut) refl)) at

  in_by : (link row : ℕ) (q : Option Attempt) → numbered u.attempts row ≡ q → is_of_number n q ≡ true → holds (λ (a : Attempt). is_outstanding a && (link_number a == link)) q ≡ false
  in_by link row None at mine = refl
  in_by link row (Some a) at mine =
      ap (λ (b : Bool). b && (link_number a == link)) (not_first (is_outstanding a) (is_over a u) (uncut row a at) (over_now a mine))

  owned_alike : (row : ℕ) → is_of_number n (numbered u.attempts row) ≡ is_of_number n (numbered s.attempts row)
  owned_alike row =
      owner_is n (numbered u.attempts row)
      ∙ ap (holds (λ (k : ℕ). k == n)) (sym (numbered_map owner u.attempts row) ∙ ap (λ (l : List ℕ). numbered l row) same.owners ∙ numbered_map owner s.attempts row)
      ∙ sym (owner_is n (numbered s.attempts row))

  placed_out : (link i : ℕ) (a : Attempt) (test : Test) (p : Option Placed) → a.row.placed ≡ p → slice_get s.attempts i ≡ Some a → is_alive a ≡ true
      → (is_some p && is_none a.row.ended) ≡ true → (option_map_or (λ (at : Placed). at.link) p 0 == link) ≡ true → all_out_left live test link (suc i) ≡ false
  placed_out link i a test None e at lives out_ same_link = absurd (cc)
  placed_out link i a test (Some at) e there lives out_ same_link =
      subst (λ (k : ℕ). all_out_left live test link k ≡ false) (place_is i a there)
      (subst (λ (k : ℕ). all_out_left live test k a.place ≡ false) (eqb-true at.link link same_link)
      (subst (λ (l : List LiveRow). all_out_left l test at.link a.place ≡ false) rows_are (out_out n is_alive s.attempts i a at test there lives e)))

  out_by : (link row : ℕ) (test : Test) (q : Option Attempt) → numbered s.attempts row ≡ q → is_of_number n q ≡ true
      → holds (λ (a : Attempt). is_outstanding a && (link_number a == link)) q ≡ true → all_out_left live test link row ≡ false
  out_by link row test None at mine h = absurd (cc)
  out_by link zero test (Some a) at mine h = absurd (cc)
  out_by link (suc i) test (Some a) at mine h =
      let parts : (is_outstanding a ≡ true) × ((link_number a == link) ≡ true) = and_parts (is_outstanding a) (link_number a == link) h in
      let lives : is_alive a ≡ true
      = ap (λ (b : Bool). b && (is_outstanding a || is_queued a s)) (mine_is a ∙ mine) ∙ ap (λ (b : Bool). b || is_queued a s) parts.0 in
      placed_out link i a test a.row.placed refl at lives parts.0 parts.1

  own_out : (link row : ℕ) (b : Bool) → is_in_outstanding s link row ≡ b → is_of_number n (numbered s.attempts row) ≡ true → all_out_left live (is_in_outstanding s) link row ≡ false
  own_out link row true e mine = out_by link row (is_in_outstanding s) (numbered s.attempts row) refl mine e
  own_out link row false e mine = out_none live (is_in_outstanding s) link row e

  other_row : (row i : ℕ) (a : Attempt) (b : Bool) → (a.place == row) ≡ b → slice_get s.attempts i ≡ Some a → is_alive a ≡ true
      → is_of_number n (numbered s.attempts row) ≡ false → (a.place == row) ≡ false
  other_row row i a true e at lives off =
      let here : numbered s.attempts row ≡ Some a = ap (numbered s.attempts) (sym (eqb-true a.place row e) ∙ place_is i a at) ∙ at in
      let mine : is_of_number n (numbered s.attempts row) ≡ true
      = ap (is_of_number n) here ∙ sym (mine_is a) ∙ (and_parts (is_of c a) (is_outstanding a || is_queued a s) lives).0 in
      absurd (both_ways (is_of_number n (numbered s.attempts row)) off mine)
  other_row row i a false e at lives off = e

  out_pair : (link row : ℕ) (b : Bool) → is_of_number n (numbered u.attempts row) ≡ b → all_out_left live (is_in_outstanding s) link row ≡ is_in_outstanding u link row
  out_pair link row true e =
      own_out link row (is_in_outstanding s link row) refl (sym (owned_alike row) ∙ e) ∙ sym (in_by link row (numbered u.attempts row) refl e)
  out_pair link row false e =
      subst (λ (l : List LiveRow). all_out_left l (is_in_outstanding s) link row ≡ is_in_outstanding s link row) rows_are
      (out_rest n is_alive row s.attempts (is_in_outstanding s) link (λ i a at lives. other_row row i a (a.place == row) refl at lives (sym (owned_alike row) ∙ e)))
      ∙ sym (others.outstanding link row e)

  pub outstanding_on : PairsAreExactly (w waits n why x o s is).outstanding (is_in_outstanding u)
  outstanding_on =
      exactly_by (w waits n why x o s is).outstanding (all_out_left live (is_in_outstanding s)) (is_in_outstanding u)
      (out_exactly live x.outstanding (is_in_outstanding s) is.agrees.sets.outstanding) (λ link row. out_pair link row (is_of_number n (numbered u.attempts row)) refl)
