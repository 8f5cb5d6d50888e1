-- The sets of rows once a call is committed: no attempt of it waits any more, and the one to which it is committed alone is outstanding; those of other calls are
-- as before.
use Rattle.std.proofs.Common.{◌≡◌, ◌∷◌, ◌&&◌, ◌||◌, ◌==◌, not, ap, refl, subst, sym, ◌∙◌, Bool, true, false, List, [], Option, None, Some, ℕ, zero, suc, cond, filter, if◌then◌else◌, is_none, is_some, map, slice_get}
use Rattle.std.proofs.lemmas.Bool.{and_parts, both_ways, eq-eqb, eqb-true}
use Rattle.std.specs.List.{list_all}
use Rattle.std.specs.Option.{option_map, option_map_or, option_or}
use Rattle.attempt_ledger.specs.declared.row.Placed.{Placed}
use Rattle.call_actions.proofs.Ranks.{numbered_map}
use Rattle.call_actions.specs.Sees.{is_live, live_row}
use Rattle.call_core.specs.Parts.{is_row, kept_alone}
use Rattle.call_core.specs.declared.inbox.Inbox.{Inbox}
use Rattle.call_core.specs.declared.live.LiveRow.{LiveRow}
use Rattle.call_cases.proofs.EndsFollow.Cuts.{place_suc}
use Rattle.call_cases.proofs.OtherCalls.Sets.{sets_stay}
use Rattle.channel_actions.proofs.Links.Settings.Pairs.{exactly_by}
use Rattle.call_cases.specs.OtherCalls.Laws.{SetsApart}
use Rattle.call_cases.specs.OtherCalls.Others.{is_of_number}
use Rattle.channel_actions.specs.Sets.{PairsAreExactly, is_in_outstanding, is_in_ready_waiters, is_in_queue, is_ready_waiter, is_waiting}
use Rattle.attempt_cases.proofs.CallCommits.Alone.{goes_apart, has_cut, kept_one, to}
use Rattle.attempt_cases.proofs.CallCommits.Along.{same}
use Rattle.attempt_cases.proofs.CallCommits.Linked.{live, live_is, outs, rows, w}
use Rattle.attempt_cases.proofs.CallCommits.On as on_
use Rattle.attempt_cases.proofs.CallCommits.On.{kept_on, own, resets, t}
use Rattle.attempt_cases.proofs.CallCommits.Own.{call, kept_call}
use Rattle.call_cases.proofs.CommitsFollow.Cuts.{IsTaken}
use Rattle.call_cases.proofs.CommitsFollow.Follow as follow
use Rattle.call_cases.proofs.CommitsFollow.Follow.{HasReset, reset_walk}
use Rattle.call_cases.proofs.OneCallEnds.Along.{owner}
use Rattle.call_cases.proofs.OneCallEnds.Left.{Test, all_out_left, all_queue_left, out_exactly, out_none, out_out, out_rest, queue_away, queue_exactly, queue_none, queue_out}
use Rattle.attempt_cases.specs.CallCommits.Commits.{CommitsNext}
use Rattle.channel_core.specs.States.{StateSeen}
use Rattle.session_actions.specs.Attempts.{commitment, is_commitment, is_of, is_outstanding, is_over, is_queued}
use Rattle.session_actions.specs.Links.{link_number}
use Rattle.session_actions.specs.Words.{find_last, holds, numbered}
use Rattle.session_actions.specs.declared.action.CommitCause.{CommitCause}
use Rattle.session_actions.specs.declared.attempt.Attempt.{Attempt}
use Rattle.session_actions.specs.declared.call.Call.{Call}
use Rattle.session_actions.specs.declared.entry.OpenEntry.{OpenEntry}
use Rattle.session_actions.specs.declared.seen.Seen.{Seen}
use Rattle.session_order.specs.declared.line.Line.{Line}

or_true : (b : Bool) → (b || true) ≡ true
or_true true = refl
or_true false = refl

or_left : (a b : Bool) → a ≡ true → (a || b) ≡ true
or_left true b e = refl
or_left false b e = absurd (cc)

both_of : (a b : Bool) → a ≡ true → b ≡ true → (a && b) ≡ true
both_of true b e f = f
both_of false b e f = absurd (cc)

not_off : (a : Bool) → a ≡ false → not a ≡ true
not_off false e = refl
not_off true e = absurd (cc)

unplaced_by : (p : Option Placed) (e v : Bool) → ((is_none p && e) && v) ≡ true → p ≡ None
unplaced_by None e v h = refl
unplaced_by (Some at) e v h = absurd (cc)

placed_not : (p : Option Placed) (e f : Bool) → (is_some p && e) ≡ true → p ≡ None → ⊥
placed_not None e f h n = (cc)
placed_not (Some at) e f h n = (cc)

owner_is : (n : ℕ) (q : Option Attempt) → is_of_number n q ≡ holds (λ (k : ℕ). k == n) (option_map owner q)
owner_is n None = refl
owner_is n (Some a) = refl

other_place : (b : Bool) → (b ≡ true → ⊥) → b ≡ false
other_place true never = absurd (never refl)
other_place false never = refl

-- the one that is found
pub record IsAt (xs : List Attempt) (k : Attempt) : Type 0 where
  pub index : ℕ
  pub here : slice_get xs index ≡ Some k

found_by : (T : Attempt → Bool) (x : Attempt) (xs : List Attempt) (k : Attempt) (o : Option Attempt) (b : Bool) → find_last T xs ≡ o → option_or o (if b then Some x else None) ≡ Some k
    → (find_last T xs ≡ Some k → IsAt xs k) → IsAt (x ∷ xs) k
found_by T x xs k (Some z) b at e rest = let r : IsAt xs k = rest (at ∙ e) in record { index = suc r.index; here = r.here }
found_by T x xs k None true at e rest = record { index = 0; here = e }
found_by T x xs k None false at e rest = absurd (cc)

found : (T : Attempt → Bool) (xs : List Attempt) (k : Attempt) → find_last T xs ≡ Some k → IsAt xs k
found T [] k e = absurd (cc)
found T (x ∷ xs) k e = found_by T x xs k (find_last T xs) (T x) refl e (λ f. found T xs k f)

-- a list of rows of one place
all_kept_by : (place : ℕ) (r : LiveRow) (rs : List LiveRow) (b : Bool) → (r.place == place) ≡ b → list_all (is_row place) (kept_alone place rs) ≡ true
    → list_all (is_row place) (cond b (r ∷ kept_alone place rs) (kept_alone place rs)) ≡ true
all_kept_by place r rs true e rest = ap (λ (z : Bool). z && list_all (is_row place) (kept_alone place rs)) e ∙ rest
all_kept_by place r rs false e rest = rest

all_kept : (place : ℕ) (rs : List LiveRow) → list_all (is_row place) (kept_alone place rs) ≡ true
all_kept place [] = refl
all_kept place (r ∷ rs) = all_kept_by place r rs (r.place == place) refl (all_kept place rs)

at_place_by : (place : ℕ) (p : Attempt → Bool) (x a : Attempt) (xs : List Attempt) (b : Bool) → p x ≡ b → list_all (is_row place) (map live_row (cond b (x ∷ filter p xs) (filter p xs))) ≡ true
    → (b ≡ true → (x.place == place) ≡ true) × (list_all (is_row place) (map live_row (filter p xs)) ≡ true)
at_place_by place p x a xs true e all =
    let parts = and_parts (x.place == place) (list_all (is_row place) (map live_row (filter p xs))) all in ((λ f. parts.0), parts.1)
at_place_by place p x a xs false e all = ((λ f. absurd (cc)), all)

at_place : (place : ℕ) (p : Attempt → Bool) (xs : List Attempt) → list_all (is_row place) (map live_row (filter p xs)) ≡ true → (i : ℕ) (a : Attempt) → slice_get xs i ≡ Some a → p a ≡ true
    → (a.place == place) ≡ true
at_place place p [] all i a at e = absurd (cc)
at_place place p (x ∷ xs) all zero a at e =
    let same_ : x ≡ a = (cc) in
    ap (λ (z : Attempt). z.place == place) (sym same_) ∙ (at_place_by place p x a xs (p x) refl all).0 (ap p same_ ∙ e)
at_place place p (x ∷ xs) all (suc i) a at e = at_place place p xs (at_place_by place p x a xs (p x) refl all).1 i a at e

module _ (waits : Line → Bool) (n : ℕ) (why : CommitCause) (inbox : Inbox) (x : StateSeen) (o : OpenEntry) (s : Seen) (is : CommitsNext waits n why inbox x o s) where
  abbrev u : Seen
  u = on_.u waits n why inbox x o s is

  abbrev c : Call
  c = is.call

  abbrev k : Attempt
  k = is.attempt

  abbrev one : Attempt
  one = kept_one waits n why inbox x o s is

  abbrev gone : List LiveRow
  gone = rows waits n why inbox x o s is

  abbrev goes : Attempt → Bool
  goes a = outs waits n why inbox x o s is a

  end : HasReset waits is.late n one o (follow.b waits n why o s (to waits n why inbox x o s is)) (follow.base waits n why o s (to waits n why inbox x o s is))
      (follow.goes waits n why o s (to waits n why inbox x o s is)) (t waits n why inbox x o s is) u (resets waits n why inbox x o s is).actions
  end =
      reset_walk waits is.late n one o (follow.b waits n why o s (to waits n why inbox x o s is)) (follow.base waits n why o s (to waits n why inbox x o s is))
      (follow.goes waits n why o s (to waits n why inbox x o s is)) (resets waits n why inbox x o s is).actions (t waits n why inbox x o s is) u
      (has_cut waits n why inbox x o s is).reset (resets waits n why inbox x o s is).resets

  pub taken : IsTaken n one u
  taken = end.reset.left.done

  others : SetsApart n s u
  others = sets_stay n x s u (goes_apart waits n why inbox x o s is) is.agrees.calls

  place_was : (i : ℕ) (a : Attempt) → slice_get s.attempts i ≡ Some a → a.place ≡ suc i
  place_was i a at = place_suc i s.attempts a is.agrees.kept.book.places at

  place_now : (i : ℕ) (a : Attempt) → slice_get u.attempts i ≡ Some a → a.place ≡ suc i
  place_now i a at = place_suc i u.attempts a (kept_on waits n why inbox x o s is).book.places at

  mine_is : (a : Attempt) → is_of c a ≡ (a.row.call == n)
  mine_is a = ap (λ (m : ℕ). a.row.call == m) (own waits n why inbox x o s is)

  number_now : (call waits n why inbox x o s is).number ≡ n
  number_now =
      (on_.done waits n why inbox x o s is).committed.agrees.number_is ∙ own waits n why inbox x o s is

  mine_now : (a : Attempt) → is_of (call waits n why inbox x o s is) a ≡ (a.row.call == n)
  mine_now a = ap (λ (m : ℕ). a.row.call == m) number_now

  -- the one to which the call is committed stands at its place
  at_one : IsAt u.attempts one
  at_one = found (λ (a : Attempt). is_commitment taken.call a) u.attempts one taken.is

  one_there : numbered u.attempts k.place ≡ Some one
  one_there = ap (numbered u.attempts) (place_now at_one.index one at_one.here) ∙ at_one.here

  -- of the call it alone goes on
  live_now : map live_row (filter (λ (a : Attempt). is_live u (call waits n why inbox x o s is) a) u.attempts) ≡ kept_alone k.place (live waits n why inbox x o s is)
  live_now = (kept_call waits n why inbox x o s is).serves.sees.live

  lives_at : (i : ℕ) (a : Attempt) → slice_get u.attempts i ≡ Some a → is_live u (call waits n why inbox x o s is) a ≡ true → a ≡ one
  lives_at i a at e =
      let place : (a.place == k.place) ≡ true
      = at_place k.place (λ (z : Attempt). is_live u (call waits n why inbox x o s is) z) u.attempts
      (ap (list_all (is_row k.place)) live_now ∙ all_kept k.place (live waits n why inbox x o s is)) i a at e in
      let here : numbered u.attempts k.place ≡ Some a = ap (numbered u.attempts) (sym (eqb-true a.place k.place place) ∙ place_now i a at) ∙ at in
      let two : Some a ≡ Some one = sym here ∙ one_there in (cc)

  lives_by : (row : ℕ) (a : Attempt) → numbered u.attempts row ≡ Some a → is_live u (call waits n why inbox x o s is) a ≡ true → a ≡ one
  lives_by zero a at e = absurd (cc)
  lives_by (suc i) a at e = lives_at i a at e

  -- none of it waits
  unqueued_by : (row : ℕ) (a : Attempt) (b : Bool) → ((a.row.call == n) && is_queued a u) ≡ b → numbered u.attempts row ≡ Some a → ((a.row.call == n) && is_queued a u) ≡ false
  unqueued_by row a false e at = e
  unqueued_by row a true e at =
      let parts : ((a.row.call == n) ≡ true) × (is_queued a u ≡ true) = and_parts (a.row.call == n) (is_queued a u) e in
      let lives : is_live u (call waits n why inbox x o s is) a ≡ true
      = both_of (is_of (call waits n why inbox x o s is) a) (is_outstanding a || is_queued a u) (mine_now a ∙ parts.0)
      (ap (λ (b : Bool). is_outstanding a || b) parts.1 ∙ or_true (is_outstanding a)) in
      let same_ : a ≡ one = lives_by row a at lives in
      let none : k.row.placed ≡ None = sym (ap (λ (z : Attempt). z.row.placed) same_) ∙ unplaced_by a.row.placed (is_none a.row.ended) (not (is_over a u)) parts.1 in
      absurd (placed_not k.row.placed (is_none k.row.ended) true is.can.outstanding none)

  unqueued : (row : ℕ) (q : Option Attempt) → numbered u.attempts row ≡ q → holds (λ (a : Attempt). (a.row.call == n) && is_queued a u) q ≡ false
  unqueued row None at = refl
  unqueued row (Some a) at = unqueued_by row a ((a.row.call == n) && is_queued a u) refl at

  -- those that waited were given up
  away_by : (a : Attempt) (b : Bool) → (k.place == a.place) ≡ b → numbered s.attempts a.place ≡ Some a → a.row.placed ≡ None → not (k.place == a.place) ≡ true
  away_by a false e at none = not_off (k.place == a.place) e
  away_by a true e at none =
      let two : Some k ≡ Some a = sym is.can.at ∙ ap (numbered s.attempts) (eqb-true k.place a.place e) ∙ at in
      let same_ : k ≡ a = (cc) in
      absurd (placed_not k.row.placed (is_none k.row.ended) true is.can.outstanding (ap (λ (z : Attempt). z.row.placed) same_ ∙ none))

  waits_by : (row : ℕ) (test : Test) (q : Option Attempt) → numbered s.attempts row ≡ q → holds (λ (a : Attempt). (a.row.call == n) && is_queued a s) q ≡ true
      → all_queue_left n gone test n row ≡ false
  waits_by row test None at h = absurd (cc)
  waits_by zero test (Some a) at h = absurd (cc)
  waits_by (suc i) test (Some a) at h =
      let parts : ((a.row.call == n) ≡ true) × (is_queued a s ≡ true) = and_parts (a.row.call == n) (is_queued a s) h in
      let unplaced : a.row.placed ≡ None = unplaced_by a.row.placed (is_none a.row.ended) (not (is_over a s)) parts.1 in
      let here : numbered s.attempts a.place ≡ Some a = ap (numbered s.attempts) (place_was i a at) ∙ at in
      let passes : goes a ≡ true
      = both_of (is_live s c a) (not (k.place == a.place))
      (both_of (is_of c a) (is_outstanding a || is_queued a s) (mine_is a ∙ parts.0) (ap (λ (b : Bool). is_outstanding a || b) parts.1 ∙ or_true (is_outstanding a)))
      (away_by a (k.place == a.place) refl here unplaced) in
      subst (λ (m : ℕ). all_queue_left n gone test n m ≡ false) (place_was i a at) (queue_out n goes s.attempts i a test at passes unplaced)

  module _ (test later : Test) (of_waiting : (row : ℕ) → test n row ≡ true → is_waiting s n row ≡ true) (none : (row : ℕ) → later n row ≡ false)
      (away : (m row : ℕ) → (m == n) ≡ false → later m row ≡ test m row) where
    own_pair : (row : ℕ) (b : Bool) → test n row ≡ b → all_queue_left n gone test n row ≡ false
    own_pair row true e = waits_by row test (numbered s.attempts row) refl (of_waiting row e)
    own_pair row false e = queue_none n gone test n row e

    pair_by : (m row : ℕ) (b : Bool) → (m == n) ≡ b → all_queue_left n gone test m row ≡ later m row
    pair_by m row true e =
        subst (λ (j : ℕ). all_queue_left n gone test j row ≡ later j row) (sym (eqb-true m n e)) (own_pair row (test n row) refl ∙ sym (none row))
    pair_by m row false e = queue_away n gone test m row e ∙ sym (away m row e)

    pair_same : (m row : ℕ) → all_queue_left n gone test m row ≡ later m row
    pair_same m row = pair_by m row (m == n) refl

  pub queue_on : PairsAreExactly (w waits n why inbox x o s is).queue (is_in_queue u)
  queue_on =
      exactly_by (w waits n why inbox x o s is).queue (all_queue_left n gone (is_in_queue s)) (is_in_queue u) (queue_exactly n gone x.queue (is_in_queue s) is.agrees.sets.queue)
      (pair_same (is_in_queue s) (is_in_queue u) (λ row e. (and_parts (is_waiting s n row) (not (is_ready_waiter s n)) e).0)
      (λ row. ap (λ (b : Bool). b && not (is_ready_waiter u n)) (unqueued row (numbered u.attempts row) refl)) (λ m row e. others.queue m row e))

  pub wait_for_ready_on : PairsAreExactly (w waits n why inbox x o s is).ready_waiters (is_in_ready_waiters u)
  wait_for_ready_on =
      exactly_by (w waits n why inbox x o s is).ready_waiters (all_queue_left n gone (is_in_ready_waiters s)) (is_in_ready_waiters u)
      (queue_exactly n gone x.ready_waiters (is_in_ready_waiters s) is.agrees.sets.ready_waiters)
      (pair_same (is_in_ready_waiters s) (is_in_ready_waiters u) (λ row e. (and_parts (is_waiting s n row) (is_ready_waiter s n) e).0)
      (λ row. ap (λ (b : Bool). b && is_ready_waiter u n) (unqueued row (numbered u.attempts row) refl)) (λ m row e. others.ready_waiters m row e))

  -- those that are outstanding
  owned_alike : (row : ℕ) → is_of_number n (numbered u.attempts row) ≡ is_of_number n (numbered s.attempts row)
  owned_alike row =
      owner_is n (numbered u.attempts row)
      ∙ ap (holds (λ (m : ℕ). m == n))
      (sym (numbered_map owner u.attempts row) ∙ ap (λ (l : List ℕ). numbered l row) (same waits n why inbox x o s is).owners ∙ numbered_map owner s.attempts row)
      ∙ sym (owner_is n (numbered s.attempts row))

  -- a row of the call that is not the one: it is outstanding no more
  in_by : (link row : ℕ) (q : Option Attempt) → numbered u.attempts row ≡ q → is_of_number n q ≡ true → (row == k.place) ≡ false
      → (b : Bool) → holds (λ (a : Attempt). is_outstanding a && (link_number a == link)) q ≡ b → b ≡ false
  in_by link row None at mine off false e = refl
  in_by link row None at mine off true e = absurd (cc)
  in_by link row (Some a) at mine off false e = refl
  in_by link zero (Some a) at mine off true e = absurd (cc)
  in_by link (suc i) (Some a) at mine off true e =
      let parts : (is_outstanding a ≡ true) × ((link_number a == link) ≡ true) = and_parts (is_outstanding a) (link_number a == link) e in
      let lives : is_live u (call waits n why inbox x o s is) a ≡ true
      = both_of (is_of (call waits n why inbox x o s is) a) (is_outstanding a || is_queued a u) (mine_now a ∙ mine) (or_left (is_outstanding a) (is_queued a u) parts.0) in
      let same_ : a ≡ one = lives_at i a at lives in
      let place : suc i ≡ k.place = sym (place_now i a at) ∙ ap (λ (z : Attempt). z.place) same_ in
      absurd (both_ways (suc i == k.place) off (eq-eqb (suc i) k.place place))

  -- and its pair was taken out
  placed_out : (link i : ℕ) (a : Attempt) (test : Test) (p : Option Placed) → a.row.placed ≡ p → slice_get s.attempts i ≡ Some a → goes a ≡ true
      → (is_some p && is_none a.row.ended) ≡ true → (option_map_or (λ (at : Placed). at.link) p 0 == link) ≡ true → all_out_left gone test link (suc i) ≡ false
  placed_out link i a test None e at passes out_ same_link = absurd (cc)
  placed_out link i a test (Some at) e here passes out_ same_link =
      subst (λ (m : ℕ). all_out_left gone test link m ≡ false) (place_was i a here)
      (subst (λ (m : ℕ). all_out_left gone test m a.place ≡ false) (eqb-true at.link link same_link) (out_out n goes s.attempts i a at test here passes e))

  out_by : (link row : ℕ) (test : Test) (q : Option Attempt) → numbered s.attempts row ≡ q → is_of_number n q ≡ true → (row == k.place) ≡ false
      → holds (λ (a : Attempt). is_outstanding a && (link_number a == link)) q ≡ true → all_out_left gone test link row ≡ false
  out_by link row test None at mine off h = absurd (cc)
  out_by link zero test (Some a) at mine off h = absurd (cc)
  out_by link (suc i) test (Some a) at mine off h =
      let parts : (is_outstanding a ≡ true) × ((link_number a == link) ≡ true) = and_parts (is_outstanding a) (link_number a == link) h in
      let turned : (k.place == a.place) ≡ false
      = other_place (k.place == a.place) (λ e. both_ways (suc i == k.place) off (eq-eqb (suc i) k.place (sym (place_was i a at) ∙ sym (eqb-true k.place a.place e)))) in
      let passes : goes a ≡ true
      = both_of (is_live s c a) (not (k.place == a.place))
      (both_of (is_of c a) (is_outstanding a || is_queued a s) (mine_is a ∙ mine) (or_left (is_outstanding a) (is_queued a s) parts.0)) (not_off (k.place == a.place) turned) in
      placed_out link i a test a.row.placed refl at passes parts.0 parts.1

  own_out : (link row : ℕ) (b : Bool) → is_in_outstanding s link row ≡ b → is_of_number n (numbered s.attempts row) ≡ true → (row == k.place) ≡ false
      → all_out_left gone (is_in_outstanding s) link row ≡ false
  own_out link row true e mine off = out_by link row (is_in_outstanding s) (numbered s.attempts row) refl mine off e
  own_out link row false e mine off = out_none gone (is_in_outstanding s) link row e

  -- no row that is given up is of this place
  other_row : (row i : ℕ) (a : Attempt) (b : Bool) → (a.place == row) ≡ b → slice_get s.attempts i ≡ Some a → goes a ≡ true
      → is_of_number n (numbered s.attempts row) ≡ false → (a.place == row) ≡ false
  other_row row i a true e at passes off =
      let here : numbered s.attempts row ≡ Some a = ap (numbered s.attempts) (sym (eqb-true a.place row e) ∙ place_was i a at) ∙ at in
      let lives : is_live s c a ≡ true = (and_parts (is_live s c a) (not (k.place == a.place)) passes).0 in
      let mine : is_of_number n (numbered s.attempts row) ≡ true
      = ap (is_of_number n) here ∙ sym (mine_is a) ∙ (and_parts (is_of c a) (is_outstanding a || is_queued a s) lives).0 in
      absurd (both_ways (is_of_number n (numbered s.attempts row)) off mine)
  other_row row i a false e at passes off = e

  not_it : (i : ℕ) (a : Attempt) (b : Bool) → (a.place == k.place) ≡ b → goes a ≡ true → (a.place == k.place) ≡ false
  not_it i a false e passes = e
  not_it i a true e passes =
      let off : not (k.place == a.place) ≡ true = (and_parts (is_live s c a) (not (k.place == a.place)) passes).1 in
      let on : not (k.place == a.place) ≡ false = ap not (eq-eqb k.place a.place (sym (eqb-true a.place k.place e))) in
      absurd (both_ways (not (k.place == a.place)) on off)

  one_pair : (link : ℕ) → all_out_left gone (is_in_outstanding s) link k.place ≡ is_in_outstanding u link k.place
  one_pair link =
      out_rest n goes k.place s.attempts (is_in_outstanding s) link (λ i a at passes. not_it i a (a.place == k.place) refl passes)
      ∙ ap (holds (λ (a : Attempt). is_outstanding a && (link_number a == link))) is.can.at
      ∙ sym (ap (holds (λ (a : Attempt). is_outstanding a && (link_number a == link))) one_there)

  mine_pair : (link row : ℕ) (b : Bool) → (row == k.place) ≡ b → is_of_number n (numbered u.attempts row) ≡ true
      → all_out_left gone (is_in_outstanding s) link row ≡ is_in_outstanding u link row
  mine_pair link row true e mine =
      subst (λ (m : ℕ). all_out_left gone (is_in_outstanding s) link m ≡ is_in_outstanding u link m) (sym (eqb-true row k.place e)) (one_pair link)
  mine_pair link row false e mine =
      own_out link row (is_in_outstanding s link row) refl (sym (owned_alike row) ∙ mine) e
      ∙ sym (in_by link row (numbered u.attempts row) refl mine e (is_in_outstanding u link row) refl)

  out_pair : (link row : ℕ) (b : Bool) → is_of_number n (numbered u.attempts row) ≡ b → all_out_left gone (is_in_outstanding s) link row ≡ is_in_outstanding u link row
  out_pair link row true e = mine_pair link row (row == k.place) refl e
  out_pair link row false e =
      out_rest n goes row s.attempts (is_in_outstanding s) link (λ i a at passes. other_row row i a (a.place == row) refl at passes (sym (owned_alike row) ∙ e))
      ∙ sym (others.outstanding link row e)

  pub outstanding_on : PairsAreExactly (w waits n why inbox x o s is).outstanding (is_in_outstanding u)
  outstanding_on =
      exactly_by (w waits n why inbox x o s is).outstanding (all_out_left gone (is_in_outstanding s)) (is_in_outstanding u)
      (out_exactly gone x.outstanding (is_in_outstanding s) is.agrees.sets.outstanding) (λ link row. out_pair link row (is_of_number n (numbered u.attempts row)) refl)
