-- A column of one attempt of a call is written: it is placed, ends, or is committed to. What that leaves of the turn of the call's attempts.
use Rattle.attempt_ledger.specs.Numbering.{is_transparent}
use Rattle.attempt_ledger.specs.TransparentRows.{is_by_peer, is_refused, is_unsent}
use Rattle.attempt_ledger.specs.declared.row.Placed.{Placed}
use Rattle.attempt_ledger.specs.declared.row.RowCause.{RowCause}
use Rattle.attempt_ledger.specs.declared.row.RowEnd.{RowEnd}
use Rattle.call_actions.specs.Order.{IsInTurn, goes_on_followed, goes_on_older, is_retried}
use Rattle.call_actions.proofs.CallsApart.Seen.{counted_by}
use Rattle.call_actions.specs.CallsApart.Apart.{IsBook, run_number}
use Rattle.call_actions.proofs.CallsInTurn.Changes.{any_keep, count_keep, none_keep, none_last, none_was}
use Rattle.call_actions.specs.CallsInTurn.Turns.{IsSteady, waits}
use Rattle.grpc_base.specs.declared.plan.CallPlan.{CallPlan}
use Rattle.service_config.specs.Choice.{chosen_for}
use Rattle.session_actions.specs.Attempts.{call_of, commitment, is_commitment, is_later_of, is_of, is_to_follow, of_its_call, wants_follower, wants_follower_by, was_refused, was_retried_so, is_followed}
use Rattle.session_actions.specs.Configs.{no_choice, plan_of}
use Rattle.session_actions.specs.DueAttempts.{attempts_made}
use Rattle.session_actions.specs.Words.{changed, holds, numbered}
use Rattle.session_actions.specs.declared.attempt.Attempt.{Attempt}
use Rattle.session_actions.specs.declared.call.Call.{Call}
use Rattle.session_actions.specs.declared.call.Mark.{Mark}
use Rattle.session_actions.specs.declared.config.HeldConfig.{HeldConfig}
use Rattle.session_actions.specs.declared.seen.Seen.{Seen}
use Rattle.std.proofs.Common.{Bool, List, None, Option, Some, ap, count_by, eqb-true, false, is_none, is_some, not, option_and_then, refl, sym, true, ℕ, ◌&&◌, ◌==◌, ◌||◌, ◌∙◌, ◌≡◌}
use Rattle.std.proofs.lemmas.Bool.{and_parts, and_from}
use Rattle.std.specs.List.{list_any}
use Rattle.std.specs.Option.{option_map_or}

-- connectives
three_so : (x y v z w : Bool) → (v ≡ true → y ≡ true) → w ≡ z → ((x && y) && z) ≡ false → ((x && v) && w) ≡ false
three_so false y v z w wide same e = refl
three_so true y false z w wide same e = refl
three_so true y true z w wide same e = same ∙ sym (ap (λ (b : Bool). b && z) (wide refl)) ∙ e

four_so : (x y v z w u r : Bool) → (v ≡ true → y ≡ true) → w ≡ z → r ≡ u → (((x && y) && z) && u) ≡ false → (((x && v) && w) && r) ≡ false
four_so false y v z w u r wide same alike e = refl
four_so true y false z w u r wide same alike e = refl
four_so true y true z w u r wide same alike e =
    ap (λ (b : Bool). b && r) same ∙ ap (λ (b : Bool). z && b) alike ∙ sym (ap (λ (b : Bool). (b && z) && u) (wide refl)) ∙ e

pub follow_so_by : (u v n m r : Bool) → (m ≡ true → n ≡ true) → (u || ((v && n) && not r)) ≡ false → (u || ((v && m) && not r)) ≡ false
follow_so_by true v n m r wide e = absurd (cc)
follow_so_by false false n m r wide e = refl
follow_so_by false true n false r wide e = refl
follow_so_by false true n true r wide e = sym (ap (λ (b : Bool). b && not r) (wide refl)) ∙ e

pub and_so : (x y z : Bool) → (x ≡ true → y ≡ false → z ≡ false) → (x && y) ≡ false → (x && z) ≡ false
and_so true y z so e = so refl e
and_so false y z so e = refl

pub no_follower : (g h w v : Bool) → h ≡ g → (w ≡ false → v ≡ false) → (not g && w) ≡ false → (not h && v) ≡ false
no_follower true h w v same so e = ap (λ (b : Bool). not b && v) same
no_follower false h w v same so e = ap (λ (b : Bool). not b && v) same ∙ so e

no_both : (x y : Bool) → (x && (y && false)) ≡ false
no_both true true = refl
no_both true false = refl
no_both false y = refl

not_of : (b : Bool) → b ≡ false → not b ≡ true
not_of false e = refl
not_of true e = absurd (cc)

not_true : (b : Bool) → not b ≡ true → b ≡ false
not_true false e = refl
not_true true e = absurd (cc)

abbrev pub column : (Attempt → Option Placed) → (Attempt → Option RowEnd) → (Attempt → Option ℕ) → Attempt → Attempt
column pl en co q = record q { row = record q.row { placed = pl q; ended = en q; committed = co q } }

abbrev pub with_marks : List Mark → Call → Call
with_marks marks c = record c { marks = marks }

module _ (s t : Seen) (c : Call) (marks : List Mark) (pl : Attempt → Option Placed) (en : Attempt → Option RowEnd) (co : Attempt → Option ℕ) (place : ℕ) (a : Attempt)
    (book : IsBook t) (own : numbered s.calls c.number ≡ Some c) (own_then : numbered t.calls c.number ≡ Some (with_marks marks c))
    (attempts : t.attempts ≡ changed (column pl en co) place s.attempts) (configs : t.configs ≡ s.configs)
    (got : numbered s.attempts place ≡ Some a) (mine : is_of c a ≡ true) (going : is_none (en a) ≡ true → is_none a.row.ended ≡ true)
    (refused : (holds is_refused (en a) && is_followed a s) ≡ (was_refused a && is_followed a s)) (commits : is_some a.row.committed ≡ true → is_some (co a) ≡ true)
    (steady : IsSteady s c) where
  abbrev f : Attempt → Attempt
  f q = column pl en co q

  abbrev d : Call
  d = with_marks marks c

  turn : IsInTurn s c
  turn = steady.turn

  plan_now : plan_of d t ≡ plan_of c s
  plan_now = ap (λ (l : List HeldConfig). (option_map_or (λ (h : HeldConfig). chosen_for h.config c.request.path) (option_and_then (numbered l) c.config) no_choice).plan) configs

  made_now : attempts_made d t ≡ attempts_made c s
  made_now =
      ap (count_by (λ (q : Attempt). is_of c q && not (is_transparent q.row.kind))) attempts
      ∙ count_keep (λ (q : Attempt). is_of c q && not (is_transparent q.row.kind)) f (λ q. refl) s.attempts place

  pub followed_now : (q : Attempt) → is_followed q t ≡ is_followed q s
  followed_now q = ap (list_any (is_later_of q)) attempts ∙ any_keep (is_later_of q) (is_later_of q) f a (λ x. refl) refl s.attempts place got

  refused_here : (b : Bool) → (b && (holds is_refused (en a) && is_followed a s)) ≡ (b && (was_refused a && is_followed a s))
  refused_here b = ap (λ (x : Bool). b && x) refused

  three_flat : (b x y : Bool) → ((b && x) && y) ≡ (b && (x && y))
  three_flat true x y = refl
  three_flat false x y = refl

  retried_now : was_retried_so d t ≡ was_retried_so c s
  retried_now =
      ap (list_any (λ (q : Attempt). is_of c q && was_refused q && is_followed q t)) attempts
      ∙ any_keep (λ (q : Attempt). is_of c q && was_refused q && is_followed q s) (λ (q : Attempt). is_of c q && was_refused q && is_followed q t) f a
      (λ q. ap (λ (b : Bool). (is_of c q && was_refused q) && b) (followed_now q))
      (ap (λ (b : Bool). (is_of c a && holds is_refused (en a)) && b) (followed_now a) ∙ three_flat (is_of c a) (holds is_refused (en a)) (is_followed a s)
      ∙ refused_here (is_of c a) ∙ sym (three_flat (is_of c a) (was_refused a) (is_followed a s)))
      s.attempts place got

  -- a call that was committed is so still
  here_so : is_commitment c a ≡ true → is_commitment c (f a) ≡ true
  here_so e =
      let parts : (is_of c a ≡ true) × (is_some a.row.committed ≡ true) = and_parts (is_of c a) (is_some a.row.committed) e in
      and_from (is_of c a) (is_some (co a)) parts.0 (commits parts.1)

  committed_so : list_any (is_commitment d) t.attempts ≡ false → list_any (is_commitment c) s.attempts ≡ false
  committed_so none =
      none_was (is_commitment c) f a here_so s.attempts place got (sym (ap (list_any (is_commitment c)) attempts) ∙ none)

  free_so : is_none (commitment d t) ≡ true → is_none (commitment c s) ≡ true
  free_so free =
      none_last (is_commitment c) s.attempts
      ∙ not_of (list_any (is_commitment c) s.attempts) (committed_so (not_true (list_any (is_commitment d) t.attempts) (sym (none_last (is_commitment d) t.attempts) ∙ free)))

  pub follow_so : (why : RowCause) (unseen : Bool) → is_to_follow c why unseen s ≡ false → is_to_follow d why unseen t ≡ false
  follow_so why unseen e =
      ap (λ (b : Bool). is_unsent why || (unseen && is_by_peer why && is_none (commitment d t) && not b)) retried_now
      ∙ follow_so_by (is_unsent why) (unseen && is_by_peer why) (is_none (commitment c s)) (is_none (commitment d t)) (was_retried_so c s) free_so e

  pub call_now : (q : Attempt) → is_of c q ≡ true → call_of q t ≡ Some d
  call_now q own_q = ap (numbered t.calls) (eqb-true q.row.call c.number own_q) ∙ own_then

  call_was : (q : Attempt) → is_of c q ≡ true → call_of q s ≡ Some c
  call_was q own_q = ap (numbered s.calls) (eqb-true q.row.call c.number own_q) ∙ own

  wants_by : (q : Attempt) → is_of c q ≡ true → (o : Option RowEnd) → holds (wants_follower_by q s) o ≡ false → holds (wants_follower_by q t) o ≡ false
  wants_by q own_q None e = refl
  wants_by q own_q (Some z) e =
      no_follower (is_followed q s) (is_followed q t) (of_its_call (λ (k : Call). is_to_follow k z.cause z.unseen s) q s)
      (of_its_call (λ (k : Call). is_to_follow k z.cause z.unseen t) q t) (followed_now q)
      (λ none. ap (holds (λ (k : Call). is_to_follow k z.cause z.unseen t)) (call_now q own_q)
      ∙ follow_so z.cause z.unseen (sym (ap (holds (λ (k : Call). is_to_follow k z.cause z.unseen s)) (call_was q own_q)) ∙ none)) e

  pub waits_so : (q : Attempt) → waits s c q ≡ false → waits t d q ≡ false
  waits_so q e = and_so (is_of c q) (wants_follower q s) (wants_follower q t) (λ own_q none. wants_by q own_q q.row.ended none) e

  pub turn_now : IsInTurn t d
  turn_now = record {
    unfollowed = ap (list_any (goes_on_followed t d)) attempts
        ∙ none_keep (goes_on_followed s c) (goes_on_followed t d) f a
        (λ q e. ap (λ (b : Bool). (is_of c q && is_none q.row.ended) && b) (followed_now q) ∙ e)
        (λ e. three_so (is_of c a) (is_none a.row.ended) (is_none (en a)) (is_followed a s) (is_followed a t) going (followed_now a) e) s.attempts place got turn.unfollowed;
    latest = ap (list_any (goes_on_older t d)) attempts
        ∙ none_keep (goes_on_older s c) (goes_on_older t d) f a
        (λ q e. ap (λ (p : CallPlan). ((is_of c q && is_none q.row.ended) && is_retried p) && not (q.row.number == attempts_made d t)) plan_now
        ∙ ap (λ (n : ℕ). ((is_of c q && is_none q.row.ended) && is_retried (plan_of c s)) && not (q.row.number == n)) made_now ∙ e)
        (λ e. four_so (is_of c a) (is_none a.row.ended) (is_none (en a)) (is_retried (plan_of c s)) (is_retried (plan_of d t)) (not (a.row.number == attempts_made c s))
        (not (a.row.number == attempts_made d t)) going (ap is_retried plan_now) (ap (λ (n : ℕ). not (a.row.number == n)) made_now) e) s.attempts place got turn.latest;
    numbers = ap (list_any (λ (q : Attempt). is_of c q && (q.row.number == 0))) attempts
        ∙ any_keep (λ (q : Attempt). is_of c q && (q.row.number == 0)) (λ (q : Attempt). is_of c q && (q.row.number == 0)) f a (λ q. refl) refl s.attempts place got ∙ turn.numbers;
    counted = counted_by t book.counted (run_number d t);
  }

  pub quiescent_now : waits t d (f a) ≡ false → list_any (waits t d) t.attempts ≡ false
  quiescent_now here =
      ap (list_any (waits t d)) attempts ∙ none_keep (waits s c) (waits t d) f a waits_so (λ e. here) s.attempts place got steady.quiescent

  -- at the attempt itself: where its end, if it has one, is as it was; or where no retry is to follow its end
  pub waits_here : en a ≡ a.row.ended → waits s c a ≡ false → waits t d (f a) ≡ false
  waits_here same e =
      ap (λ (o : Option RowEnd). is_of c a && holds (wants_follower_by (f a) t) o) same ∙ waits_so a e

  pub ends_here : (e : RowEnd) → en a ≡ Some e → is_to_follow c e.cause e.unseen s ≡ false → waits t d (f a) ≡ false
  ends_here e same free =
      ap (λ (o : Option RowEnd). is_of c a && holds (wants_follower_by (f a) t) o) same
      ∙ ap (λ (o : Option Call). is_of c a && (not (is_followed a t) && holds (λ (k : Call). is_to_follow k e.cause e.unseen t) o)) (call_now a mine)
      ∙ ap (λ (b : Bool). is_of c a && (not (is_followed a t) && b)) (follow_so e.cause e.unseen free)
      ∙ no_both (is_of c a) (not (is_followed a t))
