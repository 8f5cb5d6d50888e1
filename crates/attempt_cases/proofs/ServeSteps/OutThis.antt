-- An attempt of a call waits for a pick: where its call is committed, it is committed to this attempt.
use Rattle.std.proofs.Common.{◌≡◌, ◌⊎◌, ◌+◌, ◌<◌, ◌≤◌, ◌==◌, ◌&&◌, ◌||◌, ◌∙◌, not, ap, arith, eq-eqb, eqb-true, inl, inr, refl, sym, Bool, true, false, Option, None, Some, ℕ, zero, suc, is_none, is_some, nat_lt, slice_get}
use Rattle.std.proofs.lemmas.Bool.{and_parts}
use Rattle.std.specs.List.{list_any}
use Rattle.attempt_ledger.specs.declared.ledger.CallEnd.{CallEnd}
use Rattle.attempt_ledger.specs.declared.row.RowEnd.{RowEnd}
use Rattle.call_actions.proofs.Lists.{numbered_not}
use Rattle.call_actions.proofs.Places.{place_is}
use Rattle.call_actions.specs.Order.{AttemptsAreNumbered, goes_on_followed}
use Rattle.attempt_cases.proofs.MakingSteps.Quiescent.{two_off}
use Rattle.attempt_cases.proofs.ServeSteps.Lasts.{IsLast, any_at, index_is, last_is, lower, none_of, not_false, not_true, same_some, three_ways, unsome}
use Rattle.session_actions.specs.Attempts.{call_of, commitment, is_commitment, is_followed, is_later_of, is_of, is_over, is_over_in, is_queued}
use Rattle.session_actions.specs.Commitments.{is_inherited, is_inherited_by, is_inherited_in}
use Rattle.session_actions.specs.Words.{holds, numbered}
use Rattle.session_actions.specs.declared.attempt.Attempt.{Attempt}
use Rattle.session_actions.specs.declared.call.Call.{Call}
use Rattle.session_actions.specs.declared.seen.Seen.{Seen}

module _ (s : Seen) (c : Call) (row : ℕ) (a : Attempt) (there : numbered s.calls c.number ≡ Some c) (here : numbered s.attempts row ≡ Some a) (own : is_of c a ≡ true)
    (queued : is_queued a s ≡ true) (places : AttemptsAreNumbered 1 s.attempts) (unfollowed : list_any (goes_on_followed s c) s.attempts ≡ false) (uninherited : list_any (is_inherited s) s.attempts ≡ false) where
  -- it waits
  waits_parts : ((is_none a.row.placed && is_none a.row.ended) ≡ true) × (not (is_over a s) ≡ true)
  waits_parts = and_parts (is_none a.row.placed && is_none a.row.ended) (not (is_over a s)) queued

  pub unplaced : a.row.placed ≡ None
  unplaced = none_of a.row.placed (and_parts (is_none a.row.placed) (is_none a.row.ended) waits_parts.0).0

  pub unended : a.row.ended ≡ None
  unended = none_of a.row.ended (and_parts (is_none a.row.placed) (is_none a.row.ended) waits_parts.0).1

  pub call_is : call_of a s ≡ Some c
  call_is = ap (numbered s.calls) (eqb-true a.row.call c.number own) ∙ there

  not_over : (is_some c.end || holds (λ (k : Attempt). not (k.row.number == a.row.number)) (commitment c s)) ≡ false
  not_over = sym (ap (holds (λ (k : Call). is_over_in k a s)) call_is) ∙ not_true (is_over a s) waits_parts.1

  pub is_open : c.end ≡ None
  is_open = unsome c.end (two_off (is_some c.end) (holds (λ (k : Attempt). not (k.row.number == a.row.number)) (commitment c s)) not_over).0

  pub its_place : a.place ≡ row
  its_place = place_is row s.attempts a places here

  -- the attempt of an index
  pub at_row : (i : ℕ) (z : Attempt) → slice_get s.attempts i ≡ Some z → (z.place == row) ≡ true → z ≡ a
  at_row i z got same =
      let place : z.place ≡ suc i = index_is s.attempts 0 i z places got ∙ (let up : suc 0 + i ≡ suc i = omega arith in up) in
      same_some z a (numbered s.attempts row) (ap (numbered s.attempts) (sym (eqb-true z.place row same) ∙ place) ∙ got) here

  -- the call is committed to no other attempt
  number_same : (k : Attempt) → commitment c s ≡ Some k → (k.row.number == a.row.number) ≡ true
  number_same k e =
      not_false (k.row.number == a.row.number)
      (sym (ap (holds (λ (q : Attempt). not (q.row.number == a.row.number))) e)
      ∙ (two_off (is_some c.end) (holds (λ (q : Attempt). not (q.row.number == a.row.number)) (commitment c s)) not_over).1)

  module _ (k : Attempt) (e : commitment c s ≡ Some k) where
    last : IsLast (is_commitment c) s.attempts k
    last = last_is (is_commitment c) s.attempts k e

    k_place : k.place ≡ suc last.index
    k_place = index_is s.attempts 0 last.index k places last.here ∙ (let up : suc 0 + last.index ≡ suc last.index = omega arith in up)

    k_parts : (is_of c k ≡ true) × (is_some k.row.committed ≡ true)
    k_parts = and_parts (is_of c k) (is_some k.row.committed) last.passes

    a_index : (n : ℕ) → numbered s.attempts n ≡ Some a → is_commitment c a ≡ true → n ≤ k.place
    a_index zero got passes = omega arith
    a_index (suc i) got passes =
        let less : i ≤ last.index = last.last i a got passes in
        let kp : k.place ≡ suc last.index = k_place in omega (arith, less, kp)

    before_by : (o : Option ℕ) → a.row.committed ≡ o → nat_lt k.place row ≡ true → ⊥
    before_by (Some n) was less =
        let commits : is_commitment c a ≡ true = ap (λ (b : Bool). b && is_some a.row.committed) own ∙ ap (λ (o : Option ℕ). is_some o) was in
        let up : row ≤ k.place = a_index row here commits in
        let lo : k.place < row = lower k.place row less in omega (arith, up, lo)
    before_by None was less =
        let inherits : is_inherited s a ≡ true
        = ap (λ (o : Option ℕ). is_none o && holds (is_inherited_in a s) (call_of a s)) was ∙ ap (holds (is_inherited_in a s)) call_is
        ∙ ap (λ (o : Option CallEnd). is_none o && holds (is_inherited_by a) (commitment c s)) is_open ∙ ap (holds (is_inherited_by a)) e
        ∙ ap (λ (b : Bool). b && nat_lt k.place a.place) (number_same k e) ∙ ap (nat_lt k.place) its_place ∙ less in
        let off : is_inherited s a ≡ false = numbered_not (is_inherited s) s.attempts row a uninherited here in
        let bad : true ≡ false = sym inherits ∙ off in (cc)

    after_not : nat_lt row k.place ≡ true → ⊥
    after_not less =
        let calls : (k.row.call == a.row.call) ≡ true = eq-eqb k.row.call a.row.call (eqb-true k.row.call c.number k_parts.0 ∙ sym (eqb-true a.row.call c.number own)) in
        let later : is_later_of a k ≡ true
        = ap (λ (b : Bool). (b && (k.row.number == a.row.number)) && nat_lt a.place k.place) calls ∙ ap (λ (b : Bool). b && nat_lt a.place k.place) (number_same k e)
        ∙ ap (λ (n : ℕ). nat_lt n k.place) its_place ∙ less in
        let follows : is_followed a s ≡ true = any_at (is_later_of a) s.attempts last.index k last.here later in
        let goes : goes_on_followed s c a ≡ true
        = ap (λ (b : Bool). (b && is_none a.row.ended) && is_followed a s) own ∙ ap (λ (o : Option RowEnd). is_none o && is_followed a s) unended ∙ follows in
        let off : goes_on_followed s c a ≡ false = numbered_not (goes_on_followed s c) s.attempts row a unfollowed here in
        let bad : true ≡ false = sym goes ∙ off in (cc)

    by_place : (k.place ≡ row) ⊎ ((nat_lt k.place row ≡ true) ⊎ (nat_lt row k.place ≡ true)) → k ≡ a
    by_place (inl same) = at_row last.index k last.here (eq-eqb k.place row same)
    by_place (inr (inl less)) = absurd (before_by a.row.committed refl less)
    by_place (inr (inr less)) = absurd (after_not less)

    pub is_this : k ≡ a
    is_this = by_place (three_ways k.place row)
