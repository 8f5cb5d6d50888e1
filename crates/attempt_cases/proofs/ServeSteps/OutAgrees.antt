-- Channel and session agree once an attempt is placed, and no end is final that was not.
use Rattle.std.proofs.Common.{◌≡◌, ◌==◌, ◌&&◌, ◌||◌, ◌∷◌, ◌∙◌, not, ap, refl, subst, sym, Bool, true, false, List, [], Option, None, Some, ℕ, zero, suc, is_none, map, option_map}
use Rattle.std.proofs.lemmas.Bool.{and_parts, eqb-false}
use Rattle.std.specs.List.{list_any}
use Rattle.attempt_ledger.specs.Ends.{is_cut}
use Rattle.attempt_ledger.specs.declared.row.RowEnd.{RowEnd}
use Rattle.call_actions.proofs.Columns as columns
use Rattle.call_actions.proofs.Lists.{changed_away}
use Rattle.call_actions.proofs.PlacedFrames as placing
use Rattle.call_actions.specs.Sees.{Sees, is_live}
use Rattle.call_core.specs.Parts.{linked}
use Rattle.call_core.specs.Steps.{next_due}
use Rattle.call_core.specs.declared.live.LiveRow.{LiveRow}
use Rattle.call_core.specs.declared.state.CallState.{CallState}
use Rattle.channel_actions.proofs.Links.Settings.Slots.{put_away}
use Rattle.channel_actions.specs.Agrees.{Agrees}
use Rattle.channel_actions.specs.Calls.{HasSlot, lent_to}
use Rattle.call_cases.proofs.ConfiguredCalls.Lists.{draws_same, equal_numbers}
use Rattle.attempt_cases.proofs.MakingSteps.Quiescent.{any_live, some_row, three, three_back, two_off}
use Rattle.attempt_cases.proofs.MakingSteps.Lists.{holds_alike, holds_changed}
use Rattle.attempt_cases.proofs.ServeSteps.Lasts.{any_at, none_of, same_some}
use Rattle.attempt_cases.proofs.ServeSteps.OutBase as base
use Rattle.attempt_cases.proofs.ServeSteps.OutBase.{OutLaws, OutNext}
use Rattle.attempt_cases.proofs.ServeSteps.OutBooks.{apart, books_apart, buckets_now, columns_now, count}
use Rattle.attempt_cases.proofs.ServeSteps.OutCall.{kept, own_sees}
use Rattle.attempt_cases.proofs.ServeSteps.OutLinks.{links_now}
use Rattle.attempt_cases.proofs.ServeSteps.OutServes.{own_slot}
use Rattle.attempt_cases.proofs.ServeSteps.OutSets.{sets_now}
use Rattle.channel_core.specs.Books.{slot_at}
use Rattle.channel_core.specs.States.{StateSeen}
use Rattle.channel_core.specs.declared.state.slots.CallSlot.{CallSlot}
use Rattle.grpc_base.specs.Codes.{has_code}
use Rattle.grpc_base.specs.declared.plan.CallPlan.TheVariants as plan
use Rattle.grpc_base.specs.declared.plan.CallPlan.{CallPlan}
use Rattle.net_actions.specs.Sees.{Sees as Sees_net}
use Rattle.session_actions.specs.Attempts.{commitment, counts_by, is_counted, is_followed, is_to_follow}
use Rattle.session_actions.specs.Commitments.{is_final_end, is_final_in, is_free_call}
use Rattle.session_actions.specs.Configs.{plan_of}
use Rattle.session_actions.specs.DueAttempts as session
use Rattle.session_actions.specs.DueAttempts.{has_going, is_final, is_final_by, last_counted}
use Rattle.session_actions.specs.Words.{holds, is_number, numbered}
use Rattle.session_actions.specs.declared.attempt.Attempt.{Attempt}
use Rattle.session_actions.specs.declared.call.Call.{Call}
use Rattle.session_actions.specs.declared.seen.Seen.{Seen}

none_third : (a b : Bool) → (a && b && false) ≡ false
none_third true true = refl
none_third true false = refl
none_third false b = refl

module _ (laws : OutLaws) (x : StateSeen) (s : Seen) (is : OutNext x s) where
  abbrev c : Call
  c = is.call

  abbrev g : Attempt → Attempt
  g = base.g x s is

  abbrev t : Seen
  t = base.t x s is

  abbrev c1 : Call
  c1 = base.c1 x s is

  abbrev y : StateSeen
  y = base.y x s is

  net_now : Sees_net t y.net
  net_now = subst (λ (u : Seen). Sees_net u x.net) (base.after_is x s is) (laws.frames.net s (base.does_it x s is) x.net refl is.agrees.net)

  pub agrees_now : Agrees (base.y x s is) (base.t x s is)
  agrees_now = record {
    clock = record { entry_is = is.agrees.clock.entry_is; moment = is.agrees.clock.moment; draws = draws_same s.current x y refl refl is.agrees.clock.draws };
    columns = columns_now x s is laws;
    configs = record {
      authority = is.agrees.configs.authority;
      shut = is.agrees.configs.shut;
      held = is.agrees.configs.held;
      unconfigured = is.agrees.configs.unconfigured;
      policy = is.agrees.configs.policy;
    };
    buckets = buckets_now x s is laws;
    calls = laws.frames.calls c.number x y s t (apart x s is laws) (books_apart x s is laws) is.agrees.calls (count x s is) (own_slot x s is laws);
    links = links_now x s is laws;
    net = net_now;
    orderly = is.agrees.orderly;
    sets = sets_now x s is laws;
    kept = kept x s is laws;
  }

  -- ends count as before
  counts_same : (q : Attempt) (e : RowEnd) → counts_by (g q) t e ≡ counts_by q s e
  counts_same q e =
      ap (λ (w : Bool). (not (is_cut e.cause) && not (is_followed (g q) t)) && not (not (is_followed (g q) t) && w))
      (holds_changed (base.noted x s is) c.number s.calls (λ (k : Call). is_to_follow k e.cause e.unseen t) (λ k. refl) q.row.call)
      ∙ columns.counts_same s (base.pl x s is) (base.en x s is) (λ (z : Attempt). false) (placing.writes s (base.pl x s is)) q e

  counted_same : (q : Attempt) → is_counted (g q) t ≡ is_counted q s
  counted_same q = holds_alike (counts_by (g q) t) (counts_by q s) (counts_same q) q.row.ended

  free_by : (o : Option Attempt) → is_none (option_map g o) ≡ is_none o
  free_by None = refl
  free_by (Some q) = refl

  free_then : (k : Call) → is_free_call t k ≡ is_free_call s k
  free_then k = ap (λ (o : Option Attempt). is_none k.end && is_none o) (base.commitment_now x s is k) ∙ ap (λ (q : Bool). is_none k.end && q) (free_by (commitment k s))

  free_of : (k : Call) → is_free_call s k ≡ true → commitment k s ≡ None
  free_of k e = none_of (commitment k s) (and_parts (is_none k.end) (is_none (commitment k s)) e).1

  none_then : (k : Call) → commitment k s ≡ None → commitment k t ≡ None
  none_then k e = base.commitment_now x s is k ∙ ap (option_map g) e

  -- what a final end asks of a hedged call: of another call all is as before, and of this one an attempt goes on
  final_other : (k : Call) (m n : CallSlot) → Sees s k (lent_to x s m) → Sees t k (lent_to y t n) → n.call ≡ m.call → commitment k s ≡ None → (q : Attempt) (e : RowEnd) (p : CallPlan)
      → is_final_by p k q s e ≡ false → is_final_by p k (g q) t e ≡ false
  final_other k m n before after same none q e plan.None off = off
  final_other k m n before after same none q e (plan.Retry p) off = off
  final_other k m n before after same none q e (plan.Hedge p) off =
      let was : last_counted k s ≡ m.call.attempts.last = before.attempts.last (sym before.attempts.committed ∙ ap (option_map (λ (z : Attempt). z.place)) none) in
      let now_is : last_counted k t ≡ n.call.attempts.last
      = after.attempts.last (sym after.attempts.committed ∙ ap (option_map (λ (z : Attempt). z.place)) (none_then k none)) in
      let counted : last_counted k t ≡ last_counted k s = now_is ∙ ap (λ (z : CallState). z.attempts.last) same ∙ sym was in
      let due : session.next_due k t ≡ session.next_due k s
      = laws.dues t k (lent_to y t n) after ∙ ap next_due same ∙ sym (laws.dues s k (lent_to x s m) before) in
      let going : has_going k t ≡ has_going k s
      = any_live (is_live t k) t.attempts ∙ ap some_row (after.live ∙ ap (λ (z : CallState). z.live) same ∙ sym before.live) ∙ sym (any_live (is_live s k) s.attempts) in
      ap (λ (z : Option ℕ). not (has_code p.codes e.code) || (is_number q.place z && is_none (session.next_due k t) && not (has_going k t))) counted
      ∙ ap (λ (z : Option ℕ). not (has_code p.codes e.code) || (is_number q.place (last_counted k s) && is_none z && not (has_going k t))) due
      ∙ ap (λ (z : Bool). not (has_code p.codes e.code) || (is_number q.place (last_counted k s) && is_none (session.next_due k s) && not z)) going ∙ off

  some_linked : (rows : List LiveRow) → some_row (map (linked is.row is.at.link) rows) ≡ some_row rows
  some_linked [] = refl
  some_linked (r ∷ rows) = refl

  any_alive : (n : ℕ) → numbered s.attempts n ≡ Some is.attempt → list_any (is_live s c) s.attempts ≡ true
  any_alive zero got = absurd (let bad : None ≡ Some is.attempt = got in (cc))
  any_alive (suc i) got = any_at (is_live s c) s.attempts i is.attempt got (base.lives x s is)

  goes_on : has_going c1 t ≡ true
  goes_on =
      any_live (is_live t c1) t.attempts ∙ ap some_row (own_sees x s is laws).live ∙ some_linked is.slot.call.live
      ∙ ap some_row (sym is.sees.serves.sees.live) ∙ sym (any_live (is_live s c) s.attempts) ∙ any_alive is.row is.here

  final_own : (q : Attempt) (e : RowEnd) (p : CallPlan) → is_final_by p c q s e ≡ false → is_final_by p c1 (g q) t e ≡ false
  final_own q e plan.None off = off
  final_own q e (plan.Retry p) off = off
  final_own q e (plan.Hedge p) off =
      let code : not (has_code p.codes e.code) ≡ false = (two_off (not (has_code p.codes e.code)) (is_number q.place (last_counted c s) && is_none (session.next_due c s) && not (has_going c s)) off).0 in
      ap (λ (z : Bool). not (has_code p.codes e.code) || (is_number q.place (last_counted c1 t) && is_none (session.next_due c1 t) && not z)) goes_on
      ∙ ap (λ (z : Bool). z || (is_number q.place (last_counted c1 t) && is_none (session.next_due c1 t) && false)) code
      ∙ none_third (is_number q.place (last_counted c1 t)) (is_none (session.next_due c1 t))

  ended_off : (k n : Call) (q : Attempt) → plan_of n t ≡ plan_of k s → ((e : RowEnd) → is_final_by (plan_of k s) k q s e ≡ false → is_final_by (plan_of k s) n (g q) t e ≡ false)
      → (r : Option RowEnd) → holds (is_final_by (plan_of k s) k q s) r ≡ false → holds (is_final_by (plan_of n t) n (g q) t) r ≡ false
  ended_off k n q same each None off = refl
  ended_off k n q same each (Some e) off = ap (λ (p : CallPlan). is_final_by p n (g q) t e) same ∙ each e off

  other_final : (j : ℕ) (k : Call) → (j == c.number) ≡ false → numbered s.calls j ≡ Some k → numbered t.calls j ≡ Some k → (q : Attempt)
      → is_final_in q s k ≡ false → is_final_in (g q) t k ≡ false
  other_final j k away got now_is q off =
      let before : HasSlot x s k j = is.agrees.calls.each j k got in
      let after : HasSlot y t k j = agrees_now.calls.each j k now_is in
      let same : after.slot ≡ before.slot
      = same_some after.slot before.slot (slot_at y.book j) after.there (put_away x.book.calls c.number j is.slot (base.slot2 x s is) is.slot_there away ∙ before.there) in
      three (is_free_call t k) (is_counted (g q) t) (is_final k (g q) t) (λ is_free counts.
      let free_before : is_free_call s k ≡ true = sym (free_then k) ∙ is_free in
      let counts_before : is_counted q s ≡ true = sym (counted_same q) ∙ counts in
      ended_off k k q refl
      (λ e. final_other k before.slot after.slot before.sees.serves.sees after.sees.serves.sees (ap (λ (z : CallSlot). z.call) same) (free_of k free_before) q e (plan_of k s)) q.row.ended
      (three_back (is_free_call s k) (is_counted q s) (is_final k q s) off free_before counts_before))

  own_final : (q : Attempt) → is_final_in q s c ≡ false → is_final_in (g q) t c1 ≡ false
  own_final q off =
      three (is_free_call t c1) (is_counted (g q) t) (is_final c1 (g q) t) (λ is_free counts.
      let free_before : is_free_call s c ≡ true = sym (free_then c) ∙ is_free in
      let counts_before : is_counted q s ≡ true = sym (counted_same q) ∙ counts in
      ended_off c c1 q refl (λ e. final_own q e (plan_of c s)) q.row.ended
      (three_back (is_free_call s c) (is_counted q s) (is_final c q s) off free_before counts_before))

  final_by : (q : Attempt) (w : Bool) → (q.row.call == c.number) ≡ w → (r : Option Call) → numbered s.calls q.row.call ≡ r
      → holds (λ (k : Call). is_final_in q s k) r ≡ false → is_final_end t (g q) ≡ false
  final_by q true e r got off =
      let there_is : q.row.call ≡ c.number = equal_numbers q.row.call c.number e in
      let was : r ≡ Some c = sym got ∙ ap (numbered s.calls) there_is ∙ is.there in
      ap (λ (n : ℕ). holds (λ (k : Call). is_final_in (g q) t k) (numbered t.calls n)) there_is ∙ ap (holds (λ (k : Call). is_final_in (g q) t k)) (base.own_now x s is)
      ∙ own_final q (sym (ap (holds (λ (k : Call). is_final_in q s k)) was) ∙ off)
  final_by q false e None got off =
      ap (holds (λ (k : Call). is_final_in (g q) t k)) (changed_away (base.noted x s is) c.number q.row.call s.calls (eqb-false q.row.call c.number e) ∙ got)
  final_by q false e (Some k) got off =
      let now_is : numbered t.calls q.row.call ≡ Some k = changed_away (base.noted x s is) c.number q.row.call s.calls (eqb-false q.row.call c.number e) ∙ got in
      ap (holds (λ (k : Call). is_final_in (g q) t k)) now_is ∙ other_final q.row.call k e got now_is q off

  none_final : (xs : List Attempt) → list_any (is_final_end s) xs ≡ false → list_any (is_final_end t) (map g xs) ≡ false
  none_final [] none = refl
  none_final (q ∷ xs) none =
      let both = two_off (is_final_end s q) (list_any (is_final_end s) xs) none in
      ap (λ (w : Bool). w || list_any (is_final_end t) (map g xs)) (final_by q (q.row.call == c.number) refl (numbered s.calls q.row.call) refl both.0) ∙ none_final xs both.1

  pub final_now : list_any (is_final_end s) s.attempts ≡ false → list_any (is_final_end (base.t x s is)) (base.t x s is).attempts ≡ false
  final_now none = none_final s.attempts none
