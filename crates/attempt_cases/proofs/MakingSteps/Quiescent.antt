-- Once an attempt that is due was made, nothing follows at once: it has no commitment to take over, and no end is final that was not.
use Rattle.std.proofs.Common.{◌≡◌, ◌≤◌, ◌∙◌, ◌==◌, ◌&&◌, ◌||◌, ◌+◌, ◌++◌, ◌∷◌, Bool, true, false, not, List, [], Option, None, Some, ℕ, ap, arith, cond, refl, sym, subst, filter, is_none, is_some, length, map, nat_lt}
use Rattle.std.proofs.lemmas.Bool.{and_parts, eqb-false}
use Rattle.std.proofs.lemmas.Bool.Decides.{nat_tests}
use Rattle.std.proofs.lemmas.List.Folds.{list_any-append}
use Rattle.std.specs.List.{list_any}
use Rattle.std.specs.Option.{option_map, option_map_or}
use Rattle.attempt_ledger.specs.Ends.{is_cut}
use Rattle.attempt_ledger.specs.TransparentRows.{is_by_peer, is_unsent}
use Rattle.attempt_ledger.specs.declared.ledger.Ask.{Ask}
use Rattle.attempt_ledger.specs.declared.row.RowCause.{RowCause}
use Rattle.attempt_ledger.specs.declared.row.RowEnd.{RowEnd}
use Rattle.attempt_ledger.specs.declared.row.RowKind.{RowKind}
use Rattle.call_actions.proofs.Lists.{changed_away, changed_here, numbered_not}
use Rattle.call_actions.proofs.Places.{places_below}
use Rattle.call_actions.proofs.Ranks.{any_where, find_last_more}
use Rattle.call_actions.specs.Laws.{AttemptsAreDue}
use Rattle.call_actions.specs.Order.{IsInOrder, is_beyond}
use Rattle.call_actions.specs.Sees.{Sees, is_live, live_row}
use Rattle.call_core.specs.Steps.{next_due as channel_due}
use Rattle.call_core.specs.declared.live.LiveRow.{LiveRow}
use Rattle.call_core.specs.declared.state.CallState.{CallState}
use Rattle.channel_actions.proofs.Settles.{with_open}
use Rattle.channel_actions.specs.Agrees.{Agrees}
use Rattle.channel_actions.specs.Calls.{HasSlot, lent_to}
use Rattle.channel_actions.specs.KeptSessions.Kept.{IsKept, is_sound_ask}
use Rattle.channel_actions.proofs.Links.Settings.Slots.{put_away}
use Rattle.attempt_cases.proofs.MakingSteps.Lists.{holds_alike, holds_changed}
use Rattle.attempt_cases.specs.MakingSteps.Made.{with_attempt}
use Rattle.call_cases.specs.ConfiguredCalls.Steps.{timed}
use Rattle.attempt_cases.specs.MakingSteps.Made.{made_slot}
use Rattle.channel_core.proofs.Places.{put_there}
use Rattle.channel_core.specs.Books.{slot_at}
use Rattle.channel_core.specs.States.{StateSeen}
use Rattle.channel_core.specs.declared.state.slots.CallSlot.{CallSlot}
use Rattle.grpc_base.specs.Codes.{has_code}
use Rattle.grpc_base.specs.declared.plan.CallPlan.{CallPlan}
use Rattle.grpc_base.specs.declared.plan.CallPlan.TheVariants as plan
use Rattle.session_actions.specs.Attempts.{commitment, counts_by, is_commitment, is_counted, is_followed, is_later_of, is_of, is_to_follow, of_its_call, wants_follower_by, was_refused, was_retried_so}
use Rattle.session_actions.specs.Commitments.{is_final_end, is_final_in, is_free_call, is_inherited, is_inherited_by, is_inherited_in}
use Rattle.session_actions.specs.Configs.{plan_of}
use Rattle.session_actions.specs.DueAttempts.{attempts_made, has_going, is_final, is_final_by, kind_of_next, last_counted, next_due}
use Rattle.session_actions.specs.Entries.{entry, now}
use Rattle.session_actions.specs.Making.{new_row}
use Rattle.session_actions.specs.Words.{changed, holds, is_number, last_of, numbered}
use Rattle.session_actions.specs.declared.attempt.Attempt.{Attempt}
use Rattle.session_actions.specs.declared.call.Call.{Call}
use Rattle.session_actions.specs.declared.call.MarkKind.TheVariants as mark
use Rattle.session_actions.specs.declared.entry.OpenEntry.{OpenEntry}
use Rattle.session_actions.specs.declared.seen.Seen.{Seen}
use Rattle.session_order.specs.Stirs.{IsMakeable}

and_second : (a b : Bool) → b ≡ false → (a && b) ≡ false
and_second true b e = e
and_second false b e = refl

or_none : (b : Bool) → (b || false) ≡ b
or_none true = refl
or_none false = refl

next_not : (made n : ℕ) → nat_lt made n ≡ false → (made + 1 == n) ≡ false
next_not made n e = grind (arith, nat_tests)

equal_back : (a b : ℕ) → (a == b) ≡ false → (b == a) ≡ false
equal_back a b e = grind (arith, nat_tests)

equal_numbers : (n m : ℕ) → (n == m) ≡ true → n ≡ m
equal_numbers n m e = grind (arith, nat_tests)

later_not : (call made acall n : ℕ) (z b : Bool) → (acall == call) ≡ b → (b && nat_lt made n) ≡ false → ((call == acall) && (made + 1 == n) && z) ≡ false
later_not call made acall n z true own e = ap (λ (b : Bool). (call == acall) && b && z) (next_not made n e) ∙ gone (call == acall) z
  where
    gone : (a z : Bool) → (a && false && z) ≡ false
    gone true z = refl
    gone false z = refl
later_not call made acall n z false own e = ap (λ (b : Bool). b && (made + 1 == n) && z) (equal_back acall call own)

none_two : (p q bad : Attempt → Bool) → ((a : Attempt) → bad a ≡ false → q a ≡ false → p a ≡ false) → (xs : List Attempt) → list_any bad xs ≡ false → list_any q xs ≡ false
    → list_any p xs ≡ false
none_two p q bad each [] e f = refl
none_two p q bad each (a ∷ xs) e f =
    let first = off (bad a) (list_any bad xs) e in
    let second = off (q a) (list_any q xs) f in
    ap (λ (b : Bool). b || list_any p xs) (each a first.0 second.0) ∙ none_two p q bad each xs first.1 second.1
  where
    off : (a b : Bool) → (a || b) ≡ false → (a ≡ false) × (b ≡ false)
    off true b e = absurd (let bad : true ≡ false = e in (cc))
    off false b e = (refl, e)

-- which rows a call has
abbrev pub some_row : List LiveRow → Bool
some_row [] = false
some_row (r ∷ rows) = true

pub any_live : (p : Attempt → Bool) (xs : List Attempt) → list_any p xs ≡ some_row (map live_row (filter p xs))
any_live p [] = refl
any_live p (a ∷ xs) = by_test (p a) (any_live p xs)
  where
    by_test : (b : Bool) → list_any p xs ≡ some_row (map live_row (filter p xs)) → (b || list_any p xs) ≡ some_row (map live_row (cond b (a ∷ filter p xs) (filter p xs)))
    by_test true e = refl
    by_test false e = e

some_last : (rows : List LiveRow) (r : LiveRow) → some_row (rows ++ r ∷ []) ≡ true
some_last [] r = refl
some_last (x ∷ rows) r = refl

pub two_off : (a b : Bool) → (a || b) ≡ false → (a ≡ false) × (b ≡ false)
two_off true b e = absurd (let bad : true ≡ false = e in (cc))
two_off false b e = (refl, e)

none_of : {X : Type 0} (o : Option X) → is_none o ≡ true → o ≡ None
none_of None e = refl
none_of (Some x) e = absurd (let bad : false ≡ true = e in (cc))

pub three : (f c l : Bool) → (f ≡ true → c ≡ true → l ≡ false) → (f && c && l) ≡ false
three true true l e = e refl refl
three true false l e = refl
three false c l e = refl

pub three_back : (f c l : Bool) → (f && c && l) ≡ false → f ≡ true → c ≡ true → l ≡ false
three_back true true l e f g = e
three_back true false l e f g = absurd (let bad : false ≡ true = g in (cc))
three_back false c l e f g = absurd (let bad : false ≡ true = f in (cc))

module _ (o : OpenEntry) (s0 : Seen) where
  abbrev s : Seen
  s = with_open o s0

  module _ (c : Call) (there : numbered s.calls c.number ≡ Some c) (due : ℕ) (order : IsInOrder s c) (free : commitment c s ≡ None) (kept : IsKept s) where
    abbrev nth : ℕ
    nth = attempts_made c s + 1

    abbrev why : RowKind
    why = kind_of_next c s

    abbrev place : ℕ
    place = length s.attempts + 1

    abbrev new : Attempt
    new = record { place = place; row = new_row c.number nth why due; made = entry s; reset = false }

    abbrev noted : Call → Call
    noted k = record k { marks = k.marks ++ record { what = mark.Made place; moment = now s } ∷ [] }

    abbrev t : Seen
    t = record s { calls = changed noted c.number s.calls; attempts = s.attempts ++ new ∷ []; current = Some (record o { turn = None }) }

    later_by : (a : Attempt) → is_beyond s c a ≡ false → is_later_of a new ≡ false
    later_by a good = later_not c.number (attempts_made c s) a.row.call a.row.number (nat_lt a.place place) (a.row.call == c.number) refl good

    beyond_at : (i : ℕ) (a : Attempt) → numbered s.attempts i ≡ Some a → is_beyond s c a ≡ false
    beyond_at i a at = numbered_not (is_beyond s c) s.attempts i a order.numbers at

    asked_by : (ask : Ask) (q : Option Attempt) → numbered s.attempts ask.row ≡ q → is_some q ≡ true → ask.row ≤ length s.attempts
    asked_by ask None e there = absurd (let bad : false ≡ true = there in (cc))
    asked_by ask (Some a) e there = places_below s.attempts ask.row a e

    sound_there : (ask : Ask) (q : Option Attempt) (G : Attempt → Bool) → holds G q ≡ true → is_some q ≡ true
    sound_there ask None G e = absurd (let bad : false ≡ true = e in (cc))
    sound_there ask (Some a) G e = refl

    last_ask : (ask : Ask) (q : Option Ask) → q ≡ Some ask → option_map_or (is_sound_ask s) q true ≡ true → is_sound_ask s ask ≡ true
    last_ask ask None e f = absurd (let bad : None ≡ Some ask = e in (cc))
    last_ask ask (Some k) e f = let same : k ≡ ask = (cc) in ap (is_sound_ask s) (sym same) ∙ f

    pub fits : IsMakeable c.number nth why due s
    fits = record {
      follows_none = λ i a at. later_by a (beyond_at i a at);
      asks = λ ask is. asked_by ask (numbered s.attempts ask.row) refl (sound_there ask (numbered s.attempts ask.row) _ (last_ask ask (last_of s.asks) is kept.picked));
    }

    committed_same : (k : Call) → commitment k t ≡ commitment k s
    committed_same k = find_last_more (is_commitment k) s.attempts new (and_second (is_of k new) false refl)

    own_now : numbered t.calls c.number ≡ Some (noted c)
    own_now = changed_here noted c.number s.calls c there

    -- no commitment is taken over
    inherit_in : (a : Attempt) (k : Call) → is_inherited_in a t k ≡ is_inherited_in a s k
    inherit_in a k = ap (λ (q : Option Attempt). is_none k.end && holds (is_inherited_by a) q) (committed_same k)

    inherit_same : (a : Attempt) → is_inherited t a ≡ is_inherited s a
    inherit_same a =
        ap (λ (b : Bool). is_none a.row.committed && b)
        (holds_alike (is_inherited_in a t) (is_inherited_in a s) (inherit_in a) (numbered t.calls a.row.call)
        ∙ holds_changed noted c.number s.calls (is_inherited_in a s) (λ k. refl) a.row.call)

    inherit_new : is_inherited t new ≡ false
    inherit_new =
        ap (holds (is_inherited_in new t)) own_now
        ∙ ap (λ (q : Option Attempt). is_none c.end && holds (is_inherited_by new) q) (committed_same c ∙ free) ∙ and_second (is_none c.end) false refl

    pub inherited_still : list_any (is_inherited s) s.attempts ≡ false → list_any (is_inherited t) t.attempts ≡ false
    inherited_still none =
        list_any-append (is_inherited t) s.attempts (new ∷ [])
        ∙ ap (λ (b : Bool). list_any (is_inherited t) s.attempts || (b || false)) inherit_new ∙ or_none (list_any (is_inherited t) s.attempts)
        ∙ none_two (is_inherited t) (is_inherited s) (is_beyond s c) (λ a good off. inherit_same a ∙ off) s.attempts order.numbers none

    -- ends count as before
    followed_same : (a : Attempt) → is_beyond s c a ≡ false → is_followed a t ≡ is_followed a s
    followed_same a good =
        list_any-append (is_later_of a) s.attempts (new ∷ [])
        ∙ ap (λ (b : Bool). list_any (is_later_of a) s.attempts || (b || false)) (later_by a good) ∙ or_none (list_any (is_later_of a) s.attempts)

    abbrev retried_by : Seen → Call → Attempt → Bool
    retried_by u k q = is_of k q && was_refused q && is_followed q u

    retried_same : (k : Call) → was_retried_so k t ≡ was_retried_so k s
    retried_same k =
        list_any-append (retried_by t k) s.attempts (new ∷ [])
        ∙ ap (λ (b : Bool). list_any (retried_by t k) s.attempts || (b || false)) (none_new (is_of k new) (is_followed new t)) ∙ or_none (list_any (retried_by t k) s.attempts)
        ∙ any_where (retried_by t k) (retried_by s k) (is_beyond s c) (λ q good. ap (λ (b : Bool). is_of k q && was_refused q && b) (followed_same q good)) s.attempts order.numbers
      where
        none_new : (a b : Bool) → (a && false && b) ≡ false
        none_new true b = refl
        none_new false b = refl

    to_follow : (cause : RowCause) (unseen : Bool) (k : Call) → is_to_follow k cause unseen t ≡ is_to_follow k cause unseen s
    to_follow cause unseen k =
        ap (λ (q : Option Attempt). is_unsent cause || (unseen && is_by_peer cause && is_none q && not (was_retried_so k t))) (committed_same k)
        ∙ ap (λ (b : Bool). is_unsent cause || (unseen && is_by_peer cause && is_none (commitment k s) && not b)) (retried_same k)

    wants_same : (a : Attempt) (e : RowEnd) → is_beyond s c a ≡ false → wants_follower_by a t e ≡ wants_follower_by a s e
    wants_same a e good =
        ap (λ (b : Bool). not b && of_its_call (λ (k : Call). is_to_follow k e.cause e.unseen t) a t) (followed_same a good)
        ∙ ap (λ (b : Bool). not (is_followed a s) && b)
        (holds_alike (λ (k : Call). is_to_follow k e.cause e.unseen t) (λ (k : Call). is_to_follow k e.cause e.unseen s) (to_follow e.cause e.unseen) (numbered t.calls a.row.call)
        ∙ holds_changed noted c.number s.calls (λ (k : Call). is_to_follow k e.cause e.unseen s) (λ k. refl) a.row.call)

    counts_same : (a : Attempt) (e : RowEnd) → is_beyond s c a ≡ false → counts_by a t e ≡ counts_by a s e
    counts_same a e good =
        ap (λ (b : Bool). not (is_cut e.cause) && not b && not (wants_follower_by a t e)) (followed_same a good)
        ∙ ap (λ (b : Bool). not (is_cut e.cause) && not (is_followed a s) && not b) (wants_same a e good)

    counted_same : (a : Attempt) → is_beyond s c a ≡ false → is_counted a t ≡ is_counted a s
    counted_same a good = holds_alike (counts_by a t) (counts_by a s) (λ e. counts_same a e good) a.row.ended

    -- no end is final that was not
    module _ (dues : AttemptsAreDue) (x : StateSeen) (slot : CallSlot) (slot_there : slot_at x.book c.number ≡ Some slot) (h : Agrees x s)
        (g : Agrees (with_attempt due c.number slot x) t) where
      abbrev y : StateSeen
      y = with_attempt due c.number slot x

      abbrev slot2 : CallSlot
      slot2 = timed (made_slot due slot x)

      free_of : (k : Call) → is_free_call s k ≡ true → commitment k s ≡ None
      free_of k e = none_of (commitment k s) (and_parts (is_none k.end) (is_none (commitment k s)) e).1

      -- what a final end asks of a hedged call
      going_same : (u v : Seen) (k l : Call) (m n : CallSlot) → Sees u k (lent_to x s m) → Sees v l (lent_to y t n) → n.call ≡ m.call → has_going l v ≡ has_going k u
      going_same u v k l m n a b same =
          any_live (is_live v l) v.attempts
          ∙ ap some_row (b.live ∙ ap (λ (q : CallState). q.live) same ∙ sym a.live) ∙ sym (any_live (is_live u k) u.attempts)

      final_other : (k : Call) (m n : CallSlot) → Sees s k (lent_to x s m) → Sees t k (lent_to y t n) → n.call ≡ m.call → commitment k s ≡ None → (a : Attempt) (e : RowEnd) (p : CallPlan)
          → is_final_by p k a s e ≡ false → is_final_by p k a t e ≡ false
      final_other k m n a b same none q e plan.None off = off
      final_other k m n a b same none q e (plan.Retry p) off = off
      final_other k m n a b same none q e (plan.Hedge p) off =
          let before : last_counted k s ≡ m.call.attempts.last = a.attempts.last (sym a.attempts.committed ∙ ap (option_map (λ (z : Attempt). z.place)) none) in
          let after : last_counted k t ≡ n.call.attempts.last
          = b.attempts.last (sym b.attempts.committed ∙ ap (option_map (λ (z : Attempt). z.place)) (committed_same k ∙ none)) in
          let counted : last_counted k t ≡ last_counted k s = after ∙ ap (λ (z : CallState). z.attempts.last) same ∙ sym before in
          let next : next_due k t ≡ next_due k s
          = dues t k (lent_to y t n) b ∙ ap channel_due same ∙ sym (dues s k (lent_to x s m) a) in
          let going : has_going k t ≡ has_going k s = going_same s t k k m n a b same in
          ap (λ (z : Option ℕ). not (has_code p.codes e.code) || (is_number q.place z && is_none (next_due k t) && not (has_going k t))) counted
          ∙ ap (λ (z : Option ℕ). not (has_code p.codes e.code) || (is_number q.place (last_counted k s) && is_none z && not (has_going k t))) next
          ∙ ap (λ (z : Bool). not (has_code p.codes e.code) || (is_number q.place (last_counted k s) && is_none (next_due k s) && not z)) going ∙ off

      final_own : (b : Sees t (noted c) (lent_to y t slot2)) (q : Attempt) (e : RowEnd) (p : CallPlan) → is_final_by p c q s e ≡ false → is_final_by p (noted c) q t e ≡ false
      final_own b q e plan.None off = off
      final_own b q e (plan.Retry p) off = off
      final_own b q e (plan.Hedge p) off =
          let going : has_going (noted c) t ≡ true = any_live (is_live t (noted c)) t.attempts ∙ ap some_row b.live ∙ some_last slot.call.live _ in
          let code : not (has_code p.codes e.code) ≡ false = (two_off (not (has_code p.codes e.code)) (is_number q.place (last_counted c s) && is_none (next_due c s) && not (has_going c s)) off).0 in
          ap (λ (z : Bool). not (has_code p.codes e.code) || (is_number q.place (last_counted (noted c) t) && is_none (next_due (noted c) t) && not z)) going
          ∙ ap (λ (z : Bool). z || (is_number q.place (last_counted (noted c) t) && is_none (next_due (noted c) t) && false)) code
          ∙ none_third (is_number q.place (last_counted (noted c) t)) (is_none (next_due (noted c) t))
        where
          none_third : (a b : Bool) → (a && b && false) ≡ false
          none_third true true = refl
          none_third true false = refl
          none_third false b = refl

      ended_off : (u v : Seen) (k l : Call) (q : Attempt) → plan_of l v ≡ plan_of k u → ((e : RowEnd) → is_final_by (plan_of k u) k q u e ≡ false → is_final_by (plan_of k u) l q v e ≡ false)
          → (r : Option RowEnd) → holds (is_final_by (plan_of k u) k q u) r ≡ false → holds (is_final_by (plan_of l v) l q v) r ≡ false
      ended_off u v k l q same each None off = refl
      ended_off u v k l q same each (Some e) off = ap (λ (p : CallPlan). is_final_by p l q v e) same ∙ each e off

      same_slot : (n : ℕ) (a b : CallSlot) (q : Option CallSlot) → q ≡ Some a → q ≡ Some b → b ≡ a
      same_slot n a b q e f = let both : Some b ≡ Some a = sym f ∙ e in (cc)

      other_slot : (j : ℕ) (k : Call) → (j == c.number) ≡ false → numbered s.calls j ≡ Some k → numbered t.calls j ≡ Some k → (q : Attempt) → is_beyond s c q ≡ false
          → is_final_in q s k ≡ false → is_final_in q t k ≡ false
      other_slot j k away at now q good off =
          let before : HasSlot x s k j = h.calls.each j k at in
          let after : HasSlot y t k j = g.calls.each j k now in
          let same : after.slot ≡ before.slot
          = same_slot j before.slot after.slot (slot_at x.book j) before.there (sym (put_away x.book.calls c.number j slot slot2 slot_there away) ∙ after.there) in
          three (is_free_call t k) (is_counted q t) (is_final k q t) (λ is_free counts.
          let free_before : is_free_call s k ≡ true = sym (ap (λ (z : Option Attempt). is_none k.end && is_none z) (committed_same k)) ∙ is_free in
          let counts_before : is_counted q s ≡ true = sym (counted_same q good) ∙ counts in
          ended_off s t k k q refl
          (λ e. final_other k before.slot after.slot before.sees.serves.sees after.sees.serves.sees (ap (λ (z : CallSlot). z.call) same) (free_of k free_before) q e (plan_of k s)) q.row.ended
          (three_back (is_free_call s k) (is_counted q s) (is_final k q s) off free_before counts_before))

      own_slot : (q : Attempt) → is_beyond s c q ≡ false → is_final_in q s c ≡ false → is_final_in q t (noted c) ≡ false
      own_slot q good off =
          let after : HasSlot y t (noted c) c.number = g.calls.each c.number (noted c) own_now in
          let same : after.slot ≡ slot2 = same_slot c.number slot2 after.slot (slot_at y.book c.number) (put_there x.book.calls c.number slot slot2 slot_there) after.there in
          let b : Sees t (noted c) (lent_to y t slot2) = subst (λ (z : CallSlot). Sees t (noted c) (lent_to y t z)) same after.sees.serves.sees in
          three (is_free_call t (noted c)) (is_counted q t) (is_final (noted c) q t) (λ is_free counts.
          let free_before : is_free_call s c ≡ true = sym (ap (λ (z : Option Attempt). is_none c.end && is_none z) (committed_same c)) ∙ is_free in
          let counts_before : is_counted q s ≡ true = sym (counted_same q good) ∙ counts in
          ended_off s t c (noted c) q refl (λ e. final_own b q e (plan_of c s)) q.row.ended
          (three_back (is_free_call s c) (is_counted q s) (is_final c q s) off free_before counts_before))

      final_by : (q : Attempt) → is_beyond s c q ≡ false → (b : Bool) → (q.row.call == c.number) ≡ b → (r : Option Call) → numbered s.calls q.row.call ≡ r
          → holds (λ (k : Call). is_final_in q s k) r ≡ false → is_final_end t q ≡ false
      final_by q good true e r at off =
          let here : q.row.call ≡ c.number = equal_numbers q.row.call c.number e in
          let was : r ≡ Some c = sym at ∙ ap (numbered s.calls) here ∙ there in
          ap (λ (n : ℕ). holds (λ (k : Call). is_final_in q t k) (numbered t.calls n)) here ∙ ap (holds (λ (k : Call). is_final_in q t k)) own_now
          ∙ own_slot q good (sym (ap (holds (λ (k : Call). is_final_in q s k)) was) ∙ off)
      final_by q good false e None at off =
          ap (holds (λ (k : Call). is_final_in q t k)) (changed_away noted c.number q.row.call s.calls (eqb-false q.row.call c.number e) ∙ at)
      final_by q good false e (Some k) at off =
          let now_is : numbered t.calls q.row.call ≡ Some k = changed_away noted c.number q.row.call s.calls (eqb-false q.row.call c.number e) ∙ at in
          ap (holds (λ (k : Call). is_final_in q t k)) now_is ∙ other_slot q.row.call k e at now_is q good off

      final_new : is_final_end t new ≡ false
      final_new = ap (holds (λ (k : Call). is_final_in new t k)) own_now ∙ none_second (is_free_call t (noted c)) (is_final (noted c) new t)
        where
          none_second : (a b : Bool) → (a && false && b) ≡ false
          none_second true b = refl
          none_second false b = refl

      pub final_still : list_any (is_final_end s) s.attempts ≡ false → list_any (is_final_end t) t.attempts ≡ false
      final_still none =
          list_any-append (is_final_end t) s.attempts (new ∷ [])
          ∙ ap (λ (b : Bool). list_any (is_final_end t) s.attempts || (b || false)) final_new ∙ or_none (list_any (is_final_end t) s.attempts)
          ∙ none_two (is_final_end t) (is_final_end s) (is_beyond s c)
          (λ q good off. final_by q good (q.row.call == c.number) refl (numbered s.calls q.row.call) refl off) s.attempts order.numbers none
