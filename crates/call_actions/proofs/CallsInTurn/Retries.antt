-- A transparent retry follows an attempt that ended: what is kept of the turn of the call's attempts is so still, and none waits for its follower.
use Rattle.attempt_ledger.specs.Numbering.{is_transparent}
use Rattle.attempt_ledger.specs.TransparentRows.{is_by_peer, is_refused, is_unsent}
use Rattle.attempt_ledger.specs.declared.row.Placed.{Placed}
use Rattle.attempt_ledger.specs.declared.row.RowCause.{RowCause}
use Rattle.attempt_ledger.specs.declared.row.RowEnd.{RowEnd}
use Rattle.attempt_ledger.specs.declared.row.RowKind.TheVariants as kind
use Rattle.call_actions.proofs.Again.{any_here}
use Rattle.call_actions.proofs.Lists.{any_none, changed_here, numbered_not}
use Rattle.call_actions.proofs.Places.{none_later, only_here, place_is, places_below}
use Rattle.call_actions.proofs.Ranks.{any_either, find_last_more}
use Rattle.call_actions.specs.Order.{AttemptsAreNumbered, IsInTurn, goes_on_followed, goes_on_older, is_retried}
use Rattle.call_actions.proofs.CallsApart.Seen.{counted_by}
use Rattle.call_actions.proofs.CallsApart.Through.{any_alike}
use Rattle.call_actions.specs.CallsApart.Apart.{IsBook, run_number}
use Rattle.call_actions.proofs.CallsInTurn.Changes.{count_keep, none_keep}
use Rattle.call_actions.proofs.CallsInTurn.Columns.{column, turn_now, waits_so, with_marks}
use Rattle.call_actions.proofs.CallsInTurn.Rows.{end_is, end_marks, own_ended, then_ended, unfollowed_of}
use Rattle.call_actions.specs.CallsInTurn.Laws.{IsOwn, RetryingKeeps}
use Rattle.call_actions.specs.CallsInTurn.Turns.{IsSteady, StaysSteady, waits}
use Rattle.session_actions.specs.AttemptEnds.{attempt_ended}
use Rattle.session_actions.specs.Attempts.{call_of, commitment, is_commitment, is_followed, is_later_of, is_of, is_to_follow, of_its_call, wants_follower, wants_follower_by, was_refused, was_retried_so}
use Rattle.session_actions.specs.Calls.{marked}
use Rattle.session_actions.specs.Configs.{plan_of}
use Rattle.session_actions.specs.DueAttempts.{attempts_made}
use Rattle.session_actions.specs.Entries.{entry, now}
use Rattle.session_actions.specs.Making.{attempt_made, new_row, with_row}
use Rattle.session_actions.specs.Words.{holds, numbered}
use Rattle.session_actions.specs.declared.attempt.Attempt.{Attempt}
use Rattle.session_actions.specs.declared.call.Call.{Call}
use Rattle.session_actions.specs.declared.call.Mark.{Mark}
use Rattle.session_actions.specs.declared.call.MarkKind.TheVariants as mark
use Rattle.session_actions.specs.declared.seen.Seen.{Seen}
use Rattle.std.proofs.Common.{Bool, List, None, Option, Some, [], add-zero, ap, arith, cond, eq-eqb, eqb-true, false, inl, inr, is_none, le-ltb, le_refl, length, lt-ltb, ltb-false, nat_lt, not, refl, subst, sym, true, ℕ, ◌&&◌, ◌++◌, ◌+◌, ◌<◌, ◌==◌, ◌||◌, ◌∙◌, ◌∷◌, ◌≡◌, ◌≤◌, ◌⊎◌}
use Rattle.std.proofs.lemmas.Bool.{and_from, and_parts, and_right, cases_lt, eqb-false, or_from, or_parts, or_right}
use Rattle.std.proofs.lemmas.List.Folds.{list_any-append}
use Rattle.std.proofs.lemmas.List.Sums.{fold-append}
use Rattle.std.specs.List.{list_any}

or_none : (b : Bool) → (b || false) ≡ b
or_none true = refl
or_none false = refl

none_more : (p : Attempt → Bool) (xs : List Attempt) (y : Attempt) → list_any p xs ≡ false → p y ≡ false → list_any p (xs ++ y ∷ []) ≡ false
none_more p xs y e here = list_any-append p xs (y ∷ []) ∙ or_from (list_any p xs) (p y || false) e (or_from (p y) false here refl)

-- connectives
and_yes : (b : Bool) → (b && true) ≡ b
and_yes true = refl
and_yes false = refl

follow_less : (x y f z n m : Bool) → ((x && y) && (f || false)) ≡ false → ((x && y) && n) ≡ false → (z ≡ true → n ≡ true) → ((x && y) && (f || (z || false))) ≡ false
follow_less true true true z n m e alone so = e
follow_less true true false true n m e alone so = sym (so refl) ∙ alone
follow_less true true false false n m e alone so = refl
follow_less true false f z n m e alone so = refl
follow_less false y f z n m e alone so = refl

waits_less : (x f z w v : Bool) → (w ≡ false → v ≡ false) → (x && (not f && w)) ≡ false → (x && (not (f || (z || false)) && v)) ≡ false
waits_less false f z w v so e = refl
waits_less true true z w v so e = refl
waits_less true false true w v so e = refl
waits_less true false false w v so e = so e

three_less : (x y f z : Bool) → ((x && y) && (f || (z || false))) ≡ false → ((x && y) && f) ≡ false
three_less true true true z e = absurd (cc)
three_less true true false z e = refl
three_less true false f z e = refl
three_less false y f z e = refl

still_so : (u v r z : Bool) → (z ≡ false → r ≡ false) → (u || (v && not r)) ≡ false → (u || (v && not z)) ≡ false
still_so true v r z so e = e
still_so false false r z so e = refl
still_so false true r true so e = refl
still_so false true r false so e = sym (ap (λ (b : Bool). not b) (so refl)) ∙ e

newest_by : (x r n : Bool) → (r ≡ true → n ≡ true) → ((x && r) && not n) ≡ false
newest_by false r n so = refl
newest_by true false n so = refl
newest_by true true n so = ap (λ (b : Bool). not b) (so refl)

off_both : (x b : Bool) → ((x && not b) || (b && x)) ≡ false → x ≡ false
off_both true true e = absurd (cc)
off_both true false e = absurd (cc)
off_both false b e = refl

module _ (y : Seen) (c : Call) (place : ℕ) (a : Attempt) (due : ℕ) (own : numbered y.calls c.number ≡ Some c) (places : AttemptsAreNumbered 1 y.attempts) (got : numbered y.attempts place ≡ Some a)
    (mine : is_of c a ≡ true) (turn : IsInTurn y c)
    (alone : list_any (λ (q : Attempt). (is_of c q && is_none q.row.ended) && (q.row.number == a.row.number)) y.attempts ≡ false)
    (quiescent : list_any (λ (q : Attempt). waits y c q && not (q.place == place)) y.attempts ≡ false)
    (latest : is_retried (plan_of c y) ≡ true → (a.row.number == attempts_made c y) ≡ true) (some : (a.row.number == 0) ≡ false)
    (book_then : IsBook (attempt_made c.number a.row.number kind.Transparent due y)) where
  abbrev new : Attempt
  new = record { place = length y.attempts + 1; row = new_row c.number a.row.number kind.Transparent due; made = entry y; reset = false }

  abbrev marks : List Mark
  marks = c.marks ++ record { what = mark.Made (length y.attempts + 1); moment = now y } ∷ []

  abbrev d : Call
  d = with_marks marks c

  abbrev t : Seen
  t = marked (mark.Made (length y.attempts + 1)) c.number (with_row (new_row c.number a.row.number kind.Transparent due) y)

  own_then : numbered t.calls c.number ≡ Some d
  own_then = changed_here (λ (z : Call). record z { marks = z.marks ++ record { what = mark.Made (length y.attempts + 1); moment = now y } ∷ [] }) c.number y.calls c own

  followed_then : (q : Attempt) → is_followed q t ≡ (is_followed q y || (is_later_of q new || false))
  followed_then q = list_any-append (is_later_of q) y.attempts (new ∷ [])

  -- it follows none that goes on
  later_number : (q : Attempt) → is_later_of q new ≡ true → (q.row.number == a.row.number) ≡ true
  later_number q e =
      let one : (((c.number == q.row.call) && (a.row.number == q.row.number)) ≡ true) × (nat_lt q.place (length y.attempts + 1) ≡ true)
      = and_parts ((c.number == q.row.call) && (a.row.number == q.row.number)) (nat_lt q.place (length y.attempts + 1)) e in
      let two : ((c.number == q.row.call) ≡ true) × ((a.row.number == q.row.number) ≡ true) = and_parts (c.number == q.row.call) (a.row.number == q.row.number) one.0 in
      eq-eqb q.row.number a.row.number (sym (eqb-true a.row.number q.row.number two.1))

  unfollowed_one : (q : Attempt) → (goes_on_followed y c q || ((is_of c q && is_none q.row.ended) && (q.row.number == a.row.number))) ≡ false → goes_on_followed t d q ≡ false
  unfollowed_one q good =
      let parts : (goes_on_followed y c q ≡ false) × (((is_of c q && is_none q.row.ended) && (q.row.number == a.row.number)) ≡ false)
      = or_parts (goes_on_followed y c q) ((is_of c q && is_none q.row.ended) && (q.row.number == a.row.number)) good in
      ap (λ (b : Bool). (is_of c q && is_none q.row.ended) && b) (followed_then q)
      ∙ follow_less (is_of c q) (is_none q.row.ended) (is_followed q y) (is_later_of q new) (q.row.number == a.row.number) true
      (ap (λ (b : Bool). (is_of c q && is_none q.row.ended) && b) (or_none (is_followed q y)) ∙ parts.0) parts.1 (later_number q)

  followed_new : is_followed new t ≡ false
  followed_new =
      let bound : 1 + length y.attempts ≤ length y.attempts + 1 = omega arith in
      none_more (is_later_of new) y.attempts new (none_later new 1 y.attempts places bound)
      (and_right ((c.number == c.number) && (a.row.number == a.row.number)) (nat_lt (length y.attempts + 1) (length y.attempts + 1))
      (le-ltb (length y.attempts + 1) (length y.attempts + 1) (le_refl (length y.attempts + 1))))

  -- the attempts that were made are as many
  made_then : attempts_made d t ≡ attempts_made c y
  made_then =
      fold-append (λ (n : ℕ) (q : Attempt). n + cond (is_of c q && not (is_transparent q.row.kind)) 1 0) 0 y.attempts (new ∷ [])
      ∙ ap (λ (b : Bool). attempts_made c y + cond b 1 0) (and_right (is_of c new) false refl) ∙ add-zero (attempts_made c y)

  -- none that is to be followed is more so
  commitment_then : commitment d t ≡ commitment c y
  commitment_then = find_last_more (is_commitment c) y.attempts new (and_right (is_of c new) false refl)

  abbrev retried_in : Seen → Attempt → Bool
  retried_in z q = is_of c q && was_refused q && is_followed q z

  retried_one : (q : Attempt) → retried_in t q ≡ false → retried_in y q ≡ false
  retried_one q e = three_less (is_of c q) (was_refused q) (is_followed q y) (is_later_of q new) (sym (ap (λ (b : Bool). (is_of c q && was_refused q) && b) (followed_then q)) ∙ e)

  retried_less : was_retried_so d t ≡ false → was_retried_so c y ≡ false
  retried_less e =
      let parts : (list_any (retried_in t) y.attempts ≡ false) × (list_any (retried_in t) (new ∷ []) ≡ false)
      = or_parts (list_any (retried_in t) y.attempts) (list_any (retried_in t) (new ∷ [])) (sym (list_any-append (retried_in t) y.attempts (new ∷ [])) ∙ e) in
      any_none (retried_in y) (retried_in t) retried_one y.attempts parts.0

  follow_then : (cause : RowCause) (unseen : Bool) → is_to_follow c cause unseen y ≡ false → is_to_follow d cause unseen t ≡ false
  follow_then cause unseen e =
      ap (λ (o : Option Attempt). is_unsent cause || (unseen && is_by_peer cause && is_none o && not (was_retried_so d t))) commitment_then
      ∙ still_so (is_unsent cause) ((unseen && is_by_peer cause) && is_none (commitment c y)) (was_retried_so c y) (was_retried_so d t) retried_less e

  wants_then : (q : Attempt) → is_of c q ≡ true → (o : Option RowEnd) → (true && holds (wants_follower_by q y) o) ≡ false → (true && holds (wants_follower_by q t) o) ≡ false
  wants_then q mine_q None e = refl
  wants_then q mine_q (Some z) e =
      let call_y : call_of q y ≡ Some c = ap (numbered y.calls) (eqb-true q.row.call c.number mine_q) ∙ own in
      let call_t : call_of q t ≡ Some d = ap (numbered t.calls) (eqb-true q.row.call c.number mine_q) ∙ own_then in
      ap (λ (b : Bool). not b && holds (λ (k : Call). is_to_follow k z.cause z.unseen t) (call_of q t)) (followed_then q)
      ∙ waits_less true (is_followed q y) (is_later_of q new) (holds (λ (k : Call). is_to_follow k z.cause z.unseen y) (call_of q y))
      (holds (λ (k : Call). is_to_follow k z.cause z.unseen t) (call_of q t))
      (λ none. ap (holds (λ (k : Call). is_to_follow k z.cause z.unseen t)) call_t
      ∙ follow_then z.cause z.unseen (sym (ap (holds (λ (k : Call). is_to_follow k z.cause z.unseen y)) call_y) ∙ none)) e

  waits_of : (q : Attempt) (b : Bool) → is_of c q ≡ b → waits y c q ≡ false → waits t d q ≡ false
  waits_of q false mine_q e = ap (λ (b : Bool). b && wants_follower q t) mine_q
  waits_of q true mine_q e =
      ap (λ (b : Bool). b && wants_follower q t) mine_q
      ∙ wants_then q mine_q q.row.ended (sym (ap (λ (b : Bool). b && wants_follower q y) mine_q) ∙ e)

  waits_by : (q : Attempt) (b : Bool) → (q.place == place) ≡ b → (waits y c q && not (q.place == place)) ≡ false → (waits t d q && not (q.place == place)) ≡ false
  waits_by q true here e = and_right (waits t d q) (not (q.place == place)) (ap (λ (b : Bool). not b) here)
  waits_by q false here e =
      ap (λ (b : Bool). b && not (q.place == place))
      (waits_of q (is_of c q) refl (sym (and_yes (waits y c q)) ∙ sym (ap (λ (b : Bool). waits y c q && not b) here) ∙ e))

  followed_here : is_followed a t ≡ true
  followed_here =
      let below : place ≤ length y.attempts = places_below y.attempts place a got in
      let at : a.place ≡ place = place_is place y.attempts a places got in
      let afterwards : a.place < length y.attempts + 1 = omega arith in
      followed_then a
      ∙ or_right (is_followed a y) (is_later_of a new || false)
      (ap (λ (b : Bool). b || false)
      (and_from ((c.number == a.row.call) && (a.row.number == a.row.number)) (nat_lt a.place (length y.attempts + 1))
      (and_from (c.number == a.row.call) (a.row.number == a.row.number) (eq-eqb c.number a.row.call (sym (eqb-true a.row.call c.number mine))) (eq-eqb a.row.number a.row.number refl))
      (lt-ltb a.place (length y.attempts + 1) afterwards)))

  waits_at : (o : Option RowEnd) → (is_of c a && holds (wants_follower_by a t) o) ≡ false
  waits_at None = and_right (is_of c a) false refl
  waits_at (Some z) =
      ap (λ (b : Bool). is_of c a && (not b && of_its_call (λ (k : Call). is_to_follow k z.cause z.unseen t) a t)) followed_here ∙ and_right (is_of c a) false refl

  both_off : (q : Attempt) → ((waits t d q && not (q.place == place)) || ((q.place == place) && waits t d q)) ≡ false → waits t d q ≡ false
  both_off q e = off_both (waits t d q) (q.place == place) e

  waits_one : (q : Attempt) → (waits y c q && not (q.place == place)) ≡ false → (waits t d q && not (q.place == place)) ≡ false
  waits_one q e = waits_by q (q.place == place) refl e

  abbrev waits_else : Attempt → Bool
  waits_else q = waits t d q && not (q.place == place)

  -- the one that ended is followed
  waits_here : waits t d a ≡ false
  waits_here = waits_at a.row.ended

  quiescent_then : list_any (waits t d) y.attempts ≡ false
  quiescent_then =
      any_none (waits t d) (λ (q : Attempt). waits_else q || ((q.place == place) && waits t d q)) both_off y.attempts
      (any_either waits_else (λ (q : Attempt). (q.place == place) && waits t d q) y.attempts
      (any_none waits_else (λ (q : Attempt). waits y c q && not (q.place == place)) waits_one y.attempts quiescent)
      (only_here (waits t d) place a waits_here y.attempts places got))

  pub again_steady : StaysSteady (attempt_made c.number a.row.number kind.Transparent due y) c.number
  again_steady = record {
    call = d;
    own = own_then;
    steady = record {
      turn = record {
        unfollowed = none_more (goes_on_followed t d) y.attempts new
            (any_none (goes_on_followed t d) (λ (q : Attempt). goes_on_followed y c q || ((is_of c q && is_none q.row.ended) && (q.row.number == a.row.number))) unfollowed_one y.attempts
            (any_either (goes_on_followed y c) (λ (q : Attempt). (is_of c q && is_none q.row.ended) && (q.row.number == a.row.number)) y.attempts turn.unfollowed alone))
            (and_right (is_of c new && true) (is_followed new t) followed_new);
        latest = none_more (goes_on_older t d) y.attempts new
            (any_alike (goes_on_older t d) (goes_on_older y c)
            (λ q. ap (λ (n : ℕ). ((is_of c q && is_none q.row.ended) && is_retried (plan_of c y)) && not (q.row.number == n)) made_then) y.attempts ∙ turn.latest)
            (ap (λ (n : ℕ). ((is_of c new && true) && is_retried (plan_of c y)) && not (a.row.number == n)) made_then ∙ newest_by (is_of c new && true) (is_retried (plan_of c y)) (a.row.number == attempts_made c y) latest);
        numbers = none_more (λ (q : Attempt). is_of c q && (q.row.number == 0)) y.attempts new turn.numbers (and_right (is_of c new) (a.row.number == 0) some);
        counted = counted_by (attempt_made c.number a.row.number kind.Transparent due y) book_then.counted (run_number d t);
      };
      quiescent = none_more (waits t d) y.attempts new quiescent_then (and_right (is_of c new) false refl);
    };
  }

-- the attempt ends first
two_off : (x y f n b : Bool) → ((x && y) && f) ≡ false → (n ≡ true → b ≡ false → f ≡ true) → (((x && y) && n) && not b) ≡ false
two_off false y f n b e so = refl
two_off true false f n b e so = refl
two_off true true f false b e so = refl
two_off true true f true true e so = refl
two_off true true f true false e so = sym (so refl refl) ∙ e

newest_of : (x y r n : Bool) → x ≡ true → y ≡ true → r ≡ true → (((x && y) && r) && not n) ≡ false → n ≡ true
newest_of x y r true one two three e = refl
newest_of x y r false one two three e =
    let both : true ≡ false = sym (ap (λ (b : Bool). ((b && y) && r) && true) one ∙ ap (λ (b : Bool). ((true && b) && r) && true) two ∙ ap (λ (b : Bool). (true && b) && true) three) ∙ e in absurd (cc)

lower_by : (n k : ℕ) → n ≤ k → (n ≡ k → ⊥) → (n < k) ⊎ (k ≤ n) → n < k
lower_by n k most off (inl less) = less
lower_by n k most off (inr more) = let same : n ≡ k = omega arith in absurd (off same)

lower : (n k : ℕ) → n ≤ k → (n ≡ k → ⊥) → n < k
lower n k most off = lower_by n k most off (cases_lt n k)

module _ (s : Seen) (c : Call) (place : ℕ) (a : Attempt) (e : RowEnd) (due : ℕ) (book : IsBook s) (book_y : IsBook (attempt_ended place e s))
    (book_t : IsBook (attempt_made c.number a.row.number kind.Transparent due (attempt_ended place e s))) (k : IsOwn s c place a) (unended : is_none a.row.ended ≡ true) (steady : IsSteady s c) where
  turn_s : IsInTurn s c
  turn_s = steady.turn

  abbrev pl : Attempt → Option Placed
  pl q = q.row.placed

  abbrev en : Attempt → Option RowEnd
  en q = Some e

  abbrev co : Attempt → Option ℕ
  co q = q.row.committed

  abbrev y_seen : Seen
  y_seen = then_ended s c place a e k book

  abbrev y_marks : List Mark
  y_marks = end_marks s c place a e k book

  abbrev y_call : Call
  y_call = with_marks y_marks c

  is : attempt_ended place e s ≡ y_seen
  is = end_is s c place a e k book

  own_y : numbered y_seen.calls c.number ≡ Some y_call
  own_y = own_ended s c place a e k book

  unfollowed : is_followed a s ≡ false
  unfollowed = unfollowed_of s c place a k unended turn_s.unfollowed

  refused : (holds is_refused (en a) && is_followed a s) ≡ (was_refused a && is_followed a s)
  refused = ap (λ (b : Bool). is_refused e && b) unfollowed ∙ and_right (is_refused e) false refl ∙ sym (ap (λ (b : Bool). was_refused a && b) unfollowed ∙ and_right (was_refused a) false refl)

  abbrev a_then : Attempt
  a_then = column pl en co a

  turn_y : IsInTurn y_seen y_call
  turn_y = turn_now s y_seen c y_marks pl en co place a (subst IsBook is book_y) k.own own_y refl refl k.there k.mine (λ none. unended) refused (λ was. was) steady

  got_y : numbered y_seen.attempts place ≡ Some a_then
  got_y = changed_here (column pl en co) place s.attempts a k.there

  places_y : AttemptsAreNumbered 1 y_seen.attempts
  places_y = (let b : IsBook y_seen = subst IsBook is book_y in b.places)

  -- no other of its number goes on
  abbrev same_number : Attempt → Bool
  same_number q = (is_of c q && is_none q.row.ended) && (q.row.number == a.row.number)

  its_place : a.place ≡ place
  its_place = place_is place s.attempts a book.places k.there

  order_of : (q : Attempt) → is_of c q ≡ true → (q.row.number == a.row.number) ≡ true → (q.place == place) ≡ false → is_later_of a q ≡ false → is_later_of q a ≡ true
  order_of q mine_q same off later =
      let call : q.row.call ≡ a.row.call = eqb-true q.row.call c.number mine_q ∙ sym (eqb-true a.row.call c.number k.mine) in
      let number : q.row.number ≡ a.row.number = eqb-true q.row.number a.row.number same in
      let not_after : nat_lt a.place q.place ≡ false
      = sym (ap (λ (b : Bool). (b && (q.row.number == a.row.number)) && nat_lt a.place q.place) (eq-eqb q.row.call a.row.call call)
      ∙ ap (λ (b : Bool). (true && b) && nat_lt a.place q.place) same) ∙ later in
      let most : q.place ≤ a.place = ltb-false a.place q.place not_after in
      let at : a.place ≡ place = its_place in
      let other : q.place ≡ place → ⊥ = eqb-false q.place place off in
      let below : q.place < a.place = lower q.place a.place most (λ equal. other (equal ∙ at)) in
      and_from ((a.row.call == q.row.call) && (a.row.number == q.row.number)) (nat_lt q.place a.place)
      (and_from (a.row.call == q.row.call) (a.row.number == q.row.number) (eq-eqb a.row.call q.row.call (sym call)) (eq-eqb a.row.number q.row.number (sym number)))
      (lt-ltb q.place a.place below)

  followed_by_it : (q : Attempt) → is_later_of q a ≡ true → is_followed q s ≡ true
  followed_by_it q e = any_here (is_later_of q) s.attempts place a k.there e

  other_by : (q : Attempt) (b : Bool) → is_of c q ≡ b → goes_on_followed s c q ≡ false → is_later_of a q ≡ false → (same_number q && not (q.place == place)) ≡ false
  other_by q false mine_q goes later = ap (λ (b : Bool). ((b && is_none q.row.ended) && (q.row.number == a.row.number)) && not (q.place == place)) mine_q
  other_by q true mine_q goes later =
      two_off (is_of c q) (is_none q.row.ended) (is_followed q s) (q.row.number == a.row.number) (q.place == place) goes
      (λ same off. followed_by_it q (order_of q mine_q same off later))

  other_one : (q : Attempt) → (goes_on_followed s c q || is_later_of a q) ≡ false → (same_number q && not (q.place == place)) ≡ false
  other_one q good =
      let parts : (goes_on_followed s c q ≡ false) × (is_later_of a q ≡ false) = or_parts (goes_on_followed s c q) (is_later_of a q) good in
      other_by q (is_of c q) refl parts.0 parts.1

  others_s : list_any (λ (q : Attempt). same_number q && not (q.place == place)) s.attempts ≡ false
  others_s =
      any_none (λ (q : Attempt). same_number q && not (q.place == place)) (λ (q : Attempt). goes_on_followed s c q || is_later_of a q) other_one s.attempts
      (any_either (goes_on_followed s c) (is_later_of a) s.attempts turn_s.unfollowed unfollowed)

  others_y : list_any (λ (q : Attempt). same_number q && not (q.place == place)) y_seen.attempts ≡ false
  others_y =
      none_keep (λ (q : Attempt). same_number q && not (q.place == place)) (λ (q : Attempt). same_number q && not (q.place == place)) (column pl en co) a (λ q off. off)
      (λ off. ap (λ (b : Bool). (b && (a.row.number == a.row.number)) && not (a.place == place)) (and_right (is_of c a) false refl)) s.attempts place k.there others_s

  alone_y : list_any same_number y_seen.attempts ≡ false
  alone_y =
      any_none same_number (λ (q : Attempt). (same_number q && not (q.place == place)) || ((q.place == place) && same_number q))
      (λ q off. off_both (same_number q) (q.place == place) off) y_seen.attempts
      (any_either (λ (q : Attempt). same_number q && not (q.place == place)) (λ (q : Attempt). (q.place == place) && same_number q) y_seen.attempts others_y
      (only_here same_number place a_then (ap (λ (b : Bool). b && (a.row.number == a.row.number)) (and_right (is_of c a) false refl)) y_seen.attempts places_y got_y))

  -- none but it waits
  quiescent_y : list_any (λ (q : Attempt). waits y_seen y_call q && not (q.place == place)) y_seen.attempts ≡ false
  quiescent_y =
      none_keep (waits s c) (λ (q : Attempt). waits y_seen y_call q && not (q.place == place)) (column pl en co) a
      (λ q off. ap (λ (b : Bool). b && not (q.place == place))
      (waits_so s y_seen c y_marks pl en co place a (subst IsBook is book_y) k.own own_y refl refl k.there k.mine (λ none. unended) refused (λ was. was) steady q off))
      (λ off. and_right (waits y_seen y_call a_then) (not (a.place == place)) (ap (λ (b : Bool). not b) (eq-eqb a.place place its_place))) s.attempts place k.there steady.quiescent

  latest_y : is_retried (plan_of y_call y_seen) ≡ true → (a.row.number == attempts_made y_call y_seen) ≡ true
  latest_y retried =
      let older : goes_on_older s c a ≡ false = numbered_not (goes_on_older s c) s.attempts place a turn_s.latest k.there in
      let made : attempts_made y_call y_seen ≡ attempts_made c s
      = count_keep (λ (q : Attempt). is_of c q && not (is_transparent q.row.kind)) (column pl en co) (λ q. refl) s.attempts place in
      ap (λ (n : ℕ). a.row.number == n) made
      ∙ newest_of (is_of c a) (is_none a.row.ended) (is_retried (plan_of c s)) (a.row.number == attempts_made c s) k.mine unended retried older

  number_some : (a.row.number == 0) ≡ false
  number_some =
      sym (ap (λ (b : Bool). b && (a.row.number == 0)) k.mine)
      ∙ numbered_not (λ (q : Attempt). is_of c q && (q.row.number == 0)) s.attempts place a turn_s.numbers k.there

  pub retried_steady : StaysSteady (attempt_made c.number a.row.number kind.Transparent due (attempt_ended place e s)) c.number
  retried_steady =
      subst (λ (z : Seen). StaysSteady (attempt_made c.number a.row.number kind.Transparent due z) c.number) (sym is)
      (again_steady y_seen y_call place a_then due own_y places_y got_y k.mine turn_y alone_y quiescent_y latest_y number_some
      (subst (λ (z : Seen). IsBook (attempt_made c.number a.row.number kind.Transparent due z)) is book_t))

pub retrying_keeps : RetryingKeeps
retrying_keeps s c place a e due book book_y book_t k unended steady = retried_steady s c place a e due book book_y book_t k unended steady
