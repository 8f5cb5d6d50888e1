-- The next attempt of a call is made: what is kept of the turn of the call's attempts is so still.
use Rattle.call_core.specs.Steps as steps
use Rattle.call_core.specs.Parts as parts
use Rattle.call_actions.proofs.Committing.{none_live}
use Rattle.attempt_ledger.specs.Hedging.{is_hedge}
use Rattle.attempt_ledger.specs.Numbering.{is_transparent, most_attempts, later_kind}
use Rattle.attempt_ledger.specs.TransparentRows.{is_by_peer, is_unsent}
use Rattle.attempt_ledger.specs.declared.ledger.CallEnd.{CallEnd}
use Rattle.attempt_ledger.specs.declared.row.Placed.{Placed}
use Rattle.attempt_ledger.specs.declared.row.RowCause.{RowCause}
use Rattle.attempt_ledger.specs.declared.row.RowEnd.{RowEnd}
use Rattle.attempt_ledger.specs.declared.row.RowKind.TheVariants as kind
use Rattle.attempt_ledger.specs.declared.row.RowKind.{RowKind}
use Rattle.call_actions.proofs.Dues.{attempts_are_due}
use Rattle.call_actions.proofs.Lists.{changed_here, any_none}
use Rattle.call_actions.proofs.Places.{none_later}
use Rattle.call_actions.proofs.Ranks.{any_where, find_last_more}
use Rattle.call_actions.specs.Order.{IsInOrder, IsInTurn, goes_on_followed, goes_on_older, is_beyond, is_retried}
use Rattle.call_actions.specs.Sees.{Sees, is_live}
use Rattle.call_core.specs.Going.{HasAtMostOne, IsAlone, IsGoing, hedges}
use Rattle.call_core.specs.Steps.{Stepped}
use Rattle.call_core.specs.declared.attempts.Attempts.{Attempts}
use Rattle.call_core.specs.declared.state.CallState.{CallState}
use Rattle.call_actions.proofs.CallsApart.Seen.{counted_by}
use Rattle.call_actions.specs.CallsApart.Apart.{IsBook, run_number}
use Rattle.call_actions.proofs.CallsInTurn.Columns.{with_marks}
use Rattle.call_actions.specs.CallsInTurn.Laws.{MakingKeeps}
use Rattle.call_actions.specs.CallsInTurn.Turns.{IsSteady, StaysSteady, waits}
use Rattle.grpc_base.specs.declared.plan.CallPlan.TheVariants as plan
use Rattle.grpc_base.specs.declared.plan.CallPlan.{CallPlan}
use Rattle.service_config.specs.Choice.{chosen_for}
use Rattle.session_actions.specs.Attempts.{commitment, is_commitment, is_later_of, is_of, is_over, is_over_in, is_to_follow, of_its_call, wants_follower, wants_follower_by, was_refused, was_retried_so, is_followed}
use Rattle.session_actions.specs.Calls.{marked}
use Rattle.session_actions.specs.Configs.{config_of_call, no_choice, plan_of}
use Rattle.session_actions.specs.DueAttempts.{attempts_made, due_state, hedge_due, kind_of_next, next_due}
use Rattle.session_actions.specs.Entries.{entry, now, with_turn}
use Rattle.session_actions.specs.Making.{attempt_made, due_action, due_attempt, due_if_past, with_row, without_turn_unless, new_row}
use Rattle.session_actions.specs.Responses.{ended}
use Rattle.session_actions.specs.Tokens.{has_tokens}
use Rattle.session_actions.specs.Words.{holds, numbered}
use Rattle.session_actions.specs.declared.action.Action.TheVariants as action
use Rattle.session_actions.specs.declared.attempt.Attempt.{Attempt}
use Rattle.session_actions.specs.declared.call.Call.{Call}
use Rattle.session_actions.specs.declared.call.Mark.{Mark}
use Rattle.session_actions.specs.declared.call.MarkKind.TheVariants as mark
use Rattle.session_actions.specs.declared.config.HeldConfig.{HeldConfig}
use Rattle.session_actions.specs.declared.due.DueState.{DueState}
use Rattle.session_actions.specs.declared.seen.Seen.{Seen}
use Rattle.std.proofs.Common.{Bool, List, None, Option, Some, [], ap, arith, cond, eq-eqb, eqb-true, false, if◌then◌else◌, inl, inr, is_none, is_some, le-ltb, le_refl, length, ltb-false, nat_le, nat_lt, ne_eqb, not, option_and_then, option_map, refl, subst, sym, true, unwrap_or, ℕ, ◌&&◌, ◌++◌, ◌+◌, ◌==◌, ◌||◌, ◌∙◌, ◌∷◌, ◌≡◌, ◌≤◌}
use Rattle.std.proofs.lemmas.Bool.{and_right, or_from, and_from}
use Rattle.std.proofs.lemmas.List.Folds.{list_any-append}
use Rattle.std.proofs.lemmas.List.Sums.{fold-append}
use Rattle.std.specs.List.{list_any}
use Rattle.std.specs.Option.{option_map_or, option_or}

or_none : (b : Bool) → (b || false) ≡ b
or_none true = refl
or_none false = refl

none_more : (p : Attempt → Bool) (xs : List Attempt) (y : Attempt) → list_any p xs ≡ false → p y ≡ false → list_any p (xs ++ y ∷ []) ≡ false
none_more p xs y e here = list_any-append p xs (y ∷ []) ∙ or_from (list_any p xs) (p y || false) e (or_from (p y) false here refl)

-- what due_action gives
pub record IsDue (s : Seen) (c : Call) (number : ℕ) (why : RowKind) (due : ℕ) : Type 0 where
  pub is_open : c.end ≡ None
  pub next : is_some (next_due c s) ≡ true
  pub number_is : number ≡ attempts_made c s + 1
  pub kind_is : why ≡ kind_of_next c s

none_of_if : {X : Type 0} (o : Option X) → is_none o ≡ true → o ≡ None
none_of_if None e = refl
none_of_if (Some x) e = absurd (cc)

made_parts : (n m k j : ℕ) (w v : RowKind) (d e : ℕ) → Some (action.AttemptMade n m w d) ≡ Some (action.AttemptMade k j v e) → (j ≡ m) × (v ≡ w)
made_parts n m k j w v d e same = let number : j ≡ m = (cc) in let kind : v ≡ w = (cc) in (number, kind)

due_if : (s : Seen) (c : Call) (number : ℕ) (why : RowKind) (due d : ℕ) (b : Bool)
    → Some (if b then action.HedgeWithheld c.number else action.AttemptMade c.number (attempts_made c s + 1) (kind_of_next c s) d) ≡ Some (action.AttemptMade c.number number why due)
    → (number ≡ attempts_made c s + 1) × (why ≡ kind_of_next c s)
due_if s c number why due d true e = absurd (cc)
due_if s c number why due d false e = made_parts c.number (attempts_made c s + 1) c.number number (kind_of_next c s) why d due e

due_past : (s : Seen) (c : Call) (number : ℕ) (why : RowKind) (due d : ℕ) (b : Bool)
    → (if b then Some (due_attempt c s d) else None) ≡ Some (action.AttemptMade c.number number why due) → (number ≡ attempts_made c s + 1) × (why ≡ kind_of_next c s)
due_past s c number why due d true e = due_if s c number why due d (is_hedge (kind_of_next c s) && not (has_tokens c s)) e
due_past s c number why due d false e = absurd (cc)

due_by : (s : Seen) (c : Call) (number : ℕ) (why : RowKind) (due : ℕ) (o : Option ℕ) → option_and_then (due_if_past c s) o ≡ Some (action.AttemptMade c.number number why due)
    → (is_some o ≡ true) × ((number ≡ attempts_made c s + 1) × (why ≡ kind_of_next c s))
due_by s c number why due None e = absurd (cc)
due_by s c number why due (Some d) e = (refl, due_past s c number why due d (nat_le d (now s)) e)

is_due_by : (s : Seen) (c : Call) (number : ℕ) (why : RowKind) (due : ℕ) (b : Bool) → is_none c.end ≡ b
    → (if b then option_and_then (due_if_past c s) (next_due c s) else None) ≡ Some (action.AttemptMade c.number number why due) → IsDue s c number why due
is_due_by s c number why due false open_now e = absurd (cc)
is_due_by s c number why due true open_now e =
    let parts : (is_some (next_due c s) ≡ true) × ((number ≡ attempts_made c s + 1) × (why ≡ kind_of_next c s)) = due_by s c number why due (next_due c s) e in
    record { is_open = none_of_if c.end open_now; next = parts.0; number_is = parts.1.0; kind_is = parts.1.1 }

pub is_due : (s : Seen) (c : Call) (number : ℕ) (why : RowKind) (due : ℕ) → due_action s c ≡ Some (action.AttemptMade c.number number why due) → IsDue s c number why due
is_due s c number why due e = is_due_by s c number why due (is_none c.end) refl e

-- a further attempt is no transparent retry
due_kind : (p : CallPlan) (b : Bool) → is_transparent (unwrap_or (if b then Some kind.First else later_kind p) kind.First) ≡ false
due_kind plan.None true = refl
due_kind plan.None false = refl
due_kind (plan.Retry p) true = refl
due_kind (plan.Retry p) false = refl
due_kind (plan.Hedge p) true = refl
due_kind (plan.Hedge p) false = refl

-- where it is due, no further attempts were stopped
not_stopped : (p : CallPlan) (made : ℕ) (d : DueState) (b : Bool) → d.stopped ≡ b
    → is_some (if b || nat_le (most_attempts p) made then None else option_or d.forced (hedge_due p d)) ≡ true → b ≡ false
not_stopped p made d false e some = refl
not_stopped p made d true e some = absurd (cc)

none_of : {X : Type 0} (o : Option X) → is_some o ≡ false → o ≡ None
none_of None e = refl
none_of (Some x) e = absurd (cc)

-- and of a call that is retried no attempt goes on
forced_due : (stopped most : Bool) (forced : Option ℕ) → is_some (if stopped || most then None else forced) ≡ true → forced ≡ None → ⊥
forced_due true most forced some none = absurd (cc)
forced_due false true forced some none = absurd (cc)
forced_due false false None some none = absurd (cc)
forced_due false false (Some n) some none = absurd (cc)

next_forced_of : (p : CallPlan) (a : Attempts) → is_retried p ≡ true → is_some (parts.next_of_plan p a) ≡ true → a.forced ≡ None → ⊥
next_forced_of plan.None a e some none = absurd (cc)
next_forced_of (plan.Retry p) a e some none = forced_due a.stopped (nat_le p.max a.sent) a.forced some none
next_forced_of (plan.Hedge p) a e some none = absurd (cc)

not_hedged : (p : CallPlan) → is_retried p ≡ true → hedges p ≡ false
not_hedged plan.None e = absurd (cc)
not_hedged (plan.Retry p) e = refl
not_hedged (plan.Hedge p) e = absurd (cc)

live_none : (x : CallState) → is_retried (steps.call_plan x) ≡ true → is_some (steps.next_due x) ≡ true → HasAtMostOne x → x.live ≡ []
live_none x retried some (inl none) = none
live_none x retried some (inr one) = let alone : IsAlone x one.0 = one.1 in absurd (next_forced_of (steps.call_plan x) x.attempts retried some alone.forced)

plan_of_choice : (o : Option HeldConfig) (path : List ℕ) → parts.plan_of (option_map (λ (h : HeldConfig). chosen_for h.config path) o)
    ≡ (option_map_or (λ (h : HeldConfig). chosen_for h.config path) o no_choice).plan
plan_of_choice None path = refl
plan_of_choice (Some h) path = refl

-- an attempt of an open call that is not committed lives until it ends
lives_at : (placed : Option Placed) (ended : Option RowEnd) (mine over : Bool) → over ≡ false
    → (mine && ((is_some placed && is_none ended) || ((is_none placed && is_none ended) && not over))) ≡ false → (mine && is_none ended) ≡ false
lives_at placed ended false over none e = refl
lives_at placed (Some z) true over none e = refl
lives_at (Some at) None true over none e = absurd (cc)
lives_at None None true true none e = absurd (cc)
lives_at None None true false none e = absurd (cc)

or_true : (b : Bool) → (b || true) ≡ true
or_true true = refl
or_true false = refl

and_no : (x y : Bool) → ((x && false) && y) ≡ false
and_no true y = refl
and_no false y = refl

own_alike : (x y u v : Bool) → (x ≡ true → u ≡ v) → ((x && y) && u) ≡ ((x && y) && v)
own_alike true y u v same = ap (λ (b : Bool). y && b) (same refl)
own_alike false y u v same = refl

own_two : (x u v : Bool) → (x ≡ true → u ≡ v) → (x && u) ≡ (x && v)
own_two true u v same = same refl
own_two false u v same = refl

none_false : (xs : List Attempt) → list_any (λ (q : Attempt). false) xs ≡ false
none_false [] = refl
none_false (x ∷ xs) = none_false xs

own_four : (x y r u v : Bool) → (x && y) ≡ false → (((x && y) && r) && u) ≡ false
own_four x y r u v e = ap (λ (b : Bool). (b && r) && u) e

module _ (s : Seen) (c : Call) (x : Stepped) (number : ℕ) (why : RowKind) (due : ℕ) (book_then : IsBook (attempt_made c.number number why due s)) (h : Sees s c x) (going : IsGoing x.call)
    (order : IsInOrder s c) (steady : IsSteady s c) (k : IsDue s c number why due) where
  turn : IsInTurn s c
  turn = steady.turn

  made : ℕ
  made = attempts_made c s

  abbrev new : Attempt
  new = record { place = length s.attempts + 1; row = new_row c.number number why due; made = entry s; reset = false }

  abbrev marks : List Mark
  marks = c.marks ++ record { what = mark.Made (length s.attempts + 1); moment = now s } ∷ []

  abbrev d : Call
  d = with_marks marks c

  abbrev t : Seen
  t = marked (mark.Made (length s.attempts + 1)) c.number (with_row (new_row c.number number why due) s)

  own_then : numbered t.calls c.number ≡ Some d
  own_then = changed_here (λ (z : Call). record z { marks = z.marks ++ record { what = mark.Made (length s.attempts + 1); moment = now s } ∷ [] }) c.number s.calls c h.own

  plan_stops : (due_state c s).stopped ≡ false
  plan_stops =
      let off : (due_state c s).stopped ≡ (due_state c s).stopped = refl in not_stopped (plan_of c s) (attempts_made c s) (due_state c s) (due_state c s).stopped off k.next

  free_by : (b : Bool) → is_some (commitment c s) ≡ b → b ≡ false
  free_by false e = refl
  free_by true e =
      let both : true ≡ false
      = sym (order.stops (ap (λ (b : Bool). is_some c.end || b) e ∙ or_true (is_some c.end))) ∙ plan_stops in absurd (cc)

  -- nothing is committed
  free : commitment c s ≡ None
  free = none_of (commitment c s) (free_by (is_some (commitment c s)) refl)

  over_none : (q : Attempt) → is_of c q ≡ true → is_over q s ≡ false
  over_none q mine =
      ap (λ (o : Option Call). holds (λ (z : Call). is_over_in z q s) o) (ap (numbered s.calls) (eqb-true q.row.call c.number mine) ∙ h.own)
      ∙ ap (λ (o : Option CallEnd). is_some o || holds (λ (z : Attempt). not (z.row.number == q.row.number)) (commitment c s)) k.is_open
      ∙ ap (holds (λ (z : Attempt). not (z.row.number == q.row.number))) free

  own_lives : (b : Bool) (q : Attempt) → is_of c q ≡ b → is_live s c q ≡ false → (is_of c q && is_none q.row.ended) ≡ false
  own_lives false q mine e = ap (λ (z : Bool). z && is_none q.row.ended) mine
  own_lives true q mine e = lives_at q.row.placed q.row.ended (is_of c q) (is_over q s) (over_none q mine) e

  lives_so : (q : Attempt) → is_live s c q ≡ false → (is_of c q && is_none q.row.ended) ≡ false
  lives_so q e = own_lives (is_of c q) q refl e

  -- a call that is retried has no attempt that goes on
  quiet : is_retried (plan_of c s) ≡ true → list_any (λ (q : Attempt). is_of c q && is_none q.row.ended) s.attempts ≡ false
  quiet retried =
      let plan_is : steps.call_plan x.call ≡ plan_of c s
      = ap parts.plan_of (sym h.chosen) ∙ plan_of_choice (config_of_call c s) c.request.path in
      let same : is_retried (steps.call_plan x.call) ≡ true = ap is_retried plan_is ∙ retried in
      let some : is_some (steps.next_due x.call) ≡ true = ap (λ (o : Option ℕ). is_some o) (sym (attempts_are_due s c x h)) ∙ k.next in
      let none : x.call.live ≡ [] = live_none x.call same some (going.alone (not_hedged (steps.call_plan x.call) same)) in
      let live : list_any (is_live s c) s.attempts ≡ false = none_live (is_live s c) s.attempts (h.live ∙ none) in
      any_none (λ (q : Attempt). is_of c q && is_none q.row.ended) (is_live s c) lives_so s.attempts live

  -- it follows none of the others
  apart : (q : Attempt) → is_of c q ≡ true → is_beyond s c q ≡ false → is_later_of q new ≡ false
  apart q mine good =
      let most : (is_of c q && nat_lt (attempts_made c s) q.row.number) ≡ false = good in
      let below : nat_lt (attempts_made c s) q.row.number ≡ false = sym (ap (λ (b : Bool). b && nat_lt (attempts_made c s) q.row.number) mine) ∙ most in
      let least : q.row.number ≤ attempts_made c s = ltb-false (attempts_made c s) q.row.number below in
      let at : number ≡ attempts_made c s + 1 = k.number_is in
      let off : number ≡ q.row.number → ⊥ = λ same. omega arith in
      ap (λ (b : Bool). ((c.number == q.row.call) && b) && nat_lt q.place (length s.attempts + 1)) (ne_eqb number q.row.number off)
      ∙ and_no (c.number == q.row.call) (nat_lt q.place (length s.attempts + 1))

  followed_same : (q : Attempt) → is_of c q ≡ true → is_beyond s c q ≡ false → is_followed q t ≡ is_followed q s
  followed_same q mine good =
      list_any-append (is_later_of q) s.attempts (new ∷ []) ∙ ap (λ (b : Bool). list_any (is_later_of q) s.attempts || (b || false)) (apart q mine good)
      ∙ or_none (list_any (is_later_of q) s.attempts)

  followed_new : is_followed new t ≡ false
  followed_new =
      let bound : 1 + length s.attempts ≤ length s.attempts + 1 = omega arith in
      none_more (is_later_of new) s.attempts new (none_later new 1 s.attempts order.places bound)
      (and_right ((c.number == c.number) && (number == number)) (nat_lt (length s.attempts + 1) (length s.attempts + 1)) (le-ltb (length s.attempts + 1) (length s.attempts + 1) (le_refl (length s.attempts + 1))))

  commitment_same : commitment d t ≡ commitment c s
  commitment_same = find_last_more (is_commitment c) s.attempts new (and_right (is_of c new) false refl)

  retried_same : was_retried_so d t ≡ was_retried_so c s
  retried_same =
      list_any-append (λ (q : Attempt). is_of c q && was_refused q && is_followed q t) s.attempts (new ∷ [])
      ∙ ap (λ (b : Bool). list_any (λ (q : Attempt). is_of c q && was_refused q && is_followed q t) s.attempts || (b || false)) (and_no (is_of c new) (is_followed new t))
      ∙ or_none (list_any (λ (q : Attempt). is_of c q && was_refused q && is_followed q t) s.attempts)
      ∙ any_where (λ (q : Attempt). is_of c q && was_refused q && is_followed q t) (λ (q : Attempt). is_of c q && was_refused q && is_followed q s) (is_beyond s c)
      (λ q good. own_alike (is_of c q) (was_refused q) (is_followed q t) (is_followed q s) (λ mine. followed_same q mine good)) s.attempts order.numbers

  follow_same : (cause : RowCause) (unseen : Bool) → is_to_follow d cause unseen t ≡ is_to_follow c cause unseen s
  follow_same cause unseen =
      ap (λ (o : Option Attempt). is_unsent cause || (unseen && is_by_peer cause && is_none o && not (was_retried_so d t))) commitment_same
      ∙ ap (λ (b : Bool). is_unsent cause || (unseen && is_by_peer cause && is_none (commitment c s) && not b)) retried_same

  wants_same : (q : Attempt) → is_of c q ≡ true → is_beyond s c q ≡ false → (o : Option RowEnd) → holds (wants_follower_by q t) o ≡ holds (wants_follower_by q s) o
  wants_same q mine good None = refl
  wants_same q mine good (Some z) =
      ap (λ (b : Bool). not b && of_its_call (λ (y : Call). is_to_follow y z.cause z.unseen t) q t) (followed_same q mine good)
      ∙ ap (λ (o : Option Call). not (is_followed q s) && holds (λ (y : Call). is_to_follow y z.cause z.unseen t) o)
      (ap (numbered t.calls) (eqb-true q.row.call c.number mine) ∙ own_then)
      ∙ ap (λ (b : Bool). not (is_followed q s) && b) (follow_same z.cause z.unseen)
      ∙ ap (λ (o : Option Call). not (is_followed q s) && holds (λ (y : Call). is_to_follow y z.cause z.unseen s) o)
      (sym (ap (numbered s.calls) (eqb-true q.row.call c.number mine) ∙ h.own))

  counted_new : (is_of c new && not (is_transparent why)) ≡ true
  counted_new =
      and_from (is_of c new) (not (is_transparent why)) (eq-eqb c.number c.number refl)
      (ap (λ (b : Bool). not b) (ap is_transparent k.kind_is ∙ due_kind (plan_of c s) (attempts_made c s + 1 == 1)))

  -- one attempt more was made
  made_now : attempts_made d t ≡ attempts_made c s + 1
  made_now =
      fold-append (λ (n : ℕ) (q : Attempt). n + cond (is_of c q && not (is_transparent q.row.kind)) 1 0) 0 s.attempts (new ∷ [])
      ∙ ap (λ (b : Bool). attempts_made c s + cond b 1 0) counted_new

  number_some : number ≡ 0 → ⊥
  number_some e = let at : number ≡ attempts_made c s + 1 = k.number_is in omega arith

  -- of a call that is retried the newest attempt alone goes on
  older : (b : Bool) → is_retried (plan_of c s) ≡ b → list_any (goes_on_older t d) s.attempts ≡ false
  older true retried =
      any_none (goes_on_older t d) (λ (q : Attempt). is_of c q && is_none q.row.ended)
      (λ q e. own_four (is_of c q) (is_none q.row.ended) (is_retried (plan_of c s)) (not (q.row.number == attempts_made d t)) false e) s.attempts (quiet retried)
  older false retried =
      any_none (goes_on_older t d) (λ (q : Attempt). false) (λ q e. ap (λ (b : Bool). ((is_of c q && is_none q.row.ended) && b) && not (q.row.number == attempts_made d t)) retried
      ∙ and_no (is_of c q && is_none q.row.ended) (not (q.row.number == attempts_made d t))) s.attempts (none_false s.attempts)

  why_plain : is_transparent why ≡ false
  why_plain = ap is_transparent k.kind_is ∙ due_kind (plan_of c s) (attempts_made c s + 1 == 1)

  is_made : attempt_made c.number number why due s ≡ with_turn None t
  is_made = ap (λ (b : Bool). without_turn_unless b t) why_plain

  book_t : IsBook (with_turn None t)
  book_t = subst IsBook is_made book_then

  steady_made : IsSteady (with_turn None t) d
  steady_made = record {
    turn = record {
      unfollowed = none_more (goes_on_followed t d) s.attempts new
          (any_where (goes_on_followed t d) (goes_on_followed s c) (is_beyond s c)
          (λ q good. own_alike (is_of c q) (is_none q.row.ended) (is_followed q t) (is_followed q s) (λ mine. followed_same q mine good)) s.attempts order.numbers ∙ turn.unfollowed)
          (and_right (is_of c new && true) (is_followed new t) followed_new);
      latest = none_more (goes_on_older t d) s.attempts new (older (is_retried (plan_of c s)) refl)
          (and_right ((is_of c new && true) && is_retried (plan_of c s)) (not (number == attempts_made d t))
          (ap (λ (b : Bool). not b) (eq-eqb number (attempts_made d t) (k.number_is ∙ sym made_now))));
      numbers = none_more (λ (q : Attempt). is_of c q && (q.row.number == 0)) s.attempts new turn.numbers
          (and_right (is_of c new) (number == 0) (ne_eqb number 0 number_some));
      counted = counted_by (with_turn None t) book_t.counted (run_number d t);
    };
    quiescent = none_more (waits t d) s.attempts new
        (any_where (waits t d) (waits s c) (is_beyond s c)
        (λ q good. own_two (is_of c q) (wants_follower q t) (wants_follower q s) (λ mine. wants_same q mine good q.row.ended)) s.attempts order.numbers ∙ steady.quiescent)
        (and_right (is_of c new) false refl);
  }

  pub made_steady : StaysSteady (attempt_made c.number number why due s) c.number
  made_steady =
      subst (λ (z : Seen). StaysSteady z c.number) (sym is_made) (record { call = d; own = own_then; steady = steady_made })

pub making_keeps : MakingKeeps
making_keeps s c x number why due book h going order steady e = made_steady s c x number why due book h going order steady (is_due s c number why due e)
