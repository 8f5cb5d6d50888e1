-- An attempt that is placed stirs no line: it was queued, its call has room, and its link is up. (The line of final ends is left out.)
use Rattle.std.proofs.Common.{◌≡◌, ◌∷◌, ◌++◌, ◌||◌, ◌&&◌, ◌==◌, ◌⊎◌, inl, inr, not, ap, refl, sym, ◌∙◌, Bool, true, false, List, [], Option, None, Some, ℕ, if◌then◌else◌, is_none, is_some, nat_lt, slice_get, suc, zero}
use Rattle.std.proofs.lemmas.Bool.{and_left, and_right, eqb-false, eqb-true}
use Rattle.std.specs.List.{list_any}
use Rattle.std.specs.Option.{option_and_then, option_map, option_map_or}
use Rattle.attempt_ledger.specs.Ends.{is_cut}
use Rattle.attempt_ledger.specs.TransparentRows.{is_by_peer, is_unsent}
use Rattle.attempt_ledger.specs.declared.ledger.Ask.{Ask}
use Rattle.attempt_ledger.specs.declared.row.Placed.{Placed}
use Rattle.attempt_ledger.specs.declared.row.RowCause.{RowCause}
use Rattle.attempt_ledger.specs.declared.row.RowEnd.{RowEnd}
use Rattle.grpc_base.specs.declared.kind.Pick.{Pick}
use Rattle.session_actions.specs.AttemptEnds.{code_at_end, outcome_of, outcome_on, unsent_end}
use Rattle.session_actions.specs.Attempts.{commitment, counts_by, is_commitment, is_counted, is_followed, is_later_of, is_of, is_outstanding, is_over, is_over_in, is_to_follow, wants_follower, wants_follower_by, was_refused, was_retried_so}
use Rattle.session_actions.specs.CallEnds.{has_long_response, is_over_by_row}
use Rattle.session_actions.specs.Calls.{is_open_call, marked}
use Rattle.session_actions.specs.Commitments.{has_head_in, is_free_call, is_headed, is_inherited, is_inherited_by, is_inherited_in}
use Rattle.session_actions.specs.Entries.{entry, now}
use Rattle.session_actions.specs.Policies.{attempt_placed, is_unfollowed, with_placing}
use Rattle.session_actions.specs.Responses.{no_response, response, response_by}
use Rattle.session_actions.specs.Words.{changed, holds, last_of, numbered}
use Rattle.session_actions.specs.Writing.{accepted_bytes}
use Rattle.session_actions.specs.declared.attempt.Attempt.{Attempt}
use Rattle.session_actions.specs.declared.call.Call.{Call}
use Rattle.session_actions.specs.declared.call.MarkKind.{MarkKind}
use Rattle.session_actions.specs.declared.entry.OpenEntry.{OpenEntry}
use Rattle.session_actions.specs.declared.response.Outcome.{Outcome}
use Rattle.session_actions.specs.declared.response.Response.{Response}
use Rattle.session_actions.specs.declared.seen.Seen.{Seen}
use Rattle.session_order.proofs.Aside.{aside_request}
use Rattle.session_order.proofs.Boards.{goes_on}
use Rattle.session_order.proofs.Changed.{any_changed, any_changed_at, changed_away, changed_map, none_changed}
use Rattle.session_order.proofs.Ended.{stronger, none_less}
use Rattle.session_order.proofs.Lasts.{last_at, last_changed, read_before}
use Rattle.session_order.proofs.Lists.{any_same, holds_same}
use Rattle.session_order.proofs.Queues.{marked_still}
use Rattle.session_order.specs.Quiescent.{IsStill, can_follow, has_outstanding, is_overflowing, is_to_cut, is_to_end, is_to_follow_pick, is_to_reset, is_unplaced}
use Rattle.session_order.specs.Laws.{StirsButFinal}
use Rattle.session_order.specs.Lines.{is_line}
use Rattle.session_order.specs.Stirs.{IsPlaceable, stirs}
use Rattle.session_order.specs.declared.line.Line.{Line}
use Rattle.session_actions.specs.declared.action.Action.TheVariants as action
use Rattle.session_order.specs.declared.line.Line.TheVariants as line
use Rattle.session_actions.specs.declared.call.MarkKind.TheVariants as mark
use Rattle.grpc_base.specs.declared.kind.Pick.TheVariants as pick

no_first : (x y : Bool) → x ≡ false → (x && y) ≡ false
no_first x y e = and_left x y e

same_some : (b c : Attempt) (o : Option Attempt) → o ≡ Some b → o ≡ Some c → b ≡ c
same_some b c o p q = (cc)

none_by : {X : Type 0} (p q : X → Bool) (x : X) (xs : List X) (b : Bool) → q x ≡ b → (b || list_any q xs) ≡ false → (q x ≡ false → p x ≡ false)
    → (list_any q xs ≡ false → list_any p xs ≡ false) → (p x || list_any p xs) ≡ false
none_by p q x xs true e h each rest = (let bad : true ≡ false = h in absurd (cc))
none_by p q x xs false e h each rest = ap (λ (b : Bool). b || list_any p xs) (each e) ∙ rest h

-- of each that is in the list
none_at : {X : Type 0} (p q : X → Bool) (xs : List X) → ((i : ℕ) (x : X) → slice_get xs i ≡ Some x → q x ≡ false → p x ≡ false) → list_any q xs ≡ false → list_any p xs ≡ false
none_at p q [] each h = refl
none_at p q (x ∷ xs) each h =
    none_by p q x xs (q x) refl h (each zero x refl) (λ e. none_at p q xs (λ i y got. each (suc i) y got) e)

module _ (s : Seen) (n : ℕ) (at : Placed) (fits : IsPlaceable n at s) where
  abbrev put : Attempt → Attempt
  put a = with_placing at a

  abbrev rows : List Attempt
  rows = changed put n s.attempts

  abbrev t : Seen
  t = record s { attempts = rows }

  the_one : (a : Attempt) → numbered s.attempts n ≡ Some a → fits.attempt ≡ a
  the_one a e = same_some fits.attempt a (numbered s.attempts n) fits.here e

  -- who is committed, over, followed and to be followed stays the same
  over_in : (c : Call) (a : Attempt) → is_over_in c a t ≡ is_over_in c a s
  over_in c a =
      ap (λ (b : Bool). is_some c.end || b)
      (read_before put (holds (λ (k : Attempt). not (k.row.number == a.row.number))) (λ k. refl) (commitment c s) (commitment c t)
      (last_changed (is_commitment c) put (λ k. refl) n s.attempts))

  over_same : (a : Attempt) → is_over a t ≡ is_over a s
  over_same a = holds_same (λ (c : Call). is_over_in c a t) (λ (c : Call). is_over_in c a s) (λ c. over_in c a) (numbered s.calls a.row.call)

  none_same : (c : Call) → is_none (commitment c t) ≡ is_none (commitment c s)
  none_same c = read_before put is_none (λ k. refl) (commitment c s) (commitment c t) (last_changed (is_commitment c) put (λ k. refl) n s.attempts)

  free_same : (c : Call) → is_free_call t c ≡ is_free_call s c
  free_same c = ap (λ (b : Bool). is_none c.end && b) (none_same c)

  followed_same : (a : Attempt) → is_followed a t ≡ is_followed a s
  followed_same a = any_changed (is_later_of a) put (λ q. refl) n s.attempts

  retried_same : (c : Call) → was_retried_so c t ≡ was_retried_so c s
  retried_same c =
      any_changed (λ (q : Attempt). is_of c q && was_refused q && is_followed q t) put (λ q. refl) n s.attempts
      ∙ any_same (λ (q : Attempt). is_of c q && was_refused q && is_followed q t) (λ (q : Attempt). is_of c q && was_refused q && is_followed q s)
      (λ q. ap (λ (b : Bool). is_of c q && was_refused q && b) (followed_same q)) s.attempts

  follow_same : (c : Call) (why : RowCause) (unseen : Bool) → is_to_follow c why unseen t ≡ is_to_follow c why unseen s
  follow_same c why unseen =
      ap (λ (b : Bool). is_unsent why || (unseen && is_by_peer why && b && not (was_retried_so c t))) (none_same c)
      ∙ ap (λ (b : Bool). is_unsent why || (unseen && is_by_peer why && is_none (commitment c s) && not b)) (retried_same c)

  wants_same : (a : Attempt) (e : RowEnd) → wants_follower_by a t e ≡ wants_follower_by a s e
  wants_same a e =
      ap (λ (b : Bool). not b && holds (λ (c : Call). is_to_follow c e.cause e.unseen t) (numbered s.calls a.row.call)) (followed_same a)
      ∙ ap (λ (b : Bool). not (is_followed a s) && b)
      (holds_same (λ (c : Call). is_to_follow c e.cause e.unseen t) (λ (c : Call). is_to_follow c e.cause e.unseen s) (λ c. follow_same c e.cause e.unseen)
      (numbered s.calls a.row.call))

  counts_same : (a : Attempt) (e : RowEnd) → counts_by a t e ≡ counts_by a s e
  counts_same a e =
      ap (λ (b : Bool). (not (is_cut e.cause) && not b) && not (wants_follower_by a t e)) (followed_same a)
      ∙ ap (λ (b : Bool). (not (is_cut e.cause) && not (is_followed a s)) && not b) (wants_same a e)

  transparent_still : list_any (λ (a : Attempt). wants_follower a t) rows ≡ list_any (λ (a : Attempt). wants_follower a s) s.attempts
  transparent_still =
      any_changed (λ (a : Attempt). wants_follower a t) put (λ a. refl) n s.attempts
      ∙ any_same (λ (a : Attempt). wants_follower a t) (λ (a : Attempt). wants_follower a s)
      (λ a. holds_same (wants_follower_by a t) (wants_follower_by a s) (wants_same a) a.row.ended) s.attempts

  inherited_in : (a : Attempt) (c : Call) → is_inherited_in a t c ≡ is_inherited_in a s c
  inherited_in a c =
      ap (λ (b : Bool). is_none c.end && b)
      (read_before put (holds (is_inherited_by a)) (λ k. refl) (commitment c s) (commitment c t) (last_changed (is_commitment c) put (λ k. refl) n s.attempts))

  inherited_one : (a : Attempt) → is_inherited t a ≡ is_inherited s a
  inherited_one a =
      ap (λ (b : Bool). is_none a.row.committed && b)
      (holds_same (is_inherited_in a t) (is_inherited_in a s) (inherited_in a) (numbered s.calls a.row.call))

  row_one : (c : Call) → is_over_by_row t c ≡ is_over_by_row s c
  row_one c =
      ap (λ (b : Bool). is_open_call c && b)
      (read_before put (holds (λ (k : Attempt). is_counted k t)) (λ k. refl) (commitment c s) (commitment c t)
      (last_changed (is_commitment c) put (λ k. refl) n s.attempts)
      ∙ holds_same (λ (k : Attempt). is_counted k t) (λ (k : Attempt). is_counted k s)
      (λ k. holds_same (counts_by k t) (counts_by k s) (counts_same k) k.row.ended) (commitment c s))

  -- its call has room
  room_by : (i : ℕ) (c : Call) (b : Bool) → slice_get s.calls i ≡ Some c → is_of c fits.attempt ≡ b → is_overflowing s c ≡ false → is_overflowing t c ≡ false
  room_by i c true got e h =
      ap (λ (b : Bool). (b && nat_lt 262144 (accepted_bytes c)) && has_outstanding c t) (free_same c)
      ∙ no_first (is_free_call s c && nat_lt 262144 (accepted_bytes c)) (has_outstanding c t) (fits.room i c got e)
  room_by i c false got e h =
      ap (λ (b : Bool). (b && nat_lt 262144 (accepted_bytes c)) && has_outstanding c t) (free_same c)
      ∙ ap (λ (b : Bool). (is_free_call s c && nat_lt 262144 (accepted_bytes c)) && b)
      (any_changed_at (λ (a : Attempt). is_of c a && is_outstanding a) put n s.attempts
      (λ a is. (let other : is_of c a ≡ false = sym (ap (is_of c) (the_one a is)) ∙ e in
      ap (λ (b : Bool). b && is_outstanding (put a)) other ∙ sym (ap (λ (b : Bool). b && is_outstanding a) other))))
      ∙ h

  -- it has no response yet
  no_answer : (a : Attempt) → numbered s.attempts n ≡ Some a → response (put a) s ≡ no_response
  no_answer a is = ap (response_by (put a) s) (sym (ap (λ (x : Attempt). x.row.stream) (the_one a is)) ∙ fits.stream)

  no_head : (a : Attempt) → numbered s.attempts n ≡ Some a → (o : Option Call) → holds (has_head_in (put a) t) o ≡ false
  no_head a is None = refl
  no_head a is (Some c) = and_right (is_free_call t c) (is_some (response (put a) s).head) (ap (λ (r : Response). is_some r.head) (no_answer a is))

  head_one : (a : Attempt) → is_headed t a ≡ is_headed s a
  head_one a =
      ap (λ (b : Bool). is_outstanding a && b)
      (holds_same (has_head_in a t) (has_head_in a s) (λ c. ap (λ (b : Bool). b && is_some (response a s).head) (free_same c)) (numbered s.calls a.row.call))

  large_by : (o p : Option Attempt) → (p ≡ o) ⊎ ((o ≡ Some fits.attempt) × (p ≡ Some (put fits.attempt)))
      → holds (λ (k : Attempt). is_outstanding k && (response k s).large) o ≡ false
      → holds (λ (k : Attempt). is_outstanding k && (response k s).large) p ≡ false
  large_by o p (inl e) h = ap (holds (λ (k : Attempt). is_outstanding k && (response k s).large)) e ∙ h
  large_by o p (inr e) h =
      ap (holds (λ (k : Attempt). is_outstanding k && (response k s).large)) e.1
      ∙ and_right (is_outstanding (put fits.attempt)) (response (put fits.attempt) s).large
      (ap (λ (r : Response). r.large) (no_answer fits.attempt fits.here))

  long_one : (c : Call) → has_long_response s c ≡ false → has_long_response t c ≡ false
  long_one c h =
      stronger (is_open_call c) (holds (λ (k : Attempt). is_outstanding k && (response k s).large) (commitment c s))
      (holds (λ (k : Attempt). is_outstanding k && (response k s).large) (commitment c t))
      (large_by (commitment c s) (commitment c t) (last_at (is_commitment c) put (λ k. refl) n s.attempts fits.attempt fits.here)) h

  -- the pick is acted on
  unfollowed_by : (o : Option Attempt) → holds is_unfollowed (option_map put o) ≡ false
  unfollowed_by None = refl
  unfollowed_by (Some a) = refl

  unplaced_by : (k : ℕ) (b : Bool) → (k == n) ≡ b → is_unplaced s k ≡ false → is_unplaced t k ≡ false
  unplaced_by k true is h =
      ap (λ (j : ℕ). holds is_unfollowed (numbered rows j)) (eqb-true k n is) ∙ ap (holds is_unfollowed) (changed_map put n s.attempts)
      ∙ unfollowed_by (numbered s.attempts n)
  unplaced_by k false is h = ap (holds is_unfollowed) (changed_away put n k s.attempts (eqb-false k n is)) ∙ h

  pick_by : (x y z w : Bool) → (x ≡ false → y ≡ false) → (x && z && w) ≡ false → (y && z && w) ≡ false
  pick_by true true z w turn h = h
  pick_by true false z w turn h = refl
  pick_by false true z w turn h = (let bad : true ≡ false = turn refl in absurd (cc))
  pick_by false false z w turn h = refl

  can_same : (p : Pick) → can_follow t p ≡ can_follow s p
  can_same (pick.Place sub) = refl
  can_same pick.Fail = refl
  can_same pick.Wait = refl

  pick_all : (o : Option Ask) → holds (is_to_follow_pick s) o ≡ false → holds (is_to_follow_pick t) o ≡ false
  pick_all None h = refl
  pick_all (Some ask) h =
      ap (λ (b : Bool). is_unplaced t ask.row && (ask.entry == entry s) && b) (can_same ask.answer)
      ∙ pick_by (is_unplaced s ask.row) (is_unplaced t ask.row) (ask.entry == entry s) (can_follow s ask.answer)
      (unplaced_by ask.row (ask.row == n) refl) h

  -- its link is up
  end_one : (a : Attempt) → is_to_end t a ≡ is_to_end s a
  end_one a = ap (λ (b : Bool). (is_outstanding a && not b) && is_some (outcome_of a s)) (over_same a)

  no_outcome : (a : Attempt) → numbered s.attempts n ≡ Some a → outcome_of (put a) s ≡ None
  no_outcome a is =
      ap (option_and_then (outcome_on (put a) s a.row.stream)) fits.there
      ∙ ap (λ (o : Option ℕ). outcome_on (put a) s o fits.link) (sym (ap (λ (x : Attempt). x.row.stream) (the_one a is)) ∙ fits.stream)
      ∙ ap (λ (b : Bool). if b then Some unsent_end else None) fits.up

  no_end : (a : Attempt) → numbered s.attempts n ≡ Some a → is_to_end t (put a) ≡ false
  no_end a is =
      and_right (is_outstanding (put a) && not (is_over (put a) t)) (is_some (outcome_of (put a) s)) (ap (λ (o : Option Outcome). is_some o) (no_outcome a is))

  no_cut : (a : Attempt) → numbered s.attempts n ≡ Some a → is_to_cut t (put a) ≡ false
  no_cut a is =
      and_right (is_outstanding (put a)) (is_over a t) (over_same a ∙ sym (ap (λ (x : Attempt). is_over x s) (the_one a is)) ∙ fits.queued)

  same_reset : (a : Attempt) → numbered s.attempts n ≡ Some a → is_to_reset s (put a) ≡ is_to_reset s a
  same_reset a is =
      let none : a.row.ended ≡ None = sym (ap (λ (x : Attempt). x.row.ended) (the_one a is)) ∙ fits.ended in
      ap (λ (o : Option RowEnd). is_some (option_and_then (code_at_end (put a) s) o)) none
      ∙ sym (ap (λ (o : Option RowEnd). is_some (option_and_then (code_at_end a s) o)) none)

  pub placed_still : (l : Line) (o : OpenEntry) → stirs (action.HedgeWithheld n) l ≡ false → IsStill l o s → IsStill l o t
  placed_still line.Cut o e h = none_changed (is_to_cut t) put n s.attempts no_cut
      (any_same (is_to_cut t) (is_to_cut s) (λ a. ap (λ (b : Bool). is_outstanding a && b) (over_same a)) s.attempts ∙ h)
  placed_still line.Transparent o e h = transparent_still ∙ h
  placed_still line.Inherited o e h = any_changed (is_inherited t) put (λ a. refl) n s.attempts ∙ any_same (is_inherited t) (is_inherited s) inherited_one s.attempts ∙ h
  placed_still line.Row o e h = any_same (is_over_by_row t) (is_over_by_row s) row_one s.calls ∙ h
  placed_still line.Final o e h = absurd (cc)
  placed_still line.Cancelled o e h = h
  placed_still line.Request o e h = aside_request o s t ∙ h
  placed_still line.Overflow o e h = none_at (is_overflowing t) (is_overflowing s) s.calls (λ i c got. room_by i c (is_of c fits.attempt) got refl) h
  placed_still line.Head o e h = none_changed (is_headed t) put n s.attempts
      (λ a is. and_right (is_outstanding (put a)) (holds (has_head_in (put a) t) (numbered s.calls a.row.call)) (no_head a is (numbered s.calls a.row.call)))
      (any_same (is_headed t) (is_headed s) head_one s.attempts ∙ h)
  placed_still line.Response o e h = none_less (has_long_response t) (has_long_response s) long_one s.calls h
  placed_still line.Pick o e h = pick_all (last_of s.asks) h
  placed_still line.Link o e h = h
  placed_still line.WireEnd o e h = none_changed (is_to_end t) put n s.attempts no_end (any_same (is_to_end t) (is_to_end s) end_one s.attempts ∙ h)
  placed_still line.Reset o e h = any_changed_at (is_to_reset s) put n s.attempts same_reset ∙ h
  placed_still line.Shut o e h = h
  placed_still line.Retire o e h = h
  placed_still line.Begin o e h = h
  placed_still line.Give o e h = h
  placed_still line.Drop o e h = h
  placed_still line.Add o e h = h

pub marked_if : (u : Seen) (what : MarkKind) (row : ℕ) (a : Option Attempt) (l : Line) (o : OpenEntry) → stirs (action.HedgeWithheld row) l ≡ false → IsStill l o u
    → IsStill l o (option_map_or (λ (x : Attempt). marked what x.row.call u) a u)
marked_if u what row None l o e h = h
marked_if u what row (Some x) l o e h =
    marked_still u x.row.call (λ (c : Call). c.marks ++ record { what = what; moment = now u } ∷ []) l o e h

pub current_if : (u : Seen) (what : MarkKind) (a : Option Attempt) → (option_map_or (λ (x : Attempt). marked what x.row.call u) a u).current ≡ u.current
current_if u what None = refl
current_if u what (Some x) = refl

no_or : (b : Bool) → b ≡ false → (b || false) ≡ false
no_or true e = e
no_or false e = refl

pub not_final : (m : Line) (k : ℕ) → is_line m line.Final ≡ false → stirs (action.HedgeWithheld k) m ≡ false
not_final m k f = no_or (is_line m line.Final) f

pub placed_leaves : (row : ℕ) (at : Placed) → StirsButFinal (action.AttemptPlaced row at)
placed_leaves row at o s e fits l p is final not_stirred h =
    let u : Seen = record s { attempts = changed (with_placing at) row s.attempts } in
    goes_on o (attempt_placed row at s) (current_if u (mark.Placed row) (numbered u.attempts row) ∙ e) l
    (marked_if u (mark.Placed row) row (numbered u.attempts row) l o (not_final l row final) (placed_still s row at fits l o (not_final l row final) h)) p is
