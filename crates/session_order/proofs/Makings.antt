-- An attempt that is made with a number of its own stirs no line: it is not placed, and follows none. (The line of final ends is left out.)
use Rattle.std.proofs.Common.{◌≡◌, ◌+◌, ◌∷◌, ◌++◌, ◌||◌, ◌&&◌, ◌==◌, not, ap, refl, ◌∙◌, Bool, true, false, List, [], Option, None, Some, ℕ, suc, if◌then◌else◌, is_none, is_some, length, nat_lt, slice_get}
use Rattle.std.proofs.lemmas.Bool.{and_right, or_from}
use Rattle.std.proofs.lemmas.List.Folds.{list_any-append}
use Rattle.std.specs.List.{list_any}
use Rattle.std.specs.Option.{option_or}
use Rattle.attempt_ledger.specs.Ends.{is_cut}
use Rattle.attempt_ledger.specs.Numbering.{is_transparent}
use Rattle.attempt_ledger.specs.TransparentRows.{is_by_peer, is_unsent}
use Rattle.attempt_ledger.specs.declared.ledger.Ask.{Ask}
use Rattle.attempt_ledger.specs.declared.row.RowCause.{RowCause}
use Rattle.attempt_ledger.specs.declared.row.RowEnd.{RowEnd}
use Rattle.attempt_ledger.specs.declared.row.RowKind.{RowKind}
use Rattle.grpc_base.specs.declared.kind.Pick.{Pick}
use Rattle.session_actions.specs.AttemptEnds.{outcome_of}
use Rattle.session_actions.specs.Attempts.{commitment, counts_by, is_commitment, is_counted, is_followed, is_later_of, is_of, is_outstanding, is_over, is_over_in, is_to_follow, wants_follower, wants_follower_by, was_refused, was_retried_so}
use Rattle.session_actions.specs.CallEnds.{has_long_response, is_over_by_row}
use Rattle.session_actions.specs.Calls.{is_open_call, marked}
use Rattle.session_actions.specs.Commitments.{has_head_in, is_free_call, is_headed}
use Rattle.session_actions.specs.Entries.{entry, now}
use Rattle.session_actions.specs.Making.{without_turn_unless}
use Rattle.session_actions.specs.Policies.{is_unfollowed}
use Rattle.session_actions.specs.Responses.{response}
use Rattle.session_actions.specs.Words.{find_last, holds, last_of, numbered}
use Rattle.session_actions.specs.Writing.{accepted_bytes}
use Rattle.session_actions.specs.declared.attempt.Attempt.{Attempt}
use Rattle.session_actions.specs.declared.call.Call.{Call}
use Rattle.session_actions.specs.declared.call.Mark.{Mark}
use Rattle.session_actions.specs.declared.entry.OpenEntry.{OpenEntry}
use Rattle.session_actions.specs.declared.seen.Seen.{Seen}
use Rattle.session_order.proofs.Aside.{aside_request}
use Rattle.session_order.proofs.Begun.{last_in, numbered_more}
use Rattle.session_order.proofs.Boards.{goes_on}
use Rattle.session_order.proofs.Changed.{none_more}
use Rattle.session_order.proofs.Finals.{holds_in}
use Rattle.session_order.proofs.Lists.{any_in, any_same, holds_same}
use Rattle.session_order.proofs.Placings.{not_final}
use Rattle.session_order.proofs.Queues.{marked_still, turn_leaves}
use Rattle.session_order.specs.Quiescent.{IsStill, can_follow, has_outstanding, is_overflowing, is_to_cut, is_to_end, is_to_follow_pick, is_to_reset, is_unplaced}
use Rattle.session_order.specs.Laws.{StirsButFinal}
use Rattle.session_order.specs.Stirs.{IsMakeable, made_row, stirs}
use Rattle.session_order.specs.declared.line.Line.{Line}
use Rattle.session_actions.specs.declared.action.Action.TheVariants as action
use Rattle.session_order.specs.declared.line.Line.TheVariants as line
use Rattle.session_actions.specs.declared.call.MarkKind.TheVariants as mark
use Rattle.grpc_base.specs.declared.kind.Pick.TheVariants as pick

last_more_by : {X : Type 0} (test : X → Bool) (xs : List X) (x y : X) → find_last test (xs ++ x ∷ []) ≡ find_last test xs
    → find_last test ((y ∷ xs) ++ x ∷ []) ≡ find_last test (y ∷ xs)
last_more_by test xs x y e = ap (λ (o : Option _). option_or o (if test y then Some y else None)) e

last_more : {X : Type 0} (test : X → Bool) (xs : List X) (x : X) → test x ≡ false → find_last test (xs ++ x ∷ []) ≡ find_last test xs
last_more test [] x e = ap (λ (b : Bool). if b then Some x else None) e
last_more test (y ∷ xs) x e = last_more_by test xs x y (last_more test xs x e)

or_none : (b c : Bool) → c ≡ false → (b || (c || false)) ≡ b
or_none true c e = refl
or_none false c e = or_from c false e refl

any_more : {X : Type 0} (test : X → Bool) (xs : List X) (x : X) → test x ≡ false → list_any test (xs ++ x ∷ []) ≡ list_any test xs
any_more test xs x e = list_any-append test xs (x ∷ []) ∙ or_none (list_any test xs) (test x) e

no_middle : (x y : Bool) → (x && false && y) ≡ false
no_middle true y = refl
no_middle false y = refl

module _ (s : Seen) (call number : ℕ) (k : RowKind) (due : ℕ) (fits : IsMakeable call number k due s) where
  abbrev x : Attempt
  x = made_row call number k due s

  abbrev t : Seen
  t = record s { attempts = s.attempts ++ x ∷ [] }

  commitment_same : (c : Call) → commitment c t ≡ commitment c s
  commitment_same c = last_more (is_commitment c) s.attempts x (and_right (is_of c x) false refl)

  over_in : (c : Call) (a : Attempt) → is_over_in c a t ≡ is_over_in c a s
  over_in c a = ap (λ (o : Option Attempt). is_some c.end || holds (λ (q : Attempt). not (q.row.number == a.row.number)) o) (commitment_same c)

  over_same : (a : Attempt) → is_over a t ≡ is_over a s
  over_same a = holds_same (λ (c : Call). is_over_in c a t) (λ (c : Call). is_over_in c a s) (λ c. over_in c a) (numbered s.calls a.row.call)

  free_same : (c : Call) → is_free_call t c ≡ is_free_call s c
  free_same c = ap (λ (o : Option Attempt). is_none c.end && is_none o) (commitment_same c)

  -- it follows none
  followed_same : (i : ℕ) (a : Attempt) → numbered s.attempts i ≡ Some a → is_followed a t ≡ is_followed a s
  followed_same i a here = any_more (is_later_of a) s.attempts x (fits.follows_none i a here)

  retried_same : (c : Call) → was_retried_so c t ≡ was_retried_so c s
  retried_same c =
      any_more (λ (q : Attempt). is_of c q && was_refused q && is_followed q t) s.attempts x (no_middle (is_of c x) (is_followed x t))
      ∙ any_in (λ (q : Attempt). is_of c q && was_refused q && is_followed q t) (λ (q : Attempt). is_of c q && was_refused q && is_followed q s) s.attempts
      (λ i q here. ap (λ (b : Bool). is_of c q && was_refused q && b) (followed_same i q here))

  follow_same : (c : Call) (why : RowCause) (unseen : Bool) → is_to_follow c why unseen t ≡ is_to_follow c why unseen s
  follow_same c why unseen =
      ap (λ (o : Option Attempt). is_unsent why || (unseen && is_by_peer why && is_none o && not (was_retried_so c t))) (commitment_same c)
      ∙ ap (λ (b : Bool). is_unsent why || (unseen && is_by_peer why && is_none (commitment c s) && not b)) (retried_same c)

  wants_same : (i : ℕ) (a : Attempt) → numbered s.attempts i ≡ Some a → (e : RowEnd) → wants_follower_by a t e ≡ wants_follower_by a s e
  wants_same i a here e =
      ap (λ (b : Bool). not b && holds (λ (c : Call). is_to_follow c e.cause e.unseen t) (numbered s.calls a.row.call)) (followed_same i a here)
      ∙ ap (λ (b : Bool). not (is_followed a s) && b)
      (holds_same (λ (c : Call). is_to_follow c e.cause e.unseen t) (λ (c : Call). is_to_follow c e.cause e.unseen s) (λ c. follow_same c e.cause e.unseen)
      (numbered s.calls a.row.call))

  counts_same : (i : ℕ) (a : Attempt) → numbered s.attempts i ≡ Some a → (e : RowEnd) → counts_by a t e ≡ counts_by a s e
  counts_same i a here e =
      ap (λ (b : Bool). (not (is_cut e.cause) && not b) && not (wants_follower_by a t e)) (followed_same i a here)
      ∙ ap (λ (b : Bool). (not (is_cut e.cause) && not (is_followed a s)) && not b) (wants_same i a here e)

  row_one : (c : Call) → is_over_by_row t c ≡ is_over_by_row s c
  row_one c =
      ap (λ (o : Option Attempt). is_open_call c && holds (λ (q : Attempt). is_counted q t) o) (commitment_same c)
      ∙ ap (λ (b : Bool). is_open_call c && b)
      (holds_in (λ (q : Attempt). is_counted q t) (λ (q : Attempt). is_counted q s) (commitment c s)
      (λ a e. (let there : (i : ℕ) × (slice_get s.attempts i ≡ Some a) = last_in (is_commitment c) s.attempts a e in
      holds_same (counts_by a t) (counts_by a s) (counts_same (suc there.0) a there.1) a.row.ended)))

  overflow_one : (c : Call) → is_overflowing t c ≡ is_overflowing s c
  overflow_one c =
      ap (λ (b : Bool). (b && nat_lt 262144 (accepted_bytes c)) && has_outstanding c t) (free_same c)
      ∙ ap (λ (b : Bool). (is_free_call s c && nat_lt 262144 (accepted_bytes c)) && b)
      (any_more (λ (a : Attempt). is_of c a && is_outstanding a) s.attempts x (and_right (is_of c x) false refl))

  head_one : (a : Attempt) → is_headed t a ≡ is_headed s a
  head_one a =
      ap (λ (b : Bool). is_outstanding a && b)
      (holds_same (has_head_in a t) (has_head_in a s) (λ c. ap (λ (b : Bool). b && is_some (response a s).head) (free_same c)) (numbered s.calls a.row.call))

  long_one : (c : Call) → has_long_response t c ≡ has_long_response s c
  long_one c =
      ap (λ (o : Option Attempt). is_open_call c && holds (λ (q : Attempt). is_outstanding q && (response q s).large) o) (commitment_same c)

  end_one : (a : Attempt) → is_to_end t a ≡ is_to_end s a
  end_one a = ap (λ (b : Bool). (is_outstanding a && not b) && is_some (outcome_of a s)) (over_same a)

  can_same : (p : Pick) → can_follow t p ≡ can_follow s p
  can_same (pick.Place sub) = refl
  can_same pick.Fail = refl
  can_same pick.Wait = refl

  pick_by : (o : Option Ask) → last_of s.asks ≡ o → holds (is_to_follow_pick s) o ≡ false → holds (is_to_follow_pick t) o ≡ false
  pick_by None is h = refl
  pick_by (Some ask) is h =
      ap (λ (b : Bool). is_unplaced t ask.row && (ask.entry == entry s) && b) (can_same ask.answer)
      ∙ ap (λ (o : Option Attempt). holds is_unfollowed o && (ask.entry == entry s) && can_follow s ask.answer)
      (numbered_more s.attempts x ask.row (fits.asks ask is))
      ∙ h

  pub made_still : (n : ℕ) (l : Line) (o : OpenEntry) → stirs (action.HedgeWithheld n) l ≡ false → stirs (action.AttemptMade call number k due) l ≡ false
      → IsStill l o s → IsStill l o t
  made_still n line.Cut o e f h = none_more (is_to_cut t) s.attempts x
      (any_same (is_to_cut t) (is_to_cut s) (λ a. ap (λ (b : Bool). is_outstanding a && b) (over_same a)) s.attempts ∙ h) refl
  made_still n line.Transparent o e f h = none_more (λ (a : Attempt). wants_follower a t) s.attempts x
      (any_in (λ (a : Attempt). wants_follower a t) (λ (a : Attempt). wants_follower a s) s.attempts
      (λ i a here. holds_same (wants_follower_by a t) (wants_follower_by a s) (wants_same i a here) a.row.ended) ∙ h) refl
  made_still n line.Inherited o e f h = absurd (cc)
  made_still n line.Row o e f h = any_same (is_over_by_row t) (is_over_by_row s) row_one s.calls ∙ h
  made_still n line.Final o e f h = absurd (cc)
  made_still n line.Cancelled o e f h = h
  made_still n line.Request o e f h = aside_request o s t ∙ h
  made_still n line.Overflow o e f h = any_same (is_overflowing t) (is_overflowing s) overflow_one s.calls ∙ h
  made_still n line.Head o e f h = none_more (is_headed t) s.attempts x (any_same (is_headed t) (is_headed s) head_one s.attempts ∙ h) refl
  made_still n line.Response o e f h = any_same (has_long_response t) (has_long_response s) long_one s.calls ∙ h
  made_still n line.Pick o e f h = pick_by (last_of s.asks) refl h
  made_still n line.Link o e f h = h
  made_still n line.WireEnd o e f h = none_more (is_to_end t) s.attempts x (any_same (is_to_end t) (is_to_end s) end_one s.attempts ∙ h) refl
  made_still n line.Reset o e f h = none_more (is_to_reset t) s.attempts x h refl
  made_still n line.Shut o e f h = h
  made_still n line.Retire o e f h = h
  made_still n line.Begin o e f h = h
  made_still n line.Give o e f h = h
  made_still n line.Drop o e f h = h
  made_still n line.Add o e f h = h

turn_if : (keeps : Bool) (o : OpenEntry) (s : Seen) → s.current ≡ Some o → (l : Line) → IsStill l o s → (p : OpenEntry)
    → (without_turn_unless keeps s).current ≡ Some p → IsStill l p (without_turn_unless keeps s)
turn_if true o s e l h p is = goes_on o s e l h p is
turn_if false o s e l h p is = turn_leaves None o s e l h p is

pub made_leaves : (call number : ℕ) (k : RowKind) (due : ℕ) → StirsButFinal (action.AttemptMade call number k due)
made_leaves call number k due o s e fits l p is final not_stirred h =
    let u : Seen = record s { attempts = s.attempts ++ made_row call number k due s ∷ [] } in
    let marks : Call → List Mark = λ (c : Call). c.marks ++ record { what = mark.Made (length s.attempts + 1); moment = now u } ∷ [] in
    turn_if (is_transparent k) o (marked (mark.Made (length s.attempts + 1)) call u) e l
    (marked_still u call marks l o (not_final l call final) (made_still s call number k due fits call l o (not_final l call final) not_stirred h)) p is
