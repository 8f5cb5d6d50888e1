-- RST_STREAM that is queued stirs no line: the stream of an attempt is reset once. (The line of final ends is left out.)
use Rattle.std.proofs.Common.{◌≡◌, ◌∷◌, ◌||◌, ◌&&◌, ◌==◌, not, ap, refl, ◌∙◌, Bool, false, List, [], Option, None, Some, ℕ, if◌then◌else◌, is_none, is_some, nat_lt}
use Rattle.std.proofs.lemmas.Bool.{and_right}
use Rattle.std.specs.List.{list_any}
use Rattle.std.specs.Option.{option_and_then, option_map_or}
use Rattle.attempt_ledger.specs.Ends.{is_cut}
use Rattle.attempt_ledger.specs.TransparentRows.{is_by_peer, is_unsent}
use Rattle.attempt_ledger.specs.declared.ledger.Ask.{Ask}
use Rattle.attempt_ledger.specs.declared.row.RowCause.{RowCause}
use Rattle.attempt_ledger.specs.declared.row.RowEnd.{RowEnd}
use Rattle.grpc_base.specs.declared.kind.Pick.{Pick}
use Rattle.h2_frame.specs.Sent.{rst_stream_frame}
use Rattle.session_actions.specs.AttemptEnds.{code_at_end, code_for_stream, code_to_reset, outcome_of, stream_reset_of, with_reset_queued}
use Rattle.session_actions.specs.Attempts.{commitment, counts_by, is_commitment, is_counted, is_followed, is_later_of, is_of, is_outstanding, is_over, is_over_in, is_to_follow, wants_follower, wants_follower_by, was_refused, was_retried_so}
use Rattle.session_actions.specs.CallEnds.{has_long_response, is_over_by_row}
use Rattle.session_actions.specs.Calls.{is_open_call}
use Rattle.session_actions.specs.Commitments.{has_head_in, is_free_call, is_headed, is_inherited, is_inherited_by, is_inherited_in}
use Rattle.session_actions.specs.Entries.{entry}
use Rattle.session_actions.specs.Links.{link_number, link_of, stream_number}
use Rattle.session_actions.specs.Policies.{is_unfollowed}
use Rattle.session_actions.specs.Responses.{response}
use Rattle.session_actions.specs.Words.{changed, holds, last_of, numbered}
use Rattle.session_actions.specs.Writing.{accepted_bytes}
use Rattle.session_actions.specs.declared.attempt.Attempt.{Attempt}
use Rattle.session_actions.specs.declared.call.Call.{Call}
use Rattle.session_actions.specs.declared.entry.OpenEntry.{OpenEntry}
use Rattle.session_actions.specs.declared.seen.Seen.{Seen}
use Rattle.session_order.proofs.Aside.{aside_request}
use Rattle.session_order.proofs.Boards.{goes_on}
use Rattle.session_order.proofs.Changed.{any_changed, lookup, none_changed}
use Rattle.session_order.proofs.Lasts.{last_changed, read_before}
use Rattle.session_order.proofs.Lists.{any_same, holds_same}
use Rattle.session_order.proofs.Placings.{not_final}
use Rattle.session_order.proofs.Wires.{owed_still}
use Rattle.session_order.specs.Quiescent.{IsStill, can_follow, has_outstanding, is_overflowing, is_to_cut, is_to_end, is_to_follow_pick, is_to_reset, is_unplaced}
use Rattle.session_order.specs.Laws.{StirsButFinal}
use Rattle.session_order.specs.Lines.{is_line}
use Rattle.session_order.specs.Stirs.{stirs}
use Rattle.session_order.specs.declared.line.Line.{Line}
use Rattle.session_actions.specs.declared.action.Action.TheVariants as action
use Rattle.session_order.specs.declared.line.Line.TheVariants as line
use Rattle.grpc_base.specs.declared.kind.Pick.TheVariants as pick

module _ (s : Seen) (n : ℕ) where
  abbrev put : Attempt → Attempt
  put a = with_reset_queued a

  abbrev rows : List Attempt
  rows = changed put n s.attempts

  abbrev t : Seen
  t = record s { attempts = rows }

  -- who is committed, over, followed and to be followed stays the same
  over_in : (c : Call) (a : Attempt) → is_over_in c a t ≡ is_over_in c a s
  over_in c a =
      ap (λ (b : Bool). is_some c.end || b)
      (read_before put (holds (λ (k : Attempt). not (k.row.number == a.row.number))) (λ k. refl) (commitment c s) (commitment c t)
      (last_changed (is_commitment c) put (λ k. refl) n s.attempts))

  over_same : (a : Attempt) → is_over a t ≡ is_over a s
  over_same a = holds_same (λ (c : Call). is_over_in c a t) (λ (c : Call). is_over_in c a s) (λ c. over_in c a) (numbered s.calls a.row.call)

  none_same : (c : Call) → is_none (commitment c t) ≡ is_none (commitment c s)
  none_same c = read_before put is_none (λ k. refl) (commitment c s) (commitment c t) (last_changed (is_commitment c) put (λ k. refl) n s.attempts)

  free_same : (c : Call) → is_free_call t c ≡ is_free_call s c
  free_same c = ap (λ (b : Bool). is_none c.end && b) (none_same c)

  followed_same : (a : Attempt) → is_followed a t ≡ is_followed a s
  followed_same a = any_changed (is_later_of a) put (λ q. refl) n s.attempts

  retried_same : (c : Call) → was_retried_so c t ≡ was_retried_so c s
  retried_same c =
      any_changed (λ (q : Attempt). is_of c q && was_refused q && is_followed q t) put (λ q. refl) n s.attempts
      ∙ any_same (λ (q : Attempt). is_of c q && was_refused q && is_followed q t) (λ (q : Attempt). is_of c q && was_refused q && is_followed q s)
      (λ q. ap (λ (b : Bool). is_of c q && was_refused q && b) (followed_same q)) s.attempts

  follow_same : (c : Call) (why : RowCause) (unseen : Bool) → is_to_follow c why unseen t ≡ is_to_follow c why unseen s
  follow_same c why unseen =
      ap (λ (b : Bool). is_unsent why || (unseen && is_by_peer why && b && not (was_retried_so c t))) (none_same c)
      ∙ ap (λ (b : Bool). is_unsent why || (unseen && is_by_peer why && is_none (commitment c s) && not b)) (retried_same c)

  wants_same : (a : Attempt) (e : RowEnd) → wants_follower_by a t e ≡ wants_follower_by a s e
  wants_same a e =
      ap (λ (b : Bool). not b && holds (λ (c : Call). is_to_follow c e.cause e.unseen t) (numbered s.calls a.row.call)) (followed_same a)
      ∙ ap (λ (b : Bool). not (is_followed a s) && b)
      (holds_same (λ (c : Call). is_to_follow c e.cause e.unseen t) (λ (c : Call). is_to_follow c e.cause e.unseen s) (λ c. follow_same c e.cause e.unseen)
      (numbered s.calls a.row.call))

  counts_same : (a : Attempt) (e : RowEnd) → counts_by a t e ≡ counts_by a s e
  counts_same a e =
      ap (λ (b : Bool). (not (is_cut e.cause) && not b) && not (wants_follower_by a t e)) (followed_same a)
      ∙ ap (λ (b : Bool). (not (is_cut e.cause) && not (is_followed a s)) && not b) (wants_same a e)

  transparent_still : list_any (λ (a : Attempt). wants_follower a t) rows ≡ list_any (λ (a : Attempt). wants_follower a s) s.attempts
  transparent_still =
      any_changed (λ (a : Attempt). wants_follower a t) put (λ a. refl) n s.attempts
      ∙ any_same (λ (a : Attempt). wants_follower a t) (λ (a : Attempt). wants_follower a s)
      (λ a. holds_same (wants_follower_by a t) (wants_follower_by a s) (wants_same a) a.row.ended) s.attempts

  inherited_in : (a : Attempt) (c : Call) → is_inherited_in a t c ≡ is_inherited_in a s c
  inherited_in a c =
      ap (λ (b : Bool). is_none c.end && b)
      (read_before put (holds (is_inherited_by a)) (λ k. refl) (commitment c s) (commitment c t) (last_changed (is_commitment c) put (λ k. refl) n s.attempts))

  inherited_one : (a : Attempt) → is_inherited t a ≡ is_inherited s a
  inherited_one a =
      ap (λ (b : Bool). is_none a.row.committed && b)
      (holds_same (is_inherited_in a t) (is_inherited_in a s) (inherited_in a) (numbered s.calls a.row.call))

  row_one : (c : Call) → is_over_by_row t c ≡ is_over_by_row s c
  row_one c =
      ap (λ (b : Bool). is_open_call c && b)
      (read_before put (holds (λ (k : Attempt). is_counted k t)) (λ k. refl) (commitment c s) (commitment c t)
      (last_changed (is_commitment c) put (λ k. refl) n s.attempts)
      ∙ holds_same (λ (k : Attempt). is_counted k t) (λ (k : Attempt). is_counted k s)
      (λ k. holds_same (counts_by k t) (counts_by k s) (counts_same k) k.row.ended) (commitment c s))

  overflow_one : (c : Call) → is_overflowing t c ≡ is_overflowing s c
  overflow_one c =
      ap (λ (b : Bool). (b && nat_lt 262144 (accepted_bytes c)) && has_outstanding c t) (free_same c)
      ∙ ap (λ (b : Bool). (is_free_call s c && nat_lt 262144 (accepted_bytes c)) && b)
      (any_changed (λ (a : Attempt). is_of c a && is_outstanding a) put (λ a. refl) n s.attempts)

  head_one : (a : Attempt) → is_headed t a ≡ is_headed s a
  head_one a =
      ap (λ (b : Bool). is_outstanding a && b)
      (holds_same (has_head_in a t) (has_head_in a s) (λ c. ap (λ (b : Bool). b && is_some (response a s).head) (free_same c)) (numbered s.calls a.row.call))

  long_one : (c : Call) → has_long_response t c ≡ has_long_response s c
  long_one c =
      ap (λ (b : Bool). is_open_call c && b)
      (read_before put (holds (λ (k : Attempt). is_outstanding k && (response k s).large)) (λ k. refl) (commitment c s) (commitment c t)
      (last_changed (is_commitment c) put (λ k. refl) n s.attempts))

  can_same : (p : Pick) → can_follow t p ≡ can_follow s p
  can_same (pick.Place sub) = refl
  can_same pick.Fail = refl
  can_same pick.Wait = refl

  pick_one : (ask : Ask) → is_to_follow_pick t ask ≡ is_to_follow_pick s ask
  pick_one ask =
      ap (λ (b : Bool). is_unplaced t ask.row && (ask.entry == entry s) && b) (can_same ask.answer)
      ∙ ap (λ (b : Bool). b && (ask.entry == entry s) && can_follow s ask.answer) (lookup (holds is_unfollowed) put (λ a. refl) n s.attempts ask.row)

  end_one : (a : Attempt) → is_to_end t a ≡ is_to_end s a
  end_one a = ap (λ (b : Bool). (is_outstanding a && not b) && is_some (outcome_of a s)) (over_same a)

  -- it is reset once
  once_by : (a : Attempt) (e : RowEnd) (o : Option ℕ) → is_some (option_and_then (code_for_stream (put a) e s) o) ≡ false
  once_by a e None = refl
  once_by a e (Some stream) =
      ap (λ (b : Bool). is_some (if b then option_and_then (code_to_reset (put a) e stream s) (link_of (put a) s) else None))
      (and_right (e.entry == entry s) false refl)

  once : (a : Attempt) (o : Option RowEnd) → is_some (option_and_then (code_at_end (put a) s) o) ≡ false
  once a None = refl
  once a (Some e) = once_by a e a.row.stream

  pub reset_still : (l : Line) (o : OpenEntry) → stirs (action.HedgeWithheld n) l ≡ false → IsStill l o s → IsStill l o t
  reset_still line.Cut o e h = any_changed (is_to_cut t) put (λ a. refl) n s.attempts
      ∙ any_same (is_to_cut t) (is_to_cut s) (λ a. ap (λ (b : Bool). is_outstanding a && b) (over_same a)) s.attempts ∙ h
  reset_still line.Transparent o e h = transparent_still ∙ h
  reset_still line.Inherited o e h = any_changed (is_inherited t) put (λ a. refl) n s.attempts ∙ any_same (is_inherited t) (is_inherited s) inherited_one s.attempts ∙ h
  reset_still line.Row o e h = any_same (is_over_by_row t) (is_over_by_row s) row_one s.calls ∙ h
  reset_still line.Final o e h = absurd (cc)
  reset_still line.Cancelled o e h = h
  reset_still line.Request o e h = aside_request o s t ∙ h
  reset_still line.Overflow o e h = any_same (is_overflowing t) (is_overflowing s) overflow_one s.calls ∙ h
  reset_still line.Head o e h = any_changed (is_headed t) put (λ a. refl) n s.attempts ∙ any_same (is_headed t) (is_headed s) head_one s.attempts ∙ h
  reset_still line.Response o e h = any_same (has_long_response t) (has_long_response s) long_one s.calls ∙ h
  reset_still line.Pick o e h = holds_same (is_to_follow_pick t) (is_to_follow_pick s) pick_one (last_of s.asks) ∙ h
  reset_still line.Link o e h = h
  reset_still line.WireEnd o e h = any_changed (is_to_end t) put (λ a. refl) n s.attempts ∙ any_same (is_to_end t) (is_to_end s) end_one s.attempts ∙ h
  reset_still line.Reset o e h = none_changed (is_to_reset s) put n s.attempts (λ a is. once a a.row.ended) h
  reset_still line.Shut o e h = h
  reset_still line.Retire o e h = h
  reset_still line.Begin o e h = h
  reset_still line.Give o e h = h
  reset_still line.Drop o e h = h
  reset_still line.Add o e h = h

reset_by : (row number : ℕ) (o : OpenEntry) (s : Seen) (a : Option Attempt) → s.current ≡ Some o → (l : Line) → is_line l line.Final ≡ false → IsStill l o s
    → (p : OpenEntry) → (option_map_or (stream_reset_of number s) a s).current ≡ Some p → IsStill l p (option_map_or (stream_reset_of number s) a s)
reset_by row number o s None e l final h p is = goes_on o s e l h p is
reset_by row number o s (Some a) e l final h p is =
    goes_on o (stream_reset_of number s a) e l
    (owed_still (rst_stream_frame (stream_number a) number ∷ []) (link_number a) (record s { attempts = changed with_reset_queued a.place s.attempts }) l o
    (reset_still s a.place l o (not_final l a.place final) h)) p is

pub reset_leaves : (row number : ℕ) → StirsButFinal (action.StreamReset row number)
reset_leaves row number o s e fits l p is final not_stirred h = reset_by row number o s (numbered s.attempts row) e l final h p is
