-- So it is of every session, and no head came of an attempt that ended, of a call that is open and not committed.
use Rattle.attempt_ledger.specs.declared.ledger.CallEnd.{CallEnd}
use Rattle.attempt_ledger.specs.declared.row.RowEnd.{RowEnd}
use Rattle.call_actions.proofs.CallsInTurn.Changes.{some_last}
use Rattle.channel_actions.proofs.Calls.Kept.Along.{early_begins, early_stays}
use Rattle.channel_actions.proofs.KeptSessions.Along.{kept_begins, kept_stays}
use Rattle.channel_actions.proofs.KeptSessions.Lists.{all_at}
use Rattle.channel_actions.specs.FewCalls.Reached.{IsReached}
use Rattle.channel_actions.specs.KeptCalls.Early.{IsEarlyKept}
use Rattle.channel_actions.specs.KeptSessions.Kept.{IsKept}
use Rattle.end_cases.proofs.EndedHeads.Lines.{received_fits}
use Rattle.end_cases.proofs.EndedHeads.Parts.{Unreceived, head_in, heads, is_committed_of, is_ended_call, is_unreceived, settles}
use Rattle.end_cases.proofs.EndedHeads.Responses.{any_length}
use Rattle.end_cases.proofs.EndedHeads.Steps.{unreceived_after}
use Rattle.session_actions.specs.Actions.{after}
use Rattle.session_actions.specs.Attempts.{commitment, is_commitment, is_of}
use Rattle.session_actions.specs.Links.{link_of}
use Rattle.session_actions.specs.Responses.{limit_of_attempt, no_response, response, response_by, response_in, response_on, traffic_by}
use Rattle.session_actions.specs.Sessions.{Does, new_session}
use Rattle.session_actions.specs.Words.{holds, numbered}
use Rattle.session_actions.specs.declared.action.Action.{Action}
use Rattle.session_actions.specs.declared.attempt.Attempt.{Attempt}
use Rattle.session_actions.specs.declared.call.Call.{Call}
use Rattle.session_actions.specs.declared.link.Link.{Link}
use Rattle.session_actions.specs.declared.seen.Seen.{Seen}
use Rattle.std.proofs.Common.{Bool, List, None, Option, Some, [], ap, eqb-true, false, is_some, not, refl, subst, sym, true, ℕ, ◌||◌, ◌∙◌, ◌∷◌, ◌≡◌}
use Rattle.std.specs.List.{list_any}
use Rattle.std.specs.Option.{option_map_or}

unreceived_along : (actions : List Action) (s t : Seen) → IsKept s → IsEarlyKept s → Unreceived s → Does actions s t → Unreceived t
unreceived_along [] s t kept early h does = subst Unreceived (sym does) h
unreceived_along (a ∷ actions) s t kept early h does =
    unreceived_along actions (after a s) t (kept_stays s a kept does.0) (early_stays s a kept early does.0) (unreceived_after s a (received_fits s kept early a does.0) h) does.1

reached_unreceived : (s : Seen) → IsReached s → Unreceived s
reached_unreceived s r = unreceived_along r.actions (new_session r.setup) s (kept_begins r.setup) (early_begins r.setup) refl r.does

unsettled : (p q x : Bool) → p ≡ false → q ≡ false → ((p || q) || not x) ≡ true → x ≡ false
unsettled false false true e f h = absurd (cc)
unsettled false false false e f h = refl
unsettled true q x e f h = absurd (cc)
unsettled false true x e f h = absurd (cc)

none_of : {X : Type 0} (o : Option X) → is_some o ≡ false → o ≡ None
none_of None e = refl
none_of (Some x) e = absurd (cc)

module _ (s : Seen) (reached : IsReached s) (c : Call) (place : ℕ) (a : Attempt) (e : RowEnd) (own : numbered s.calls c.number ≡ Some c) (there : numbered s.attempts place ≡ Some a)
    (mine : is_of c a ≡ true) (over : a.row.ended ≡ Some e) (goes : c.end ≡ None) (free : commitment c s ≡ None) where
  same : a.row.call ≡ c.number
  same = eqb-true a.row.call c.number mine

  unended : holds is_ended_call (numbered s.calls a.row.call) ≡ false
  unended =
      ap (λ (n : ℕ). holds is_ended_call (numbered s.calls n)) same ∙ ap (holds is_ended_call) own ∙ ap (λ (o : Option CallEnd). is_some o) goes

  uncommitted : list_any (is_committed_of a.row.call) s.attempts ≡ false
  uncommitted =
      ap (λ (n : ℕ). list_any (is_committed_of n) s.attempts) same ∙ sym (some_last (is_commitment c) s.attempts) ∙ ap (λ (o : Option Attempt). is_some o) free

  none_came : heads s.links a e ≡ false
  none_came =
      unsettled (holds is_ended_call (numbered s.calls a.row.call)) (list_any (is_committed_of a.row.call) s.attempts) (heads s.links a e) unended uncommitted
      (sym (ap (λ (o : Option RowEnd). option_map_or (λ (z : RowEnd). settles s.calls s.attempts a.row.call || not (heads s.links a z)) o true) over)
      ∙ all_at (is_unreceived s.calls s.attempts s.links) s.attempts place a (reached_unreceived s reached) there)

  on_link : (stream : ℕ) (o : Option Link) → holds (head_in e.seen stream) o ≡ false → is_some (option_map_or (response_on a stream s) o no_response).head ≡ false
  on_link stream None h = refl
  on_link stream (Some l) h =
      ap (λ (r : Option RowEnd). is_some (response_in (limit_of_attempt a s) stream (option_map_or (λ (z : RowEnd). traffic_by z.seen l.traffic) r l.traffic)).head) over
      ∙ off (is_some (response_in (limit_of_attempt a s) stream (traffic_by e.seen l.traffic)).head) (any_length (limit_of_attempt a s) 0 stream (traffic_by e.seen l.traffic))
    where
      off : (b : Bool) → (b ≡ true → head_in e.seen stream l ≡ true) → b ≡ false
      off false each = refl
      off true each = let bad : true ≡ false = sym (each refl) ∙ h in absurd (cc)

  on_stream : (r : Option ℕ) → holds (λ (stream : ℕ). holds (head_in e.seen stream) (link_of a s)) r ≡ false → is_some (response_by a s r).head ≡ false
  on_stream None h = refl
  on_stream (Some stream) h = on_link stream (link_of a s) h

  pub ended_headless : (response a s).head ≡ None
  ended_headless = none_of (response a s).head (on_stream a.row.stream none_came)
