-- The call that begins: the channel's slot of it is what the session has.
use Rattle.a6_numbers.specs.Throttling.{Bucket}
use Rattle.attempt_ledger.specs.declared.ledger.CallSeen.{CallSeen}
use Rattle.attempt_ledger.specs.declared.ledger.Ledger.{Ledger}
use Rattle.call_cases.proofs.BeginActions.New.{before, last_is, later, new_call, none_yet, number}
use Rattle.call_cases.proofs.BeginActions.Table.{begun_with, new_slot}
use Rattle.call_actions.proofs.Dues.{attempts_are_due}
use Rattle.call_actions.specs.Laws.{begun_ledger}
use Rattle.call_actions.specs.Order.{IsInOrder}
use Rattle.call_core.specs.Steps as steps
use Rattle.call_core.specs.Steps.{deadline_at, lent}
use Rattle.call_actions.proofs.CallsInTurn.Starts.{calls_start}
use Rattle.call_actions.specs.CallsInTurn.Turns.{IsSteady}
use Rattle.channel_actions.specs.Agrees.{Agrees}
use Rattle.channel_actions.specs.Calls.{SeesCall, deadline_of, due_of, ledger_lent}
use Rattle.channel_core.specs.States.{StateSeen}
use Rattle.channel_core.specs.Tables.{tokens_in}
use Rattle.channel_core.specs.declared.state.slots.CallSlot.{CallSlot}
use Rattle.grpc_base.specs.Requests.{RequestSeen}
use Rattle.channel_actions.specs.KeptSessions.Kept.{NumbersCountUp}
use Rattle.channel_actions.specs.KeptSessions.Kept.{IsKept}
use Rattle.session_actions.specs.Attempts.{is_of}
use Rattle.session_actions.specs.Entries.{now}
use Rattle.session_actions.specs.Sessions.{call_seen}
use Rattle.session_actions.specs.Words.{numbered}
use Rattle.session_actions.specs.declared.attempt.Attempt.{Attempt}
use Rattle.session_actions.specs.declared.call.Call.{Call}
use Rattle.session_actions.specs.declared.entry.OpenEntry.{OpenEntry}
use Rattle.session_actions.specs.declared.seen.Seen.{Seen}
use Rattle.std.proofs.Common.{List, None, Option, Some, [], ap, false, length, map, refl, slice_get, subst, suc, sym, ℕ, ◌++◌, ◌∙◌, ◌∷◌, ◌≡◌}
use Rattle.std.proofs.lemmas.List.{length-map}
use Rattle.std.specs.List.{list_any}
use Rattle.std.specs.Option.{option_map_or}
use Rattle.call_actions.proofs.TakeActions.Begins.{calls_begin_alike}
use Rattle.call_actions.proofs.TakeActions.Deadlines.{deadline_is}
use Rattle.call_actions.specs.TakeActions.Laws as served
use Rattle.call_actions.specs.TakeActions.Serves.{AttemptsStandInPlace, Serves}

-- one thing of a number
pub one_of : (o : Option Call) (d e : Call) → o ≡ Some d → o ≡ Some e → d ≡ e
one_of None d e p q = absurd (cc)
one_of (Some v) d e p q = (cc)

module _ (o : OpenEntry) (z : Seen) (request : RequestSeen) (x : StateSeen) (h : Agrees x (before o z request)) (kept : IsKept (later o z request)) where
  abbrev s : Seen
  s = before o z request

  abbrev t : Seen
  t = later o z request

  abbrev c : Call
  c = new_call o z request

  abbrev n : ℕ
  n = number o z request

  abbrev ledger : Ledger
  ledger = ledger_lent x s

  -- calls, ledger and table have the same number
  pub ledger_long : length x.book.ledger.calls ≡ length z.calls
  ledger_long = ap (λ (l : List CallSeen). length l) (sym h.columns.calls) ∙ length-map z.calls (call_seen s)

  pub unowned : list_any (is_of c) z.attempts ≡ false
  unowned = none_yet o z request h.kept.owned

  placed_from : (k : ℕ) (attempts : List Attempt) → NumbersCountUp k (map (λ (a : Attempt). a.place) attempts) → AttemptsStandInPlace k attempts
  placed_from k [] e = tt
  placed_from k (a ∷ attempts) e = (e.0, placed_from (suc k) attempts e.1)

  begins : served.Agrees t n (lent (steps.new_call n request (now s)) (begun_ledger ledger) None [])
  begins =
      calls_begin_alike s request ledger [] h.clock.entry_is h.columns.rows (sym ledger_long) unowned (placed_from 1 z.attempts h.kept.attempts) refl h.kept.reads

  call_is : begins.call ≡ c
  call_is =
      one_of (numbered (z.calls ++ c ∷ []) n) begins.call c (ap (numbered (z.calls ++ c ∷ [])) (sym begins.number_is) ∙ begins.serves.sees.own) (last_is z.calls c)

  serves_first : Serves t c (lent (steps.new_call n request (now s)) (begun_ledger ledger) None [])
  serves_first = subst (λ (d : Call). Serves t d (lent (steps.new_call n request (now s)) (begun_ledger ledger) None [])) call_is begins.serves

  no_tokens : None ≡ tokens_in x.book.buckets 0
  no_tokens = ap (λ (runs : List (Option Bucket)). option_map_or (λ (b : Option Bucket). b) (slice_get runs 0) None) h.buckets.runs

  -- with what the channel lends it
  abbrev pub own_ledger : Ledger
  own_ledger = begun_ledger ledger

  pub serves_now : Serves t c (lent (steps.new_call n request x.book.moment) own_ledger (tokens_in x.book.buckets 0) [])
  serves_now =
      subst (λ (tokens : Option Bucket). Serves t c (lent (steps.new_call n request x.book.moment) own_ledger tokens [])) no_tokens
      (subst (λ (m : ℕ). Serves t c (lent (steps.new_call n request m) own_ledger None [])) h.clock.moment serves_first)

  pub undue : due_of t c ≡ None
  undue = attempts_are_due t c (lent (steps.new_call n request x.book.moment) own_ledger (tokens_in x.book.buckets 0) []) serves_now.sees

  pub deadline_same : deadline_of t c ≡ deadline_at (steps.new_call n request x.book.moment)
  deadline_same = deadline_is t c (lent (steps.new_call n request x.book.moment) own_ledger (tokens_in x.book.buckets 0) []) serves_now

  in_order : IsInOrder t c × IsSteady t c
  in_order = calls_start t c kept.book unowned refl refl

  abbrev pub own_slot : CallSlot
  own_slot = new_slot n (deadline_at (steps.new_call n request x.book.moment)) request x

  pub sees_now : SeesCall (begun_with n (deadline_at (steps.new_call n request x.book.moment)) request x) t c own_slot
  sees_now = record {
    bucket = refl;
    serves = serves_now;
    order = in_order.0;
    turn = in_order.1.turn;
    due = undue;
    deadline_is = deadline_same;
  }
